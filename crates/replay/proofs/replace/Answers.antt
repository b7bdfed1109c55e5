-- `replay::replace` meets its contract, by the three kinds of rules. Assumes nothing.
use Rattle.replay.proofs.Stack.{direct_byte, call_bytes, exit_replaced, direct_replaced, call_replaced}
use native.Mathlib.Omega.{arith}
use Rattle.replay.proofs.replace.Goals as goal

pub overflow_cast-stack : goal.overflow_cast-stack
overflow_cast-stack c = omega (arith, direct_byte c.args.stack.now c.args.depth c.requires c.in-Direct.is)

pub overflow_cast-stack-in-Call : goal.overflow_cast-stack-in-Call
overflow_cast-stack-in-Call c = omega (arith, (call_bytes c.args.stack.now c.args.depth c.requires c.in-Call.is).1)

pub overflow_cast-stack-in-Call-2 : goal.overflow_cast-stack-in-Call-2
overflow_cast-stack-in-Call-2 c = omega (arith, (call_bytes c.args.stack.now c.args.depth c.requires c.in-Call.is).0)

pub returns-in-Exit : goal.returns-in-Exit
returns-in-Exit c = exit_replaced c.args.stack.now c.args.depth c.requires c.in-Exit.is

pub returns-in-Direct : goal.returns-in-Direct
returns-in-Direct c = direct_replaced c.args.stack.now c.args.depth c.requires c.in-Direct.is

pub returns-in-Call : goal.returns-in-Call
returns-in-Call c = call_replaced c.args.stack.now c.args.depth c.requires c.in-Call.is
