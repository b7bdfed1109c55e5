-- `bits::joined` meets its contract. Assumes nothing.
use Rattle.bits.proofs.Image.{joined_is}
use Rattle.bits.proofs.joined.Goals as goal

pub returns : goal.returns
returns c = joined_is c.args.c
