-- A table as it is looked at: the ranks in its two arrays, and the facts that are present there. Assumes nothing.
use Rattle.std.specs.Prelude.{Bool, List, ℕ}
use Rattle.product.specs.Facts.{Fact}
use Rattle.product.specs.Table.{Table, present}
use Rattle.table.specs.declared.Table as looked
use Rattle.table.specs.declared.Size.{Size}
use Rattle.table.specs.Cells.{view}

-- the facts of two arrays: any number but 65,535 means present
abbrev pub in_table : Size → (heads triples : List ℕ) → Fact → Bool
in_table z hs ts = present (view z.symbols z.states hs ts)

-- the same of the code's table, and its ranks
abbrev pub held_in : looked.Table → Fact → Bool
held_in t = in_table t.size t.heads.now t.triples.now

abbrev pub ranks_in : looked.Table → Table
ranks_in t = view t.size.symbols t.size.states t.heads.now t.triples.now
