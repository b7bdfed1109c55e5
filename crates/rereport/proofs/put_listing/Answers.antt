-- `rereport::put_listing` meets its contract. Assumes nothing.
use mathlib.Core.Path.{refl}
use Rattle.lent.specs.Lending.{model_in}
use Rattle.text.proofs.Puts.{put_length}
use Rattle.fitting.proofs.Tested.{ample}
use Rattle.rereport.proofs.Cases.{heard, heard_put}
use borrow.Author.Rules.{rules}
use Rattle.rereport.proofs.put_listing.Goals as goal

pub put_heard-requires : goal.put_heard-requires
put_heard-requires c = let a = c.args in heard (model_in a.m.now) a.text.now (ample (model_in a.m.now) c.requires refl refl) c.read_listing-heard.ensures (ample (model_in a.m.now) c.requires (search rules) (search rules))

pub shape_of-out : goal.shape_of-out
shape_of-out c = put_length c.put_heard.ensures

pub returns : goal.returns
returns c = let a = c.args in heard_put (model_in a.m.now) a.text.now (ample (model_in a.m.now) c.requires refl refl) c.read_listing-heard.ensures c.put_heard.ensures
