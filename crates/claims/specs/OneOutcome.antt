-- Any two outcomes that a public call's contract allows coincide: the answers, and every lent cell. Assumes nothing.
use Rattle.std.specs.Prelude.{List, ◌≡◌, ℕ, Result}
use Rattle.model.specs.declared.Model.{Model}
use Rattle.line.specs.declared.fault.TextError.{TextError}
use Rattle.reader.specs.Reading.{Read}
use Rattle.reader.specs.Text.{read_model}
use Rattle.listing.specs.Reading.{ListingRead, Reads}
use Rattle.printing.specs.Writing.{WriteAnswer, Writes}
use Rattle.decide.specs.Decided.{Decision, Decided}
use Rattle.recheck.specs.Recheck.{Recheck, meaning, recheck}
use Rattle.trace.specs.Outcome.{TraceAnswer, Outcome}
use Rattle.replay.specs.Replay.{Replayed, Replays}

-- read_model, read_listing and write_listing; decide and check_table; trace and replay_steps
pub record OneOutcome : Type 0 where
  pub reading : (text : List ℕ) (r r' : Result (Unit {0}) TextError) (cells cells' : List ℕ) → Read (read_model text) r cells → Read (read_model text) r' cells' → (r ≡ r') × (cells ≡ cells')
  pub listing : (m : Model) (text hs ts hs' hs'' ts' ts'' : List ℕ) (r r' : ListingRead) → Reads m text hs ts hs' ts' r → Reads m text hs ts hs'' ts'' r'
      → (r ≡ r') × (hs' ≡ hs'') × (ts' ≡ ts'')
  pub writing : (m : Model) (rounds : ℕ) (hs ts out out' out'' : List ℕ) (r r' : WriteAnswer) → Writes m rounds hs ts out out' r → Writes m rounds hs ts out out'' r'
      → (r ≡ r') × (out' ≡ out'')
  pub deciding : (m : Model) (budget : ℕ) (hs ts : List ℕ) (r r' : Decision) (hs' hs'' ts' ts'' : List ℕ) → Decided m budget hs ts r hs' ts' → Decided m budget hs ts r' hs'' ts''
      → (r ≡ r') × (hs' ≡ hs'') × (ts' ≡ ts'')
  pub checking : (m : Model) (hs ts : List ℕ) (r r' : Recheck) → meaning r ≡ recheck m hs ts → meaning r' ≡ recheck m hs ts → r ≡ r'
  pub tracing : (m : Model) (budget : ℕ) (hs ts room : List ℕ) (r r' : TraceAnswer) (hs' hs'' ts' ts'' room' room'' : List ℕ)
      → Outcome m budget hs ts room r hs' ts' room' → Outcome m budget hs ts room r' hs'' ts'' room''
      → (r ≡ r') × (hs' ≡ hs'') × (ts' ≡ ts'') × (room' ≡ room'')
  pub replaying : (m : Model) (steps stack stack' stack'' : List ℕ) (r r' : Replayed) → Replays m steps stack r stack' → Replays m steps stack r' stack''
      → (r ≡ r') × (stack' ≡ stack'')
