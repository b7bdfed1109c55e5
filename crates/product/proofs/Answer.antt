-- Answers that can be taken back out of their meaning are told apart by it. Assumes nothing.
use mathlib.Core.Path.{◌≡◌, sym, ap, ◌∙◌}

pub apart : {A B : Type 0} {meaning : A → B} (meant : B → A) → ((r : A) → meant (meaning r) ≡ r) → (r r' : A) → meaning r ≡ meaning r' → r ≡ r'
apart meant back r r' e = sym (back r) ∙ ap meant e ∙ back r'
