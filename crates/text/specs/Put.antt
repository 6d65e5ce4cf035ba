-- A text put into a buffer from a place on.
-- Assumes nothing.
use Rattle.std.specs.Prelude.{◌≡◌, List, ℕ, ◌+◌, ◌-◌, min, length}
use Rattle.std.proofs.lemmas.List.Edits.{sets}

-- out becomes out': the text's bytes stand from place at on, as many as there is room for, and no other byte has changed; next is the
-- place after them
pub record Put (out out' : List ℕ) (at next : ℕ) (text : List ℕ) : Type 0 where
  pub written : out' ≡ sets out at text
  pub next_is : next ≡ at + min (length text) (length out - at)
