-- Laws on the text of a list of lines.
-- Assumes nothing.
use mathlib.Core.Path.{◌≡◌, refl, sym, ◌∙◌, ap}
use mathlib.Core.List.{List, [], ◌∷◌, ◌++◌, append_assoc, append-nil}
use Prim.Native.Nat.{ℕ}
use lib.IntN.{ℤ}
use Rattle.text.specs.Bytes.{bytes}
use Rattle.text.specs.Number.{signed_text}
use Rattle.text.specs.Report.{listed_text}

pub listed_append : (a b : List ℤ) → listed_text (a ++ b) ≡ listed_text a ++ listed_text b
unfolding listed_text
listed_append [] b = refl
listed_append (x ∷ a) b =
    ap (λ (rest : List ℕ). bytes " " ++ signed_text x ++ rest) (listed_append a b)
    ∙ sym (append_assoc (bytes " " ++ signed_text x) (listed_text a) (listed_text b))

pub listed_one : (x : ℤ) → listed_text (x ∷ []) ≡ bytes " " ++ signed_text x
unfolding listed_text
listed_one x = append-nil (bytes " " ++ signed_text x)
