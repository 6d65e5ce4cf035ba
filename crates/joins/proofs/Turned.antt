-- A run turned: its codes from the last to the first, each in the other sense. Assumes nothing.
use Prim.Native.Nat.{ℕ}
use mathlib.Core.Path.{◌≡◌, refl, ◌∙◌, ap}
use mathlib.Core.List.{List, [], ◌∷◌, ◌++◌, map, reverse}
use Rattle.std.proofs.lemmas.List.{map_push, reverse-append}
use Rattle.joins.specs.Code.{flip_code, turned_codes}

pub turned_is : (l : List ℕ) → map flip_code (reverse l) ≡ turned_codes l
unfolding turned_codes
turned_is [] = refl
turned_is (c ∷ l) =
    ap (map flip_code) (reverse-append (c ∷ []) l) ∙ map_push flip_code (reverse l) c
    ∙ ap (λ (r : List ℕ). r ++ (flip_code c ∷ [])) (turned_is l)
