-- Cases that are shown one after the other: the first, and then the rest.
-- Assumes nothing.
use Rattle.std.proofs.Common.{ℕ, List, [], ◌∷◌, Bor, Some, None, Result, Ok, Err, OnOk, refl, subst}
use Rattle.cases.specs.Case.{IsNextCase}
use Rattle.cases.specs.Shown.{AreCases, AllShown}

module _ {W : Type 0} (shown : W → List ℕ → W → Type 0) (numbers : ℕ) (input : List ℕ) where
  pub first_shown : (rest : List ℕ) (case : Bor (List ℕ)) (was is last : W) → IsNextCase input numbers (Some case) rest
      → shown was case.now is → AllShown shown numbers rest is last → AllShown shown numbers input was last
  unfolding IsNextCase AreCases AllShown
  first_shown rest case was is last next now (cases, are, folds) =
      (case.now ∷ cases, (next.0, next.1, subst (λ left. AreCases numbers left cases) next.2 are), (is, now, folds))

  pub none_left : (rest : List ℕ) (was : W) → IsNextCase input numbers None rest → AllShown shown numbers input was was
  unfolding IsNextCase AreCases AllShown
  none_left rest was next = ([], next, refl)

-- what holds anyway holds where nothing went wrong
pub on_ok : {T E P : Type 0} (r : Result T E) → P → OnOk r P
on_ok (Ok _) p = p
on_ok (Err _) p = tt
