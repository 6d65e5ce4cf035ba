-- What is printed of a call's answer.
-- Assumes nothing.
use Rattle.std.specs.Prelude.{ℕ, List, [], ◌∷◌, ◌++◌, replicate, Result, Ok, Err}
use Rattle.book.specs.Refusals.{number_of, place_of}
use Rattle.book.specs.declared.refusal.Refusal.{Refusal}
use Rattle.cases.specs.Cases.{spaced}

-- numbers, each after a space
unfoldable pub all_spaced : List ℕ → List ℕ
all_spaced [] = []
all_spaced (n ∷ rest) = spaced n ++ all_spaced rest

-- the numbers of an answer of so many counts: the number and the place of its refusal, both 0 where nothing is refused, and the counts,
-- each 0 after a refusal
unfoldable pub answer_numbers : ℕ → Result (List ℕ) Refusal → List ℕ
answer_numbers n (Ok counts) = 0 ∷ 0 ∷ counts
answer_numbers n (Err r) = number_of r ∷ place_of r ∷ replicate n 0
