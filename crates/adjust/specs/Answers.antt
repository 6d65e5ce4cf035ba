-- "adjustment its sweeps": the answer that stands for an outcome, and the outcome that an answer and the heights it leaves stand for.
-- Assumes nothing.
use Rattle.std.specs.Prelude.{ℕ, zero, suc, ◌≡◌, List, ℤ, Result, Ok, Err}
use Rattle.book.specs.Test.{refusal, no_refusal}
use Rattle.book.specs.Refusals.{Told, told_of}
use Rattle.book.specs.declared.refusal.Refusal.{Refusal}
use Rattle.sweeps.specs.declared.Unsettled.{Unsettled}
use Rattle.sweeps.specs.declared.Unsettled.TheVariants as why
use Rattle.adjust.specs.Adjusted.{Outcome, done, refused}

-- a refusal, or none and the sweeps
pub record Adjusted : Type 0 where
  pub refusal : Told
  pub sweeps : ℕ

abbrev pub settled_at : ℕ → Adjusted
settled_at sweeps = record { refusal = no_refusal; sweeps = sweeps }

-- "After a refusal the counts are 0"
abbrev pub refused_with : Told → Adjusted
refused_with r = record { refusal = r; sweeps = 0 }

-- "An answer is a number (0 for done), a place (0 when done) and the counts its call fills"; "After a refusal the counts are 0"
abbrev pub answer_of : Outcome → Adjusted
answer_of (done n hs) = settled_at n
answer_of (refused number place) = refused_with (refusal number place)

-- what a call gives, as that answer
abbrev pub answer_by : Result ℕ Refusal → Adjusted
answer_by (Ok sweeps) = settled_at sweeps
answer_by (Err r) = refused_with (told_of r)

-- 13 with the mark, 12 with 0
abbrev pub end_answer : Result ℕ Unsettled → Adjusted
end_answer (Ok n) = settled_at n
end_answer (Err (why.Outside m)) = refused_with (refusal 13 m)
end_answer (Err why.StillMoving) = refused_with (refusal 12 0)

abbrev pub by_number : ℕ → ℕ → ℕ → List ℤ → Outcome
by_number zero place sweeps hs = done sweeps hs
by_number (suc n) place sweeps hs = refused (suc n) place

-- an answer, with the heights that it leaves
abbrev pub answered : Adjusted → List ℤ → Outcome
answered r hs = by_number r.refusal.number r.refusal.place r.sweeps hs

-- The answer r, with the heights hs, is that of the outcome o
pub record Answers (r : Adjusted) (hs : List ℤ) (o : Outcome) : Type 0 where
  pub is : answered r hs ≡ o
  pub whole : r ≡ answer_of o
