-- What survey, re-run and withdrawal answer.
-- Assumes nothing.
use Rattle.std.specs.Prelude.{ℕ, List, ℤ, length, Result, Ok, Err}
use Rattle.book.specs.Test.{no_refusal}
use Rattle.book.specs.Refusals.{Told, told_of}
use Rattle.book.specs.declared.refusal.Refusal.{Refusal}
use Rattle.loops.specs.Report.{loops_of, pieces_of}
use Rattle.table.specs.declared.Found.{Found}

-- "An answer is a number .., a place .. and the counts its call fills": rows and pieces
pub record Answer : Type 0 where
  pub refusal : Told
  pub rows : ℕ
  pub pieces : ℕ

-- "After a refusal the counts are 0"
abbrev pub refused_with : Told → Answer
refused_with r = record { refusal = r; rows = 0; pieces = 0 }

-- the answer that has the counts of what was found
abbrev pub count_of : Found → Answer
count_of f = record { refusal = no_refusal; rows = f.count; pieces = f.pieces }

abbrev pub answer_of : Result Found Refusal → Answer
answer_of (Ok f) = count_of f
answer_of (Err r) = refused_with (told_of r)

-- "survey, re-run and withdrawal the rows and pieces of the book as it then stands"
unfoldable pub counted : ℕ → List ℤ → Answer
unfolding loops_of pieces_of
counted b lines = record { refusal = no_refusal; rows = length (loops_of b lines); pieces = pieces_of b lines }
