-- Document 01, "Adjustment": correction rates.
-- Assumes nothing.
use Rattle.std.specs.Prelude.{ℕ, ◌-◌, ◌≤◌, Bool, false, not, cond, List, ltb, length, get_or, ℤ, pos, nat_abs, ◌-ℤ◌, Float, Result, Ok, Err}
use Rattle.std.specs.Float.{fin, binary64}
use Rattle.std.specs.Float.Ieee.{of_int, div}
use Rattle.laws.specs.Tests.{out_z, eq_z}
use Rattle.laws.specs.Scan.{first_bad}
use Rattle.laws.specs.Range.{Between}
use Rattle.book.specs.Limits.{most_difference}
use Rattle.book.specs.Line.{length_at, standing_at, line_at}
use Rattle.book.specs.Height.{work_height_out}
use Rattle.book.specs.Lent.{Lent}
use Rattle.book.specs.Test.{refusal, no_refusal, test_beside, if_good}
use Rattle.fields.specs.Heights.{height}
use Rattle.book.specs.Refusals.{Told, told_of}
use Rattle.book.specs.declared.refusal.Refusal.{Refusal}
use Rattle.book.specs.declared.Book.{Book}
use Rattle.book.specs.declared.line.Line.{Line}
use Rattle.rates.specs.declared.Rate.{Rate}
use Rattle.rates.specs.declared.Rate.TheVariants.{PerKm, Withdrawn}
use Rattle.rates.specs.declared.RateRow.{RateRow}
use Rattle.rates.specs.declared.LineRate.{LineRate}

-- "Both numbers are exact as 64-bit floats and the rate is their one rounded quotient."
unfoldable pub quotient : ℤ → ℤ → Float
quotient correction length = div binary64 (of_int binary64 correction) (of_int binary64 length)

-- "A row for printing carries line, correction and rate together"; "of a withdrawn line, correction and rate" are 0
unfoldable pub row_of : ℕ → ℤ → Rate → RateRow
row_of line correction (PerKm rate) = record { line = line; correction = correction; rate = rate }
row_of line correction Withdrawn = record { line = line; correction = pos 0; rate = fin false 0 (pos 0) }

-- "adjusted minus observed difference": the correction of a line
unfoldable pub correction_of : List ℤ → Line → ℤ
correction_of heights l = height heights (nat_abs l.to) -ℤ height heights (nat_abs l.from) -ℤ l.difference

-- of the line at place i
unfoldable pub correction_at : List ℤ → List ℤ → ℕ → ℤ
unfolding correction_of
correction_at heights lines i = correction_of heights (line_at lines i)

-- a line of a book of b marks, as far as its correction needs it
pub record OfBook (b : ℕ) (l : Line) : Type 0 where
  pub from : Between 1 b l.from
  pub to : Between 1 b l.to
  pub difference : nat_abs l.difference ≤ most_difference

-- a refusal, or none and the line, its correction, and its rate or that it is withdrawn
pub record RateAnswer : Type 0 where
  pub refusal : Told
  pub line : ℕ
  pub correction : ℤ
  pub rate : Rate

-- "Of a refused call, line, correction and rate are 0"
unfoldable pub refused_with : Told → RateAnswer
refused_with r = record { refusal = r; line = 0; correction = pos 0; rate = PerKm (fin false 0 (pos 0)) }

unfoldable pub answer_of : Result LineRate Refusal → RateAnswer
unfolding refused_with
answer_of (Ok l) = record { refusal = no_refusal; line = l.line; correction = l.correction; rate = l.rate }
answer_of (Err r) = refused_with (told_of r)

-- "A line's answer is either its rate or that the line is withdrawn"; "of a withdrawn line, correction and rate" are 0
unfoldable pub line_rate : List ℤ → List ℤ → ℕ → ℕ → RateAnswer
unfolding correction_at quotient
line_rate heights lines line i =
    cond (eq_z (standing_at lines i) (pos 0))
    (record { refusal = no_refusal; line = line; correction = pos 0; rate = Withdrawn })
    (record {
      refusal = no_refusal;
      line = line;
      correction = correction_at heights lines i;
      rate = PerKm
          (quotient (correction_at heights lines i) (length_at lines i));
    })

-- 13: "a height .. lent, outside its limit", "of lent ones the lowest"
unfoldable pub first_high : List ℤ → ℕ
unfolding work_height_out first_bad
first_high heights = first_bad (λ i. work_height_out (get_or heights i (pos 0))) (length heights)

-- 8: "no such line", then 13
unfoldable pub good_rate : List ℤ → List ℤ → Book → ℤ → RateAnswer
unfolding refused_with first_high line_rate
good_rate heights lines book line =
    cond (out_z (pos 1) (pos book.lines) line) (refused_with (refusal 8 0))
    (cond (ltb 0 (first_high heights)) (refused_with (refusal 13 (first_high heights)))
    (line_rate heights lines (nat_abs line) (nat_abs line - 1)))

-- 4: "heights lent to be read not b in number"
unfoldable pub heights_out : Lent → List ℤ → Bool
heights_out book heights = not (eq_z (pos (length heights)) book.b)

-- with it the book's own refusals, then the others
unfoldable pub rate_answer : Lent → List ℤ → ℤ → RateAnswer
unfolding refused_with good_rate heights_out test_beside
rate_answer book heights line =
    if_good (test_beside (heights_out book heights) book) refused_with (λ k. good_rate heights book.lines k line)
