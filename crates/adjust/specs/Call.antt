-- What the adjustment answers, and what the lent heights then hold: refusals 3, 4, 6, 7, 10, 11, then 12 or 13 by whichever comes first.
-- Assumes nothing.
use Rattle.std.specs.Prelude.{cond, List, ◌++◌, ltb, length, drop, ℤ}
use Rattle.book.specs.Good.{GoodLines, HeldEntries}
use Rattle.book.specs.Lent.{Lent}
use Rattle.book.specs.Test.{refusal, test_of, if_good}
use Rattle.book.specs.declared.Book.{Book}
use Rattle.adjust.specs.Adjusted.{Outcome, done, refused, adjustment}
use Rattle.adjust.specs.Answers.{settled_at, refused_with}
use Rattle.adjust.specs.Answers.{Adjusted}

-- the answer, and the heights after the call
pub record Given : Type 0 where
  pub answer : Adjusted
  pub heights : List ℤ

abbrev pub adjusted : Adjusted → List ℤ → Given
adjusted a out = record { answer = a; heights = out }

-- "Output places past the answer stay unchanged"; "After a refusal the counts are 0 and no lent buffer has changed"
abbrev pub given_by : List ℤ → Outcome → Given
given_by out (done sweeps hs) = adjusted (settled_at sweeps) (hs ++ drop (length hs) out)
given_by out (refused number place) = adjusted (refused_with (refusal number place)) out

-- of a good book: 10, "lent output too short for the whole answer", or the adjustment
unfoldable pub adjust_good : Book → List ℤ → List ℤ → List ℤ → Given
unfolding adjustment
adjust_good k held lines out =
    cond (ltb (length out) k.marks) (adjusted (refused_with (refusal 10 0)) out) (given_by out (adjustment k.marks held lines))

unfoldable pub adjust_of : Lent → List ℤ → Given
unfolding adjust_good test_of
adjust_of book out =
    if_good (test_of book) (λ r. adjusted (refused_with r) out)
    (λ k. adjust_good k book.held book.lines out)

-- What the adjustment uses of a tested book: that every held entry and every line is good
pub record GoodEntries (k : Book) (held lines : List ℤ) : Type 0 where
  pub lines_good : GoodLines k lines
  pub held_good : HeldEntries held k.marks k.held
