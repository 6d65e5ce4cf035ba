-- The sums of a loop over its run, and its row. Assumes nothing.
use Rattle.std.specs.Prelude.{ℕ, ◌+◌, ◌*◌, ◌-◌, ◌/◌, ◌%◌, ◌≤◌, ◌<◌, cond, List, []}
use Rattle.std.specs.Prelude.{◌∷◌, ℤ, pos, nat_abs, neg_ℤ, ◌+ℤ◌, length, get_or, eqb, leb}
use Rattle.laws.specs.Range.{Between}
use Rattle.book.specs.Limits.{most_marks, most_lines, most_tolerance, most_difference, least_length, most_length}
use Rattle.book.specs.Line.{line_count, difference_at, length_at, class_at}
use Rattle.book.specs.Version.{tolerance_of, Classed}
use Rattle.loops.specs.Row.{allowed_by}

-- a size from which a misclosure is over without squaring
abbrev pub square_limit : ℕ
square_limit = 2147483648

-- the line that a code runs, by its place in the book
abbrev pub line_of : ℕ → ℕ
line_of code = code / 2 - 1

-- its length
unfoldable pub length_by : List ℤ → ℕ → ℕ
length_by ls code = nat_abs (length_at ls (line_of code))

-- its tolerance, in a book of tolerance t
unfoldable pub tolerance_by : ℕ → List ℤ → ℕ → ℕ
unfolding tolerance_of
tolerance_by t ls code = tolerance_of t (class_at ls (line_of code))

-- what it allows there
unfoldable pub allows_by : ℕ → List ℤ → ℕ → ℕ
unfolding tolerance_by length_by
allows_by t ls code = allowed_by (tolerance_by t ls code) (length_by ls code)

-- and what any line allows at most
abbrev pub most_allowed : ℕ
most_allowed = most_tolerance * most_tolerance * most_length

-- its difference, in the sense of the code
unfoldable pub rise_by : List ℤ → ℕ → ℤ
rise_by ls code = cond (eqb (code % 2) 0) (difference_at ls (line_of code)) (neg_ℤ (difference_at ls (line_of code)))

-- the sum over a run of what each of its lines has
unfoldable pub sum_of : (ℕ → ℕ) → List ℕ → ℕ
sum_of by [] = 0
sum_of by (code ∷ run) = by code + sum_of by run

-- the length of a run
unfoldable pub length_of : List ℤ → List ℕ → ℕ
unfolding length_by sum_of
length_of ls run = sum_of (length_by ls) run

-- what its lines allow
unfoldable pub allows_of : ℕ → List ℤ → List ℕ → ℕ
unfolding allows_by sum_of
allows_of t ls run = sum_of (allows_by t ls) run

-- its rise, which is the misclosure of a loop
unfoldable pub rise_of : List ℤ → List ℕ → ℤ
unfolding rise_by
rise_of ls [] = pos 0
rise_of ls (code ∷ run) = rise_by ls code +ℤ rise_of ls run

-- "within exactly if m*m is at most 10 times the sum over its lines", of what they allow; 0 within, 1 over
unfoldable pub verdict_of : ℕ → ℤ → ℤ
verdict_of allowed m = cond (leb (nat_abs m * nat_abs m) (10 * allowed)) (pos 0) (pos 1)

-- the row of the loop with this run: its closing line comes first
unfoldable pub row_of : ℕ → List ℤ → List ℕ → List ℤ
unfolding length_of allows_of rise_of verdict_of
row_of t ls run =
    pos (get_or run 0 0 / 2) ∷ pos (length run) ∷ pos (length_of ls run) ∷ rise_of ls run
    ∷ verdict_of (allows_of t ls run) (rise_of ls run) ∷ []

-- the count of lines, and every line's difference, length and class, are within their limits
pub record Measured (ls : List ℤ) : Type 0 where
  pub few_lines : line_count ls ≤ most_lines
  pub differences : (i : ℕ) → i < line_count ls → nat_abs (difference_at ls i) ≤ most_difference
  pub lengths : (i : ℕ) → i < line_count ls → Between least_length most_length (length_at ls i)
  pub classes : (i : ℕ) → i < line_count ls → Classed (class_at ls i)

-- the code runs a line of the book
pub record Runs (ls : List ℤ) (code : ℕ) : Type 0 where
  pub low : 2 ≤ code
  pub high : code / 2 ≤ line_count ls

-- a run in the book ls: lines of it, no more than a book has
pub record LinesIn (ls : List ℤ) (run : List ℕ) : Type 0 where
  pub few : length run ≤ most_lines
  pub each : (j : ℕ) → j < length run → Runs ls (get_or run j 0)

-- a loop's run in the book ls: some lines of it, no more than there are marks
pub record RunIn (ls : List ℤ) (run : List ℕ) : Type 0 where
  pub some_line : 0 < length run
  pub few : length run ≤ most_marks
  pub each : (j : ℕ) → j < length run → Runs ls (get_or run j 0)
