-- Document 01, "Loops": listing, misclosure, verdict and report row of a loop; the verdict as requests 03 and 04 have it.
-- Assumes nothing.
use Rattle.std.specs.Prelude.{ℕ, zero, max, ◌+◌, ◌*◌, Bool, true, false, cond, List, []}
use Rattle.std.specs.Prelude.{◌∷◌, ◌++◌, map, ℤ, pos, neg_ℤ, nat_abs, ◌+ℤ◌, leb, length}
use Rattle.book.specs.Limits.{least_judged}
use Rattle.book.specs.Version.{tolerance_of}
use Rattle.network.specs.Standing.{Line}
use Rattle.network.specs.Path.{Pass, way_length}
use Rattle.loops.specs.Loops.{Loop}

-- a number in the sense of a pass
abbrev pub signed : Bool → ℤ → ℤ
signed true z = z
signed false z = neg_ℤ z

-- "A line is listed positive if run from its from to its to, else negative."
abbrev pub listed : Pass → ℤ
listed p = signed p.forward (pos p.line.number)

-- the lines of the loops, one loop after the other
unfoldable pub listings : List Loop → List ℤ
listings [] = []
listings (lp ∷ ls) = map listed lp ++ listings ls

-- "Misclosure is the signed sum"
unfoldable pub misclosure : Loop → ℤ
misclosure [] = pos 0
misclosure (p ∷ ps) = signed p.forward p.line.difference +ℤ misclosure ps

unfoldable pub total : List ℕ → ℕ
total [] = zero
total (a ∷ rest) = a + total rest

-- "the larger of the length and 250", metres
abbrev pub judged_as : ℕ → ℕ
judged_as metres = max metres least_judged

-- "The verdict's length is the sum over the loop's lines of the larger of the length and 250."
unfoldable pub judged_length : Loop → ℕ
unfolding total
judged_length lp = total (map (λ p. judged_as p.line.length) lp)

-- "tolerance squared times length as in Req 03"
abbrev pub allowed_by : ℕ → ℕ → ℕ
allowed_by tolerance metres = tolerance * tolerance * judged_as metres

-- what one line of a loop allows in a book of tolerance t: by its class's tolerance, or by t where it has none
unfoldable pub line_allows : ℕ → Line → ℕ
unfolding tolerance_of
line_allows t l = allowed_by (tolerance_of t l.class) l.length

-- the allowances of a loop's lines
unfoldable pub allowances : ℕ → Loop → List ℕ
unfolding line_allows
allowances t lp = map (λ p. line_allows t p.line) lp

-- "within exactly if m*m is at most 10 times the sum over its lines", "equal is within": over the list of its lines' allowances. Where no
-- line has a class this is m*m <= 10*t*t*L, L being the verdict's length
unfoldable pub within : List ℕ → ℤ → Bool
unfolding total
within allowed m = leb (nat_abs m * nat_abs m) (10 * total allowed)

-- "verdict (0 within, 1 over)"
unfoldable pub verdict : ℕ → Loop → ℤ
unfolding within allowances misclosure
verdict t lp = cond (within (allowances t lp) (misclosure lp)) (pos 0) (pos 1)

abbrev pub closing_number : Loop → ℕ
closing_number [] = zero
closing_number (p ∷ ps) = p.line.number

-- numbers per row
abbrev pub row_words : ℕ
row_words = 5

-- which of them is which
abbrev pub row_closing : ℕ
row_closing = 0

abbrev pub row_count : ℕ
row_count = 1

abbrev pub row_length : ℕ
row_length = 2

abbrev pub row_misclosure : ℕ
row_misclosure = 3

abbrev pub row_verdict : ℕ
row_verdict = 4

-- "A report row is five numbers: closing line, count of lines, length, misclosure, verdict"
unfoldable pub row : ℕ → Loop → List ℤ
unfolding way_length misclosure verdict
row t lp = pos (closing_number lp) ∷ pos (length lp) ∷ pos (way_length lp) ∷ misclosure lp ∷ verdict t lp ∷ []

-- "The kept report is the rows", one after the other
unfoldable pub rows : ℕ → List Loop → List ℤ
unfolding row
rows t [] = []
rows t (l ∷ ls) = row t l ++ rows t ls
