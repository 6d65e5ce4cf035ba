-- Document 01, "Proved as one list with a single statement, each change made to the book above": what each case gives is what document 01
-- says.
-- Assumes nothing.
use Prim.Native.Nat.{ℕ}
use mathlib.Core.Path.{◌≡◌, refl}
use mathlib.Core.Bool.{cond}
use mathlib.Core.List.{List, [], ◌∷◌, ◌++◌, map}
use lib.IntN.{ℤ, pos, neg_ℤ}
use lib.ListN.{replicate}
use lib.Ieee.{Float, fin, inf, nan, div, of_int, round, units, odd, size, climb, span}
use Rattle.laws.specs.Tests.{out_z, out_n, eq_z}
use Rattle.laws.specs.Scan.{first_from, first_bad, any_below}
use Rattle.network.specs.Standing as network
use Rattle.network.specs.Tree.{tree, tree_lines}
use Rattle.network.specs.Subgraph.{numbers}
use Rattle.survey.specs.Survey.{Surveyed, survey_of}
use Rattle.lists.specs.Listing.{Listing, listing_of}
use Rattle.lists.specs.NotChecked.{not_checked_of}
use Rattle.survey.specs.Correction.{Corrected, rerun_of, withdraw_of, withdraw_lines}
use Rattle.rates.specs.Rates.{quotient, rate_answer}
use Rattle.rates.specs.declared.Rate.{Rate}
use Rattle.rates.specs.declared.Rate.TheVariants.{PerKm, Withdrawn}
use Rattle.rates.specs.Rates.{RateAnswer}
use Rattle.book.specs.Lent.{Lent, lent, with_lines}
use Rattle.book.specs.Version.{no_class}
use Rattle.book.specs.Height.{work_height_out}
use Rattle.worked.specs.Network.{line, lines, held}

-- a case: the lists of numbers that it gives, and those that document 01 says
pub record Case : Type 0 where
  pub gives : List (List ℤ)
  pub says : List (List ℤ)

abbrev case : List (List ℤ) → List (List ℤ) → Case
case g s = record { gives = g; says = s }

abbrev minus : ℕ → ℤ
minus n = neg_ℤ (pos n)

abbrev places : ℕ → List ℤ
places n = replicate n (pos 0)

abbrev answer : ℕ → ℕ → List ℤ
answer rows pieces = pos 0 ∷ pos 0 ∷ pos rows ∷ pos pieces ∷ []

-- an answer and what the lent buffers then hold, as lists of numbers
abbrev of_survey : Surveyed → List (List ℤ)
of_survey s =
    (pos s.answer.refusal.number ∷ pos s.answer.refusal.place ∷ pos s.answer.rows ∷ pos s.answer.pieces ∷ []) ∷ s.rows
    ∷ []

abbrev of_listing : Listing → List (List ℤ)
of_listing l = (pos l.answer.refusal.number ∷ pos l.answer.refusal.place ∷ pos l.answer.entries ∷ []) ∷ l.out ∷ []

abbrev of_correction : Corrected → List (List ℤ)
of_correction c =
    (pos c.answer.refusal.number ∷ pos c.answer.refusal.place ∷ pos c.answer.rows ∷ pos c.answer.pieces ∷ [])
    ∷ c.lines ∷ c.report ∷ []

abbrev row : ℕ → ℕ → ℕ → ℤ → ℕ → List ℤ
row closing count length misclosure over = pos closing ∷ pos count ∷ pos length ∷ misclosure ∷ pos over ∷ []

-- a rate as numbers: 0.25 is (1 for below 0, else 0), 1 and -2, that is 1 * 2 ^ -2; a rate that is no number gives nothing
abbrev of_float : Float → List ℤ
of_float (fin below size power) = cond below (pos 1) (pos 0) ∷ pos size ∷ power ∷ []
of_float (inf below) = []
of_float nan = []

abbrev of_rate : Rate → List ℤ
of_rate (PerKm x) = of_float x
of_rate Withdrawn = []

abbrev of_rate_answer : RateAnswer → List (List ℤ)
of_rate_answer r = (pos r.refusal.number ∷ pos r.refusal.place ∷ pos r.line ∷ r.correction ∷ []) ∷ of_rate r.rate ∷ []

-- the book above
abbrev book : Lent
book = lent (pos 1) (pos 5) (pos 120) held lines

-- the morning's report
unfoldable pub report : List ℤ
report = row 6 3 4450 (minus 40000) 1 ++ row 4 3 7600 (minus 5000) 0 ++ row 3 4 6750 (pos 65000) 1

-- the book above with another line 6, and with another line 3
line_six : List ℤ → List ℤ
line_six six =
    line 1 3 6345000 1600 ++ line 2 3 4235000 2500 ++ line 5 2 3060000 1000 ++ line 5 1 920000 4000 ++ line 1 4 3895000 1600 ++ six
    ++ line 5 4 4820000 2000

line_three : List ℤ → List ℤ
line_three three =
    line 1 3 6345000 1600 ++ line 2 3 4235000 2500 ++ three ++ line 5 1 920000 4000 ++ line 1 4 3895000 1600 ++ line 4 3 2410000 1250
    ++ line 5 4 4820000 2000

-- a line of the table, withdrawn
withdrawn : ℕ → ℕ → ℕ → ℕ → List ℤ
withdrawn from to difference length = pos from ∷ pos to ∷ pos difference ∷ pos length ∷ pos 0 ∷ no_class ∷ []

-- two lines of 500 m between two marks, surveyed at t = 40: one loop of 1,000 m with the misclosure m
edge : ℤ → List (List ℤ)
unfolding survey_of
edge m =
    of_survey (survey_of (lent (pos 1) (pos 2) (pos 40) [] (line 1 2 0 500 ++ (pos 1 ∷ pos 2 ∷ m ∷ pos 500 ∷ pos 1 ∷ no_class ∷ [])))
    (places 5))

pub cases : List Case
unfolding lines held report line_six line_three withdrawn edge survey_of listing_of not_checked_of rerun_of withdraw_of withdraw_lines tree
    tree_lines network.standing out_z out_n eq_z first_from first_bad any_below rate_answer work_height_out quotient div of_int round units
    odd size
    climb span
cases =
    -- (a) the three loops
    case (of_survey (survey_of book (places 15))) (answer 3 1 ∷ report ∷ [])
    ∷ case (of_listing (listing_of book (pos 1) (places 3))) ((pos 0 ∷ pos 0 ∷ pos 3 ∷ []) ∷ (pos 6 ∷ minus 1 ∷ pos 5 ∷ []) ∷ [])
    ∷ case (of_listing (listing_of book (pos 2) (places 3))) ((pos 0 ∷ pos 0 ∷ pos 3 ∷ []) ∷ (pos 4 ∷ pos 5 ∷ minus 7 ∷ []) ∷ [])
    ∷ case (of_listing (listing_of book (pos 3) (places 4))) ((pos 0 ∷ pos 0 ∷ pos 4 ∷ []) ∷ (pos 3 ∷ pos 2 ∷ minus 6 ∷ minus 7 ∷ []) ∷ [])
    ∷ case (of_listing (not_checked_of book [])) ((pos 0 ∷ pos 0 ∷ pos 0 ∷ []) ∷ [] ∷ [])
    -- (b) tree 1, 5, 7, 2 in that order
    ∷ case (map pos (numbers (tree_lines (tree 5 (network.standing lines)))) ∷ []) ((pos 1 ∷ pos 5 ∷ pos 7 ∷ pos 2 ∷ []) ∷ [])
    -- (c) re-run of 6 to 2,428,000: only loop 1's verdict changes
    ∷ case (of_correction (rerun_of book report (pos 6) (pos 2428000)))
    (answer 3 1 ∷ line_six (line 4 3 2428000 1250) ∷ (row 6 3 4450 (minus 22000) 0 ++ row 4 3 7600 (minus 5000) 0 ++ row 3 4 6750
    (pos 47000) 1) ∷ [])
    -- (d) withdraw 6: rows for 4 (unchanged) and 3, the vacated row zeros
    ∷ case (of_correction (withdraw_of book report (pos 6)))
    (answer 2 1 ∷ line_six (withdrawn 4 3 2410000 1250) ∷ (row 4 3 7600 (minus 5000) 0 ++ row 3 5 8700 (pos 25000) 0 ++ places 5) ∷ [])
    ∷ case (of_listing (listing_of (with_lines book (withdraw_lines lines (pos 6))) (pos 2) (places 5)))
    ((pos 0 ∷ pos 0 ∷ pos 5 ∷ []) ∷ (pos 3 ∷ pos 2 ∷ minus 1 ∷ pos 5 ∷ minus 7 ∷ []) ∷ [])
    -- (e) withdraw 3: two loops, line 2 not checked
    ∷ case (of_correction (withdraw_of book report (pos 3)))
    (answer 2 1 ∷ line_three (withdrawn 5 2 3060000 1000) ∷ (row 6 3 4450 (minus 40000) 1 ++ row 4 3 7600 (minus 5000) 0 ++ places 5) ∷ [])
    ∷ case (of_listing (not_checked_of (with_lines book (withdraw_lines lines (pos 3))) (places 1)))
    ((pos 0 ∷ pos 0 ∷ pos 1 ∷ []) ∷ (pos 2 ∷ []) ∷ [])
    -- (f) t = 40, L = 1000: m = 4000 within, -4000 within, 4001 over
    ∷ case (edge (pos 4000)) (answer 1 1 ∷ row 2 2 1000 (pos 4000) 0 ∷ [])
    ∷ case (edge (minus 4000)) (answer 1 1 ∷ row 2 2 1000 (minus 4000) 0 ∷ [])
    ∷ case (edge (pos 4001)) (answer 1 1 ∷ row 2 2 1000 (pos 4001) 1 ∷ [])
    -- (g) n = 0: no loop, b pieces
    ∷ case (of_survey (survey_of (with_lines book []) [])) (answer 0 5 ∷ [] ∷ [])
    -- (h) rate of 500 over 2000 m is 0.25: line 7, between marks 5 at 0 and 4 at its difference and 500 more
    ∷ case (of_rate_answer (rate_answer book (pos 0 ∷ pos 0 ∷ pos 0 ∷ pos 4820500 ∷ pos 0 ∷ []) (pos 7)))
    ((pos 0 ∷ pos 0 ∷ pos 7 ∷ pos 500 ∷ []) ∷ (pos 0 ∷ pos 1 ∷ minus 2 ∷ []) ∷ []) ∷ []

abbrev gives : List Case → List (List (List ℤ))
gives [] = []
gives (c ∷ cs) = c.gives ∷ gives cs

abbrev says : List Case → List (List (List ℤ))
says [] = []
says (c ∷ cs) = c.says ∷ says cs

pub worked : gives cases ≡ says cases
unfolding cases
worked = refl
