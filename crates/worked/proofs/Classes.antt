-- Request 04 on the worked network and at the edge of what two classes allow, by computation.
-- Assumes nothing.
use Prim.Native.Nat.{ℕ}
use mathlib.Core.Path.{◌≡◌, refl}
use mathlib.Core.List.{List, [], ◌∷◌, ◌++◌}
use lib.IntN.{ℤ, pos}
use lib.ListN.{replicate}
use Rattle.laws.specs.Tests.{out_z, out_n, eq_z}
use Rattle.laws.specs.Scan.{first_from, first_bad, any_below}
use Rattle.book.specs.Lent.{lent}
use Rattle.book.specs.Test.{no_refusal}
use Rattle.survey.specs.Survey.{Surveyed, surveyed, survey_of}
use Rattle.worked.specs.Network.{classed, lines_of, held}
use Rattle.worked.proofs.Cases.{report}

abbrev places : ℕ → List ℤ
places n = replicate n (pos 0)

-- with every line of class 4, whose tolerance is 120, it has the morning's report, which it has at t = 120
pub class_four_is_120 : survey_of (lent (pos 2) (pos 5) (pos 0) held (lines_of (pos 4))) (places 15)
    ≡ surveyed (record { refusal = no_refusal; rows = 3; pieces = 1 }) report
unfolding report lines_of held survey_of out_z out_n eq_z first_from first_bad any_below
class_four_is_120 = refl

-- two lines of 1,000 m, of classes 0 and 4, that close by m
abbrev two_classes : ℕ → Surveyed
two_classes m = survey_of (lent (pos 2) (pos 2) (pos 0) [] (classed (pos 0) 1 2 0 1000 ++ classed (pos 4) 1 2 m 1000)) (places 5)

abbrev judged : ℕ → ℕ → Surveyed
judged m over = surveyed (record { refusal = no_refusal; rows = 1; pieces = 1 }) (pos 2 ∷ pos 2 ∷ pos 2000 ∷ pos m ∷ pos over ∷ [])

-- 10 * (40 * 40 + 120 * 120) * 1,000 is 160,000,000: 12,649 is within and 12,650 over
pub last_within : two_classes 12649 ≡ judged 12649 0
unfolding survey_of out_z out_n eq_z first_from first_bad any_below
last_within = refl

pub first_over : two_classes 12650 ≡ judged 12650 1
unfolding survey_of out_z out_n eq_z first_from first_bad any_below
first_over = refl
