-- What the adjustment answers, with the numbers as int64, beside what the lent heights then hold.
-- Assumes nothing.
use Rattle.std.specs.Prelude.{List, ℤ, pos}
use Rattle.adjust.specs.Answers as adjust
use Rattle.adjust.specs.Call.{Given}
use Rattle.level.specs.Signed.{Small, SmallRefusal, signed_refusal}
use Rattle.level.specs.declared.Adjusted.{Adjusted}

pub record SmallAdjusted (a : adjust.Adjusted) : Type 0 where
  pub refusal : SmallRefusal a.refusal
  pub sweeps : Small a.sweeps

unfoldable pub signed_adjusted : adjust.Adjusted → Adjusted
signed_adjusted a =
    let r = signed_refusal a.refusal in
    record { number = r.number; place = r.place; sweeps = pos a.sweeps }

pub record AdjustNow : Type 0 where
  pub answer : Adjusted
  pub heights : List ℤ

abbrev pub adjust_now : Adjusted → List ℤ → AdjustNow
adjust_now a heights = record { answer = a; heights = heights }

abbrev pub of_adjust : Given → AdjustNow
of_adjust g = adjust_now (signed_adjusted g.answer) g.heights
