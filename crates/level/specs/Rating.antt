-- What the rate call answers, with the numbers as int64.
-- Assumes nothing.
use Rattle.std.specs.Prelude.{false, ℤ, pos, Float}
use Rattle.std.specs.Float.{fin}
use Rattle.rates.specs.declared.Rate.{Rate}
use Rattle.rates.specs.declared.Rate.TheVariants.{PerKm, Withdrawn}
use Rattle.rates.specs.Rates.{RateAnswer}
use Rattle.level.specs.Signed.{Small, SmallRefusal, signed_refusal}
use Rattle.level.specs.declared.Rated.{Rated}

pub record SmallRate (a : RateAnswer) : Type 0 where
  pub refusal : SmallRefusal a.refusal
  pub line : Small a.line

-- 1 of a withdrawn line, else 0
unfoldable pub withdrawn_of : Rate → ℤ
withdrawn_of (PerKm rate) = pos 0
withdrawn_of Withdrawn = pos 1

-- "of a withdrawn line, correction and rate" are 0
unfoldable pub rate_of : Rate → Float
rate_of (PerKm rate) = rate
rate_of Withdrawn = fin false 0 (pos 0)

-- "A line's answer is either its rate or that the line is withdrawn"
unfoldable pub signed_rate : RateAnswer → Rated
unfolding withdrawn_of rate_of
signed_rate a = record {
  number = (signed_refusal a.refusal).number;
  place = (signed_refusal a.refusal).place;
  line = pos a.line;
  correction = a.correction;
  withdrawn = withdrawn_of a.rate;
  rate = rate_of a.rate;
}
