-- Arrays of zeros are room for the table. Assumes nothing.
use Prim.Native.Nat.{ℕ, zero, suc, ◌*◌, ◌≤◌, ◌<◌, zero-le}
use native.Mathlib.Omega.{arith}
use mathlib.Core.Path.{◌≡◌, refl}
use mathlib.Core.List.{List}
use lib.ListN.{get_or, replicate, length-replicate}
use lib.IntN.{ℤ, pos}
use Rattle.book.specs.Good.{Lines}
use Rattle.network.specs.Standing.{standing}
use Rattle.sights.specs.Sights.{sights_of}
use Rattle.sights.specs.Table.{columns, InRange, RoomRows}
use Rattle.fields.proofs.Fair.{fair_lines}
use Rattle.sights.proofs.Counting.{few_sights, taken_most}

abbrev pub zeros : ℕ → List ℕ
zeros w = replicate w 0

abbrev pub nulls : ℕ → List ℤ
nulls w = replicate w (pos 0)

all_zero : (w j : ℕ) → get_or (zeros w) j 0 ≡ 0
all_zero zero j = refl
all_zero (suc w) zero = refl
all_zero (suc w) (suc j) = all_zero w j

all_null : (w j : ℕ) → get_or (nulls w) j (pos 0) ≡ pos 0
all_null zero j = refl
all_null (suc w) zero = refl
all_null (suc w) (suc j) = all_null w j

pub range_zeros : (w b : ℕ) → 0 < b → InRange (columns (zeros w) (nulls w) (zeros w)) b
range_zeros w b l = record {
  other_in = λ j. rw (all_zero w j) l;
  rise_in = λ j. rw (all_null w j) zero-le;
  weight_in = λ j. rw (all_zero w j) zero-le;
}

pub room_zeros : (lines : List ℤ) (b n f w t : ℕ) → Lines lines b n → b < f → b ≤ t → 2 * n ≤ w
    → RoomRows (sights_of (standing lines)) (zeros f) (columns (zeros w) (nulls w) (zeros w)) (zeros t) b
room_zeros lines b n f w t good lf lt lw =
    let fairs = fair_lines lines b n good in
    let most = taken_most fairs b in
    record {
      firsts = rw (length-replicate f) lf;
      totals = rw (length-replicate t) lt;
      upto = record {
        others = rw (length-replicate w) (omega arith);
        rises = rw (length-replicate w) (omega arith);
        weighed
            = rw (length-replicate w) (omega arith);
      };
      few = λ m. omega (arith, few_sights fairs m, good.few);
    }
