-- The standing lines of a book that has passed its test: few, and within their limits.
-- Assumes nothing.
use Prim.Native.Nat.{ℕ, zero, suc, ◌+◌, ◌≤◌, ◌<◌}
use native.Mathlib.Omega.{arith}
use mathlib.Core.Path.{◌≡◌, refl, sym, ◌∙◌, ap, subst}
use mathlib.Core.List.Memᴰ
use mathlib.Core.List.{List, [], ◌∷◌, Memᴰ}
use mathlib.Core.Bool.{Bool, true, false}
use lib.IntN.{ℤ, pos, nat_abs}
use Rattle.laws.specs.Tests.{eq_z}
use Rattle.laws.specs.Range.{Between}
use Rattle.book.specs.Limits.{most_difference, least_length, most_length}
use Rattle.book.specs.Line.{from_at, to_at, standing_at}
use Rattle.book.specs.Good.{GoodLine, Lines}
use Rattle.network.specs.Standing.{Line, standing}
use Rattle.network.specs.Field.{HasLine, stands_from}
use Rattle.network.specs.Sound.{Placed}
use Rattle.network.proofs.Standing.{stands_none}
use Rattle.fields.proofs.Stands.{line_here, stands_not, stands_here}

-- A line within its limits, of b marks
pub record Fair (b : ℕ) (l : Line) : Type 0 where
  pub placed : Placed b l
  pub apart : l.from ≡ l.to → ⊥
  pub difference : nat_abs l.difference ≤ most_difference
  pub low : least_length ≤ l.length
  pub high : l.length ≤ most_length

-- Lines within their limits, at most k of them
pub data Fairs (b : ℕ) : ℕ → List Line → Type 0 where
  no_line : {k : ℕ} → Fairs b k []
  and_line : {k : ℕ} {l : Line} {ls : List Line} → Fair b l → Fairs b k ls → Fairs b (suc k) (l ∷ ls)

pub fairs_more : {b k : ℕ} {ls : List Line} → Fairs b k ls → Fairs b (suc k) ls
fairs_more no_line = no_line
fairs_more (and_line f fs) = and_line f (fairs_more fs)

same_size : (b : ℕ) (x y : ℤ) → Between 1 b x → Between 1 b y → nat_abs x ≡ nat_abs y → x ≡ y
same_size b x y p q e = p.is ∙ ap pos e ∙ sym q.is

fair_here : (lines : List ℤ) (b i : ℕ) → GoodLine b lines i → Fair b (line_here lines i)
fair_here lines b i g = record {
  placed = record { from_low = g.from.low; from_high = g.from.high; to_low = g.to.low; to_high = g.to.high };
  apart = λ e. g.apart (same_size b (from_at lines i) (to_at lines i) g.from g.to e);
  difference = g.difference;
  low = g.long.low;
  high = g.long.high;
}

module _ (lines : List ℤ) (b n : ℕ) (good : Lines lines b n) where
  from_place : (k i : ℕ) → i + k ≡ n → Fairs b k (stands_from lines i)
  from_place zero i e =
      rw (stands_none lines i (omega (arith, good.whole))) no_line
  from_place (suc k) i e =
      let l : i < n = omega arith in
      let g = good.each i l in
      let w : HasLine lines i = omega (arith, good.whole) in
      let r = from_place k (i + 1) (omega arith) in
      by g w r (eq_z (standing_at lines i) (pos 0)) refl
    where
      by : GoodLine b lines i → HasLine lines i → Fairs b k (stands_from lines (i + 1)) → (t : Bool)
          → eq_z (standing_at lines i) (pos 0) ≡ t
          → Fairs b (suc k) (stands_from lines i)
      by g w r true t = subst (Fairs b (suc k)) (stands_not lines i w t) (fairs_more r)
      by g w r false t = subst (Fairs b (suc k)) (sym (stands_here lines i w g.standing t)) (and_line (fair_here lines b i g) r)

  -- the standing lines of a good book
  pub fair_lines : Fairs b n (standing lines)
  unfolding standing
  fair_lines = from_place n 0 (omega arith)

pub fairs_each : {b k : ℕ} {ls : List Line} → Fairs b k ls → (l : Line) → Memᴰ l ls → Fair b l
fairs_each no_line l m = absurd (Memᴰ.not-nil m)
fairs_each {b = b} (and_line f fs) l (Memᴰ.head e) = subst (Fair b) (sym e) f
fairs_each (and_line f fs) l (Memᴰ.tail m) = fairs_each fs l m
