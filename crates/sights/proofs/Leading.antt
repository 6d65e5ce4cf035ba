-- The chain of a mark in the drawn book leads by the lines at that mark. Assumes nothing.
use Prim.Native.Nat.{ℕ, zero, suc, ◌+◌, ◌*◌, ◌≤◌, ◌<◌}
use native.Mathlib.Omega.{arith}
use mathlib.Core.Path.{◌≡◌, refl, ◌∙◌, subst}
use mathlib.Core.List.{List, [], ◌∷◌}
use mathlib.Core.Bool.{Bool, true, false}
use lib.Dec.{eqb}
use lib.ListN.{get_or}
use lib.IntN.{ℤ, pos, nat_abs, neg_ℤ}
use Rattle.laws.specs.Tests.{eq_z}
use Rattle.book.specs.Line.{from_at, to_at, difference_at, length_at, standing_at}
use Rattle.book.specs.Good.{Lines}
use Rattle.network.specs.Standing.{standing}
use Rattle.network.specs.Field.{stands_from}
use Rattle.network.proofs.Standing.{stands_all, stands_none, stands_not, stands_here}
use Rattle.chains.specs.Chains.{Chain, no_half, first, left_by, leaving, InOrder}
use Rattle.divisions.specs.Weight.{weight_of}
use Rattle.fields.proofs.Stands.{place_of_lem}
use Rattle.sights.specs.Sights.{Sight, sight, sight_if, sights_of}
use Rattle.sights.specs.Halves.{place_of, sight_at, HalfHere, Leads, no_more, one_more}
use Rattle.sights.proofs.Halves.{along_half, against_half}

-- ---- halves and their sights, one after the other

data Seen (lines : List ℤ) (n : ℕ) : List ℕ → List Sight → Type 0 where
  none : Seen lines n [] []
  one : {h : ℕ} {hs : List ℕ} {ss : List Sight} → 2 ≤ h → place_of h < n → Seen lines n hs ss
      → Seen lines n (h ∷ hs) (sight_at lines h ∷ ss)

leads_by : {lines : List ℤ} {n : ℕ} {next : List ℕ} {i : ℕ} {hs : List ℕ} {ss : List Sight} → Chain next i hs → Seen lines n hs ss
    → Leads lines n next i ss
leads_by (no_half z) none = no_more z
leads_by (first p lt c) (one a b s) = one_more a b lt (leads_by c s)

module _ (lines : List ℤ) (b n : ℕ) (good : Lines lines b n) (m : ℕ) where
  seen_if : (t : Bool) (h : ℕ) (s : Sight) {hs : List ℕ} {ss : List Sight} → 2 ≤ h → place_of h < n → sight_at lines h ≡ s
      → Seen lines n hs ss
      → Seen lines n (left_by t h hs) (sight_if t s ss)
  seen_if true h s {hs = hs} {ss = ss} low high e r = subst (λ (x : Sight). Seen lines n (h ∷ hs) (x ∷ ss)) e (one low high r)
  seen_if false h s low high e r = r

  -- the two halves of the line at place i
  along : (i : ℕ)
      → sight_at lines (2 * suc i) ≡ sight (nat_abs (to_at lines i)) (neg_ℤ (difference_at lines i))
      (weight_of (nat_abs (length_at lines i)))
  along i = let p : place_of (2 * suc i) ≡ i = omega arith in along_half lines (2 * suc i) (omega arith) ∙ rw p

  against : (i : ℕ)
      → sight_at lines (2 * suc i + 1) ≡ sight (nat_abs (from_at lines i)) (difference_at lines i) (weight_of (nat_abs (length_at lines i)))
  against i = let p : place_of (2 * suc i + 1) ≡ i = omega arith in against_half lines (2 * suc i + 1) (λ e. omega arith) ∙ rw p

  abbrev SeenFrom : ℕ → Type 0
  SeenFrom i = Seen lines n (leaving (stands_from lines i) m) (sights_of (stands_from lines i) m)

  one_line : (i : ℕ) → i < n → SeenFrom (suc i) → (t : Bool) → eq_z (standing_at lines i) (pos 0) ≡ t → SeenFrom i
  unfolding leaving sights_of
  one_line i l r true e = rw (stands_not lines i (omega (arith, good.whole)) e) r
  one_line i l r false e =
      rw (stands_here lines i (omega (arith, good.whole)) (good.each i l).standing e)
      (seen_if (eqb (nat_abs (to_at lines i)) m) (2 * suc i + 1) _ (omega arith) (omega arith) (against i)
      (seen_if (eqb (nat_abs (from_at lines i)) m) (2 * suc i) _ (omega arith) (omega arith) (along i) r))

  from_place : (k i : ℕ) → i + k ≡ n → SeenFrom i
  unfolding leaving sights_of
  from_place zero i e = rw (stands_none lines i (omega (arith, good.whole))) none
  from_place (suc k) i e = one_line i (omega arith) (from_place k (suc i) (omega arith)) (eq_z (standing_at lines i) (pos 0)) refl

  pub leads_all : {head next : List ℕ} → InOrder (standing lines) (b + 1) head next → m ≤ b
      → Leads lines n next (get_or head m 0) (sights_of (standing lines) m)
  leads_all o le =
      leads_by (o.chain m (omega arith)) (rw (stands_all lines 0 refl) (from_place n 0 (omega arith)))

  -- a half on the way
  pub half_here : {h : ℕ} → 2 ≤ h → place_of h < n → HalfHere lines b n h
  half_here {h = h} low high = record { some_line = low; place = place_of_lem lines b n (place_of h) good high }
