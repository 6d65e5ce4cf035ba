-- Laws of half lines, of what ends tells of them, and of chains. Assumes nothing.
use Prim.Native.Nat.{ℕ, zero, suc, ◌+◌, ◌*◌, ◌≤◌, ◌<◌}
use native.Mathlib.Omega.{arith}
use mathlib.Core.Path.{◌≡◌, refl, sym, ap, subst}
use mathlib.Core.Logic.{◌⊎◌, inl, inr}
use mathlib.Core.List.{List, ◌∷◌, Memᴰ}
use lib.ListN.{length, get_or}
use Rattle.network.specs.Standing.{Line}
use Rattle.network.specs.Walk.{Ends, along, against}
use Rattle.chains.specs.Chains.{Half, fore, aft, flip, mark_of, metres_of, sum_of, On, here, later, Chain, no_half, first, Sound}
use Rattle.chains.specs.Chains.{Given, Met, Has, halves}
use Rattle.chains.specs.Listed.{Listed}
use Rattle.chains.proofs.Few.{Differ, no_two, differs, few}

-- ---- halves

pub half_ends : {l : Line} {u v h : ℕ} → Half l u v h → Ends l u v
half_ends (fore p q e) = along p q
half_ends (aft p q e) = against p q

pub ends_half : {l : Line} {u v : ℕ} → Ends l u v → (h : ℕ) × Half l u v h
ends_half {l = l} (along p q) = (2 * l.number, fore p q refl)
ends_half {l = l} (against p q) = (2 * l.number + 1, aft p q refl)

pub half_low : {n : ℕ} {l : Line} {u v h : ℕ} → Sound n l → Half l u v h → h < halves
half_low s (fore p q e) = omega (arith, s.number)
half_low s (aft p q e) = omega (arith, s.number)

pub half_no : {l : Line} {u v h : ℕ} → Half l u v h → (2 * l.number ≤ h) × (h ≤ 2 * l.number + 1)
half_no (fore p q e) = (omega arith, omega arith)
half_no (aft p q e) = (omega arith, omega arith)

pub half_ok : {n : ℕ} {l : Line} {u v h : ℕ} → Sound n l → Half l u v h → (u < n) × (v < n)
half_ok s (fore p q e) = (omega (arith, p, s.from_high), omega (arith, q, s.to_high))
half_ok s (aft p q e) = (omega (arith, p, s.to_high), omega (arith, q, s.from_high))

-- both ends are marks
pub half_low_end : {n : ℕ} {l : Line} {u v h : ℕ} → Sound n l → Half l u v h → 0 < v
half_low_end s (fore p q e) = omega (arith, q, s.to_low)
half_low_end s (aft p q e) = omega (arith, q, s.from_low)

-- the other way
pub half_flip : {l : Line} {u v h : ℕ} → Half l u v h → Half l v u (flip h)
half_flip (fore p q e) = aft q p (omega arith)
half_flip (aft p q e) = fore q p (omega arith)

-- ---- what ends tells of a half

module _ (ends : List ℕ) {n : ℕ} {l : Line} {u v h : ℕ} (s : Sound n l) (few_marks : n ≤ halves) (hf : Half l u v h)
    (t : get_or ends h 0 ≡ l.length * halves + v) where
  pub told_mark : mark_of ends h ≡ v
  told_mark = omega (arith, t, (half_ok s hf).1)

  pub told_metres : metres_of ends h ≡ l.length
  told_metres = omega (arith, t, (half_ok s hf).1)

  pub told_sum : sum_of ends h ≡ l.length * halves + h
  told_sum = omega (arith, t, (half_ok s hf).1)

module _ {sub : List Line} {n : ℕ} {head next ends : List ℕ} (gv : Given sub n head next ends) where
  pub mark_of_lem : (l : Line) (u v h : ℕ) → Memᴰ l sub → Half l u v h → mark_of ends h ≡ v
  mark_of_lem l u v h i hf = told_mark ends (gv.sound l i) gv.few hf (gv.told l u v h i hf)

  -- a half on the chain of a mark leaves it
  pub met_on : (m h : ℕ) → m < n → On next (get_or head m 0) h → Met sub ends m h
  met_on m h lt o =
      let w = gv.chains.of m h lt o in
      let t = gv.told w.l m w.to h w.is_line w.half in
      let s = gv.sound w.l w.is_line in
      record {
        l = w.l;
        is_line = w.is_line;
        half = subst (λ (v : ℕ). Half w.l m v h) (sym (told_mark ends s gv.few w.half t)) w.half;
        sum = told_sum ends s gv.few w.half t;
      }

  -- a half that leaves a mark is on its chain
  pub has_on : (l : Line) (u v h : ℕ) → Memᴰ l sub → Half l u v h → Has next ends (get_or head u 0) v (l.length * halves + h)
  has_on l u v h i hf =
      let t = gv.told l u v h i hf in
      let s = gv.sound l i in
      record {
        h = h;
        on = gv.chains.has u h (record { l = l; to = v; is_line = i; half = hf });
        leads = told_mark ends s gv.few hf t;
        sum = told_sum ends s gv.few hf t;
      }

module _ {lines : List Line} {n q : ℕ} {ends : List ℕ} (li : Listed lines n q ends) where
  pub line_mark : (l : Line) (u v h : ℕ) → Memᴰ l lines → Half l u v h → mark_of ends h ≡ v
  line_mark l u v h i hf = told_mark ends (li.sound l i) li.few hf (li.told l u v h i hf)

  pub line_from : (l : Line) → Memᴰ l lines → mark_of ends (l.number * 2 + 1) ≡ l.from
  line_from l i = line_mark l l.to l.from (l.number * 2 + 1) i (aft refl refl (omega arith))

  pub line_to : (l : Line) → Memᴰ l lines → mark_of ends (l.number * 2) ≡ l.to
  line_to l i = line_mark l l.from l.to (l.number * 2) i (fore refl refl (omega arith))

  pub line_metres : (l : Line) → Memᴰ l lines → metres_of ends (l.number * 2) ≡ l.length
  line_metres l i =
      let hf : Half l l.from l.to (l.number * 2) = fore refl refl (omega arith) in
      told_metres ends (li.sound l i) li.few hf (li.told l l.from l.to (l.number * 2) i hf)

-- ---- chains

pub on_zero : {A : Type 0} {next : List ℕ} {i h : ℕ} → i ≡ 0 → On next i h → A
on_zero z (here p e) = absurd (omega arith)
on_zero z (later p o) = absurd (omega arith)

-- what is on a chain is its first half or on the rest
pub on_split : {next : List ℕ} {i h : ℕ} → On next i h → (h ≡ i) ⊎ On next (get_or next i 0) h
on_split (here p e) = inl (sym e)
on_split (later p o) = inr o

pub chain_low : {next : List ℕ} {i : ℕ} {hs : List ℕ} → Chain next i hs → i < halves
chain_low (no_half z) = omega arith
chain_low (first p lt c) = lt

-- what follows the first half
pub chain_rest : {next : List ℕ} {i : ℕ} {hs : List ℕ} → Chain next i hs → 0 < i → (ks : List ℕ) × Chain next (get_or next i 0) ks
chain_rest (no_half z) p = absurd (omega arith)
chain_rest (first {hs = hs} q lt c) p = (hs, c)

-- ---- a chain has no half twice, since it ends, and so no more halves than there are

chain_one : {next : List ℕ} {i : ℕ} {hs ks : List ℕ} → Chain next i hs → Chain next i ks → length hs ≡ length ks
chain_one (no_half z) (no_half y) = refl
chain_one (no_half z) (first p lt c) = absurd (omega arith)
chain_one (first p lt c) (no_half z) = absurd (omega arith)
chain_one (first p lt c) (first q lt' d) = ap suc (chain_one c d)

-- from each half on it is a chain, and no longer
chain_from : {next : List ℕ} {i h : ℕ} {hs : List ℕ} → Chain next i hs → Memᴰ h hs
    → (ks : List ℕ) × Chain next h ks × (length ks ≤ length hs)
chain_from {next = next} {h = h} (no_half {i = i} _) m = elim m [ ]
chain_from {next = next} (first {i = i} {hs = hs} p lt c) (Memᴰ.head e) =
    (i ∷ hs, subst (λ (x : ℕ). Chain next x (i ∷ hs)) (sym e) (first p lt c), omega arith)
chain_from (first p lt c) (Memᴰ.tail m) = let w = chain_from c m in (w.0, w.1, omega (arith, w.2))

chain_differ : {next : List ℕ} {i : ℕ} {hs : List ℕ} → Chain next i hs → Differ hs
chain_differ (no_half z) = no_two
chain_differ {next = next} (first {i = i} {hs = hs} p lt c) = differs again (chain_differ c)
  where
    again : (h : ℕ) → Memᴰ h hs → i ≡ h → ⊥
    again h m e =
        let w = chain_from c m in
        omega (arith, w.2, chain_one (first p lt c) (subst (λ (x : ℕ). Chain next x w.0) (sym e) w.1))

chain_below : {next : List ℕ} {i : ℕ} {hs : List ℕ} → Chain next i hs → (h : ℕ) → Memᴰ h hs → h < halves
chain_below {next = next} (no_half {i = i} _) h m = elim m [ ]
chain_below (first p lt c) h (Memᴰ.head e) = omega arith
chain_below (first p lt c) h (Memᴰ.tail m) = chain_below c h m

-- ---- the steps to the end of a chain, by a count that ends anyway

steps : List ℕ → ℕ → ℕ → ℕ
steps next zero i = 0
steps next (suc f) zero = 0
steps next (suc f) (suc i) = suc (steps next f (get_or next (suc i) 0))

steps_all : {next : List ℕ} {i : ℕ} {hs : List ℕ} (f : ℕ) → Chain next i hs → length hs ≤ f → steps next f i ≡ length hs
unfolding steps
steps_all {next = next} zero (no_half z) le = refl
steps_all {next = next} (suc f) (no_half z) le = ap (steps next (suc f)) z
steps_all zero (first p lt c) le = absurd (omega arith)
steps_all {next = next} (suc f) (first {i = zero} p lt c) le = absurd (omega arith)
steps_all {next = next} (suc f) (first {i = suc i} p lt c) le = ap suc (steps_all f c (omega arith))

pub steps_left : List ℕ → ℕ → ℕ
steps_left next i = steps next halves i

steps_left_lem : {next : List ℕ} {i : ℕ} {hs : List ℕ} → Chain next i hs → steps_left next i ≡ length hs
unfolding steps_left
steps_left_lem {hs = hs} c = steps_all halves c (few halves hs (chain_below c) (chain_differ c))

pub steps_fall : {next : List ℕ} {i : ℕ} {hs : List ℕ} → Chain next i hs → 0 < i → steps_left next (get_or next i 0) < steps_left next i
steps_fall (no_half z) p = absurd (omega arith)
steps_fall (first q lt c) p = omega (arith, steps_left_lem c, steps_left_lem (first q lt c))
