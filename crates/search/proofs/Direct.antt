-- Where the least line at a mark leads to the mark that is asked for, it is the whole path: it is the first to enter. Assumes nothing.
use Prim.Native.Nat.{ℕ, ◌+◌, ◌*◌, ◌-◌, ◌%◌, ◌≤◌, ◌<◌}
use native.Mathlib.Omega.{arith}
use native.Mathlib.Nat.{zero-add}
use native.Mathlib.Decide.{ℕ_discrete}
use mathlib.Core.Path.{◌≡◌, refl, sym, ◌∙◌, ap, subst}
use mathlib.Core.Logic.{◌⊎◌, inl, inr}
use mathlib.Core.List.{List, [], ◌∷◌, Memᴰ}
use mathlib.Core.Option.{none, some}
use lib.ListN.{length, get_or, set}
use lib.Seq.{sets}
use Rattle.network.specs.Standing.{Line}
use Rattle.network.specs.Tree.{Entry, entry, Tree, candidate, distance, score, step, grow}
use Rattle.network.specs.Path.{Pass, shortest}
use Rattle.network.proofs.Grown.{Scored, scored, score_of_lem, After, new, old, after}
use Rattle.network.proofs.Shortest.{same, never}
use Rattle.nearest.specs.Heap.{far, Lesser}
use Rattle.network.specs.Codes.{codes}
use Rattle.chains.specs.Chains.{Half, mark_of, sum_of, On, here, later, Chain, no_half, Met, Given, flip, halves}
use Rattle.chains.specs.Chains as chains
use Rattle.chains.proofs.Halves.{half_ends, ends_half, half_low, half_no, half_low_end, half_flip, on_zero, on_split, met_on, has_on}
use Rattle.search.specs.Front.{limit, Two, back, lineage, Written}
use Rattle.search.specs.Direct.{Sum, LeastSum, Direct}
use Rattle.search.proofs.Enter.{lowest_is, far_half, step_some}
use Rattle.search.proofs.Searched.{at_one}
use Rattle.search.proofs.Lineage.{lineage_new, other_half, code_half}
use Rattle.search.proofs.Same.{shortest_lineage}

-- ---- the least sum of a chain, and what is on the chain from i

pub record Least (next ends : List ℕ) (first i s : ℕ) : Type 0 where
  pub under : (j : ℕ) → On next first j → (On next i j) ⊎ (s ≤ sum_of ends j)
  pub one : (s ≡ far) ⊎ Sum next ends first s
  pub part : (j : ℕ) → On next i j → On next first j

pub least_end : (next ends : List ℕ) (first i s : ℕ) → Least next ends first i s → i ≤ 0 → LeastSum next ends first s
least_end next ends first i s x z = record { under = λ j o. go j (x.under j o); one = x.one }
  where
    go : (j : ℕ) → (On next i j) ⊎ (s ≤ sum_of ends j) → s ≤ sum_of ends j
    go j (inl o) = on_zero (omega arith) o
    go j (inr h) = h

module _ (next ends : List ℕ) (first i s s' : ℕ) (x : Least next ends first i s) (pos : 0 < i) (y : Lesser s (sum_of ends i) s') where
  pub least_turn : Least next ends first (get_or next i 0) s'
  least_turn = record { under = λ j o. go j (x.under j o); one = pick y.one; part = λ j o. x.part j (later pos o) }
    where
      hit : (j : ℕ) → (j ≡ i) ⊎ On next (get_or next i 0) j → (On next (get_or next i 0) j) ⊎ (s' ≤ sum_of ends j)
      hit j (inl e) = inr (rw e y.right)
      hit j (inr o) = inl o

      go : (j : ℕ) → (On next i j) ⊎ (s ≤ sum_of ends j) → (On next (get_or next i 0) j) ⊎ (s' ≤ sum_of ends j)
      go j (inl o) = hit j (on_split o)
      go j (inr h) = inr (omega (arith, h, y.left))

      same_sum : s' ≡ s → (s ≡ far) ⊎ Sum next ends first s → (s' ≡ far) ⊎ Sum next ends first s'
      same_sum e (inl z) = inl (e ∙ z)
      same_sum e (inr z) = inr (record { h = z.h; on = z.on; its = e ∙ z.its })

      pick : (s' ≡ s) ⊎ (s' ≡ sum_of ends i) → (s' ≡ far) ⊎ Sum next ends first s'
      pick (inl e) = same_sum e x.one
      pick (inr e) = inr (record { h = i; on = x.part i (here pos refl); its = e })

-- ---- the path

module _ (n : ℕ) (head next ends : List ℕ) (r to s : ℕ) (two : Two n r to) (ls : LeastSum next ends (get_or head r 0) s) (small : s < limit)
    (leads : mark_of ends (s % halves) ≡ to) where
  module _ (sub : List Line) (gv : Given sub n head next ends) where
    sum : Sum next ends (get_or head r 0) s
    sum = pick ls.one
      where
        pick : (s ≡ far) ⊎ Sum next ends (get_or head r 0) s → Sum next ends (get_or head r 0) s
        pick (inl z) = absurd (omega arith)
        pick (inr z) = z

    nd : Met sub ends r sum.h
    nd = met_on gv r sum.h two.r_ok sum.on

    abbrev l : Line
    l = nd.l

    abbrev first : Entry
    first = entry r 0 none

    its_half : s % halves ≡ sum.h
    its_half = omega (arith, sum.its, nd.sum, half_low (gv.sound nd.l nd.is_line) nd.half)

    its_end : mark_of ends sum.h ≡ to
    its_end = ap (mark_of ends) (sym its_half) ∙ leads

    half : Half nd.l r to sum.h
    half = subst (λ (z : ℕ). Half nd.l r z sum.h) its_end nd.half

    root_in : distance (entry r 0 none ∷ []) r ≡ some 0
    unfolding distance
    root_in = hit (after (entry r 0 none) [] r)
      where
        hit : After (entry r 0 none) [] r → distance (entry r 0 none ∷ []) r ≡ some 0
        hit (new p q) = q
        hit (old p q) = absurd (p refl)

    to_out : distance (entry r 0 none ∷ []) to ≡ none
    unfolding distance
    to_out = hit (after (entry r 0 none) [] to)
      where
        hit : After (entry r 0 none) [] to → distance (entry r 0 none ∷ []) to ≡ none
        hit (new p q) = absurd (two.apart p)
        hit (old p q) = q

    -- what is in is the root alone
    only_root : (u d : ℕ) → distance (entry r 0 none ∷ []) u ≡ some d → (u ≡ r) × (d ≡ 0)
    unfolding distance
    only_root u d h = hit (after (entry r 0 none) [] u)
      where
        hit : After (entry r 0 none) [] u → (u ≡ r) × (d ≡ 0)
        hit (new p q) = (sym p, sym (same q h))
        hit (old p q) = never (sym q ∙ h) refl

    -- no candidate is before it
    before : (k : Line) (t : ℕ) → Memᴰ k sub → score (entry r 0 none ∷ []) k ≡ some t
        → (nd.l.length < t) ⊎ ((nd.l.length ≡ t) × (nd.l.number ≤ k.number))
    before k t i q = go (scored (entry r 0 none ∷ []) k t q)
      where
        go : Scored (entry r 0 none ∷ []) k t → (nd.l.length < t) ⊎ ((nd.l.length ≡ t) × (nd.l.number ≤ k.number))
        go sc =
            let u = only_root sc.near sc.d sc.is_in in
            let e = ends_half sc.ends in
            let has = has_on gv k sc.near sc.away e.0 i e.1 in
            let on : On next (get_or head r 0) has.h = subst (λ (z : ℕ). On next (get_or head z 0) has.h) u.0 has.on in
            cmp has.h e.0 (ls.under has.h on) has.sum (omega (arith, sc.sum, u.1)) (half_no e.1)
            (half_low (gv.sound k i) e.1) (ℕ_discrete nd.l.length t)
          where
            cmp : (j g : ℕ) → s ≤ sum_of ends j → sum_of ends j ≡ k.length * halves + g → t ≡ k.length
                → (2 * k.number ≤ g) × (g ≤ 2 * k.number + 1) → g < halves
                → Dec (nd.l.length ≡ t) → (nd.l.length < t) ⊎ ((nd.l.length ≡ t) × (nd.l.number ≤ k.number))
            cmp j g a b c near w (yes z) = inr (z, omega (arith, sum.its, nd.sum, (half_no half).0, near.1))
            cmp j g a b c near w (no z) = inl (omega (arith, sum.its, nd.sum))

    at_two : grow sub (r ∷ []) 2 ≡ entry to nd.l.length (some nd.l) ∷ entry r 0 none ∷ []
    unfolding grow
    at_two =
        ap (step sub (r ∷ [])) (at_one sub n head next ends gv r to)
        ∙ step_some sub (r ∷ []) (entry r 0 none ∷ []) (candidate nd.l.length nd.l)
        (lowest_is (entry r 0 none ∷ []) sub gv.rising nd.l nd.l.length nd.is_line
        (score_of_lem (entry r 0 none ∷ []) nd.l r to 0 (half_ends half) root_in to_out ∙ ap some (zero-add nd.l.length)) before)
        ∙ ap (λ (z : ℕ). entry z nd.l.length (some nd.l) ∷ entry r 0 none ∷ [])
        (far_half (entry r 0 none ∷ []) nd.l r to sum.h 0 half root_in to_out)

    to_in : distance (grow sub (r ∷ []) 2) to ≡ some nd.l.length
    to_in = ap (λ (t : Tree). distance t to) at_two ∙ hit (after (entry to nd.l.length (some nd.l)) (entry r 0 none ∷ []) to)
      where
        hit : After (entry to nd.l.length (some nd.l)) (entry r 0 none ∷ []) to
            → distance (entry to nd.l.length (some nd.l) ∷ entry r 0 none ∷ []) to ≡ some nd.l.length
        hit (new p q) = q
        hit (old p q) = absurd (p refl)

    -- three places: 0, and the two marks
    roomy : 2 ≤ n - 1
    roomy =
        let a = half_low_end (gv.sound nd.l nd.is_line) half in
        let b = half_low_end (gv.sound nd.l nd.is_line) (half_flip half) in
        wide (ℕ_discrete r to) a b
      where
        wide : Dec (r ≡ to) → 0 < to → 0 < r → 2 ≤ n - 1
        wide (yes e) a b = absurd (two.apart e)
        wide (no e) a b = omega (arith, two.r_ok, two.to_ok)

    way_back : lineage (grow sub (r ∷ []) 2) to ≡ back nd.l to ∷ []
    unfolding lineage
    way_back =
        ap (λ (t : Tree). lineage t to) at_two
        ∙ lineage_new (entry to nd.l.length (some nd.l)) (entry r 0 none ∷ []) to refl
        ∙ ap (λ (z : ℕ). back nd.l to ∷ lineage (entry r 0 none ∷ []) z)
        (other_half nd.l r to sum.h (gv.sound nd.l nd.is_line) half)
        ∙ ap (λ (w : List Pass). back nd.l to ∷ w) (lineage_new (entry r 0 none) [] r refl)

    direct_is : codes (shortest (n - 1) sub to r) ≡ flip (s % halves) ∷ []
    unfolding codes
    direct_is =
        ap codes (shortest_lineage n sub gv.sound gv.rising r (n - 1) 2 to nd.l.length roomy to_in ∙ way_back)
        ∙ ap (λ (z : ℕ). z ∷ []) (code_half nd.l r to sum.h (gv.sound nd.l nd.is_line) half ∙ ap flip (sym its_half))

  pub direct_of : Direct n head next ends r to (s % halves)
  direct_of = record { low = omega arith; whole = λ _ sub gv. direct_is sub gv }

-- what is on a chain is a half
on_low : {next : List ℕ} {i h : ℕ} {hs : List ℕ} → Chain next i hs → On next i h → (0 < h) × (h < halves)
on_low (no_half z) o = on_zero z o
on_low (chains.first p lt c) (here q e) = (omega arith, omega arith)
on_low (chains.first p lt c) (later q o) = on_low c o

-- and so is what the least sum ends with
pub least_half : {next ends : List ℕ} {i s : ℕ} {hs : List ℕ} → Chain next i hs → LeastSum next ends i s → s < limit → 0 < s % halves
least_half {next = next} {ends = ends} {i = i} {s = s} ch ls small = pick ls.one
  where
    pick : (s ≡ far) ⊎ Sum next ends i s → 0 < s % halves
    pick (inl z) = absurd (omega arith)
    pick (inr z) = let lo = on_low ch z.on in omega (arith, z.its, lo)

-- ---- the path written out

two_marks : (n r to : ℕ) → Two n r to → 1 < n
two_marks n r to two = go (ℕ_discrete r to)
  where
    go : Dec (r ≡ to) → 1 < n
    go (yes e) = absurd (two.apart e)
    go (no e) = omega (arith, two.r_ok, two.to_ok)

pub direct_written : (n r to : ℕ) (ps : List Pass) (out : List ℕ) (h : ℕ) → Two n r to → codes ps ≡ h ∷ []
    → Written n ps out (set out 0 h) 1
unfolding codes
direct_written n r to ps out h two e = record { places = ap (sets out 0) (sym e); count = count ps e; few = two_marks n r to two }
  where
    count : (ps : List Pass) → codes ps ≡ h ∷ [] → 1 ≡ length ps
    count [] q = absurd (omega (arith, ap length q))
    count (p ∷ []) q = refl
    count (p ∷ p' ∷ ps) q = absurd (omega (arith, ap length q))
