-- The tree of all pieces goes as the definition's. Assumes nothing.
use Prim.Native.Nat.{ℕ, zero, suc, ◌+◌, ◌*◌, ◌-◌, ◌%◌, ◌≤◌, ◌<◌}
use native.Mathlib.Omega.{arith}
use native.Mathlib.Numerals.{add-one}
use native.Mathlib.Decide.{ℕ_discrete, dec_lt}
use mathlib.Core.Path.{◌≡◌, refl, sym, ◌∙◌, ap, subst}
use mathlib.Core.Logic.{◌⊎◌, inl, inr}
use mathlib.Core.List.{List, [], ◌∷◌, Memᴰ}
use mathlib.Core.Option.{Option, none, some}
use lib.ListN.{length, get_or, set}
use lib.Seq.{get_or-set_same, get_or-set_other, set_out}
use Rattle.network.specs.Standing.{Line}
use Rattle.network.specs.Tree.{Entry, entry, Tree, Candidate, candidate, distance, far, lowest, first_out, first_of, step, grow, up_to}
use Rattle.network.specs.Tree.{marks, tree}
use Rattle.network.specs.Tree as tr
use Rattle.network.proofs.Grown.{scored, score_of_lem, After, new, old, after, keeps, lowest_none, lowest_some, ByLine, Stepped, line, root}
use Rattle.network.proofs.Grown.{stepped, is_new}
use Rattle.network.proofs.Grown as gr
use Rattle.network.proofs.Shortest.{same, never, turn}
use Rattle.network.specs.Sound.{Placed}
use Rattle.network.proofs.Marks.{one_each}
use Rattle.nearest.specs.Heap.{Changed, leaf_limit}
use Rattle.nearest.specs.Heap as hp
use Rattle.nearest.proofs.Tournament.{cleared}
use Rattle.chains.specs.Chains.{Half, flip, Bounded, Given, halves}
use Rattle.search.specs.Front.{keys, Stage, Relaxed, Key, Offer, Front, Nothing, limit, top, lead, Turned, more, found, nothing}
use Rattle.search.specs.Front as f
use Rattle.chains.proofs.Halves.{half_ends, half_flip, half_low_end, mark_of_lem}
use Rattle.search.proofs.Enter.{far_half, step_some, Pop, pop_none, pop_some, came_new, front_enter, front_relaxed}
use Rattle.search.proofs.Searched.{near, newest_line, turned_any}
use Rattle.tree.specs.Plant.{FirstFar, growing, Sprouted, by_line_lem, by_root, ended, Entered, none_yet, enters, Holding, Below}

-- ---- the first mark that is out

out_past : (es : Tree) (b : ℕ) (ms : List ℕ) → ((m : ℕ) → 0 < m → m ≤ b → distance es m ≡ none → ⊥)
    → first_out es (up_to b ms) ≡ first_out es ms
unfolding up_to first_out
out_past es zero ms f = refl
out_past es (suc b) ms f = out_past es b (suc b ∷ ms) (λ m l h. f m l (omega arith)) ∙ go (distance es (suc b)) refl
  where
    go : (o : Option ℕ) → distance es (suc b) ≡ o → first_of o (suc b) (first_out es ms) ≡ first_out es ms
    go none e = absurd (f (suc b) (omega arith) (omega arith) e)
    go (some d) e = refl

out_first : (es : Tree) (b : ℕ) (ms : List ℕ) (r : ℕ) → 0 < r → r ≤ b → distance es r ≡ none
    → ((m : ℕ) → 0 < m → m < r → distance es m ≡ none → ⊥)
    → first_out es (up_to b ms) ≡ some r
unfolding up_to first_out
out_first es zero ms r l h o f = absurd (omega arith)
out_first es (suc b) ms r l h o f = go (ℕ_discrete r (suc b)) (out_first es b (suc b ∷ ms) r l)
  where
    go : Dec (r ≡ suc b) → (r ≤ b → distance es r ≡ none → ((m : ℕ) → 0 < m → m < r → distance es m ≡ none → ⊥) → first_out es
        (up_to b (suc b ∷ ms)) ≡ some r)
        → first_out es (up_to b (suc b ∷ ms)) ≡ some r
    go (yes e) ih =
        out_past es b (suc b ∷ ms) (λ m p q. f m p (omega arith))
        ∙ ap (λ (x : Option ℕ). first_of x (suc b) (first_out es ms)) (ap (distance es) (sym e) ∙ o) ∙ ap some (sym e)
    go (no e) ih = ih (omega arith) o f

-- ---- a step keeps what is in

step_keeps : (lines : List Line) (roots : List ℕ) (k m d : ℕ) → distance (grow lines roots k) m ≡ some d
    → distance (grow lines roots (suc k)) m ≡ some d
unfolding grow
step_keeps lines roots k m d h = go (stepped lines roots (grow lines roots k))
  where
    go : {es : Tree} → Stepped lines roots (grow lines roots k) es → distance es m ≡ some d
    go (line {e = e} x) = keeps e (grow lines roots k) m d (is_new x) h
    go (root {e = e} x i) = keeps e (grow lines roots k) m d x.out h
    go (gr.stop a b) = h

-- ---- the order of entry

pub below_set : (n : ℕ) (xs : List ℕ) (k v : ℕ) → v < n → Below n xs → Below n (set xs k v)
below_set n xs k v lt f j h = go (ℕ_discrete j k) (dec_lt k (length xs))
  where
    go : Dec (j ≡ k) → Dec (k < length xs) → get_or (set xs k v) j 0 < n
    go (yes e) (yes l) = rw (e, get_or-set_same xs k v 0 l) lt
    go (yes e) (no l) = rw (set_out xs k v (omega arith)) (f j h)
    go (no e) l = rw (get_or-set_other xs k j v 0 e) (f j h)

pub entered_other : {order : List ℕ} {es : Tree} → (k v : ℕ) → length es ≤ k → Entered order es → Entered (set order k v) es
entered_other k v h none_yet = none_yet
entered_other {order = order} k v h (enters {es = es} a x) =
    enters (get_or-set_other order k (length es) v 0 (λ e. omega arith) ∙ a) (entered_other k v (omega arith) x)

pub entered_new : (order : List ℕ) (e : Entry) (es : Tree) (k v : ℕ) → length es ≡ k → k < length order → v ≡ e.mark → Entered order es
    → Entered (set order k v) (e ∷ es)
entered_new order e es k v h lt q x =
    enters (ap (λ (z : ℕ). get_or (set order k v) z 0) h ∙ get_or-set_same order k v 0 lt ∙ q) (entered_other k v (omega arith) x)

module _ (lines : List Line) (n : ℕ) (head next ends : List ℕ) (gv : Given lines n head next ends) where
  abbrev rts : List ℕ
  rts = marks (n - 1)

  abbrev at : ℕ → Tree
  at k = grow lines (marks (n - 1)) k

  placed : (l : Line) → Memᴰ l lines → Placed (n - 1) l
  placed l i = let x = gv.sound l i in
      record { from_low = x.from_low; from_high = omega (arith, x.from_high); to_low = x.to_low; to_high = omega (arith, x.to_high) }

  sized : (k : ℕ) → k < n → length (at k) ≡ k
  sized k h = (one_each (n - 1) lines placed k (omega arith)).1

  pub record Planting (k : ℕ) (best seg order : List ℕ) (root : ℕ) : Type 0 where
    pub front : Front lines n (grow lines (marks (n - 1)) k) best seg ends Nothing
    pub low : 0 < root
    pub passed : (m : ℕ) → 0 < m → m < root → distance (grow lines (marks (n - 1)) k) m ≡ none → ⊥
    pub entered : Entered order (grow lines (marks (n - 1)) k)

  pub plant_start : (best seg order : List ℕ) → ((i : ℕ) → i < n → get_or best i 0 ≡ hp.far)
      → ((i : ℕ) → i < 2 * n → get_or seg i 0 ≡ hp.far)
      → Planting 0 best seg order 1
  unfolding grow distance
  plant_start best seg order fb fs = record {
    front = record {
      inside = λ m d h. never h refl;
      keyed = λ m d h. never h refl;
      closed = λ m d a h. never h refl;
      opened = λ m a h. fs (n + m) (omega arith) ∙ sym (fb m a);
      offered = λ m a h. inl (fb m a);
      under = λ l u v h d i j a b. never a refl;
    };
    low = omega arith;
    passed = λ m a b h. omega arith;
    entered = none_yet;
  }

  module _ (k : ℕ) (best seg order : List ℕ) (root : ℕ) (st : Stage n best seg) (pl : Planting k best seg order root)
      (few : k < leaf_limit) (le : k + 1 < n) (space : k < length order) where
    small : (m d : ℕ) → distance (at k) m ≡ some d → d ≤ 100000000
    small m d h = omega (arith, near n lines gv.sound rts k m d h)

    still_in : (m : ℕ) → (distance (at k) m ≡ none → ⊥) → distance (at (k + 1)) m ≡ none → ⊥
    still_in m f h = go (distance (at k) m) refl
      where
        go : (o : Option ℕ) → distance (at k) m ≡ o → ⊥
        go none e = f e
        go (some d) e = never (step_keeps lines rts k m d e) (ap (λ (z : ℕ). distance (at z) m) (sym (add-one k)) ∙ h)

    -- ---- by a line

    module _ (lt : top seg < limit) where
      pop : Pop lines n (at k) best ends (get_or seg 1 0)
      pop = pop_some lines n (at k) best seg ends gv.rising gv.sound (mark_of_lem gv) st.heap pl.front small lt

      lead_low : 0 < lead ends seg
      lead_low = half_low_end (gv.sound pop.l pop.is_line) pop.half

      abbrev en : Entry
      en = entry (lead ends seg) (pop.d + pop.l.length) (some pop.l)

      is_far : far (at k) pop.l ≡ lead ends seg
      is_far = far_half (at k) pop.l pop.u (lead ends seg) (top seg % halves) pop.d pop.half pop.is_in pop.is_out

      at_next : at (suc k) ≡ en ∷ at k
      unfolding grow
      at_next = step_some lines rts (at k) (candidate (pop.d + pop.l.length) pop.l) pop.is_lowest
          ∙ ap (λ (z : ℕ). entry z (pop.d + pop.l.length) (some pop.l) ∷ at k) is_far

      by : ByLine lines (at k) en
      by =
          let w = lowest_some (at k) lines (candidate (pop.d + pop.l.length) pop.l) pop.is_lowest in
          let sc = scored (at k) pop.l (pop.d + pop.l.length) w.its_score in
          record { l = pop.l; its = refl; is_line = w.is_line; sc = sc; its_mark = sym is_far ∙ sc.is_far; least = w.least }

      key : Key (en ∷ at k) best ends (lead ends seg) (pop.d + pop.l.length)
      key = record {
        h = top seg % halves;
        low = omega arith;
        key = pop.known ∙ pop.sum;
        by = f.line pop.l pop.u pop.d (came_new en (at k) (lead ends seg) refl) pop.half (omega arith)
            (mark_of_lem gv pop.l (lead ends seg) pop.u (flip (top seg % halves)) pop.is_line (half_flip pop.half))
            (keeps en (at k) pop.u pop.d pop.is_out pop.is_in) refl;
      }

      there : distance (en ∷ at k) (lead ends seg) ≡ some (pop.d + pop.l.length)
      there = hit (after en (at k) (lead ends seg))
        where
          hit : After en (at k) (lead ends seg) → distance (en ∷ at k) (lead ends seg) ≡ some (pop.d + pop.l.length)
          hit (new p q) = q
          hit (old p q) = absurd (p refl)

      line_next : (seg₁ best' seg' : List ℕ) (v : ℕ) → v ≡ lead ends seg → Changed seg seg₁ n (lead ends seg) hp.far
          → Relaxed n next ends (keys best seg₁) (keys best' seg') (get_or head (lead ends seg) 0) (top seg - top seg % halves)
          → Planting (k + 1) best' seg' (set order k v) root
      line_next seg₁ best' seg' v q ch rx = record {
        front = subst (λ (z : Tree). Front lines n z best' seg' ends Nothing) (sym (ap at (add-one k) ∙ at_next)) fr;
        low = pl.low;
        passed = λ m a b. still_in m (pl.passed m a b);
        entered =
            subst (λ (z : Tree). Entered (set order k v) z) (sym (ap at (add-one k) ∙ at_next))
            (entered_new order en (at k) k v (sized k (omega arith)) space q pl.entered);
      }
        where
          base : top seg - top seg % halves ≡ (pop.d + pop.l.length) * halves
          base = omega (arith, pop.sum)

          fr : Front lines n (en ∷ at k) best' seg' ends Nothing
          fr =
              front_relaxed lines n head next ends gv (en ∷ at k) (lead ends seg) (pop.d + pop.l.length) best seg₁ best' seg'
              pop.small there gv.sound
              (newest_line n lines gv.sound rts k en by)
              (subst (λ (z : ℕ). Relaxed n next ends (keys best seg₁) (keys best' seg') (get_or head (lead ends seg) 0) z) base rx)
              (front_enter lines n head next ends gv (at k) en best seg best seg₁ pop.is_out pop.small pl.front key
              (λ m d. refl) ch)

    -- ---- by a root, where nothing is left

    module _ (big : limit ≤ top seg) where
      gone : lowest (at k) lines ≡ none
      gone = pop_none lines n (at k) best seg ends gv.rising gv.sound (mark_of_lem gv) st.heap pl.front small big

      out_far : (m : ℕ) → m < n → distance (at k) m ≡ none → get_or best m 0 ≡ hp.far
      out_far m ok h = go (pl.front.offered m ok h)
        where
          go : (get_or best m 0 ≡ hp.far) ⊎ Offer lines (at k) best m → get_or best m 0 ≡ hp.far
          go (inl z) = z
          go (inr o) =
              never (score_of_lem (at k) o.l o.u m o.d (half_ends o.half) o.is_in h)
              (lowest_none (at k) lines gone o.l o.is_line)

      far_out : (m : ℕ) → get_or best m 0 ≡ hp.far → distance (at k) m ≡ none
      far_out m e = go (distance (at k) m) refl
        where
          go : (o : Option ℕ) → distance (at k) m ≡ o → o ≡ none
          go none x = refl
          go (some d) x = let ky = pl.front.keyed m d x in absurd (omega (arith, e, ky.key, ky.low, small m d x))

      all_in : (r : ℕ) → FirstFar best n root r → (m : ℕ) → 0 < m → m < r → distance (at k) m ≡ none → ⊥
      all_in r ff m a b h = go (ℕ_discrete (root - m) 0)
        where
          go : Dec (root - m ≡ 0) → ⊥
          go (yes e) = ff.before m (omega arith) b (out_far m (omega (arith, ff.high)) h)
          go (no e) = pl.passed m a (omega arith) h

      root_next : (r : ℕ) (best' seg' : List ℕ) → FirstFar best n root r → r < n
          → Relaxed n next ends (keys (set best r 0) seg) (keys best' seg') (get_or head r 0) 0
          → Planting (k + 1) best' seg' (set order k r) r
      unfolding grow step marks
      root_next r best' seg' ff lt rx = record {
        front = subst (λ (z : Tree). Front lines n z best' seg' ends Nothing) (sym (ap at (add-one k) ∙ at_next)) fr;
        low = omega (arith, pl.low, ff.low);
        passed = λ m a b. still_in m (all_in r ff m a b);
        entered =
            subst (λ (z : Tree). Entered (set order k r) z) (sym (ap at (add-one k) ∙ at_next))
            (entered_new order (entry r 0 none) (at k) k r (sized k (omega arith)) space refl pl.entered);
      }
        where
          out : distance (at k) r ≡ none
          out = far_out r (ff.at lt)

          e : Entry
          e = entry r 0 none

          at_next : at (suc k) ≡ entry r 0 none ∷ at k
          at_next = ap (λ (o : Option Candidate). tr.next (at k) o (first_out (at k) rts)) gone
              ∙ ap (λ (o : Option ℕ). tr.next (at k) none o)
              (out_first (at k) (n - 1) [] r (omega (arith, pl.low, ff.low)) (omega arith) out (all_in r ff))

          key : Key (entry r 0 none ∷ at k) (set best r 0) ends r 0
          key = record {
            h = 0;
            low = omega arith;
            key = get_or-set_same best r 0 0 (omega (arith, st.places));
            by = f.root
                (came_new (entry r 0 none) (at k) r refl) refl refl;
          }

          ri : distance (entry r 0 none ∷ at k) r ≡ some 0
          ri = hit (after (entry r 0 none) (at k) r)
            where
              hit : After (entry r 0 none) (at k) r → distance (entry r 0 none ∷ at k) r ≡ some 0
              hit (new p q) = q
              hit (old p q) = absurd (p refl)

          newest : (l : Line) (x h dx : ℕ) → Memᴰ l lines → Half l r x h → distance (entry r 0 none ∷ at k) x ≡ some dx
              → dx < 0 + l.length
          newest l x h dx i j a = hit (after (entry r 0 none) (at k) x)
            where
              hit : After (entry r 0 none) (at k) x → dx < 0 + l.length
              hit (new p q) = omega (arith, same q a, (gv.sound l i).long)
              hit (old p q) = never (score_of_lem (at k) l x r dx (turn (half_ends j)) (sym q ∙ a) out) (lowest_none (at k) lines gone l i)

          fr : Front lines n (entry r 0 none ∷ at k) best' seg' ends Nothing
          fr =
              front_relaxed lines n head next ends gv (entry r 0 none ∷ at k) r 0 (set best r 0) seg best' seg' lt ri gv.sound newest rx
              (front_enter lines n head next ends gv (at k) (entry r 0 none) best seg (set best r 0) seg out lt pl.front key
              (λ m d. get_or-set_other best r m 0 0 d)
              (record { heap = st.heap; here = pl.front.opened r lt out ∙ ff.at lt; others = λ j a d. refl }))

      end_next : (r : ℕ) → FirstFar best n root r → r ≡ n → Planting (k + 1) best seg order r
      unfolding grow step marks
      end_next r ff e = record {
        front = subst (λ (z : Tree). Front lines n z best seg ends Nothing) (sym (ap at (add-one k) ∙ at_next)) pl.front;
        low = omega (arith, pl.low, ff.low);
        passed = λ m a b. still_in m (all_in r ff m a b);
        entered = subst (λ (z : Tree). Entered order z) (sym (ap at (add-one k) ∙ at_next)) pl.entered;
      }
        where
          at_next : at (suc k) ≡ at k
          at_next = ap (λ (o : Option Candidate). tr.next (at k) o (first_out (at k) rts)) gone
              ∙ ap (λ (o : Option ℕ). tr.next (at k) none o) (out_past (at k) (n - 1) [] (λ m a b. all_in r ff m a (omega arith)))

    pub sprouted_next : (best' seg' order' : List ℕ) (r : ℕ)
        → Sprouted n head next ends (growing best seg order) (growing best' seg' order') k root r → Planting (k + 1) best' seg' order' r
    sprouted_next best' seg' order' r (by_line_lem a (more z lt seg₁ ch ne rx) e q o) =
        subst (λ (x : List ℕ). Planting (k + 1) best' seg' x r) (sym o)
        (subst (λ (x : ℕ). Planting (k + 1) best' seg' (set order k a) x) (sym q) (line_next lt seg₁ best' seg' a z ch rx))
    sprouted_next best' seg' order' r (by_line_lem a (found z lt t q q₂) e q' o) = absurd (e (z ∙ t))
    sprouted_next best' seg' order' r (by_line_lem a (nothing z lt q q') e q'' o) = absurd (e z)
    sprouted_next best' seg' order' r (by_root a best₁ seg₁ (more z lt s ch ne rx) e ff l x o) = absurd (ne (sym z ∙ e))
    sprouted_next best' seg' order' r (by_root a best₁ seg₁ (found z lt t q q₂) e ff l x o) = absurd (omega (arith, lead_low lt, t))
    sprouted_next best' seg' order' r (by_root a best₁ seg₁ (nothing z lt q q') e ff l x o) =
        subst (λ (y : List ℕ). Planting (k + 1) best' seg' y r) (sym o)
        (root_next lt r best' seg' (subst (λ (y : List ℕ). FirstFar y n root r) q ff) l
        (subst (λ (y : List ℕ). Relaxed n next ends (keys (set y r 0) seg) (keys best' seg') (get_or head r 0) 0) q
        (subst (λ (y : List ℕ). Relaxed n next ends (keys (set best₁ r 0) y) (keys best' seg') (get_or head r 0) 0) q' x)))
    sprouted_next best' seg' order' r (ended a (more z lt s ch ne rx) e ff l o) = absurd (ne (sym z ∙ e))
    sprouted_next best' seg' order' r (ended a (found z lt t q q₂) e ff l o) = absurd (omega (arith, lead_low lt, t))
    sprouted_next best' seg' order' r (ended a (nothing z lt q q') e ff l o) =
        subst (λ (y : List ℕ). Planting (k + 1) best' seg' y r) (sym o)
        (subst (λ (y : List ℕ). Planting (k + 1) y seg' order r) (sym q)
        (subst (λ (y : List ℕ). Planting (k + 1) best y order r) (sym q')
        (end_next lt r (subst (λ (y : List ℕ). FirstFar y n root r) q ff) l)))

  pub plant_end : (k : ℕ) (best seg order : List ℕ) (rt : ℕ) → Planting k best seg order rt → k ≡ n - 1
      → Holding (tree (n - 1) lines) best order ends
  unfolding tree
  plant_end k best seg order rt pl e =
      subst (λ (z : ℕ). Holding (grow lines (marks (n - 1)) z) best order ends) e
      (record { keyed = pl.front.keyed; entered = pl.entered })

-- ---- sprout and plant

pub stage_clear : (n : ℕ) (best seg : List ℕ) → n ≤ leaf_limit → 0 < n → n ≤ length best → 2 * n ≤ length seg
    → ((i : ℕ) → i < n → get_or best i 0 ≡ hp.far)
    → ((i : ℕ) → i < 2 * n → get_or seg i 0 ≡ hp.far) → Stage n best seg
stage_clear n best seg few pos lb ls fb fs = record {
  heap = cleared seg n few pos ls fs;
  places = lb;
  over = λ m h. omega (arith, fb m h, fs (n + m) (omega arith));
  tops = λ m h. omega (arith, fb m h);
}

module _ (n : ℕ) (head next ends best seg order best' seg' order' : List ℕ) (k rt r : ℕ) where
  pub sprouted_high : rt ≤ n → Sprouted n head next ends (growing best seg order) (growing best' seg' order') k rt r → r ≤ n
  sprouted_high h (by_line_lem a t e q o) = omega arith
  sprouted_high h (by_root a b s t e ff l x o) = omega arith
  sprouted_high h (ended a t e ff q o) = omega arith

  pub sprouted_below : Stage n best seg → Bounded n ends → Below n order
      → Sprouted n head next ends (growing best seg order) (growing best' seg' order') k rt r → Below n order'
  sprouted_below st tp o (by_line_lem a t e q z) m h = rw z (below_set n order k a (turned_low t) o m h)
    where
      turned_low : Turned n head next ends (keys best seg) (keys best' seg') 0 a → a < n
      turned_low (more x l s ch ne rx) = rw x (tp.mark_ok (top seg % halves) (omega arith))
      turned_low (found x l y p p₂) = rw x (tp.mark_ok (top seg % halves) (omega arith))
      turned_low (nothing x l p p') = absurd (e x)
  sprouted_below st tp o (by_root a b s t e ff l x z) m h = rw z (below_set n order k r l o m h)
  sprouted_below st tp o (ended a t e ff q z) m h = rw z (o m h)

  pub sprouted_stage : Stage n best seg → Bounded n ends → Sprouted n head next ends (growing best seg order)
      (growing best' seg' order') k rt r → Stage n best' seg'
  sprouted_stage st tp (by_line_lem a t e q o) = turned_any n head next ends best seg best' seg' 0 a st t
  sprouted_stage st tp (by_root a b s t e ff l x o) = x.stage
  sprouted_stage st tp (ended a t e ff q o) = turned_any n head next ends best seg best' seg' 0 a st t
