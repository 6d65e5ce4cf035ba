-- The way back by the lines by which marks came in is what the definition's descent gives. Assumes nothing.
use Prim.Native.Nat.{ℕ, zero, suc, ◌+◌, ◌-◌, ◌≤◌, ◌<◌}
use native.Mathlib.Omega.{arith}
use mathlib.Core.Path.{◌≡◌, refl, sym, ◌∙◌, ap, subst}
use mathlib.Core.Logic.{◌⊎◌, inl, inr}
use mathlib.Core.Bool.{Bool, true, false}
use mathlib.Core.List.Memᴰ
use mathlib.Core.List.{List, [], ◌∷◌, Memᴰ}
use mathlib.Core.Option.{Option, none, some}
use lib.Dec.{eqb}
use borrow.Author.Tests.{eq-eqb, ne_eqb}
use Rattle.network.specs.Standing.{Line}
use Rattle.network.specs.Tree.{Entry, entry, Tree, Candidate, distance, score, far, lowest, first_out, step, grow}
use Rattle.network.specs.Tree as tr
use Rattle.network.specs.Path.{Pass, start, stop, down, descent, onward, descend, or_zero, shortest}
use Rattle.network.proofs.Grown.{Scored, scored, score_of_lem, After, new, old, after, keeps, lowest_some, first_out_some, grown, Stepped}
use Rattle.network.proofs.Grown.{line, root, stepped, is_new}
use Rattle.network.specs.Walk.{Ends}
use Rattle.network.specs.Walk as walk
use Rattle.network.proofs.Grown as gr
use Rattle.network.proofs.Shortest.{same, never, turn, last, rising, ends_of}
use Rattle.network.proofs.Descent.{Down, down_true, down_of, Found, found, none_found, first_found}
use Rattle.network.specs.Sound.{Rising, Long}
use Rattle.network.proofs.Without.{lowest_first}
use Rattle.chains.specs.Chains.{Sound, AllSound}
use Rattle.search.specs.Front.{back, back_of, other_of, via_of, lineage}
use Rattle.search.proofs.Lineage.{lineage_new, lineage_old}

stop_back : (t : Bool) (l : Line) → stop (back_of t l) ≡ other_of t l
stop_back true l = refl
stop_back false l = refl

-- run back over l from m, when m is one of its ends and u the other
pub record Runs (l : Line) (m u : ℕ) : Type 0 where
  pub its : (back l m).line ≡ l
  pub begins : start (back l m) ≡ m
  pub ends : stop (back l m) ≡ u

runs : {n : ℕ} (l : Line) (m u : ℕ) → Sound n l → Ends l u m → Runs l m u
runs l m u s (walk.along p q) = let e : eqb l.from m ≡ false = ne_eqb l.from m
    (λ z. s.apart (z ∙ sym q)) in record { its = rw e; begins = rw e q; ends = rw e p }
runs l m u s (walk.against p q) = let e : eqb l.from m ≡ true = eq-eqb
    l.from m q in record { its = rw e; begins = rw e q; ends = rw e p }

module _ (n : ℕ) (sub : List Line) (sound : AllSound n sub) (ris : Rising sub) (r : ℕ) where
  abbrev at : ℕ → Tree
  at k = grow sub (r ∷ []) k

  long : Long sub
  long k i = omega (arith, (sound k i).long)

  -- ---- the root is in from the first step on
  pub root_in : (k : ℕ) → distance (at (suc k)) r ≡ some 0
  unfolding grow distance
  root_in zero = go (stepped sub (r ∷ []) [])
    where
      go : {es : Tree} → Stepped sub (r ∷ []) [] es → distance es r ≡ some 0
      go (line x) = never x.sc.is_in refl
      go (root {e = e} x m) = hit (after e [] r)
        where
          hit : After e [] r → distance (e ∷ []) r ≡ some 0
          hit (new p q) = q ∙ ap some x.zero_at
          hit (old p q) = absurd (p (Memᴰ.eq_of_singleton m))
      go (gr.stop d f) = absurd (f r (Memᴰ.head refl) refl)
  root_in (suc k) = go (root_in k) (stepped sub (r ∷ []) (at (suc k)))
    where
      go : {es : Tree} → distance (at (suc k)) r ≡ some 0 → Stepped sub (r ∷ []) (at (suc k)) es → distance es r ≡ some 0
      go h (line {e = e} x) = keeps e (at (suc k)) r 0 (is_new x) h
      go h (root {e = e} x m) = keeps e (at (suc k)) r 0 x.out h
      go h (gr.stop d f) = h

  -- ---- later steps change no distance, and bring in nothing nearer than what came last

  pub extends : (j k m d : ℕ) → distance (at k) m ≡ some d → (b : ℕ) → b ≡ j + k → distance (at b) m ≡ some d
  unfolding grow
  extends zero k m d h b e = let p : b ≡ k = omega arith in ap (λ (z : ℕ). distance (at z) m) p ∙ h
  extends (suc j) k m d h b e = let p : b ≡ suc (j + k) = omega arith in
      ap (λ (z : ℕ). distance (at z) m) p ∙ go (stepped sub (r ∷ []) (at (j + k))) (extends j k m d h (j + k) refl)
    where
      go : {es : Tree} → Stepped sub (r ∷ []) (at (j + k)) es → distance (at (j + k)) m ≡ some d → distance es m ≡ some d
      go (line {e = e} x) ih = keeps e (at (j + k)) m d (is_new x) ih
      go (root {e = e} x i) ih = keeps e (at (j + k)) m d x.out ih
      go (gr.stop a b) ih = ih

  early : (j k : ℕ) (b : ℕ) → b ≡ j + suc k → (last (at (suc k)) ≤ last (at b)) ×
      ((w d : ℕ) → distance (at b) w ≡ some d → d < last (at (suc k)) → distance (at (suc k)) w ≡ some d)
  unfolding grow
  early zero k b e = let p : b ≡ suc k = omega arith in
      (omega (arith, ap (λ (z : ℕ). last (at z)) p), λ w d h lt. ap (λ (z : ℕ). distance (at z) w) (sym p) ∙ h)
  early (suc j) k b e = let p : b ≡ suc (j + suc k) = omega arith in
      subst (λ (z : ℕ). (last (at (suc k)) ≤ last (at z)) ×
      ((w d : ℕ) → distance (at z) w ≡ some d → d < last (at (suc k)) → distance (at (suc k)) w ≡ some d)) (sym p)
      (go (stepped sub (r ∷ []) (at (j + suc k))) (early j k (j + suc k) refl) (extends j (suc k) r 0 (root_in k) (j + suc k) refl))
    where
      c : ℕ
      c = j + suc k

      go : {es : Tree} → Stepped sub (r ∷ []) (at (j + suc k)) es
          → (last (at (suc k)) ≤ last (at (j + suc k))) ×
          ((w d : ℕ) → distance (at (j + suc k)) w ≡ some d → d < last (at (suc k)) → distance (at (suc k)) w ≡ some d)
          → distance (at (j + suc k)) r ≡ some 0
          → (last (at (suc k)) ≤ last es) × ((w d : ℕ) → distance es w ≡ some d → d < last (at (suc k)) → distance (at (suc k)) w ≡ some d)
      go (line {e = e} x) (a, f) ri =
          (omega (arith, a, rising sub (grown sub (r ∷ []) (j + suc k)) x), λ w d h lt. hit w d h lt (after e (at (j + suc k)) w))
        where
          hit : (w d : ℕ) → distance (e ∷ at (j + suc k)) w ≡ some d → d < last (at (suc k)) → After e (at (j + suc k)) w
              → distance (at (suc k)) w ≡ some d
          hit w d h lt (new p q) = absurd (omega (arith, same q h, lt, a, rising sub (grown sub (r ∷ []) (j + suc k)) x))
          hit w d h lt (old p q) = f w d (sym q ∙ h) lt
      go (root {e = e} x i) (a, f) ri = never ri (ap (distance (at (j + suc k))) (sym (Memᴰ.eq_of_singleton i)) ∙ x.out)
      go (gr.stop y z) (a, f) ri = (a, f)

  -- ---- the line that a mark comes in by is the one that `descent` finds

  module _ (k b : ℕ) (le : suc k ≤ b) (c : Candidate) (is_low : lowest (at k) sub ≡ some c) where
    l : Line
    l = c.line

    sc : Scored (at k) c.line c.score
    sc = scored (at k) c.line c.score (lowest_some (at k) sub c is_low).its_score

    mem : Memᴰ c.line sub
    mem = (lowest_some (at k) sub c is_low).is_line

    m : ℕ
    m = sc.away

    abbrev en : Entry
    en = entry (far (at k) c.line) c.score (some c.line)

    at_next : at (suc k) ≡ entry (far (at k) c.line) c.score (some c.line) ∷ at k
    unfolding grow step
    at_next = rw is_low

    late : last (at (suc k)) ≡ c.score
    late = ap last at_next

    run : Runs c.line (far (at k) c.line) sc.near
    run = runs c.line (far (at k) c.line) sc.near (sound c.line mem) (gr.ends_to (sym sc.is_far) sc.ends)

    far_out : distance (at k) (far (at k) c.line) ≡ none
    far_out = ap (distance (at k)) sc.is_far ∙ sc.is_out

    -- distances when all is in
    here_k : distance (at (suc k)) (far (at k) c.line) ≡ some c.score
    here_k = ap (λ (t : Tree). distance t (far (at k) c.line)) at_next ∙ hit (after en (at k) (far (at k) c.line))
      where
        hit : After en (at k) (far (at k) c.line) → distance (en ∷ at k) (far (at k) c.line) ≡ some c.score
        hit (new p q) = q
        hit (old p q) = absurd (p refl)

    at_b : (w d j : ℕ) → distance (at j) w ≡ some d → j ≤ b → distance (at b) w ≡ some d
    at_b w d j h q = extends (b - j) j w d h b (omega arith)

    leads : down (at b) (back c.line (far (at k) c.line)) ≡ true
    leads = down_of (at b) (back c.line (far (at k) c.line)) c.score sc.d
        (ap (distance (at b)) run.begins ∙ at_b (far (at k) c.line) c.score (suc k) here_k le)
        (ap (distance (at b)) run.ends ∙ at_b sc.near sc.d k sc.is_in (omega arith))
        (ap (λ (z : Line). sc.d + z.length) run.its ∙ sym sc.sum)

    -- whatever else leads down there has no lower number
    not_lower : (p : Pass) → Found (at b) (far (at k) c.line) sub p → (c.line ≡ p.line) ⊎ (c.line.number < p.line.number)
    not_lower p f = lowest_first (at k) sub ris c is_low p.line f.is_line sco
      where
        w : Down (at b) p
        w = down_true (at b) p f.leads

        is_d : w.d ≡ c.score
        is_d = same w.at_start (ap (distance (at b)) f.begins ∙ at_b (far (at k) c.line) c.score (suc k) here_k le)

        lt : w.e < last (at (suc k))
        lt = omega (arith, late, is_d, w.sum, (sound p.line f.is_line).long)

        in_next : distance (at (suc k)) (stop p) ≡ some w.e
        in_next = (early (b - suc k) k b (omega arith)).1 (stop p) w.e w.at_stop lt

        in_old : distance (at k) (stop p) ≡ some w.e
        in_old = hit (after en (at k) (stop p))
          where
            there : distance (en ∷ at k) (stop p) ≡ some w.e
            there = ap (λ (t : Tree). distance t (stop p)) (sym at_next) ∙ in_next

            hit : After en (at k) (stop p) → distance (at k) (stop p) ≡ some w.e
            hit (new z q) = absurd (omega (arith, same q there, lt, late))
            hit (old z q) = sym q ∙ there

        sco : score (at k) p.line ≡ some c.score
        sco =
            score_of_lem (at k) p.line (stop p) (start p) w.e (turn (ends_of p)) in_old (ap (distance (at k)) f.begins ∙ far_out)
            ∙ ap some (w.sum ∙ is_d)

    pub finds : descent (at b) (far (at k) c.line) sub ≡ some (back c.line (far (at k) c.line))
    finds = go (descent (at b) (far (at k) c.line) sub) refl
      where
        mem_b : Memᴰ (back c.line (far (at k) c.line)).line sub
        mem_b = Memᴰ.cast run.its mem

        go : (o : Option Pass) → descent (at b) (far (at k) c.line) sub ≡ o → o ≡ some (back c.line (far (at k) c.line))
        go none x =
            absurd (none_found (at b) (far (at k) c.line) sub x (back c.line (far (at k) c.line)) mem_b run.begins leads)
        go (some p) x =
            pick (first_found (at b) (far (at k) c.line) sub p ris long x (back c.line (far (at k) c.line)) mem_b
            run.begins leads)
            (not_lower p (found (at b) (far (at k) c.line) sub p x))
          where
            pick : (p.line.number < (back c.line (far (at k) c.line)).line.number) ⊎ (p ≡ back c.line (far (at k) c.line))
                → (c.line ≡ p.line) ⊎ (c.line.number < p.line.number) → some p ≡ some (back c.line (far (at k) c.line))
            pick (inr e) y = ap some e
            pick (inl lt) (inl e) = absurd (omega (arith, lt, ap (λ (z : Line). z.number) run.its, ap (λ (z : Line). z.number) e))
            pick (inl lt) (inr g) = absurd (omega (arith, lt, ap (λ (z : Line). z.number) run.its, g))

    -- one mark more
    descend_new : ((u d f : ℕ) → distance (at k) u ≡ some d → d ≤ f → descend sub (at b) f u ≡ lineage (at k) u)
        → (f : ℕ) → c.score ≤ f → descend sub (at b) f (far (at k) c.line) ≡ back c.line (far (at k) c.line) ∷ lineage (at k)
        sc.near
    unfolding descend
    descend_new ih zero h = absurd (omega (arith, sc.sum, (sound c.line mem).long))
    descend_new ih (suc f) h =
        ap (λ (o : Option Pass). onward o (λ z. descend sub (at b) f z)) finds
        ∙ ap (λ (z : ℕ). back c.line (far (at k) c.line) ∷ descend sub (at b) f z) run.ends
        ∙ ap (λ (w : List Pass). back c.line (far (at k) c.line) ∷ w)
        (ih sc.near sc.d f sc.is_in (omega (arith, sc.sum, (sound c.line mem).long)))

    lineage_here : lineage (en ∷ at k) (far (at k) c.line) ≡ back c.line (far (at k) c.line) ∷ lineage (at k) sc.near
    lineage_here = lineage_new en (at k) (far (at k) c.line) refl
        ∙ ap (λ (z : ℕ). back c.line (far (at k) c.line) ∷ lineage (at k) z)
        (sym (stop_back (eqb c.line.from (far (at k) c.line)) c.line) ∙ run.ends)

    pub by_line_lem : ((u d f : ℕ) → distance (at k) u ≡ some d → d ≤ f → descend sub (at b) f u ≡ lineage (at k) u)
        → (x d f : ℕ) → distance (en ∷ at k) x ≡ some d → d ≤ f → descend sub (at b) f x ≡ lineage (en ∷ at k) x
    by_line_lem ih x d f h q = go (after en (at k) x)
      where
        go : After en (at k) x → descend sub (at b) f x ≡ lineage (en ∷ at k) x
        go (new p s) =
            subst (λ (z : ℕ). descend sub (at b) f z ≡ lineage (en ∷ at k) z) p
            (descend_new ih f (omega (arith, same s h)) ∙ sym lineage_here)
        go (old p s) = ih x d f (sym s ∙ h) q ∙ sym (lineage_old en (at k) x p)

  -- ---- nothing leads down from the root

  descend_root : (b f : ℕ) → distance (at b) r ≡ some 0 → descend sub (at b) f r ≡ []
  unfolding descend
  descend_root b zero h = refl
  descend_root b (suc f) h = go (descent (at b) r sub) refl
    where
      go : (o : Option Pass) → descent (at b) r sub ≡ o → onward o (λ z. descend sub (at b) f z) ≡ []
      go none x = refl
      go (some p) x =
          let w = found (at b) r sub p x in
          let d = down_true (at b) p w.leads in
          absurd (omega (arith, d.sum, same d.at_start (ap (distance (at b)) w.begins ∙ h), (sound p.line w.is_line).long))

  by_root : (k b : ℕ) → suc k ≤ b → (e : Entry) → e.mark ≡ r → e.by ≡ none
      → ((u d f : ℕ) → distance (at k) u ≡ some d → d ≤ f → descend sub (at b) f u ≡ lineage (at k) u)
      → (x d f : ℕ) → distance (e ∷ at k) x ≡ some d → d ≤ f → descend sub (at b) f x ≡ lineage (e ∷ at k) x
  by_root k b le e er eb ih x d f h q = go (after e (at k) x)
    where
      go : After e (at k) x → descend sub (at b) f x ≡ lineage (e ∷ at k) x
      go (new p s) =
          ap (descend sub (at b) f) (sym p ∙ er) ∙ descend_root b f (extends (b - 1) 1 r 0 (root_in 0) b (omega arith))
          ∙ sym (lineage_new e (at k) x p ∙ ap (λ (o : Option Line). via_of o x (λ z. lineage (at k) z)) eb)
      go (old p s) = ih x d f (sym s ∙ h) q ∙ sym (lineage_old e (at k) x p)

  pub descend_lineage : (b k : ℕ) → k ≤ b → (x d f : ℕ) → distance (at k) x ≡ some d → d ≤ f → descend sub (at b) f x ≡ lineage (at k) x
  unfolding grow step distance
  descend_lineage b zero le = λ x d f h q. never h refl
  descend_lineage b (suc k) le = go (lowest (at k) sub) (first_out (at k) (r ∷ [])) refl refl (descend_lineage b k (omega arith))
    where
      go : (o : Option Candidate) (p : Option ℕ) → lowest (at k) sub ≡ o → first_out (at k) (r ∷ []) ≡ p
          → ((u d f : ℕ) → distance (at k) u ≡ some d → d ≤ f → descend sub (at b) f u ≡ lineage (at k) u)
          → (x d f : ℕ) → distance (tr.next (at k) o p) x ≡ some d → d ≤ f → descend sub (at b) f x ≡ lineage (tr.next (at k) o p) x
      go (some c) p a g ih = by_line_lem k b le c a ih
      go none (some y) a g ih = by_root k b le (entry y 0 none) (Memᴰ.eq_of_singleton (first_out_some (at k) (r ∷ []) y g).1) refl ih
      go none none a g ih = ih

  -- ---- the path

  pub shortest_lineage : (b k x d : ℕ) → k ≤ b → distance (at k) x ≡ some d → shortest b sub x r ≡ lineage (at k) x
  unfolding shortest
  shortest_lineage b k x d le h =
      let e : distance (at b) x ≡ some d = extends (b - k) k x d h b (omega arith) in
      descend_lineage b k le x d (or_zero (distance (at b) x)) h (omega (arith, ap or_zero e))

  pub shortest_none : (b x : ℕ) → distance (at b) x ≡ none → shortest b sub x r ≡ []
  unfolding shortest descend
  shortest_none b x h = ap (λ (f : Option ℕ). descend sub (at b) (or_zero f) x) h
