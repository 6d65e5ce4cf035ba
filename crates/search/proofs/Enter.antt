-- The state of a search, mark by mark. Assumes nothing.
use Prim.Native.Nat.{ℕ, ◌+◌, ◌*◌, ◌%◌, ◌≤◌, ◌<◌}
use native.Mathlib.Omega.{arith}
use native.Mathlib.Decide.{ℕ_discrete}
use mathlib.Core.Path.{◌≡◌, refl, sym, ◌∙◌, ap, ap₂, subst}
use mathlib.Core.Logic.{◌⊎◌, inl, inr}
use mathlib.Core.List.{List, ◌∷◌, Memᴰ}
use mathlib.Core.Option.{Option, none, some}
use lib.ListN.{get_or}
use borrow.Author.Tests.{eq-eqb, ne_eqb}
use Rattle.network.specs.Standing.{Line}
use Rattle.network.specs.Tree.{Entry, entry, Tree, Candidate, candidate, distance, score, far, lowest, step}
use Rattle.network.proofs.Grown.{scored, score_of_lem, After, new, old, after, keeps, IsLowest, lowest_none, lowest_some}
use Rattle.network.proofs.Shortest.{same, never}
use Rattle.network.specs.Sound.{Rising}
use Rattle.network.proofs.Without.{lowest_first}
use Rattle.nearest.specs.Heap.{Heap, Changed}
use Rattle.nearest.specs.Heap as hp
use Rattle.nearest.proofs.Tournament.{root_least, root_leaf}
use Rattle.chains.specs.Chains.{Half, fore, aft, mark_of, Has, Given, AllSound, halves}
use Rattle.chains.proofs.Halves.{half_ends, ends_half, half_low, half_no, half_ok, met_on, has_on}
use Rattle.search.specs.Front.{keys, Moved, still, moved, Relaxed, came, By, Key, Keyed, Offer, Front, Nothing, Rest, limit}
use Rattle.search.specs.Front as f

-- ---- the lowest candidate, by what it is

pub lowest_is : (es : Tree) (lines : List Line) → Rising lines → (l : Line) (s : ℕ) → Memᴰ l lines → score es l ≡ some s
    → ((k : Line) (t : ℕ) → Memᴰ k lines → score es k ≡ some t → (s < t) ⊎ ((s ≡ t) × (l.number ≤ k.number)))
    → lowest es lines ≡ some (candidate s l)
lowest_is es lines ris l s m e f = go (lowest es lines) refl
  where
    go : (o : Option Candidate) → lowest es lines ≡ o → o ≡ some (candidate s l)
    go none x = never e (lowest_none es lines x l m)
    go (some c) x = pick (f c.line c.score w.is_line w.its_score)
      where
        w : IsLowest es lines c
        w = lowest_some es lines c x

        is : c.score ≡ s → (c.line ≡ l) ⊎ (c.line.number < l.number) → l.number ≤ c.line.number → some c ≡ some (candidate s l)
        is a (inl b) q = ap some (ap₂ candidate a b)
        is a (inr b) q = absurd (omega arith)

        pick : (s < c.score) ⊎ ((s ≡ c.score) × (l.number ≤ c.line.number)) → some c ≡ some (candidate s l)
        pick (inl lt) = absurd (omega (arith, w.least l s m e))
        pick (inr (a, b)) = is (sym a) (lowest_first es lines ris c x l m (e ∙ ap some a)) b

pub lowest_gone : (es : Tree) (lines : List Line) → ((k : Line) (t : ℕ) → Memᴰ k lines → score es k ≡ some t → ⊥)
    → lowest es lines ≡ none
lowest_gone es lines f = go (lowest es lines) refl
  where
    go : (o : Option Candidate) → lowest es lines ≡ o → o ≡ none
    go none x = refl
    go (some c) x = let w = lowest_some es lines c x in absurd (f c.line c.score w.is_line w.its_score)

pub far_half : (es : Tree) (l : Line) (u v h d : ℕ) → Half l u v h → distance es u ≡ some d → distance es v ≡ none → far es l ≡ v
unfolding far
far_half es l u v h d (fore p q e) a b = rw (p, a) q
far_half es l u v h d (aft p q e) a b = rw (q, b)

pub step_some : (lines : List Line) (roots : List ℕ) (es : Tree) (c : Candidate) → lowest es lines ≡ some c
    → step lines roots es ≡ entry (far es c.line) c.score (some c.line) ∷ es
unfolding step
step_some lines roots es c h = rw h

-- ---- what is popped

pub record Pop (sub : List Line) (n : ℕ) (es : Tree) (best ends : List ℕ) (key : ℕ) : Type 0 where
  pub l : Line
  pub u : ℕ
  pub d : ℕ
  pub is_line : Memᴰ l sub
  pub half : Half l u (mark_of ends (key % halves)) (key % halves)
  pub is_in : distance es u ≡ some d
  pub is_out : distance es (mark_of ends (key % halves)) ≡ none
  pub small : mark_of ends (key % halves) < n
  pub sum : key ≡ (d + l.length) * halves + key % halves
  pub known : get_or best (mark_of ends (key % halves)) 0 ≡ key
  pub is_lowest : lowest es sub ≡ some (candidate (d + l.length) l)

module _ (sub : List Line) (n : ℕ) (es : Tree) (best seg ends : List ℕ) (ris : Rising sub) (sound : AllSound n sub)
    (marked : (l : Line) (u v h : ℕ) → Memᴰ l sub → Half l u v h → mark_of ends h ≡ v)
    (heap : Heap seg n) (fr : Front sub n es best seg ends Nothing)
    (near : (m d : ℕ) → distance es m ≡ some d → d ≤ 100000000) where
  -- each line with a score has a leaf no higher than its key
  scored_under : (k : Line) (t : ℕ) → Memᴰ k sub → score es k ≡ some t
      → (h : ℕ) × (get_or seg 1 0 ≤ t * halves + h) × (h ≤ 2 * k.number + 1) × (t * halves + h < limit) × (h < halves)
  scored_under k t m e =
      let w = scored es k t e in
      let hh = ends_half w.ends in
      let ok = half_ok (sound k m) hh.1 in
      let low : hh.0 < halves = half_low (sound k m) hh.1 in
      let num = half_no hh.1 in
      let o = fr.opened w.away ok.1 w.is_out in
      let r = root_least seg n heap w.away ok.1 in
      let bound = go (fr.under k w.near w.away hh.0 w.d m hh.1 w.is_in w.is_out) in (
        hh.0,
        omega (arith, o, r, bound, w.sum),
        num.1,
        omega (arith, w.sum, low, near w.near w.d w.is_in, (sound k m).short),
        low,
      )
    where
      go : {x y : ℕ} → ⊥ ⊎ (x ≤ y) → x ≤ y
      go (inl z) = absurd z
      go (inr z) = z

  pub pop_none : limit ≤ get_or seg 1 0 → lowest es sub ≡ none
  pop_none h = lowest_gone es sub (λ k t m e. let s = scored_under k t m e in omega (arith, s.1, s.3))

  pub pop_some : get_or seg 1 0 < limit → Pop sub n es best ends (get_or seg 1 0)
  pop_some lt = go (root_leaf seg n heap)
    where
      key : ℕ
      key = get_or seg 1 0

      made : (m : ℕ) → m < n → get_or seg 1 0 ≡ get_or best m 0 → distance es m ≡ none → Offer sub es best m
          → Pop sub n es best ends (get_or seg 1 0)
      made m ok e out o =
          let low : o.h < halves = half_low (sound o.l o.is_line) o.half in
          let hm : get_or seg 1 0 % halves ≡ o.h = omega (arith, e, o.key) in
          let tm : mark_of ends (get_or seg 1 0 % halves) ≡ m = ap (λ (z : ℕ). mark_of ends z) hm
          ∙ marked o.l o.u m o.h o.is_line o.half in
          let sc : score es o.l ≡ some (o.d + o.l.length) = score_of_lem es o.l o.u m o.d (half_ends o.half) o.is_in out in
          let num = half_no o.half in
          record {
            l = o.l;
            u = o.u;
            d = o.d;
            is_line = o.is_line;
            half = rw (hm, marked o.l o.u m o.h o.is_line o.half) o.half;
            is_in = o.is_in;
            is_out = rw tm out;
            small = rw tm ok;
            sum = omega (arith, e, o.key, hm);
            known = rw tm (sym e);
            is_lowest =
                lowest_is es sub ris o.l (o.d + o.l.length) o.is_line sc
                (λ k t i q. cmp k t (o.d + o.l.length) o.h low num.0 (scored_under k t i q) (e ∙ o.key));
          }
        where
          cmp : (k : Line) (t s h : ℕ) → h < halves → 2 * o.l.number ≤ h
              → (g : ℕ) × (get_or seg 1 0 ≤ t * halves + g) × (g ≤ 2 * k.number + 1) × (t * halves + g < limit) × (g < halves)
              → get_or seg 1 0 ≡ s * halves + h → (s < t) ⊎ ((s ≡ t) × (o.l.number ≤ k.number))
          cmp k t s h a b (g, c, i, j, w) e' = dec (ℕ_discrete s t)
            where
              dec : Dec (s ≡ t) → (s < t) ⊎ ((s ≡ t) × (o.l.number ≤ k.number))
              dec (yes z) = inr (z, omega arith)
              dec (no z) = inl (omega arith)

      hit : (m : ℕ) → m < n → get_or seg 1 0 ≡ get_or seg (n + m) 0 → (d : Option ℕ) → distance es m ≡ d
          → Pop sub n es best ends (get_or seg 1 0)
      hit m ok e (some d) x = absurd (omega (arith, fr.closed m d ok x))
      hit m ok e none x = pick (fr.offered m ok x)
        where
          eb : get_or seg 1 0 ≡ get_or best m 0
          eb = e ∙ fr.opened m ok x

          pick : (get_or best m 0 ≡ hp.far) ⊎ Offer sub es best m → Pop sub n es best ends (get_or seg 1 0)
          pick (inl z) = absurd (omega (arith, eb, z))
          pick (inr o) = made m ok eb x o

      go : (m : ℕ) × (m < n) × (get_or seg 1 0 ≡ get_or seg (n + m) 0) → Pop sub n es best ends (get_or seg 1 0)
      go (m, ok, e) = hit m ok e (distance es m) refl

-- ---- a mark enters

pub came_new : (e : Entry) (es : Tree) (m : ℕ) → e.mark ≡ m → came (e ∷ es) m ≡ e.by
unfolding came
came_new e es m h = rw (eq-eqb e.mark m h)

pub came_old : (e : Entry) (es : Tree) (m : ℕ) → (e.mark ≡ m → ⊥) → came (e ∷ es) m ≡ came es m
unfolding came
came_old e es m h = rw (ne_eqb e.mark m h)

pub by_old : (e : Entry) (es : Tree) (ends : List ℕ) (m d h : ℕ) → distance es e.mark ≡ none → (e.mark ≡ m → ⊥) → By es ends m d h
    → By (e ∷ es) ends m d h
by_old e es ends m d h out x (f.root a b c) = f.root (came_old e es m x ∙ a) b c
by_old e es ends m d h out x (f.line l u du a b c t i s) = f.line l u du (came_old e es m x ∙ a) b c t (keeps e es u du out i) s

-- what the marks are known by stays, and the new one has its own
pub keyed_enter : (es : Tree) (e : Entry) (best best' ends : List ℕ) → distance es e.mark ≡ none → Keyed es best ends
    → Key (e ∷ es) best' ends e.mark e.dist
    → ((m : ℕ) → (m ≡ e.mark → ⊥) → get_or best' m 0 ≡ get_or best m 0) → Keyed (e ∷ es) best' ends
keyed_enter es e best best' ends out held mine others m d h = go (after e es m)
  where
    go : After e es m → Key (e ∷ es) best' ends m d
    go (new p q) =
        subst (λ (z : ℕ). Key (e ∷ es) best' ends z d) p (subst (λ (z : ℕ). Key (e ∷ es) best' ends e.mark z) (same q h) mine)
    go (old p q) =
        let k = held m d (sym q ∙ h) in
        record { h = k.h; low = k.low; key = others m (λ z. p (sym z)) ∙ k.key; by = by_old e es ends m d k.h out p k.by }

module _ (sub : List Line) (n : ℕ) (head next ends : List ℕ) (gv : Given sub n head next ends) (es : Tree) (e : Entry)
    (best seg best' seg' : List ℕ) (out : distance es e.mark ≡ none) (small : e.mark < n) where
  pub front_enter : Front sub n es best seg ends Nothing → Key (e ∷ es) best' ends e.mark e.dist
      → ((m : ℕ) → (m ≡ e.mark → ⊥) → get_or best' m 0 ≡ get_or best m 0)
      → Changed seg seg' n e.mark hp.far → Front sub n (e ∷ es) best' seg' ends (Rest next ends e.mark (get_or head e.mark 0))
  front_enter fr mine others ch = record {
    inside = λ m d h. inside m d h (after e es m);
    keyed = keyed_enter es e best best' ends out fr.keyed mine others;
    closed = λ m d ok h. closed m d ok h (after e es m);
    opened = λ m ok h. opened m ok h (after e es m);
    offered = λ m ok h. offered m ok h (after e es m);
    under = λ l u v h d i j a b. under l u v h d i j a b (after e es u) (after e es v);
  }
    where
      inside : (m d : ℕ) → distance (e ∷ es) m ≡ some d → After e es m → m < n
      inside m d h (new p q) = subst (λ (z : ℕ). z < n) p small
      inside m d h (old p q) = fr.inside m d (sym q ∙ h)

      closed : (m d : ℕ) → m < n → distance (e ∷ es) m ≡ some d → After e es m → get_or seg' (n + m) 0 ≡ hp.far
      closed m d ok h (new p q) = ap (λ (z : ℕ). get_or seg' (n + z) 0) (sym p) ∙ ch.here
      closed m d ok h (old p q) = ch.others m ok (λ z. p (sym z)) ∙ fr.closed m d ok (sym q ∙ h)

      opened : (m : ℕ) → m < n → distance (e ∷ es) m ≡ none → After e es m → get_or seg' (n + m) 0 ≡ get_or best' m 0
      opened m ok h (new p q) = never q h
      opened m ok h (old p q) = ch.others m ok (λ z. p (sym z)) ∙ fr.opened m ok (sym q ∙ h) ∙ sym (others m (λ z. p (sym z)))

      lift : (m : ℕ) → (e.mark ≡ m → ⊥) → (get_or best m 0 ≡ hp.far) ⊎ Offer sub es best m
          → (get_or best' m 0 ≡ hp.far) ⊎ Offer sub (e ∷ es) best' m
      lift m p (inl z) = inl (others m (λ z. p (sym z)) ∙ z)
      lift m p (inr o) = inr (record {
        l = o.l;
        u = o.u;
        h = o.h;
        d = o.d;
        is_line = o.is_line;
        half = o.half;
        is_in = keeps e es o.u o.d out o.is_in;
        key = others m (λ z. p (sym z)) ∙ o.key;
      })

      offered : (m : ℕ) → m < n → distance (e ∷ es) m ≡ none → After e es m → (get_or best' m 0 ≡ hp.far) ⊎ Offer sub (e ∷ es) best' m
      offered m ok h (new p q) = never q h
      offered m ok h (old p q) = lift m p (fr.offered m ok (sym q ∙ h))

      bound : {v x : ℕ} → (e.mark ≡ v → ⊥) → ⊥ ⊎ (get_or best v 0 ≤ x) → {T : Type 0} → T ⊎ (get_or best' v 0 ≤ x)
      bound p (inl z) = absurd z
      bound {v = v} p (inr z) = inr (omega (arith, z, others v (λ w. p (sym w))))

      under : (l : Line) (u v h d : ℕ) → Memᴰ l sub → Half l u v h → distance (e ∷ es) u ≡ some d → distance (e ∷ es) v ≡ none
          → After e es u → After e es v
          → (Rest next ends e.mark (get_or head e.mark 0) u v (l.length * halves + h)) ⊎
          (get_or best' v 0 ≤ (d + l.length) * halves + h)
      under l u v h d i j a b x (new p q) = never q b
      under l u v h d i j a b (new p q) (old p' q') =
          inl (sym p, subst (λ (z : ℕ). Has next ends (get_or head z 0) v (l.length * halves + h)) (sym p) (has_on gv l u v h i j))
      under l u v h d i j a b (old p q) (old p' q') = bound p' (fr.under l u v h d i j (sym q ∙ a) (sym q' ∙ b))

-- ---- its nodes are offered

module _ (sub : List Line) (n : ℕ) (head next ends : List ℕ) (gv : Given sub n head next ends) (es : Tree) (m dm : ℕ)
    (best seg best' seg' : List ℕ) (ok : m < n) (is_in : distance es m ≡ some dm)
    (sound : AllSound n sub) (newest : (l : Line) (x h dx : ℕ) → Memᴰ l sub → Half l m x h → distance es x ≡ some dx
    → dx < dm + l.length)
    (rx : Relaxed n next ends (keys best seg) (keys best' seg') (get_or head m 0) (dm * halves)) where
  pub front_relaxed : Front sub n es best seg ends (Rest next ends m (get_or head m 0)) → Front sub n es best' seg' ends Nothing
  front_relaxed fr = record {
    inside = fr.inside;
    keyed = λ x d h. let k = fr.keyed x d h in
        record { h = k.h; low = k.low; key = (settled x d h (rx.each x (fr.inside x d h))).0 ∙ k.key; by = k.by };
    closed = λ x d a h. (settled x d h (rx.each x a)).1 ∙ fr.closed x d a h;
    opened = λ x a h. opened x a h (rx.each x a);
    offered = λ x a h. offered x a h (rx.each x a) (fr.offered x a h);
    under = λ l u v h d i j a b. under l u v h d i j a b (fr.under l u v h d i j a b);
  }
    where
      settled : (x d : ℕ) → distance es x ≡ some d → Moved n next ends (keys best seg) (keys best' seg') (get_or head m 0) (dm * halves) x
          → (get_or best' x 0 ≡ get_or best x 0) × (get_or seg' (n + x) 0 ≡ get_or seg (n + x) 0)
      settled x d h (still a b) = (a, b)
      settled x d h (moved j on leads val lt s) =
          let nd = met_on gv m j ok on in
          let hf : Half nd.l m x j = subst (λ (z : ℕ). Half nd.l m z j) leads nd.half in
          let k = fr.keyed x d h in
          absurd (omega (arith, newest nd.l x j d nd.is_line hf h, val, lt, nd.sum, k.key, k.low))

      opened : (x : ℕ) → x < n → distance es x ≡ none
          → Moved n next ends (keys best seg) (keys best' seg') (get_or head m 0) (dm * halves) x
          → get_or seg' (n + x) 0 ≡ get_or best' x 0
      opened x a h (still p q) = q ∙ fr.opened x a h ∙ sym p
      opened x a h (moved j on leads val lt s) = s

      offered : (x : ℕ) → x < n → distance es x ≡ none
          → Moved n next ends (keys best seg) (keys best' seg') (get_or head m 0) (dm * halves) x
          → (get_or best x 0 ≡ hp.far) ⊎ Offer sub es best x → (get_or best' x 0 ≡ hp.far) ⊎ Offer sub es best' x
      offered x a h (still p q) (inl z) = inl (p ∙ z)
      offered x a h (still p q) (inr o) = inr (record {
        l = o.l;
        u = o.u;
        h = o.h;
        d = o.d;
        is_line = o.is_line;
        half = o.half;
        is_in = o.is_in;
        key = p ∙ o.key;
      })
      offered x a h (moved j on leads val lt s) z =
          let nd = met_on gv m j ok on in
          inr (record {
            l = nd.l;
            u = m;
            h = j;
            d = dm;
            is_line = nd.is_line;
            half = subst (λ (z : ℕ). Half nd.l m z j) leads nd.half;
            is_in = is_in;
            key = omega (arith, val, nd.sum);
          })

      less : (v : ℕ) → Moved n next ends (keys best seg) (keys best' seg') (get_or head m 0) (dm * halves) v
          → get_or best' v 0 ≤ get_or best v 0
      less v (still p q) = omega (arith, p)
      less v (moved j on leads val lt s) = omega arith

      under : (l : Line) (u v h d : ℕ) → Memᴰ l sub → Half l u v h → distance es u ≡ some d → distance es v ≡ none
          → (Rest next ends m (get_or head m 0) u v (l.length * halves + h)) ⊎ (get_or best v 0 ≤ (d + l.length) * halves + h)
          → ⊥ ⊎ (get_or best' v 0 ≤ (d + l.length) * halves + h)
      under l u v h d i j a b (inl (p, q)) =
          let e : d ≡ dm = same (ap (distance es) (sym p) ∙ a) is_in in
          let t = rx.under q.h q.on in
          inr (omega (arith, e, t, q.sum, ap (λ (z : ℕ). get_or best' z 0) q.leads))
      under l u v h d i j a b (inr z) = inr (omega (arith, z, less v (rx.each v (half_ok (sound l i) j).1)))
