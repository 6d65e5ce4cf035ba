-- A closed way, begun with its lowest line, positive: a loop that hangs at a mark on it. Assumes nothing.
use Prim.Native.Nat.{ℕ, ◌≤◌}
use native.Mathlib.Omega.{arith}
use mathlib.Core.Path.{◌≡◌, refl, sym, ◌∙◌, ap, subst, subst₂}
use mathlib.Core.Bool.{Bool, true, false, not, cond}
use mathlib.Core.List.{List, [], ◌∷◌, ◌++◌}
use mathlib.Core.List.Memᴰ
use mathlib.Core.List.{Memᴰ}
use Rattle.network.specs.Standing.{Line}
use Rattle.network.specs.Walk.{Pass, pass, flip, end, start, stop, Walk, here, step, marks_on, OnlyOnce}
use Rattle.network.proofs.Pairwise.{pairwise_first}
use Rattle.network.proofs.Walks.{walk_append, flip_start, flip_stop}
use Rattle.links.specs.Link.{Link, turned_way, begun_with, lowest_line, begun}
use Rattle.links.specs.Shape.{IsLoop, times_run}
use Rattle.links.proofs.Turning.{walk_turned}
use Rattle.links.proofs.Lowest.{IsLowest, lowest_is}
use Rattle.links.proofs.Begun.{BegunAt, begins_at, begun_each, begun_times}
use Rattle.links.specs.Stage.{DrawnWay}
use Rattle.links.proofs.EachLine.{only_once}

-- ---- marks on a way

-- a walk comes to its last mark
end_on : {ls : List Line} {r u : ℕ} {w : List Pass} → Walk ls r u w → Memᴰ r (marks_on u w)
unfolding marks_on
end_on (here e) = Memᴰ.head (sym e)
end_on (step s m x) = Memᴰ.tail (end_on x)

-- the marks on a way are on every way that goes on from it
marks_more : (u m : ℕ) (v w : List Pass) → Memᴰ m (marks_on u v) → Memᴰ m (marks_on u (v ++ w))
unfolding marks_on
marks_more u m [] [] i = i
marks_more u m [] (q ∷ w) (Memᴰ.head e) = Memᴰ.head e
marks_more u m [] (q ∷ w) (Memᴰ.tail i) = absurd (Memᴰ.not-nil i)
marks_more u m (p ∷ v) w (Memᴰ.head e) = Memᴰ.head e
marks_more u m (p ∷ v) w (Memᴰ.tail i) = Memᴰ.tail (marks_more (stop p) m v w i)

-- and on the way back
marks_turned : {ls : List Line} {r u : ℕ} {w : List Pass} → Walk ls r u w → (m : ℕ) → Memᴰ m (marks_on u w)
    → Memᴰ m (marks_on r (turned_way w))
unfolding marks_on turned_way
marks_turned (here e) m (Memᴰ.head z) = Memᴰ.head (z ∙ e)
marks_turned (here e) m (Memᴰ.tail i) = absurd (Memᴰ.not-nil i)
marks_turned (step {p = p} s i x) m (Memᴰ.head z) = Memᴰ.cast z (end_on (walk_turned (step {p = p} s i x)))
marks_turned {r = r} (step {p = p} {ps = ps} s i x) m (Memᴰ.tail j) =
    marks_more r m (turned_way ps) (flip p ∷ []) (marks_turned x m j)

-- a walk along a way of two parts is a walk along each
walk_parts : {ls : List Line} {r u : ℕ} (v w : List Pass) → Walk ls r u (v ++ w) → (m : ℕ) × Walk ls m u v × Walk ls r m w
walk_parts {u = u} [] w x = (u, here refl, x)
walk_parts (p ∷ v) w (step s i x) = let k = walk_parts v w x in (k.0, step s i k.1, k.2)

-- ---- rings

-- the pass q and then the way w lead back to where q starts; they come through mark h
pub record Ring (lines : List Line) (h : ℕ) (q : Pass) (w : List Pass) : Type 0 where
  pub is_line : Memᴰ q.line lines
  pub back : Walk lines (start q) (stop q) w
  pub through : Memᴰ h (marks_on (stop q) w)

-- a ring run the other way is a ring
turned_ring : {lines : List Line} {h : ℕ} {q : Pass} {w : List Pass} → Ring lines h q w → Ring lines h (flip q) (turned_way w)
turned_ring {lines = lines} {h = h} {q = q} {w = w} x = record {
  is_line = x.is_line;
  back = subst₂ (λ (r u : ℕ). Walk lines r u (turned_way w)) (sym (flip_start q)) (sym (flip_stop q)) (walk_turned x.back);
  through = subst (λ (u : ℕ). Memᴰ h (marks_on u (turned_way w))) (sym (flip_stop q)) (marks_turned x.back h x.through);
}

-- a walk from mark h back to it, begun with one of its passes
ring_of : {lines : List Line} {h : ℕ} (before : List Pass) (p : Pass) (after : List Pass) → Walk lines h h (before ++ p ∷ after)
    → Ring lines h p (after ++ before)
ring_of {lines = lines} {h = h} before p after x = go (walk_parts before (p ∷ after) x)
  where
    go : (m : ℕ) × Walk lines m h before × Walk lines h m (p ∷ after) → Ring lines h p (after ++ before)
    go (m, y, step s i z) = record {
      is_line = i;
      back = walk_append z (subst (λ (r : ℕ). Walk lines r h before) (sym s) y);
      through = marks_more (stop p) h after before (end_on z);
    }

-- ---- loops

-- a ring that begins forward is a loop, where its first line is the lowest and no line is run twice
loop_of : {lines : List Line} {h : ℕ} {q : Pass} {w : List Pass} → Ring lines h q w → q.forward ≡ true → OnlyOnce (q ∷ w)
    → ((p : Pass) → Memᴰ p w → q.line.number ≤ p.line.number) → (x : Link) → x.way ≡ q ∷ w → x.first ≡ h → x.last ≡ h
    → IsLoop lines x
unfolding marks_on
loop_of {lines = lines} {h = h} {q = q} {w = w} r f once least x e a z = record {
  lowest = q.line;
  rest = w;
  begins = begins;
  is_lowest = λ p i. let other = pairwise_first once p i in omega (arith, least p i);
  closed = subst (Walk lines q.line.from q.line.from) (sym e)
      (step from r.is_line (subst (λ (m : ℕ). Walk lines m (stop q) w) from r.back));
  once_each = subst OnlyOnce (sym e) once;
  hangs = subst (λ (v : List Pass). Memᴰ x.first (marks_on q.line.from v)) (sym e)
      (Memᴰ.tail (Memᴰ.cast a r.through));
  itself = a ∙ sym z;
}
  where
    begins : x.way ≡ pass q.line true ∷ w
    begins = e ∙ ap (λ (t : Bool). pass q.line t ∷ w) f

    -- run forward, the first line starts at its from
    from : start q ≡ q.line.from
    from = ap (λ (t : Bool). end t q.line.from q.line.to) f

-- a link that closes on itself and runs no line twice, begun with its lowest line, positive, is a loop
pub begun_loop : {b : ℕ} {lines : List Line} (x : Link) → DrawnWay b lines x → x.first ≡ x.last → ((n : ℕ) → times_run n x.way ≤ 1)
    → IsLoop lines (begun x)
unfolding times_run
begun_loop {lines = lines} x d closes few = go (begins_at n [] x.way low.its low.is_in low.number_is)
  where
    n : ℕ
    n = lowest_line x.way

    low : IsLowest n x.way
    low = lowest_is x.way d.drawn.some_line

    go : BegunAt n x.way (begun_with n [] x.way) → IsLoop lines (begun x)
    go w = turn w.its.forward refl
      where
        rest : List Pass
        rest = w.after ++ w.before

        ring : Ring lines x.first w.its rest
        ring = ring_of w.before w.its w.after
            (subst₂ (λ (r : ℕ) (v : List Pass). Walk lines r x.first v) (sym closes) w.way_is d.walks)

        once : OnlyOnce (begun x).way
        once = only_once (begun x).way (λ m. omega (arith, begun_times m n [] x.way, few m))

        least : (p : Pass) → Memᴰ p (begun x).way → n ≤ p.line.number
        least = begun_each (λ (l : Line). n ≤ l.number) n [] x.way (λ p i. absurd (Memᴰ.not-nil i)) low.least

        -- begun with the pass q, whichever way it is run
        with_pass : (q : Pass) (v : List Pass) → (begun x).way ≡ q ∷ v → Ring lines x.first q v → q.forward ≡ true
            → q.line.number ≡ n → IsLoop lines (begun x)
        with_pass q v e r f z =
            loop_of r f (subst OnlyOnce e once)
            (λ p i. omega (arith, z, least p (subst (Memᴰ p) (sym e) (Memᴰ.tail i)))) (begun x) e refl (sym closes)

        turn : (t : Bool) → w.its.forward ≡ t → IsLoop lines (begun x)
        turn true f =
            with_pass w.its rest (w.then ∙ ap (λ (t : Bool). cond t (w.its ∷ rest) (flip w.its ∷ turned_way rest)) f) ring f
            w.number_is
        turn false f =
            with_pass (flip w.its) (turned_way rest)
            (w.then ∙ ap (λ (t : Bool). cond t (w.its ∷ rest) (flip w.its ∷ turned_way rest)) f) (turned_ring ring) (ap not f)
            w.number_is
