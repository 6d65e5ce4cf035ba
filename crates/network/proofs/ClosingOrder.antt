-- The closing lines are in document 01's order, and no other list of them is. Assumes nothing.
use Prim.Native.Nat.{ℕ, ◌≤◌, ◌<◌}
use native.Mathlib.Omega.{arith}
use native.Mathlib.Decide.{ℕ_discrete}
use mathlib.Core.Path.{◌≡◌, refl, sym, ◌∙◌, ap, ap₂, subst}
use mathlib.Core.Logic.{◌⊎◌, inl, inr, ◌↔◌}
use mathlib.Core.Bool.{Bool, true, false, not, ◌&&◌}
use mathlib.Core.List.Memᴰ
use mathlib.Core.List.{List, [], ◌∷◌, ◌++◌, Memᴰ}
use mathlib.Core.Option.{Option, none, some, some-injective, none-ne-some}
use lib.Dec.{eqb, leb}
use borrow.Author.Tests.{leb-true, leb-false, eqb-true, eqb-false, eq-eqb, ne_eqb, not-true}
use Rattle.network.specs.Standing.{Line}
use Rattle.network.specs.Sound.{Rising, none_left, then}
use Rattle.network.specs.Pairwise.{Pairwise, no_pair, pairs}
use Rattle.network.specs.Tree.{Entry, Tree, Candidate, candidate, score, far}
use Rattle.network.specs.Closing.{insert, insert_of, same_line, closer_of, closers_at, just_lines, closing}
use Rattle.network.specs.ClosingOrder.{ClosesAt, Sooner, ClosingOrder, none_yet, closed_at}
use Rattle.network.proofs.Descent.{and_true}
use Rattle.network.proofs.Pairwise.{pairwise_unique}

-- ---- what `insert` holds, and that it keeps the order

in_insert : (a : Candidate) (cs : List Candidate) (x : Candidate) → (x ≡ a) ⊎ Memᴰ x cs → Memᴰ x (insert a cs)
unfolding insert
in_insert a [] x (inl e) = Memᴰ.head e
in_insert a [] x (inr m) = absurd (Memᴰ.not-nil m)
in_insert a (c ∷ cs) x h = go (leb a.score c.score) h (in_insert a cs x)
  where
    go : (t : Bool) → (x ≡ a) ⊎ Memᴰ x (c ∷ cs) → ((x ≡ a) ⊎ Memᴰ x cs → Memᴰ x (insert a cs))
        → Memᴰ x (insert_of t a (c ∷ cs) (c ∷ insert a cs))
    go true (inl e) ih = Memᴰ.head e
    go true (inr m) ih = Memᴰ.tail m
    go false (inl e) ih = Memᴰ.tail (ih (inl e))
    go false (inr (Memᴰ.head e)) ih = Memᴰ.head e
    go false (inr (Memᴰ.tail m)) ih = Memᴰ.tail (ih (inr m))

of_insert : (a : Candidate) (cs : List Candidate) (x : Candidate) → Memᴰ x (insert a cs) → (x ≡ a) ⊎ Memᴰ x cs
unfolding insert
of_insert a [] x (Memᴰ.head e) = inl e
of_insert a [] x (Memᴰ.tail m) = absurd (Memᴰ.not-nil m)
of_insert a (c ∷ cs) x h = go (leb a.score c.score) h (of_insert a cs x)
  where
    late : (x ≡ a) ⊎ Memᴰ x cs → (x ≡ a) ⊎ Memᴰ x (c ∷ cs)
    late (inl e) = inl e
    late (inr m) = inr (Memᴰ.tail m)

    go : (t : Bool) → Memᴰ x (insert_of t a (c ∷ cs) (c ∷ insert a cs)) → (Memᴰ x (insert a cs) → (x ≡ a) ⊎ Memᴰ x cs)
        → (x ≡ a) ⊎ Memᴰ x (c ∷ cs)
    go true (Memᴰ.head e) ih = inl e
    go true (Memᴰ.tail m) ih = inr m
    go false (Memᴰ.head e) ih = inr (Memᴰ.head e)
    go false (Memᴰ.tail m) ih = late (ih m)

-- a candidate of lower number than all is put in its place
order_insert : (a : Candidate) {cs : List Candidate} → Pairwise Sooner cs
    → ((k : Candidate) → Memᴰ k cs → a.line.number < k.line.number)
    → Pairwise Sooner (insert a cs)
unfolding insert
order_insert a no_pair low = pairs (λ k i. absurd (Memᴰ.not-nil i)) no_pair
order_insert a (pairs {a = c} {rest = cs} f p) low =
    go (leb a.score c.score) refl (order_insert a p (λ k i. low k (Memᴰ.tail i)))
  where
    -- a candidate whose score is not below that of a comes after it
    after_a : (k : Candidate) → a.score ≤ k.score → a.line.number < k.line.number → Sooner a k
    after_a k le lt = pick (ℕ_discrete a.score k.score)
      where
        pick : Dec (a.score ≡ k.score) → Sooner a k
        pick (yes e) = inr (e, lt)
        pick (no n) = inl (omega arith)

    not_over : (k : Candidate) → Sooner c k → c.score ≤ k.score
    not_over k (inl x) = omega arith
    not_over k (inr x) = omega (arith, x.0)

    first : a.score ≤ c.score → (k : Candidate) → Memᴰ k (c ∷ cs) → Sooner a k
    first le k (Memᴰ.head e) = after_a k (omega (arith, ap (λ (x : Candidate). x.score) e)) (low k (Memᴰ.head e))
    first le k (Memᴰ.tail i) = after_a k (omega (arith, not_over k (f k i))) (low k (Memᴰ.tail i))

    later : c.score < a.score → (k : Candidate) → (k ≡ a) ⊎ Memᴰ k cs → Sooner c k
    later lt k (inl e) = inl (omega (arith, ap (λ (x : Candidate). x.score) e))
    later lt k (inr i) = f k i

    go : (t : Bool) → leb a.score c.score ≡ t → Pairwise Sooner (insert a cs)
        → Pairwise Sooner (insert_of t a (c ∷ cs) (c ∷ insert a cs))
    go true e ih = pairs (first (leb-true a.score c.score e)) (pairs f p)
    go false e ih = pairs (λ k i. later (leb-false a.score c.score e) k (of_insert a cs k i)) ih

-- ---- what closes at an entry

-- a line of another number than the one that entered is not the same line
pub not_same : (o : Option Line) (l : Line) → ((k : Line) → o ≡ some k → k.number ≡ l.number → ⊥) → same_line o l ≡ false
not_same none l h = refl
not_same (some k) l h = ne_eqb k.number l.number (h k refl)

-- and the other way
pub of_not_same : (o : Option Line) (l : Line) → same_line o l ≡ false → (k : Line) → o ≡ some k → k.number ≡ l.number → ⊥
of_not_same none l h k e z = none-ne-some k e
of_not_same (some j) l h k e z = eqb-false j.number l.number h (ap (λ (x : Line). x.number) (some-injective j k e) ∙ z)

-- what closes at an entry is among `closers_at`
pub in_closers_at : (es : Tree) (e : Entry) (lines : List Line) (c : Candidate) → ClosesAt lines es e c → Memᴰ c (closers_at es e lines)
unfolding closers_at
in_closers_at es e [] c w = absurd (Memᴰ.not-nil w.is_line)
in_closers_at es e (k ∷ ls) c w =
    go w.is_line (λ m. in_closers_at es e ls c (record {
      is_line = m;
      its_score = w.its_score;
      reaches = w.reaches;
      not_entered
          = w.not_entered;
    }))
  where
    rest : List Candidate
    rest = closers_at es e ls

    later : (t : Bool) (o : Option ℕ) → Memᴰ c rest → Memᴰ c (closer_of t o k rest)
    later true none m = m
    later true (some s) m = in_insert (candidate s k) rest c (inr m)
    later false o m = m

    go : Memᴰ c.line (k ∷ ls) → (Memᴰ c.line ls → Memᴰ c rest)
        → Memᴰ c (closer_of (eqb (far es k) e.mark && not (same_line e.by k)) (score es k) k rest)
    go (Memᴰ.head x) ih =
        rw (
          sym (ap (score es) x) ∙ w.its_score,
          eq-eqb (far es k) e.mark (sym (ap (far es) x) ∙ w.reaches),
          sym (ap (same_line e.by) x) ∙ not_same e.by c.line w.not_entered,
        )
        (in_insert (candidate c.score k) rest c (inl (ap (candidate c.score) x)))
    go (Memᴰ.tail m) ih = later (eqb (far es k) e.mark && not (same_line e.by k)) (score es k) (ih m)

-- and nothing else is
pub of_closers_at : (es : Tree) (e : Entry) (lines : List Line) (c : Candidate) → Memᴰ c (closers_at es e lines) → ClosesAt lines es e c
unfolding closers_at
of_closers_at es e [] c m = absurd (Memᴰ.not-nil m)
of_closers_at es e (k ∷ ls) c m = go (eqb (far es k) e.mark && not (same_line e.by k)) (score es k) refl refl m (of_closers_at es e ls c)
  where
    rest : List Candidate
    rest = closers_at es e ls

    wide : ClosesAt ls es e c → ClosesAt (k ∷ ls) es e c
    wide w = record { is_line = Memᴰ.tail w.is_line; its_score = w.its_score; reaches = w.reaches; not_entered = w.not_entered }

    go : (t : Bool) (o : Option ℕ) → (eqb (far es k) e.mark && not (same_line e.by k)) ≡ t → score es k ≡ o
        → Memᴰ c (closer_of t o k rest) → (Memᴰ c rest → ClosesAt ls es e c) → ClosesAt (k ∷ ls) es e c
    go true none x y m ih = wide (ih m)
    go false o x y m ih = wide (ih m)
    go true (some s) x y m ih = hit (of_insert (candidate s k) rest c m)
      where
        hit : (c ≡ candidate s k) ⊎ Memᴰ c rest → ClosesAt (k ∷ ls) es e c
        hit (inr i) = wide (ih i)
        hit (inl z) =
            let t = and_true (eqb (far es k) e.mark) (not (same_line e.by k)) x in
            subst (λ (d : Candidate). ClosesAt (k ∷ ls) es e d) (sym z) (record {
              is_line = Memᴰ.head refl;
              its_score = y;
              reaches = eqb-true (far es k) e.mark t.0;
              not_entered = of_not_same e.by k (not-true (same_line e.by k) t.1);
            })

-- they are "by score, then number"
pub order_closers_at : (es : Tree) (e : Entry) {lines : List Line} → Rising lines → Pairwise Sooner (closers_at es e lines)
unfolding closers_at
order_closers_at es e none_left = no_pair
order_closers_at es e (then {l = l} {ls = ls} above r) =
    go (eqb (far es l) e.mark && not (same_line e.by l)) (score es l) (order_closers_at es e r)
  where
    go : (t : Bool) (o : Option ℕ) → Pairwise Sooner (closers_at es e ls) → Pairwise Sooner (closer_of t o l (closers_at es e ls))
    go false o d = d
    go true none d = d
    go true (some s) d = order_insert (candidate s l) d (λ k i. above k.line (of_closers_at es e ls k i).is_line)

-- ---- the theorems

sooner_both : (c d : Candidate) → Sooner c d → Sooner d c → ⊥
sooner_both c d (inl x) (inl y) = omega arith
sooner_both c d (inl x) (inr y) = omega (arith, y.0)
sooner_both c d (inr x) (inl y) = omega (arith, x.0)
sooner_both c d (inr x) (inr y) = omega (arith, x.1, y.1)

-- only one list of candidates is "by score, then number"
pub sooner_unique : {cs ds : List Candidate} → Pairwise Sooner cs → Pairwise Sooner ds
    → ((c : Candidate) → Memᴰ c cs ↔ Memᴰ c ds) → cs ≡ ds
sooner_unique p q h = pairwise_unique sooner_both p q h

-- what `closing` gives is in document 01's order
pub closing_in_order : {lines : List Line} → Rising lines → (es : Tree) → ClosingOrder lines es (closing lines es)
unfolding closing
closing_in_order rising [] = none_yet
closing_in_order {lines = lines} rising (e ∷ es) =
    closed_at (closing_in_order rising es) (order_closers_at es e rising) (λ c. (of_closers_at es e lines c, in_closers_at es e lines c))

-- and there is no other such order
pub closing_order_unique : {lines : List Line} {es : Tree} {xs ys : List Line} → ClosingOrder lines es xs → ClosingOrder lines es ys
    → xs ≡ ys
closing_order_unique none_yet none_yet = refl
closing_order_unique (closed_at x p h) (closed_at y q k) =
    ap₂ (λ (ls : List Line) (cs : List Candidate). ls ++ just_lines cs) (closing_order_unique x y)
    (sooner_unique p q (λ c. (λ i. (k c).1 ((h c).0 i), λ i. (h c).1 ((k c).0 i))))
