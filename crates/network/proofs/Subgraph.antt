-- The lines of a subgraph, and the tree's lines. Assumes nothing.
use Prim.Native.Nat.{ℕ, zero, suc}
use mathlib.Core.Path.{◌≡◌, refl, sym, ◌∙◌, ap}
use mathlib.Core.Logic.{◌⊎◌, inl, inr}
use mathlib.Core.Bool.{Bool, true, false, ◌||◌, false≢true}
use mathlib.Core.List.Memᴰ
use mathlib.Core.List.{List, [], ◌∷◌, Memᴰ}
use mathlib.Core.Option.{Option, none, some}
use lib.Dec.{eqb}
use borrow.Author.Tests.{eqb-true, eq-eqb}
use Rattle.network.specs.Standing.{Line}
use Rattle.network.specs.Sound.{Rising, none_left, then}
use Rattle.network.specs.Tree.{Tree, tree_lines, lines1}
use Rattle.network.specs.Path.{Pass, stop, descent, onward, descend}
use Rattle.network.specs.Subgraph.{is_in, keep_if, only, numbers}
use Rattle.network.proofs.Grown.{by_of}
use Rattle.network.proofs.Descent.{found}
use Rattle.network.proofs.Closers.{InTree}

-- ---- the subgraph's lines

-- a line whose number is among ns is a line of the subgraph
pub in_only : (ns : List ℕ) (lines : List Line) (l : Line) → Memᴰ l lines → is_in l.number ns ≡ true → Memᴰ l (only ns lines)
unfolding only
in_only ns [] l m h = elim m [ ]
in_only ns (k ∷ ls) l (Memᴰ.head e) h = rw (ap (λ (x : Line). is_in x.number ns) (sym e) ∙ h) (Memᴰ.head e)
in_only ns (k ∷ ls) l (Memᴰ.tail m) h = go (is_in k.number ns) (in_only ns ls l m h)
  where
    go : (t : Bool) → Memᴰ l (only ns ls) → Memᴰ l (keep_if t k (only ns ls))
    go true i = Memᴰ.tail i
    go false i = i

-- and only such lines are
pub of_only : (ns : List ℕ) (lines : List Line) (l : Line) → Memᴰ l (only ns lines) → Memᴰ l lines × (is_in l.number ns ≡ true)
unfolding only
of_only ns [] l m = absurd (Memᴰ.not-nil m)
of_only ns (k ∷ ls) l m = go (is_in k.number ns) refl m (of_only ns ls l)
  where
    go : (t : Bool) → is_in k.number ns ≡ t → Memᴰ l (keep_if t k (only ns ls))
        → (Memᴰ l (only ns ls) → Memᴰ l ls × (is_in l.number ns ≡ true))
        → Memᴰ l (k ∷ ls) × (is_in l.number ns ≡ true)
    go true x (Memᴰ.head e) ih = (Memᴰ.head e, ap (λ (x : Line). is_in x.number ns) e ∙ x)
    go true x (Memᴰ.tail i) ih = (Memᴰ.tail (ih i).0, (ih i).1)
    go false x i ih = (Memᴰ.tail (ih i).0, (ih i).1)

-- they go by rising number
pub rising_only : (ns : List ℕ) (lines : List Line) → Rising lines → Rising (only ns lines)
unfolding only
rising_only ns [] r = none_left
rising_only ns (k ∷ ls) (then above r) = go (is_in k.number ns) (rising_only ns ls r)
  where
    go : (t : Bool) → Rising (only ns ls) → Rising (keep_if t k (only ns ls))
    go true ih = then (λ j i. above j (of_only ns ls j i).0) ih
    go false ih = ih

-- a path runs in the subgraph
pub descend_in : (sub : List Line) (es : Tree) (k u : ℕ) (p : Pass) → Memᴰ p (descend sub es k u) → Memᴰ p.line sub
unfolding descend
descend_in sub es zero u p m = absurd (Memᴰ.not-nil m)
descend_in sub es (suc k) u p m = go (descent es u sub) refl m (descend_in sub es k)
  where
    go : (o : Option Pass) → descent es u sub ≡ o → Memᴰ p (onward o (λ m. descend sub es k m))
        → ((u : ℕ) (p : Pass) → Memᴰ p (descend sub es k u) → Memᴰ p.line sub) → Memᴰ p.line sub
    go none e i ih = absurd (Memᴰ.not-nil i)
    go (some q) e (Memᴰ.head x) ih = Memᴰ.cast (ap (λ (y : Pass). y.line) x) (found es u sub q e).is_line
    go (some q) e (Memᴰ.tail i) ih = ih (stop q) p i

-- ---- numbers among numbers

-- where one or the other is true, one of them is
pub or_true : (a b : Bool) → (a || b) ≡ true → (a ≡ true) ⊎ (b ≡ true)
or_true true b h = inl refl
or_true false b h = inr h

-- if the second is true, one or the other is
pub or_right : (a b : Bool) → b ≡ true → (a || b) ≡ true
or_right true b h = refl
or_right false b h = h

-- a line's number is among the lines' numbers
pub nos_is_in : (ls : List Line) (l : Line) → Memᴰ l ls → is_in l.number (numbers ls) ≡ true
unfolding is_in
nos_is_in [] l m = elim m [ ]
nos_is_in (k ∷ ls) l (Memᴰ.head e) = rw (eq-eqb k.number l.number (sym (ap (λ (x : Line). x.number) e)))
nos_is_in (k ∷ ls) l (Memᴰ.tail m) = or_right (eqb k.number l.number) (is_in l.number (numbers ls)) (nos_is_in ls l m)

-- and a number among them is a line's
pub is_in_numbers : (ls : List Line) (n : ℕ) → is_in n (numbers ls) ≡ true → (l : Line) × Memᴰ l ls × (l.number ≡ n)
unfolding is_in
is_in_numbers [] n h = absurd (false≢true h)
is_in_numbers (k ∷ ls) n h = go (or_true (eqb k.number n) (is_in n (numbers ls)) h) (is_in_numbers ls n)
  where
    go : (eqb k.number n ≡ true) ⊎ (is_in n (numbers ls) ≡ true)
        → (is_in n (numbers ls) ≡ true → (l : Line) × Memᴰ l ls × (l.number ≡ n))
        → (l : Line) × Memᴰ l (k ∷ ls) × (l.number ≡ n)
    go (inl x) ih = (k, Memᴰ.head refl, eqb-true k.number n x)
    go (inr x) ih = let i = ih x in (i.0, Memᴰ.tail i.1, i.2)

-- a number among some is one of them
pub is_in_mem : (ms : List ℕ) (n : ℕ) → is_in n ms ≡ true → Memᴰ n ms
unfolding is_in
is_in_mem [] n h = absurd (false≢true h)
is_in_mem (m ∷ ms) n h = go (or_true (eqb m n) (is_in n ms) h) (is_in_mem ms n)
  where
    go : (eqb m n ≡ true) ⊎ (is_in n ms ≡ true) → (is_in n ms ≡ true → Memᴰ n ms) → Memᴰ n (m ∷ ms)
    go (inl x) ih = Memᴰ.head (sym (eqb-true m n x))
    go (inr x) ih = Memᴰ.tail (ih x)

-- what is not true is false
pub not_in : (b : Bool) → (b ≡ true → ⊥) → b ≡ false
not_in true f = absurd (f refl)
not_in false f = refl

-- ---- the tree's lines are those by which its entries came in

-- a line by which a mark came in is a tree line
pub in_tree_lines : (es : Tree) (l : Line) → InTree es l → Memᴰ l (tree_lines es)
unfolding tree_lines
in_tree_lines [] l (e, m, h) = absurd (Memᴰ.not-nil m)
in_tree_lines (x ∷ es) l (e, Memᴰ.head p, h) = rw (sym (by_of p) ∙ h) (Memᴰ.append_right (tree_lines es) (Memᴰ.head refl))
in_tree_lines (x ∷ es) l (e, Memᴰ.tail m, h) = go x.by (in_tree_lines es l (e, m, h))
  where
    go : (o : Option Line) → Memᴰ l (tree_lines es) → Memᴰ l (lines1 o (tree_lines es))
    go none i = i
    go (some k) i = Memᴰ.append_left (k ∷ []) i

-- and every tree line is one
pub of_tree_lines : (es : Tree) (l : Line) → Memᴰ l (tree_lines es) → InTree es l
unfolding tree_lines
of_tree_lines [] l m = absurd (Memᴰ.not-nil m)
of_tree_lines (x ∷ es) l m = go x.by refl m (of_tree_lines es l)
  where
    wide : InTree es l → InTree (x ∷ es) l
    wide (e, i, h) = (e, Memᴰ.tail i, h)

    go : (o : Option Line) → x.by ≡ o → Memᴰ l (lines1 o (tree_lines es)) → (Memᴰ l (tree_lines es) → InTree es l)
        → InTree (x ∷ es) l
    go none e i ih = wide (ih i)
    go (some k) e i ih = hit (Memᴰ.append_cases (tree_lines es) i)
      where
        hit : Memᴰ l (tree_lines es) ⊎ Memᴰ l (k ∷ []) → InTree (x ∷ es) l
        hit (inl j) = wide (ih j)
        hit (inr j) = (x, Memᴰ.head refl, e ∙ ap some (sym (Memᴰ.eq_of_singleton j)))
