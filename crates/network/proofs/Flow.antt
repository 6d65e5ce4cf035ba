-- Flows: a whole number to each line. One that is balanced at every mark and runs in the tree only is zero. Assumes nothing.
use Prim.Native.Nat.{ℕ}
use native.Mathlib.Omega.{arith}
use native.Mathlib.Decide.{ℕ_discrete}
use mathlib.Core.Path.{◌≡◌, refl, sym, ◌∙◌, ap, subst}
use mathlib.Core.Logic.{◌⊎◌, inl, inr}
use mathlib.Core.Bool.{Bool, true, false}
use mathlib.Core.List.Memᴰ
use mathlib.Core.List.{List, [], ◌∷◌, Memᴰ}
use mathlib.Core.Option.{none, some, some-injective, none-ne-some}
use lib.IntN.{ℤ, pos, neg_ℤ, ◌+ℤ◌, +ℤ_idl, +ℤ_idr, neg_ℤ-neg_ℤ}
use lib.Dec.{eqb}
use borrow.Author.Tests.{eqb-true, eq-eqb, ne_eqb}
use Rattle.network.specs.Standing.{Line}
use Rattle.network.specs.Tree.{Entry, Tree, distance}
use Rattle.network.proofs.Grown.{After, new, old, after, keeps, ends_to, by_of, Grown, empty, by_line, by_root, is_new}
use Rattle.network.specs.Walk.{Ends, along, against}
use Rattle.network.proofs.Shortest.{never, was_out}
use Rattle.network.specs.Sound.{Rising, then}

abbrev pub sides : Bool → Bool → ℤ → ℤ
sides true true z = pos 0
sides true false z = z
sides false true z = neg_ℤ z
sides false false z = pos 0

-- what a flow brings to mark m over line l: it comes in at the line's to, and goes out at its from
unfoldable pub share : (ℕ → ℤ) → ℕ → Line → ℤ
share f m l = sides (eqb l.to m) (eqb l.from m) (f l.number)

-- and over all lines
unfoldable pub at : (ℕ → ℤ) → ℕ → List Line → ℤ
at f m [] = pos 0
at f m (l ∷ ls) = share f m l +ℤ at f m ls

pub at_none : (f : ℕ → ℤ) (m : ℕ) (lines : List Line) → ((k : Line) → Memᴰ k lines → share f m k ≡ pos 0) → at f m lines ≡ pos 0
unfolding at
at_none f m [] h = refl
at_none f m (l ∷ ls) h = rw (h l (Memᴰ.head refl), at_none f m ls (λ k i. h k (Memᴰ.tail i)))

-- where only one line brings anything
pub at_one : (f : ℕ → ℤ) (m : ℕ) (lines : List Line) → Rising lines → (l : Line) → Memᴰ l lines
    → ((k : Line) → Memᴰ k lines → (k.number ≡ l.number → ⊥) → share f m k ≡ pos 0) → at f m lines ≡ share f m l
unfolding at
at_one f m [] _ l i h = elim i [ ]
at_one f m (j ∷ ls) (then above r) l (Memᴰ.head e) h =
    rw (at_none f m ls (λ k i. h k (Memᴰ.tail i) (λ z. omega (arith, above k i, z, ap (λ (x : Line). x.number) e))), +ℤ_idr, e)
at_one f m (j ∷ ls) (then above r) l (Memᴰ.tail i) h =
    rw (h j (Memᴰ.head refl) (λ z. omega (arith, above l i, z)), +ℤ_idl) (at_one f m ls r l i (λ k i'. h k (Memᴰ.tail i')))

-- a line that brings nothing to one of its ends, the other being elsewhere, carries nothing
pub share_zero : (f : ℕ → ℤ) (l : Line) (u m : ℕ) → Ends l u m → (u ≡ m → ⊥) → share f m l ≡ pos 0 → f l.number ≡ pos 0
unfolding share
share_zero f l u m (along p q) n h = rw (eq-eqb l.to m q, ne_eqb l.from m (λ z. n (sym p ∙ z))) at h
share_zero f l u m (against p q) n h =
    let h' : neg_ℤ (f l.number) ≡ pos 0 = rw (eq-eqb l.from m q, ne_eqb l.to m (λ z. n (sym p ∙ z))) at h in
    sym (neg_ℤ-neg_ℤ (f l.number)) ∙ ap neg_ℤ h'

-- a line that carries nothing, or does not touch the mark, brings nothing
pub zero_share : (f : ℕ → ℤ) (l : Line) (m : ℕ) → f l.number ≡ pos 0 → share f m l ≡ pos 0
unfolding share
zero_share f l m h = rw h (go (eqb l.to m) (eqb l.from m))
  where
    go : (a b : Bool) → sides a b (pos 0) ≡ pos 0
    go true true = refl
    go true false = refl
    go false true = refl
    go false false = refl

-- ---- the lines of a tree have both ends in it

abbrev pub NotTree : Tree → Line → Type 0
NotTree es l = (e : Entry) → Memᴰ e es → e.by ≡ some l → ⊥

pub ends_two : {l : Line} {u v a m : ℕ} → Ends l u v → Ends l a m → (m ≡ u) ⊎ (m ≡ v)
ends_two (along p q) (along x y) = inr (sym y ∙ q)
ends_two (along p q) (against x y) = inl (sym y ∙ p)
ends_two (against p q) (along x y) = inl (sym y ∙ p)
ends_two (against p q) (against x y) = inr (sym y ∙ q)

pub entered : (e : Entry) (es : Tree) → distance (e ∷ es) e.mark ≡ some e.dist
entered e es = go (after e es e.mark)
  where
    go : After e es e.mark → distance (e ∷ es) e.mark ≡ some e.dist
    go (new p q) = q
    go (old p q) = absurd (p refl)

pub ends_in : (lines : List Line) {es : Tree} → Grown lines es → (e : Entry) → Memᴰ e es → (l : Line) → e.by ≡ some l
    → (u m : ℕ) → Ends l u m → distance es m ≡ none → ⊥
ends_in lines empty e i l q u m j out = elim i [ ]
ends_in lines (by_line {e = e₀} {es = es} g b) e (Memᴰ.head p) l q u m j out =
    go (ends_two b.sc.ends (subst (λ (x : Line). Ends x u m) (some-injective _ _ (sym q ∙ by_of p ∙ b.its)) j))
  where
    go : (m ≡ b.sc.near) ⊎ (m ≡ b.sc.away) → ⊥
    go (inl x) = never (keeps e₀ es b.sc.near b.sc.d (is_new b) b.sc.is_in) (ap (distance (e₀ ∷ es)) (sym x) ∙ out)
    go (inr x) = never (entered e₀ es) (ap (distance (e₀ ∷ es)) (b.its_mark ∙ sym x) ∙ out)
ends_in lines (by_line {e = e₀} {es = es} g b) e (Memᴰ.tail i) l q u m j out = ends_in lines g e i l q u m j (was_out e₀ es m out)
ends_in lines (by_root {e = e₀} {es = es} g b) e (Memᴰ.head p) l q u m j out = none-ne-some l (sym b.its ∙ sym (by_of p) ∙ q)
ends_in lines (by_root {e = e₀} {es = es} g b) e (Memᴰ.tail i) l q u m j out = ends_in lines g e i l q u m j (was_out e₀ es m out)

-- ---- a balanced flow in the tree is zero

-- does the line touch the mark?
pub touch : (l : Line) (m : ℕ) → ((u : ℕ) × Ends l u m) ⊎ ((f : ℕ → ℤ) → share f m l ≡ pos 0)
unfolding share
touch l m = go (eqb l.to m) (eqb l.from m) refl refl
  where
    go : (a b : Bool) → eqb l.to m ≡ a → eqb l.from m ≡ b
        → ((u : ℕ) × Ends l u m) ⊎ ((f : ℕ → ℤ) → sides (eqb l.to m) (eqb l.from m) (f l.number) ≡ pos 0)
    go true b x y = inl (l.from, along refl (eqb-true _ _ x))
    go false true x y = inl (l.to, against refl (eqb-true _ _ y))
    go false false x y = inr (λ f. rw (x, y))

module _ (lines : List Line) (rising : Rising lines) (f : ℕ → ℤ) (balanced : (m : ℕ) → at f m lines ≡ pos 0) where
  pub tree_zero : {es : Tree} → Grown lines es → ((l : Line) → Memᴰ l lines → NotTree es l → f l.number ≡ pos 0)
      → (l : Line) → Memᴰ l lines → f l.number ≡ pos 0
  tree_zero empty h = λ l i. h l i (λ e j. absurd (Memᴰ.not-nil j))
  tree_zero (by_root {e = e} {es = es} g b) h = tree_zero g (λ l i n. h l i (more l n))
    where
      more : (l : Line) → NotTree es l → NotTree (e ∷ es) l
      more l n x (Memᴰ.head p) q = none-ne-some l (sym b.its ∙ sym (by_of p) ∙ q)
      more l n x (Memᴰ.tail j) q = n x j q
  tree_zero (by_line {e = e} {es = es} g b) h = tree_zero g (λ l i n. go l i n (ℕ_discrete l.number b.l.number))
    where
      more : (l : Line) → (l.number ≡ b.l.number → ⊥) → NotTree es l → NotTree (e ∷ es) l
      more l d n x (Memᴰ.head p) q = d (ap (λ (k : Line). k.number) (some-injective l b.l (sym q ∙ by_of p ∙ b.its)))
      more l d n x (Memᴰ.tail j) q = n x j q

      others : (k : Line) → Memᴰ k lines → (k.number ≡ b.l.number → ⊥) → share f e.mark k ≡ pos 0
      others k i d = hit (touch k e.mark)
        where
          hit : ((u : ℕ) × Ends k u e.mark) ⊎ ((f : ℕ → ℤ) → share f e.mark k ≡ pos 0) → share f e.mark k ≡ pos 0
          hit (inl (u, j)) = zero_share f k e.mark (h k i (more k d (λ x y q. ends_in lines g x y k q u e.mark j (is_new b))))
          hit (inr z) = z f

      own : f b.l.number ≡ pos 0
      own = share_zero f b.l b.sc.near e.mark (ends_to (sym b.its_mark) b.sc.ends)
          (λ z. never b.sc.is_in (ap (distance es) z ∙ is_new b))
          (sym (at_one f e.mark lines rising b.l b.is_line others) ∙ balanced e.mark)

      go : (l : Line) → Memᴰ l lines → NotTree es l → Dec (l.number ≡ b.l.number) → f l.number ≡ pos 0
      go l i n (yes z) = ap f z ∙ own
      go l i n (no d) = h l i (more l d n)
