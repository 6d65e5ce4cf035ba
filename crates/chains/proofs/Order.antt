-- A line that joins the chains goes in front, so that a chain has its halves in the order of the lines. Assumes nothing.
use Prim.Native.Nat.{ℕ, ◌+◌, ◌*◌, ◌≤◌, ◌<◌}
use native.Mathlib.Omega.{arith}
use mathlib.Core.Path.{◌≡◌, refl, sym, ◌∙◌, ap, subst}
use mathlib.Core.Logic.{◌⊎◌, inl, inr}
use mathlib.Core.Bool.{Bool, true, false}
use mathlib.Core.List.Memᴰ
use mathlib.Core.List.{List, [], ◌∷◌, Memᴰ}
use lib.Dec.{eqb}
use lib.ListN.{get_or}
use borrow.Author.Tests.{eqb-true, eqb-false}
use Rattle.network.specs.Standing.{Line}
use Rattle.chains.specs.Chains.{mark_of, On, here, later, Chain, no_half, first, left_by, leaving, InOrder, Sound, halves}
use Rattle.chains.specs.Link.{RoomChains, Linked, Joined}
use Rattle.chains.proofs.Joining.{next_new, head_old, head_new, chain_new, link_room}

-- what is on a chain is one of its halves
on_member : {next : List ℕ} {i h : ℕ} {hs : List ℕ} → Chain next i hs → On next i h → Memᴰ h hs
on_member (no_half z) (here p e) = absurd (omega arith)
on_member (no_half z) (later p o) = absurd (omega arith)
on_member (first q lt c) (here p e) = Memᴰ.head (sym e)
on_member (first q lt c) (later p o) = Memᴰ.tail (on_member c o)

-- ---- a half in front of the chain of m

of_left_by : (t : Bool) (h g : ℕ) (hs : List ℕ) → Memᴰ g (left_by t h hs) → (g ≡ h) ⊎ Memᴰ g hs
of_left_by true h g hs (Memᴰ.head e) = inl e
of_left_by true h g hs (Memᴰ.tail i) = inr i
of_left_by false h g hs i = inr i

module _ (n : ℕ) (head next head' next' : List ℕ) (m h : ℕ) (room : RoomChains n head next) (mok : m < n) (low : 0 < h) (high : h < halves)
    (lk : Linked head next head' next' m h) (of : ℕ → List ℕ) (is_new : (x : ℕ) → Memᴰ h (of x) → ⊥)
    (chain : (x : ℕ) → x < n → Chain next (get_or head x 0) (of x)) where
  kept : (x : ℕ) → x < n → Chain next' (get_or head x 0) (of x)
  kept x lt = chain_new n head next head' next' m h room mok low high lk (λ o. is_new x (on_member (chain x lt) o)) (chain x lt)

  linked : (x : ℕ) → x < n → (t : Bool) → eqb m x ≡ t → Chain next' (get_or head' x 0) (left_by t h (of x))
  linked x lt true e =
      let same = eqb-true m x e in
      subst (λ (i : ℕ). Chain next' i (h ∷ of x)) (sym (ap (λ (z : ℕ). get_or head' z 0) (sym same)
      ∙ head_new n head next head' next' m h room mok low high lk))
      (first low high (subst (λ (i : ℕ). Chain next' i (of x))
      (sym (next_new n head next head' next' m h room mok low high lk ∙ ap (λ (z : ℕ). get_or head z 0) same)) (kept x lt)))
  linked x lt false e =
      subst (λ (i : ℕ). Chain next' i (of x)) (sym (head_old n head next head' next' m h room mok low high lk x
      (λ z. eqb-false m x e (sym z)))) (kept x lt)

-- ---- both halves of a line

-- g is a half of one of the lines sub
abbrev HalfOf : List Line → ℕ → Type 0
HalfOf sub g = (l : Line) × Memᴰ l sub × (2 * l.number ≤ g) × (g ≤ 2 * l.number + 1)

of_leaving : (sub : List Line) (m g : ℕ) → Memᴰ g (leaving sub m) → HalfOf sub g
unfolding leaving
of_leaving [] m g i = absurd (Memᴰ.not-nil i)
of_leaving (l ∷ sub) m g i = go (λ j. of_leaving sub m g j) (of_left_by (eqb l.to m) (2 * l.number + 1) g _ i)
  where
    its : 2 * l.number ≤ g → g ≤ 2 * l.number + 1 → HalfOf (l ∷ sub) g
    its a b = (l, Memᴰ.head refl, a, b)

    rest : (Memᴰ g (leaving sub m) → HalfOf sub g) → (g ≡ 2 * l.number) ⊎ Memᴰ g (leaving sub m) → HalfOf (l ∷ sub) g
    rest f (inl e) = its (omega arith) (omega arith)
    rest f (inr j) = let w = f j in (w.0, Memᴰ.tail w.1, w.2, w.3)

    go : (Memᴰ g (leaving sub m) → HalfOf sub g)
        → (g ≡ 2 * l.number + 1) ⊎ Memᴰ g (left_by (eqb l.from m) (2 * l.number) (leaving sub m)) → HalfOf (l ∷ sub) g
    go f (inl e) = its (omega arith) (omega arith)
    go f (inr j) = rest f (of_left_by (eqb l.from m) (2 * l.number) g (leaving sub m) j)

module _ (sub : List Line) (l : Line) {n : ℕ} {ends head next head' next' : List ℕ} (s : Sound n l)
    (is_new : (k : Line) → Memᴰ k sub → k.number ≡ l.number → ⊥)
    (from_is : mark_of ends (l.number * 2 + 1) ≡ l.from) (to_is : mark_of ends (l.number * 2) ≡ l.to)
    (jn : Joined ends head next head' next' l.number) (order : InOrder sub n head next) where
  room : RoomChains n head next
  room = record { heads = order.heads; nexts = order.nexts }

  new_half : (x g : ℕ) → 2 * l.number ≤ g → g ≤ 2 * l.number + 1 → Memᴰ g (leaving sub x) → ⊥
  new_half x g a b i = let w = of_leaving sub x g i in is_new w.0 w.1 (omega (arith, w.2, w.3))

  from_linked : (x : ℕ) → x < n
      → Chain jn.next₁ (get_or jn.head₁ x 0) (left_by (eqb (mark_of ends (l.number * 2 + 1)) x) (l.number * 2) (leaving sub x))
  from_linked x lt =
      linked n head next jn.head₁ jn.next₁ (mark_of ends (l.number * 2 + 1)) (l.number * 2) room (rw from_is s.from_high)
      (omega (arith, s.numbered)) (omega (arith, s.number)) jn.along (leaving sub)
      (λ y i. new_half y (l.number * 2) (omega arith) (omega arith) i)
      order.chain x lt _ refl

  room₁ : RoomChains n jn.head₁ jn.next₁
  room₁ = link_room n head next jn.head₁ jn.next₁ (mark_of ends (l.number * 2 + 1)) (l.number * 2) room (rw from_is s.from_high)
      (omega (arith, s.numbered)) (omega (arith, s.number)) jn.along

  room₂ : RoomChains n head' next'
  room₂ = link_room n jn.head₁ jn.next₁ head' next' (mark_of ends (l.number * 2)) (l.number * 2 + 1) room₁ (rw to_is s.to_high)
      (omega arith) (omega (arith, s.number)) jn.against

  both : (x : ℕ) → x < n → Chain next' (get_or head' x 0) (leaving (l ∷ sub) x)
  unfolding leaving
  both x lt =
      let a : l.number * 2 ≡ 2 * l.number = omega arith in
      rw (← from_is, ← to_is, ← a)
      (linked n jn.head₁ jn.next₁ head' next' (mark_of ends (l.number * 2)) (l.number * 2 + 1) room₁ (rw to_is s.to_high)
      (omega arith) (omega (arith, s.number)) jn.against
      (λ y. left_by (eqb (mark_of ends (l.number * 2 + 1)) y) (l.number * 2) (leaving sub y))
      (λ y i. fresh y (of_left_by (eqb (mark_of ends (l.number * 2 + 1)) y) (l.number * 2) (l.number * 2 + 1) (leaving sub y) i))
      from_linked x lt _ refl)
    where
      fresh : (y : ℕ) → (l.number * 2 + 1 ≡ l.number * 2) ⊎ Memᴰ (l.number * 2 + 1) (leaving sub y) → ⊥
      fresh y (inl e) = omega arith
      fresh y (inr i) = new_half y (l.number * 2 + 1) (omega arith) (omega arith) i

  pub join_order : InOrder (l ∷ sub) n head' next'
  join_order = record { heads = room₂.heads; nexts = room₂.nexts; chain = both }

-- before any line joins
pub order_none : {n : ℕ} {head next : List ℕ} → RoomChains n head next → ((i : ℕ) → i < n → get_or head i 0 ≡ 0) → InOrder [] n head next
unfolding leaving
order_none room zeros = record { heads = room.heads; nexts = room.nexts; chain = λ m lt. no_half (zeros m lt) }
