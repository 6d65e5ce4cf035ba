-- Laws of `link` and `join`. Assumes nothing.
use Prim.Native.Nat.{ℕ, ◌+◌, ◌*◌, ◌≤◌, ◌<◌}
use native.Mathlib.Omega.{arith}
use native.Mathlib.Decide.{ℕ_discrete}
use mathlib.Core.Path.{◌≡◌, refl, sym, ◌∙◌, ap, subst}
use mathlib.Core.Logic.{◌⊎◌, inl, inr}
use mathlib.Core.List.Memᴰ
use mathlib.Core.List.{List, [], ◌∷◌, Memᴰ}
use lib.ListN.{length, get_or, length-set}
use lib.Seq.{get_or-set_same, get_or-set_other}
use Rattle.network.specs.Standing.{Line}
use Rattle.chains.specs.Chains.{Half, fore, aft, mark_of, Bounded, On, here, later, Chain, no_half, first, Chained, Heads, Leaves}
use Rattle.chains.specs.Chains.{Chains, Drawn, Sound, AllSound, halves, number_limit}
use Rattle.chains.specs.Link.{RoomChains, Linked, Fits, Joined, Wider}
use Rattle.chains.proofs.Halves.{half_ok, half_no, on_zero, on_split}

-- ---- a half is put in front of a chain

-- what the chains hold, by any test of a mark and a half that leaves it
pub record Holds (H : ℕ → ℕ → Type 0) (n : ℕ) (head next : List ℕ) : Type 0 where
  pub chained : (m : ℕ) → m < n → Chained next (get_or head m 0)
  pub of : (m h : ℕ) → m < n → On next (get_or head m 0) h → H m h
  pub has : (m h : ℕ) → H m h → On next (get_or head m 0) h

-- what H holds, and the half h at m
abbrev And : (ℕ → ℕ → Type 0) → ℕ → ℕ → ℕ → ℕ → Type 0
And H m h x g = H x g ⊎ ((x ≡ m) × (g ≡ h))

module _ (n : ℕ) (head next head' next' : List ℕ) (m h : ℕ) (room : RoomChains n head next) (mok : m < n) (low : 0 < h) (high : h < halves)
    (lk : Linked head next head' next' m h) where
  next_old : (i : ℕ) → (i ≡ h → ⊥) → get_or next' i 0 ≡ get_or next i 0
  next_old i d = ap (λ (x : List ℕ). get_or x i 0) lk.nexts ∙ get_or-set_other next h i (get_or head m 0) 0 d

  pub next_new : get_or next' h 0 ≡ get_or head m 0
  next_new = ap (λ (x : List ℕ). get_or x h 0) lk.nexts ∙ get_or-set_same next h (get_or head m 0) 0 (omega (arith, room.nexts))

  pub head_old : (x : ℕ) → (x ≡ m → ⊥) → get_or head' x 0 ≡ get_or head x 0
  head_old x d = ap (λ (y : List ℕ). get_or y x 0) lk.heads ∙ get_or-set_other head m x h 0 d

  pub head_new : get_or head' m 0 ≡ h
  head_new = ap (λ (y : List ℕ). get_or y m 0) lk.heads ∙ get_or-set_same head m h 0 (omega (arith, room.heads))

  nexts' : halves ≤ length next'
  nexts' = rw lk.nexts (simp length-set room.nexts)

  pub link_room : RoomChains n head' next'
  link_room = record { heads = rw lk.heads (simp length-set room.heads); nexts = nexts' }

  -- a chain without h stays as it is
  on_new : {i g : ℕ} → (On next i h → ⊥) → On next i g → On next' i g
  on_new f (here p e) = here p e
  on_new {i = i} {g = g} f (later p o) =
      later p (subst (λ (x : ℕ). On next' x g) (sym (next_old i (λ e. f (here p e)))) (on_new (λ w. f (later p w)) o))

  on_old : {i g : ℕ} → (On next i h → ⊥) → On next' i g → On next i g
  on_old f (here p e) = here p e
  on_old {i = i} {g = g} f (later p o) =
      let s = next_old i (λ e. f (here p e)) in
      later p (subst (λ (x : ℕ). On next x g) s (on_old (λ w. f (later p (subst (λ (x : ℕ). On next x h) s w))) o))

  pub chain_new : {i : ℕ} {hs : List ℕ} → (On next i h → ⊥) → Chain next i hs → Chain next' i hs
  chain_new f (no_half z) = no_half z
  chain_new {i = i} f (first {hs = hs} p lt c) =
      first p lt (subst (λ (x : ℕ). Chain next' x hs) (sym (next_old i (λ e. f (here p e)))) (chain_new (λ w. f (later p w)) c))

  module _ (H : ℕ → ℕ → Type 0) (inside : (x g : ℕ) → H x g → x < n) (is_new : (x : ℕ) → H x h → ⊥) (hs : Holds H n head next) where
    off : (x : ℕ) → x < n → On next (get_or head x 0) h → ⊥
    off x lt o = is_new x (hs.of x h lt o)

    pub link_holds : Holds (And H m h) n head' next'
    link_holds = record {
      chained = λ x lt. chained x lt (ℕ_discrete x m);
      of = λ x g lt o. of x g lt o (ℕ_discrete x m);
      has = has;
    }
      where
        -- the chain of m, behind h
        behind : On next (get_or head m 0) h → ⊥
        behind = off m mok

        chained : (x : ℕ) → x < n → Dec (x ≡ m) → Chained next' (get_or head' x 0)
        chained x lt (yes e) =
            let w = hs.chained m mok in
            subst (Chained next') (sym (ap (λ (z : ℕ). get_or head' z 0) e ∙ head_new))
            (record {
              nexts = nexts';
              hs = h ∷ w.hs;
              chain = first low high
                  (subst (λ (z : ℕ). Chain next' z w.hs) (sym next_new) (chain_new behind w.chain));
            })
        chained x lt (no e) =
            let w = hs.chained x lt in
            subst (Chained next') (sym (head_old x e)) (record { nexts = nexts'; hs = w.hs; chain = chain_new (off x lt) w.chain })

        front : (g : ℕ) → (g ≡ h) ⊎ On next' (get_or next' h 0) g → And H m h m g
        front g (inl e) = inr (refl, e)
        front g (inr o) = inl (hs.of m g mok (on_old behind (subst (λ (z : ℕ). On next' z g) next_new o)))

        of : (x g : ℕ) → x < n → On next' (get_or head' x 0) g → Dec (x ≡ m) → And H m h x g
        of x g lt o (yes e) = subst (λ (z : ℕ). And H m h z g) (sym e)
            (front g (on_split (subst (λ (z : ℕ). On next' z g) (ap (λ (z : ℕ). get_or head' z 0) e ∙ head_new) o)))
        of x g lt o (no e) = inl (hs.of x g lt (on_old (off x lt) (subst (λ (z : ℕ). On next' z g) (head_old x e) o)))

        old : (x g : ℕ) → H x g → Dec (x ≡ m) → On next' (get_or head' x 0) g
        old x g w (yes e) =
            let o = on_new behind (subst (λ (z : ℕ). On next (get_or head z 0) g) e (hs.has x g w)) in
            subst (λ (z : ℕ). On next' z g) (sym (ap (λ (z : ℕ). get_or head' z 0) e ∙ head_new))
            (later low (subst (λ (z : ℕ). On next' z g) (sym next_new) o))
        old x g w (no e) = subst (λ (z : ℕ). On next' z g) (sym (head_old x e)) (on_new (off x (inside x g w)) (hs.has x g w))

        has : (x g : ℕ) → And H m h x g → On next' (get_or head' x 0) g
        has x g (inl w) = old x g w (ℕ_discrete x m)
        has x g (inr (e, q)) =
            let z : get_or head' x 0 ≡ h = ap (λ (y : ℕ). get_or head' y 0) e ∙ head_new in
            here {i = get_or head' x 0} (omega (arith, z)) (z ∙ sym q)

-- ---- both halves of a line

module _ (sub sub' : List Line) (l : Line) {n : ℕ} {ends head next head' next' : List ℕ} (sound : AllSound n sub) (s : Sound n l)
    (wd : Wider sub sub' l)
    (is_new : (k : Line) → Memᴰ k sub → k.number ≡ l.number → ⊥)
    (from_is : mark_of ends (l.number * 2 + 1) ≡ l.from) (to_is : mark_of ends (l.number * 2) ≡ l.to) (room : RoomChains n head next)
    (jn : Joined ends head next head' next' l.number) (heads : Heads n head next) (ch : Chains sub n head next) where
  abbrev H₁ : ℕ → ℕ → Type 0
  H₁ = And (Leaves sub) (mark_of ends (l.number * 2 + 1)) (l.number * 2)

  abbrev H₂ : ℕ → ℕ → Type 0
  H₂ = And (And (Leaves sub) (mark_of ends (l.number * 2 + 1)) (l.number * 2)) (mark_of ends (l.number * 2)) (l.number * 2 + 1)

  f_ok : mark_of ends (l.number * 2 + 1) < n
  f_ok = rw from_is s.from_high

  t_ok : mark_of ends (l.number * 2) < n
  t_ok = rw to_is s.to_high

  inside₀ : (x g : ℕ) → Leaves sub x g → x < n
  inside₀ x g w = (half_ok (sound w.l w.is_line) w.half).0

  inside₁ : (x g : ℕ) → H₁ x g → x < n
  inside₁ x g (inl w) = inside₀ x g w
  inside₁ x g (inr (e, q)) = omega (arith, e, f_ok)

  -- no half of l is on a chain yet
  new₀ : (x g : ℕ) → 2 * l.number ≤ g → g ≤ 2 * l.number + 1 → Leaves sub x g → ⊥
  new₀ x g a b w = is_new w.l w.is_line (omega (arith, half_no w.half))

  new₁ : (x : ℕ) → H₁ x (l.number * 2 + 1) → ⊥
  new₁ x (inl w) = new₀ x (l.number * 2 + 1) (omega arith) (omega arith) w
  new₁ x (inr (e, q)) = omega arith

  hold₁ : Holds H₁ n jn.head₁ jn.next₁
  hold₁ = link_holds n head next jn.head₁ jn.next₁ (mark_of ends (l.number * 2 + 1)) (l.number * 2) room f_ok
      (omega (arith, s.numbered)) (omega (arith, s.number)) jn.along
      (Leaves sub) inside₀ (λ x w. new₀ x (l.number * 2) (omega arith) (omega arith) w)
      (record { chained = heads.chained; of = ch.of; has = ch.has })

  room₁ : RoomChains n jn.head₁ jn.next₁
  room₁ = link_room n head next jn.head₁ jn.next₁ (mark_of ends (l.number * 2 + 1)) (l.number * 2) room f_ok
      (omega (arith, s.numbered)) (omega (arith, s.number)) jn.along

  hold₂ : Holds H₂ n head' next'
  hold₂ = link_holds n jn.head₁ jn.next₁ head' next' (mark_of ends (l.number * 2)) (l.number * 2 + 1) room₁ t_ok
      (omega arith) (omega (arith, s.number)) jn.against H₁ inside₁ new₁ hold₁

  room₂ : RoomChains n head' next'
  room₂ = link_room n jn.head₁ jn.next₁ head' next' (mark_of ends (l.number * 2)) (l.number * 2 + 1) room₁ t_ok
      (omega arith) (omega (arith, s.number)) jn.against

  of_two : (x g : ℕ) → H₂ x g → Leaves sub' x g
  of_two x g (inl (inl w)) = record { l = w.l; to = w.to; is_line = wd.keeps w.l w.is_line; half = w.half }
  of_two x g (inl (inr (e, q))) = record { l = l; to = l.to; is_line = wd.mine; half = fore (sym from_is ∙ sym e) refl (omega arith) }
  of_two x g (inr (e, q)) = record { l = l; to = l.from; is_line = wd.mine; half = aft (sym to_is ∙ sym e) refl (omega arith) }

  mine_two : (x g v : ℕ) → Half l x v g → H₂ x g
  mine_two x g v (fore p q e) = inl (inr (sym p ∙ sym from_is, omega arith))
  mine_two x g v (aft p q e) = inr (sym p ∙ sym to_is, omega arith)

  two_of : (x g : ℕ) → Leaves sub' x g → H₂ x g
  two_of x g w = go (wd.only w.l w.is_line)
    where
      go : (w.l ≡ l) ⊎ Memᴰ w.l sub → H₂ x g
      go (inl e) = mine_two x g w.to (subst (λ (k : Line). Half k x w.to g) e w.half)
      go (inr i) = inl (inl (record { l = w.l; to = w.to; is_line = i; half = w.half }))

  -- the chains then hold the line too
  pub join_draws : Drawn sub' n head' next'
  join_draws = record {
    heads = record { heads = room₂.heads; chained = hold₂.chained };
    chains = record {
      of = λ m h lt o. of_two m h (hold₂.of m h lt o);
      has = λ m h w. hold₂.has m h (two_of m h w);
    };
  }

-- ---- before any line joins

pub draws_none : {n : ℕ} {head next : List ℕ} → RoomChains n head next → ((i : ℕ) → i < n → get_or head i 0 ≡ 0) → Drawn [] n head next
draws_none room zeros = record {
  heads = record { heads = room.heads; chained = λ m lt. record { nexts = room.nexts; hs = []; chain = no_half (zeros m lt) } };
  chains = record { of = λ m h lt o. on_zero (zeros m lt) o; has = λ m h w. absurd (Memᴰ.not-nil w.is_line) };
}

-- what the chains hold goes by members alone
pub draws_same : {a b : List Line} {n : ℕ} {head next : List ℕ} → ((l : Line) → Memᴰ l a → Memᴰ l b)
    → ((l : Line) → Memᴰ l b → Memᴰ l a)
    → Drawn a n head next → Drawn b n head next
draws_same to from d = record {
  heads = d.heads;
  chains = record {
    of = λ m h lt o. let w = d.chains.of m h lt o in record { l = w.l; to = w.to; is_line = to w.l w.is_line; half = w.half };
    has = λ m h w. d.chains.has m h (record { l = w.l; to = w.to; is_line = from w.l w.is_line; half = w.half });
  };
}

pub bounded_fits : {n : ℕ} {ends : List ℕ} → Bounded n ends → (number : ℕ) → number < number_limit → Fits n ends number
bounded_fits b number lt = record {
  number_ok = lt;
  ends_at = b.ends_at;
  from_ok = b.mark_ok (number * 2 + 1) (omega arith);
  to_ok = b.mark_ok (number * 2) (omega arith);
}
