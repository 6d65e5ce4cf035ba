-- A loop that lays a list over the front of another, one element a turn.
-- Assumes nothing.
use Prim.Native.Nat.{ℕ, suc, ◌+◌, ◌-◌, ◌≤◌, ◌<◌}
use native.Mathlib.Numerals.{add-one}
use native.Mathlib.Omega.{arith}
use mathlib.Core.Path.{◌≡◌, refl, sym, ◌∙◌, ap}
use mathlib.Core.List.{List, ◌++◌}
use lib.ListN.{length, take, drop, get_or, set, replicate, length-set, length-append, length-take, length-replicate, get_or-replicate}
use lib.ListN.{take-append-drop}
use lib.Seq.{take-suc, take-suc-set, drop-set-lt, drop-drop, take_all, take-append-le, get_or-append-add}

-- the first i places of l are those of vs, the others as they were in l₀
pub record Laid {A : Type 0} (vs l₀ l : List A) (i : ℕ) : Type 0 where
  pub most : i ≤ length vs
  pub as_long : length l ≡ length l₀
  pub front : take i l ≡ take i vs
  pub back : drop i l ≡ drop i l₀

module _ {A : Type 0} (vs l₀ : List A) where
  pub laid_start : Laid vs l₀ l₀ 0
  laid_start = record { most = omega arith; as_long = refl; front = refl; back = refl }

  pub laid_next : (l : List A) (i : ℕ) (v d : A) → length vs ≤ length l₀ → i < length vs → v ≡ get_or vs i d → Laid vs l₀ l i
      → Laid vs l₀ (set l i v) (i + 1)
  laid_next l i v d room h e s =
      let k : i < length l = omega (arith, s.as_long) in
      record {
        most = omega arith;
        as_long = simp length-set s.as_long;
        front = rw (add-one i, take-suc-set l i v k, s.front, e, take-suc vs i d h);
        back = rw (add-one i, drop-set-lt (suc i) l i v (omega arith), ← add-one i) (drop_next i l l₀ s.back);
      }
    where
      drop_next : (i : ℕ) (a b : List A) → drop i a ≡ drop i b → drop (i + 1) a ≡ drop (i + 1) b
      drop_next i a b q = sym (drop-drop 1 i a) ∙ ap (drop 1) q ∙ drop-drop 1 i b

  pub laid_end : (l : List A) (i : ℕ) → length vs ≤ i → Laid vs l₀ l i → l ≡ vs ++ drop (length vs) l₀
  laid_end l i h s =
      let n : i ≡ length vs = omega (arith, s.most) in
      sym (take-append-drop i l) ∙ rw (s.front, s.back, n, take_all (length vs) vs (omega arith))

-- zeros laid from place a up to e
module _ {A : Type 0} (z : A) (l₀ : List A) (a e : ℕ) (order : a ≤ e) (room : e ≤ length l₀) where
  abbrev pub zeroed : List A
  zeroed = take a l₀ ++ replicate (e - a) z

  pub zeroed_length : length zeroed ≡ e
  zeroed_length = simp (length-append, length-take, length-replicate) (omega arith)

  pub zeroed_start : Laid zeroed l₀ l₀ a
  zeroed_start = record {
    most = omega (arith, zeroed_length);
    as_long = refl;
    front = sym (take-append-le a (take a l₀) (replicate (e - a) z) (simp length-take (omega arith))
        ∙ take_all a (take a l₀) (simp length-take (omega arith)));
    back = refl;
  }

  pub zeroed_at : (i : ℕ) (d : A) → a ≤ i → i < e → z ≡ get_or zeroed i d
  zeroed_at i d h k =
      let n : length (take a l₀) ≡ a = simp length-take (omega arith) in
      let j : i ≡ length (take a l₀) + (i - a) = omega (arith, n) in
      sym (ap (λ (x : ℕ). get_or zeroed x d) j ∙ get_or-append-add (take a l₀) (replicate (e - a) z) (i - a) d
      ∙ get_or-replicate (e - a) (i - a) z d (omega arith))
