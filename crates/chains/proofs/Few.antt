-- Different numbers below a limit are no more than the limit. Assumes nothing.
use Prim.Native.Nat.{ℕ, zero, suc, ◌≤◌, ◌<◌}
use native.Mathlib.Omega.{arith}
use native.Mathlib.Decide.{ℕ_discrete}
use mathlib.Core.Path.{◌≡◌, refl, sym, ◌∙◌}
use mathlib.Core.List.Memᴰ
use mathlib.Core.List.{List, [], ◌∷◌, Memᴰ}
use lib.ListN.{length}

-- no number stands twice
pub data Differ : List ℕ → Type 0 where
  no_two : Differ []
  differs : {x : ℕ} {xs : List ℕ} → ((y : ℕ) → Memᴰ y xs → x ≡ y → ⊥) → Differ xs → Differ (x ∷ xs)

-- the list without x: what is left, and how much that is
record Left (x : ℕ) (xs : List ℕ) : Type 0 where
  ys : List ℕ
  differ : Differ ys
  of : (y : ℕ) → Memᴰ y ys → Memᴰ y xs
  out : (y : ℕ) → Memᴰ y ys → y ≡ x → ⊥
  size : length xs ≤ suc (length ys)

without : (x : ℕ) (xs : List ℕ) → Differ xs → Left x xs
without x [] d = record { ys = []; differ = no_two; of = λ y m. m; out = λ y m e. Memᴰ.not-nil m; size = omega arith }
without x (z ∷ xs) (differs f d) = go (ℕ_discrete z x) (without x xs d)
  where
    go : Dec (z ≡ x) → Left x xs → Left x (z ∷ xs)
    go (yes e) w = record { ys = xs; differ = d; of = λ y m. Memᴰ.tail m; out = λ y m q. f y m (e ∙ sym q); size = omega arith }
    go (no e) w = record {
      ys = z ∷ w.ys;
      differ = differs (λ y m. f y (w.of y m)) w.differ;
      of = of;
      out = out;
      size = omega (arith, w.size);
    }
      where
        of : (y : ℕ) → Memᴰ y (z ∷ w.ys) → Memᴰ y (z ∷ xs)
        of y (Memᴰ.head p) = Memᴰ.head p
        of y (Memᴰ.tail m) = Memᴰ.tail (w.of y m)

        out : (y : ℕ) → Memᴰ y (z ∷ w.ys) → y ≡ x → ⊥
        out y (Memᴰ.head p) q = e (sym p ∙ q)
        out y (Memᴰ.tail m) q = w.out y m q

pub few : (n : ℕ) (xs : List ℕ) → ((x : ℕ) → Memᴰ x xs → x < n) → Differ xs → length xs ≤ n
few zero [] low d = omega arith
few zero (x ∷ xs) low d = absurd (omega (arith, low x (Memᴰ.head refl)))
few (suc n) xs low d =
    let w = without n xs d in
    omega (arith, w.size, few n w.ys (λ y m. omega (arith, low y (w.of y m), w.out y m)) w.differ)
