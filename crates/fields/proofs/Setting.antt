-- Lists by their places. Assumes nothing.
use Prim.Native.Nat.{ℕ, zero, suc, ◌-◌, ◌≤◌}
use native.Mathlib.Omega.{arith}
use mathlib.Core.Path.{◌≡◌, refl}
use mathlib.Core.List.{List, [], ◌∷◌}
use lib.ListN.{get_or, set, length}
use lib.IntN.{ℤ, pos}

-- a place counted from 0, and the mark's number
pub place : (v : ℕ) → suc v - 1 ≡ v
place v = omega arith

-- what holds of every element, and of one that is stored, holds of every element after the store
pub set_all : {A : Type 0} (P : A → Type 0) (l : List A) (i : ℕ) (v d : A) → P v → ((j : ℕ) → P (get_or l j d)) → (j : ℕ)
    → P (get_or (set l i v) j d)
set_all P [] i v d p h j = h j
set_all P (x ∷ xs) zero v d p h zero = p
set_all P (x ∷ xs) zero v d p h (suc j) = h (suc j)
set_all P (x ∷ xs) (suc i) v d p h zero = h 0
set_all P (x ∷ xs) (suc i) v d p h (suc j) = set_all P xs i v d p (λ k. h (suc k)) j

pub past_end : (hs : List ℤ) (j : ℕ) → length hs ≤ j → get_or hs j (pos 0) ≡ pos 0
past_end [] zero l = refl
past_end [] (suc j) l = refl
past_end (x ∷ xs) zero l = absurd (omega arith)
past_end (x ∷ xs) (suc j) l = past_end xs j (omega arith)
