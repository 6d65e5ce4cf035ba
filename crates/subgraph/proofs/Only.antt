-- Some of the lines, by their numbers. Assumes nothing.
use Prim.Native.Nat.{ℕ}
use mathlib.Core.Path.{◌≡◌, refl, sym}
use mathlib.Core.Bool.{Bool, true, false, ◌||◌}
use mathlib.Core.Logic.{◌⊎◌, inl, inr}
use mathlib.Core.List.Memᴰ
use mathlib.Core.List.{List, ◌∷◌, Memᴰ}
use lib.Dec.{eqb}
use borrow.Author.Tests.{eq-eqb, eqb-true}
use Rattle.network.specs.Standing.{Line}
use Rattle.network.specs.Subgraph.{is_in, only, numbers}
use Rattle.network.specs.Sound.{Rising}
use Rattle.network.proofs.Count.{unique}
use Rattle.network.proofs.Subgraph.{of_only, is_in_numbers}

pub in_more : (n m : ℕ) (ms : List ℕ) → is_in n ms ≡ true → is_in n (m ∷ ms) ≡ true
unfolding is_in
in_more n m ms h = go (eqb m n)
  where
    go : (t : Bool) → (t || is_in n ms) ≡ true
    go true = refl
    go false = h

pub in_first : (n m : ℕ) (ms : List ℕ) → m ≡ n → is_in n (m ∷ ms) ≡ true
unfolding is_in
in_first n m ms e = rw (eq-eqb m n e)

pub in_cases : (n m : ℕ) (ms : List ℕ) → is_in n (m ∷ ms) ≡ true → (m ≡ n) ⊎ (is_in n ms ≡ true)
unfolding is_in
in_cases n m ms h = go (eqb m n) refl h
  where
    go : (t : Bool) → eqb m n ≡ t → (t || is_in n ms) ≡ true → (m ≡ n) ⊎ (is_in n ms ≡ true)
    go true e h = inl (eqb-true m n e)
    go false e h = inr h

-- a line is known by its number
pub only_numbers : (lines ls : List Line) → Rising lines → ((l : Line) → Memᴰ l ls → Memᴰ l lines) → (l : Line)
    → Memᴰ l (only (numbers ls) lines) → Memᴰ l ls
only_numbers lines ls ris sub l m =
    let w = of_only (numbers ls) lines l m in
    let k = is_in_numbers ls l.number w.1 in
    Memᴰ.cast (unique lines ris l k.0 w.0 (sub k.0 k.1) (sym k.2)) k.1
