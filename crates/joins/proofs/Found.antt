-- The first link of which a test holds, by its place among the rows. Assumes nothing.
use Prim.Native.Nat.{ℕ, ◌<◌, ◌≤◌}
use native.Mathlib.Omega.{arith}
use mathlib.Core.Path.{◌≡◌, refl, ◌∙◌, ap}
use mathlib.Core.Bool.{Bool, true, false}
use mathlib.Core.List.{List, [], ◌∷◌, ◌++◌, map, Memᴰ}
use lib.ListN.{length, length-append, length-map}
use borrow.Author.Tests.{lt-ltb, le-ltb}
use Rattle.std.specs.Prelude.{Some, None}
use Rattle.std.specs.List.{position, position_or_len}
use Rattle.links.specs.Link.{Link}
use Rattle.joins.specs.Row.{link_row, Small}

module _ (test : Link → Bool) (on_row : ℕ → Bool) (same : (x : Link) → Small x → on_row (link_row x) ≡ test x) where
  -- as many rows stand before the first of which the test holds
  first_at : (before : List Link) (x : Link) (after : List Link) → ((y : Link) → Memᴰ y (before ++ x ∷ after) → Small y)
      → ((y : Link) → Memᴰ y before → test y ≡ false) → test x ≡ true
      → position_or_len on_row (map link_row (before ++ x ∷ after)) ≡ length before
  first_at [] x after s none holds = rw (same x (s x (Memᴰ.head refl)) ∙ holds)
  first_at (y ∷ before) x after s none holds =
      rw (same y (s y (Memᴰ.head refl)) ∙ none y (Memᴰ.head refl))
      (omega (arith, first_at before x after (λ z i. s z (Memᴰ.tail i)) (λ z i. none z (Memᴰ.tail i)) holds))

  -- the place of the first link of which the test holds
  pub place_of_lem : (before : List Link) (x : Link) (after : List Link) → ((y : Link) → Memᴰ y (before ++ x ∷ after) → Small y)
      → ((y : Link) → Memᴰ y before → test y ≡ false) → test x ≡ true
      → (l : List ℕ) → l ≡ map link_row (before ++ x ∷ after) → position on_row l ≡ Some (length before)
  place_of_lem before x after s none holds l e =
      let there : length before < length (map link_row (before ++ x ∷ after)) =
      omega (arith, length-map (before ++ x ∷ after) link_row, length-append before (x ∷ after)) in
      ap (position on_row) e ∙ rw (first_at before x after s none holds, lt-ltb _ _ there)

  -- where it holds of none
  none_at : (xs : List Link) → ((x : Link) → Memᴰ x xs → Small x) → ((y : Link) → Memᴰ y xs → test y ≡ false)
      → position_or_len on_row (map link_row xs) ≡ length (map link_row xs)
  none_at [] s none = refl
  none_at (x ∷ xs) s none =
      rw (same x (s x (Memᴰ.head refl)) ∙ none x (Memᴰ.head refl))
      (omega (arith, none_at xs (λ z i. s z (Memᴰ.tail i)) (λ z i. none z (Memᴰ.tail i))))

  pub no_place : (xs : List Link) → ((x : Link) → Memᴰ x xs → Small x) → ((y : Link) → Memᴰ y xs → test y ≡ false)
      → (l : List ℕ) → l ≡ map link_row xs → position on_row l ≡ None
  no_place xs s none l e =
      let past : length (map link_row xs) ≤ length (map link_row xs) = omega arith in
      ap (position on_row) e ∙ rw (none_at xs s none, le-ltb _ _ past)
