-- The rows of links, read back. Assumes nothing.
use Prim.Native.Nat.{ℕ, ◌+◌}
use native.Mathlib.Omega.{arith}
use mathlib.Core.Path.{◌≡◌, refl, sym, ◌∙◌, ap₂}
use mathlib.Core.List.{List, [], ◌∷◌, map, Memᴰ}
use lib.ListN.{length, length-append}
use Rattle.network.specs.Codes.{codes}
use Rattle.links.specs.Link.{Link, closes_on_itself}
use Rattle.links.specs.Ends.{ends_at, has_end}
use Rattle.joins.specs.Row.{first_of, last_of, count_of, link_row, Small, row_ends, row_has_end, row_closes, row_lines}
use Rattle.joins.specs.Code.{codes_in}
use Rattle.joins.proofs.Codes.{codes_length}

module _ (x : Link) (s : Small x) where
  pub first_of_lem : first_of (link_row x) ≡ x.first
  unfolding link_row
  first_of_lem = omega (arith, s.first, s.last, s.count)

  pub last_of_lem : last_of (link_row x) ≡ x.last
  unfolding link_row
  last_of_lem = omega (arith, s.first, s.last, s.count)

  pub count_of_lem : count_of (link_row x) ≡ length x.way
  unfolding link_row
  count_of_lem = omega (arith, s.first, s.last, s.count)

  pub has_end_of : (m : ℕ) → row_has_end m (link_row x) ≡ has_end m x
  unfolding row_has_end
  has_end_of m = rw (first_of_lem, last_of_lem)

  pub closes_of : row_closes (link_row x) ≡ closes_on_itself x
  unfolding row_closes
  closes_of = rw (first_of_lem, last_of_lem)

pub ends_of : (m : ℕ) (xs : List Link) → ((x : Link) → Memᴰ x xs → Small x) → row_ends m (map link_row xs) ≡ ends_at m xs
unfolding row_ends ends_at
ends_of m [] s = refl
ends_of m (x ∷ xs) s =
    let k = s x (Memᴰ.head refl) in
    rw (first_of_lem x k, last_of_lem x k, ends_of m xs (λ y i. s y (Memᴰ.tail i)))

-- the rows have as many lines as the runs
pub lines_of : (xs : List Link) → ((x : Link) → Memᴰ x xs → Small x) → row_lines (map link_row xs) ≡ length (codes_in xs)
unfolding row_lines codes_in
lines_of [] s = refl
lines_of (x ∷ xs) s =
    ap₂ (λ (a b : ℕ). a + b) (count_of_lem x (s x (Memᴰ.head refl)) ∙ sym (codes_length x.way))
    (lines_of xs (λ y i. s y (Memᴰ.tail i)))
    ∙ sym (length-append (codes x.way) (codes_in xs))
