-- The link ends at a mark. Assumes nothing.
use Rattle.std.specs.Prelude.{ℕ, zero, suc, ◌+◌, Bool, true, false, ◌||◌, cond, ◌≡◌, eqb}
use mathlib.Core.List.{List, [], ◌∷◌, ◌++◌, Memᴰ}
use Rattle.std.proofs.Math.Option.{Option, none, some}
use Rattle.laws.specs.Scan.{first_bad}
use Rattle.network.specs.Piece.{bit}
use Rattle.links.specs.Link.{Link}

-- "A self-closing loop counts as two ends at its mark"
abbrev pub ends_of : ℕ → Link → ℕ
ends_of m x = bit (eqb x.first m) + bit (eqb x.last m)

-- how many link ends mark m has
unfoldable pub ends_at : ℕ → List Link → ℕ
ends_at m [] = zero
ends_at m (x ∷ xs) = ends_of m x + ends_at m xs

abbrev pub has_end : ℕ → Link → Bool
has_end m x = eqb x.first m || eqb x.last m

-- the lowest of the marks 1 to b that has exactly k link ends; 0 where there is none
unfoldable pub lowest_with : ℕ → ℕ → List Link → ℕ
unfolding ends_at first_bad
lowest_with b k xs = first_bad (λ i. eqb (ends_at (suc i) xs) k) b

abbrev pub some_if : Bool → Link → Option Link → Option Link
some_if true x rest = some x
some_if false x rest = rest

-- the first of the links of which a test holds; and the links without it
unfoldable pub first_that : (Link → Bool) → List Link → Option Link
first_that test [] = none
first_that test (x ∷ xs) = some_if (test x) x (first_that test xs)

unfoldable pub but_first : (Link → Bool) → List Link → List Link
but_first test [] = []
but_first test (x ∷ xs) = cond (test x) xs (x ∷ but_first test xs)

-- mark m has link ends of two different links: here are the first two such links
pub record TwoEnds (m : ℕ) (links : List Link) : Type 0 where
  pub before : List Link
  pub one : Link
  pub between : List Link
  pub other : Link
  pub after : List Link
  pub links_are : links ≡ before ++ (one ∷ (between ++ (other ∷ after)))
  pub none_before : (y : Link) → Memᴰ y before → has_end m y ≡ false
  pub one_there : has_end m one ≡ true
  pub none_between : (y : Link) → Memᴰ y between → has_end m y ≡ false
  pub other_there : has_end m other ≡ true
