-- The link ends of every mark, counted row by row. Assumes nothing.
use Prim.Native.Nat.{ℕ, ◌+◌, ◌*◌, ◌≤◌, ◌<◌}
use native.Mathlib.Omega.{arith}
use native.Mathlib.Numerals.{add-one}
use native.Mathlib.Decide.{ℕ_discrete}
use mathlib.Core.Path.{◌≡◌, sym, ◌∙◌, ap}
use mathlib.Core.Bool.{Bool, true, false}
use mathlib.Core.List.{List, [], ◌∷◌}
use lib.Dec.{eqb}
use lib.ListN.{length, get_or, drop, drop_of_length-le, length-set}
use lib.Seq.{drop-cons, get_or-set_same, get_or-set_other}
use borrow.Author.Tests.{eq-eqb, ne_eqb}
use Rattle.book.specs.Limits.{most_lines}
use Rattle.network.specs.Piece.{bit}
use Rattle.joins.specs.Row.{first_of, last_of, row_ends, one_more, Between}

-- one end more at mark f
pub one_more_lem : (ends : List ℕ) (f m : ℕ) → m < length ends → get_or (one_more ends f) m 0 ≡ bit (eqb f m) + get_or ends m 0
one_more_lem ends f m h = go (ℕ_discrete m f)
  where
    go : Dec (m ≡ f) → get_or (one_more ends f) m 0 ≡ bit (eqb f m) + get_or ends m 0
    go (yes e) = rw (eq-eqb f m (sym e), e, get_or-set_same ends f (get_or ends f 0 + 1) 0 (omega arith)) (omega arith)
    go (no d) = rw (ne_eqb f m (λ e. d (sym e)), get_or-set_other ends f m (get_or ends f 0 + 1) 0 d) (omega arith)

bit_few : (t : Bool) → bit t ≤ 1
bit_few true = omega arith
bit_few false = omega arith

-- a row has two ends
ends_few : (m : ℕ) (rows : List ℕ) → row_ends m rows ≤ 2 * length rows
unfolding row_ends
ends_few m [] = omega arith
ends_few m (row ∷ rows) = omega (arith, ends_few m rows, bit_few (eqb (first_of row) m), bit_few (eqb (last_of row) m))

-- the first i rows are counted
pub record CountedTo (rows : List ℕ) (n : ℕ) (ends : List ℕ) (i : ℕ) : Type 0 where
  pub as_long : length ends ≡ n
  pub counted : (m : ℕ) → m < length ends → get_or ends m 0 + row_ends m (drop i rows) ≡ row_ends m rows

-- row i is counted: first its first mark, then its last
module _ (rows ends : List ℕ) (i n : ℕ) (few : length rows ≤ most_lines) (between : Between rows n)
    (h : i < length rows) (t : CountedTo rows n ends i) (first : ℕ) (is_first : first ≡ first_of (get_or rows i 0)) where
  pub first_few : get_or ends first 0 ≤ 2 * most_lines
  first_few =
      let b : first < length ends = omega (arith, (between i h).0, t.as_long) in
      omega (arith, t.counted first b, ends_few first rows)

  module _ (one : List ℕ) (is_one : one ≡ one_more ends first) (last : ℕ) (is_last : last ≡ last_of (get_or rows i 0)) where
    one_length : length one ≡ length ends
    one_length = ap length is_one ∙ length-set ends first (get_or ends first 0 + 1)

    at_one : (m : ℕ) → m < length one → get_or one m 0 ≡ bit (eqb (first_of (get_or rows i 0)) m) + get_or ends m 0
    at_one m b =
        ap (λ (l : List ℕ). get_or l m 0) is_one ∙ one_more_lem ends first m (omega (arith, one_length))
        ∙ ap (λ (f : ℕ). bit (eqb f m) + get_or ends m 0) is_first

    pub last_few : get_or one last 0 ≤ 2 * most_lines
    unfolding row_ends
    last_few =
        let b : last < length one = omega (arith, (between i h).1, one_length, t.as_long) in
        let k : last < length ends = omega (arith, one_length) in
        let s = ap (row_ends last) (drop-cons rows i 0 h) in
        omega (arith, at_one last b, t.counted last k, ends_few last rows)

    module _ (both : List ℕ) (is_both : both ≡ one_more one last) where
      both_length : length both ≡ length one
      both_length = ap length is_both ∙ length-set one last (get_or one last 0 + 1)

      counted : (m : ℕ) → m < length both → get_or both m 0 + row_ends m (drop (i + 1) rows) ≡ row_ends m rows
      unfolding row_ends
      counted m b =
          let k : m < length one = omega (arith, both_length) in
          let d =
          ap (λ (l : List ℕ). get_or l m 0) is_both ∙ one_more_lem one last m k ∙ ap (λ (f : ℕ). bit (eqb f m) + get_or one m 0) is_last in
          let s = ap (row_ends m) (drop-cons rows i 0 h) in
          rw (add-one i) (omega (arith, at_one m k, t.counted m (omega (arith, one_length))))

      pub counted_next : CountedTo rows n both (i + 1)
      counted_next = record { as_long = both_length ∙ one_length ∙ t.as_long; counted = counted }

pub counted_start : (rows ends : List ℕ) (n : ℕ) → length ends ≡ n → ((m : ℕ) → m < n → get_or ends m 0 ≡ 0) → CountedTo rows n ends 0
counted_start rows ends n e z = record { as_long = e; counted = λ m b. omega (arith, z m (omega arith)) }

pub counted_end : (rows ends : List ℕ) (n i : ℕ) → length rows ≤ i → CountedTo rows n ends i → (m : ℕ) → m < n
    → get_or ends m 0 ≡ row_ends m rows
unfolding row_ends
counted_end rows ends n i h t m b =
    let e = ap (row_ends m) (drop_of_length-le rows h) in
    omega (arith, t.counted m (omega (arith, t.as_long)))
