-- A link in one number: its row. Assumes nothing.
use Rattle.std.specs.Prelude.{ℕ, zero, ◌+◌, ◌*◌, ◌/◌, ◌%◌, ◌<◌, Bool, ◌||◌, List, [], ◌∷◌, eqb, length, get_or, set}
use Rattle.network.specs.Piece.{bit}
use Rattle.links.specs.Link.{Link}

-- more than any mark, and more than any count of lines
abbrev pub row_limit : ℕ
row_limit = 1024

-- first mark, last mark and count of lines
abbrev pub row_of : ℕ → ℕ → ℕ → ℕ
row_of first last count = (first * row_limit + last) * row_limit + count

-- read back
abbrev pub first_of : ℕ → ℕ
first_of row = row / row_limit / row_limit

abbrev pub last_of : ℕ → ℕ
last_of row = row / row_limit % row_limit

abbrev pub count_of : ℕ → ℕ
count_of row = row % row_limit

-- the row of a link
unfoldable pub link_row : Link → ℕ
link_row x = row_of x.first x.last (length x.way)

-- a link whose numbers have room in a row
pub record Small (x : Link) : Type 0 where
  pub first : x.first < row_limit
  pub last : x.last < row_limit
  pub count : length x.way < row_limit

-- each row is of marks below n
abbrev pub Between : List ℕ → ℕ → Type 0
Between rows n = (i : ℕ) → i < length rows → (first_of (get_or rows i 0) < n) × (last_of (get_or rows i 0) < n)

-- ---- what is asked of rows

-- how many ends at mark m the rows have
unfoldable pub row_ends : ℕ → List ℕ → ℕ
row_ends m [] = zero
row_ends m (row ∷ rows) = bit (eqb (first_of row) m) + bit (eqb (last_of row) m) + row_ends m rows

-- one end more at mark m
abbrev pub one_more : List ℕ → ℕ → List ℕ
one_more ends m = set ends m (get_or ends m 0 + 1)

unfoldable pub row_has_end : ℕ → ℕ → Bool
row_has_end m row = eqb (first_of row) m || eqb (last_of row) m

unfoldable pub row_closes : ℕ → Bool
row_closes row = eqb (first_of row) (last_of row)

-- how many lines the rows have in all
unfoldable pub row_lines : List ℕ → ℕ
row_lines [] = zero
row_lines (row ∷ rows) = count_of row + row_lines rows
