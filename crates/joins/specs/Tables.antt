-- Links in two tables, and what becomes of them there. Assumes nothing.
use Rattle.std.specs.Prelude.{ℕ, suc, ◌+◌, ◌-◌, ◌≤◌, ◌<◌, ◌≡◌, length, get_or, take}
use mathlib.Core.List.{List, [], ◌∷◌, ◌++◌, map, Memᴰ}
use borrow.Rule.Slice.PartMut.{mid_of}
use Rattle.book.specs.Limits.{most_lines}
use Rattle.links.specs.Link.{Link, joined}
use Rattle.joins.specs.Row.{row_limit, first_of, count_of, row_lines, link_row, Small}
use Rattle.joins.specs.Code.{codes_in}

-- the tables begin with the rows and with the runs of the links
pub record Holds (xs : List Link) (rows runs : List ℕ) : Type 0 where
  pub small : (x : Link) → Memᴰ x xs → Small x
  pub rows_behind : List ℕ
  pub rows_are : rows ≡ map link_row xs ++ rows_behind
  pub runs_behind : List ℕ
  pub runs_are : runs ≡ codes_in xs ++ runs_behind

-- the tables have a link at place i, whose run has its place
pub record LinkAt (i : ℕ) (rows runs : List ℕ) : Type 0 where
  pub few : length rows ≤ most_lines
  pub there : i < length rows
  pub marked : first_of (get_or rows i 0) < row_limit
  pub room : row_lines (take i rows) + count_of (get_or rows i 0) ≤ length runs

-- the link at place i becomes what f makes of it, and every other stays
abbrev pub Becomes : (Link → Link) → ℕ → List ℕ → List ℕ → List ℕ → List ℕ → Type 0
Becomes f i rows runs rows' runs' =
    (before : List Link) (x : Link) (after : List Link) → length before ≡ i → Holds (before ++ x ∷ after) rows runs
    → Holds (before ++ f x ∷ after) rows' runs'

-- the tables have a link at place i and others behind it up to the place end, whose runs have their places
pub record Behind (i end : ℕ) (rows runs : List ℕ) : Type 0 where
  pub few : length rows ≤ most_lines
  pub there : i < end
  pub most : end ≤ length rows
  pub its_lines : count_of (get_or rows i 0) ≤ row_lines (mid_of i (end - i) rows)
  pub room : row_lines (take i rows) + row_lines (mid_of i (end - i) rows) ≤ length runs

-- it goes behind them
abbrev pub GoesBehind : ℕ → ℕ → List ℕ → List ℕ → List ℕ → List ℕ → Type 0
GoesBehind i end rows runs rows' runs' =
    (before : List Link) (x : Link) (after later : List Link) → length before ≡ i → i + suc (length after) ≡ end
    → Holds (before ++ ((x ∷ after) ++ later)) rows runs → Holds (before ++ ((after ++ (x ∷ [])) ++ later)) rows' runs'

-- the tables have two links, at the places i and j, and others up to the place end; their runs have their places, and a row has room for
-- both
pub record Two (i j end : ℕ) (rows runs : List ℕ) : Type 0 where
  pub few : length rows ≤ most_lines
  pub in_order : i < j
  pub there : j < end
  pub most : end ≤ length rows
  pub marked : first_of (get_or rows i 0) < row_limit
  pub both : count_of (get_or rows i 0) + count_of (get_or rows j 0) < row_limit
  pub room : row_lines (take (i + 1) rows) + row_lines (mid_of (i + 1) (j - (i + 1)) rows) + count_of (get_or rows j 0) ≤ length runs

-- they become one, in the place of the first
abbrev pub BecomeOne : ℕ → ℕ → ℕ → List ℕ → List ℕ → List ℕ → List ℕ → Type 0
BecomeOne i j end rows runs rows' runs' =
    (before : List Link) (x : Link) (between : List Link) (y : Link) (after : List Link) → length before ≡ i
    → i + suc (length between) ≡ j → j + suc (length after) ≡ end
    → Holds (before ++ (x ∷ (between ++ (y ∷ after)))) rows runs → Holds (before ++ (joined x y ∷ (between ++ after))) rows' runs'
