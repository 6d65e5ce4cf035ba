-- The entries of links, written from their rows and runs. Assumes nothing.
use Rattle.std.specs.Prelude.{ℕ, ◌+◌, ◌*◌, ◌≤◌, ◌≡◌, Bool, ◌||◌, ℤ, pos, ltb, length, take, drop}
use mathlib.Core.List.{List, [], ◌∷◌, ◌++◌, map, Memᴰ}
use Rattle.book.specs.Limits.{most_lines}
use Rattle.network.specs.Standing.{standing}
use Rattle.network.specs.Walk.{Pass}
use Rattle.links.specs.Link.{Link}
use Rattle.links.specs.Sketch.{Sketch, in_all, entry_words, entries}
use Rattle.rows.specs.Sums.{length_of, rise_of}
use Rattle.joins.specs.Row.{first_of, last_of, link_row, Small, row_lines}
use Rattle.joins.specs.Code.{codes_in}
use Rattle.joins.specs.Step.{Tabled}
use Rattle.joins.specs.declared.Counts.{Counts}
use Rattle.junctions.specs.Call.{Lists}

-- the entry that a row and a run of the book ls make
unfoldable pub entry_by : List ℤ → ℕ → List ℕ → List ℤ
unfolding length_of rise_of
entry_by ls row run = pos (first_of row) ∷ pos (last_of row) ∷ pos (length run) ∷ pos (length_of ls run) ∷ rise_of ls run ∷ []

-- a link over standing lines of the book ls
pub record OverLines (ls : List ℤ) (x : Link) : Type 0 where
  pub small : Small x
  pub few : length x.way ≤ most_lines
  pub stand : (p : Pass) → Memᴰ p x.way → Memᴰ p.line (standing ls)
  pub numbered : (p : Pass) → Memᴰ p x.way → p.line.number ≤ most_lines

-- the rows are those of the links xs, and the runs begin with theirs
pub record ListIn (ls : List ℤ) (xs : List Link) (rows runs : List ℕ) : Type 0 where
  pub each : (x : Link) → Memᴰ x xs → OverLines ls x
  pub rows_are : rows ≡ map link_row xs
  pub runs_behind : List ℕ
  pub runs_are : runs ≡ codes_in xs ++ runs_behind

-- of some links
pub record SomeIn (ls : List ℤ) (rows runs : List ℕ) : Type 0 where
  pub few : length rows ≤ most_lines
  pub links : List Link
  pub listed : ListIn ls links rows runs

-- their entries stand from place 0 of the output on, and the place after their runs is answered
pub record Wrote (xs : List Link) (out out' : List ℤ) (after : ℕ) : Type 0 where
  pub written : out' ≡ entries xs ++ drop (length xs * entry_words) out
  pub after_is : after ≡ length (codes_in xs)

-- ---- of a whole sketch

-- the tables hold the sketch s, whose links, spurs and loops run over standing lines, no more than a book has
pub record SketchOver (ls : List ℤ) (s : Sketch) (rows runs : List ℕ) (c : Counts) : Type 0 where
  pub tabled : Tabled s rows runs c
  pub over : (x : Link) → Memᴰ x (in_all s) → OverLines ls x
  pub few : length (codes_in (in_all s)) ≤ most_lines

pub record SomeSketch (ls : List ℤ) (rows runs : List ℕ) (c : Counts) : Type 0 where
  pub rows_few : length rows ≤ most_lines
  pub sketch : Sketch
  pub held : SketchOver ls sketch rows runs c

-- how many lines the links, spurs and loops have in all
abbrev pub lines_by : List ℕ → Counts → ℕ
lines_by rows c = row_lines (take (c.links + c.spurs + c.loops) rows)

-- whether one of the outputs has no room for so many entries, or for so many lines
unfoldable pub short_by : Counts → ℕ → Lists → Bool
short_by c n out =
    ltb (length out.links) (c.links * entry_words) || ltb (length out.spurs) (c.spurs * entry_words)
    || ltb (length out.loops) (c.loops * entry_words) || ltb (length out.run) n

-- each output has room
pub record Roomy (c : Counts) (n : ℕ) (out : Lists) : Type 0 where
  pub links : c.links * entry_words ≤ length out.links
  pub spurs : c.spurs * entry_words ≤ length out.spurs
  pub loops : c.loops * entry_words ≤ length out.loops
  pub run : n ≤ length out.run
