-- Links as the lists of a sketch give them: five numbers to an entry, and their signed lines in a run.
-- Assumes nothing.
use Rattle.std.specs.Prelude.{◌≡◌, List, ◌++◌, map, ℕ, ◌+◌, ◌*◌, ◌≤◌, ℤ, pos, length, get_or, drop}
use Rattle.loops.specs.Row.{listings}
use Rattle.links.specs.Link.{Link}
use Rattle.links.specs.Sketch.{entry_words, entry_first, entry_last, entry_length, entry_difference, entries}
use Rattle.text.specs.Put.{Put}
use Rattle.text.specs.Sketch.{link_text, spur_text, self_closing_text}
use Rattle.page.specs.Sketch.{link_line, spur_line, self_closing_line, lines_by}
use Rattle.page.specs.declared.sketch.Kind as kind
use Rattle.page.specs.declared.sketch.Kind.{Kind}
use Rattle.page.specs.declared.sketch.Place.{Place}

-- what is printed of a link of each kind
abbrev pub line_for : Kind → Link → List ℕ
line_for kind.TheVariants.Link x = link_line x
line_for kind.TheVariants.Spur x = spur_line x
line_for kind.TheVariants.Loop x = self_closing_line x

-- a number of an entry, by its place there
abbrev pub number_of : List ℤ → ℕ → ℤ
number_of e i = get_or e i (pos 0)

-- the same by its five numbers, "first mark, last mark, count of lines, length, difference", and its signed lines
unfoldable pub entry_line : Kind → List ℤ → List ℤ → List ℕ
unfolding link_text spur_text self_closing_text
entry_line kind.TheVariants.Link e list =
    link_text (number_of e entry_first) (number_of e entry_last) (number_of e entry_length) (number_of e entry_difference) list
entry_line kind.TheVariants.Spur e list = spur_text (number_of e entry_first) (number_of e entry_length) (number_of e entry_difference) list
entry_line kind.TheVariants.Loop e list =
    self_closing_text (number_of e entry_first) (number_of e entry_length) (number_of e entry_difference) list

-- part lies in the list from place a on
pub record LiesAt (part list : List ℤ) (a : ℕ) : Type 0 where
  pub past : List ℤ
  pub is : drop a list ≡ part ++ past
  pub inside : a ≤ length list

-- the signed lines of links, one link after the other
abbrev pub run_by : List Link → List ℤ
run_by xs = listings (map (λ (x : Link). x.way) xs)

-- of the count entries those from entry i on are of the links xs, whose signed lines lie in the run from place a on
pub record Entered (xs : List Link) (numbers run : List ℤ) (count i a : ℕ) : Type 0 where
  pub counted : count ≡ i + length xs
  pub numbers_lie : LiesAt (entries xs) numbers (i * entry_words)
  pub lines_lie : LiesAt (run_by xs) run a

-- all entries are of some links
pub record SomeEntered (numbers run : List ℤ) (count a : ℕ) : Type 0 where
  pub links : List Link
  pub entered : Entered links numbers run count 0 a

-- their lines are put, whatever links they are of
pub record EntriesPut (kind : Kind) (numbers run : List ℤ) (count : ℕ) (from to : Place) (out out' : List ℕ) : Type 0 where
  pub lines_put : (xs : List Link) → Entered xs numbers run count 0 from.run
      → Put out out' from.text to.text (lines_by (line_for kind) xs)
  pub run_is : (xs : List Link) → Entered xs numbers run count 0 from.run → to.run ≡ from.run + length (run_by xs)
