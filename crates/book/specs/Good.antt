-- What is known of a lent book that the test lets pass: every limit of document 01's table, by name. The rooms above use these facts and
-- open no definition of the test.
-- Assumes nothing.
use Rattle.std.specs.Prelude.{◌≡◌, List, ℕ, ◌*◌, ◌≤◌, ◌<◌, length, ℤ, pos, nat_abs}
use Rattle.laws.specs.Range.{Between}
use Rattle.book.specs.Limits.{most_version, least_marks, most_marks, most_lines, most_held, least_tolerance, most_tolerance}
use Rattle.book.specs.Limits.{most_difference, least_length, most_length, most_held_height, least_class, most_class}
use Rattle.book.specs.Version.{no_class, Classed}
use Rattle.book.specs.Held.{held_words, mark_at, height_at}
use Rattle.book.specs.Line.{line_words, from_at, to_at, difference_at, length_at, standing_at, class_at}
use Rattle.book.specs.Lent.{Lent}
use Rattle.book.specs.declared.Book.{Book}

-- the line at place i of a book of b marks
pub record GoodLine (b : ℕ) (lines : List ℤ) (i : ℕ) : Type 0 where
  pub from : Between 1 b (from_at lines i)
  pub to : Between 1 b (to_at lines i)
  pub apart : from_at lines i ≡ to_at lines i → ⊥
  pub difference : nat_abs (difference_at lines i) ≤ most_difference
  pub long : Between least_length most_length (length_at lines i)
  pub standing : Between 0 1 (standing_at lines i)

-- the held entry at place i of a book of b marks
pub record GoodHeld (b : ℕ) (held : List ℤ) (i : ℕ) : Type 0 where
  pub mark : Between 1 b (mark_at held i)
  pub height : nat_abs (height_at held i) ≤ most_held_height
  pub once : (j : ℕ) → j < i → mark_at held j ≡ mark_at held i → ⊥

-- n lines, each good, and nothing beside them
pub record Lines (lines : List ℤ) (b n : ℕ) : Type 0 where
  pub few : n ≤ most_lines
  pub whole : length lines ≡ n * line_words
  pub each : (i : ℕ) → i < n → GoodLine b lines i

-- h held entries, each good, and nothing beside them
pub record HeldEntries (held : List ℤ) (b h : ℕ) : Type 0 where
  pub few : h ≤ most_held
  pub whole : length held ≡ h * held_words
  pub each : (i : ℕ) → i < h → GoodHeld b held i

-- what a version asks of t and of the classes of n lines: "Version 1 keeps its single t" and its lines have none; in version 2 "the
-- header's t is 0" and each line has one
pub data Versioned (lines : List ℤ) (n : ℕ) : (version t : ℕ) → Type 0 where
  single : {t : ℕ} → least_tolerance ≤ t → t ≤ most_tolerance → ((i : ℕ) → i < n → class_at lines i ≡ no_class) → Versioned lines n 1 t
  classed : ((i : ℕ) → i < n → Between least_class most_class (class_at lines i)) → Versioned lines n 2 0

-- the lent book, with the counts k
pub record GoodBook (k : Book) (book : Lent) : Type 0 where
  pub version : book.version ≡ pos k.version
  pub marks : book.b ≡ pos k.marks
  pub a_mark : least_marks ≤ k.marks
  pub few_marks : k.marks ≤ most_marks
  pub tolerance : book.t ≡ pos k.tolerance
  pub by_version : Versioned book.lines k.lines k.version k.tolerance
  pub held_good : HeldEntries book.held k.marks k.held
  pub lines_good : Lines book.lines k.marks k.lines

-- what the work on the lines uses of it: its version, its counts, its tolerance, that every line is good, and that its class, if it has
-- one, is one of the table's
pub record GoodLines (k : Book) (lines : List ℤ) : Type 0 where
  pub known_version : k.version ≤ most_version
  pub a_mark : least_marks ≤ k.marks
  pub few_marks : k.marks ≤ most_marks
  pub small_tolerance : k.tolerance ≤ most_tolerance
  pub classes : (i : ℕ) → i < k.lines → Classed (class_at lines i)
  pub good : Lines lines k.marks k.lines
