-- Where the numbers of a line stand: one place to a line and a field, and what stands there once a number is set.
-- Assumes nothing.
use mathlib.Core.Path.{◌≡◌}
use mathlib.Core.List.{List}
use Prim.Native.Nat.{ℕ, suc, ◌+◌, ◌*◌, ◌≤◌, ◌<◌}
use native.Mathlib.Omega.{arith}
use lib.ListN.{length, set, drop, length-take, length-drop}
use lib.Seq.{get_or-take, get_or-drop, get_or-set_same, get_or-set_other}
use lib.IntN.{ℤ, pos}
use Rattle.book.specs.Line.{line_words, place, field, entry_at, line_count}

-- ---- whole lines

-- n lines and no number more are n lines
pub count_of_lem : (lines : List ℤ) (n : ℕ) → length lines ≡ n * line_words → line_count lines ≡ n
count_of_lem lines n whole = omega arith

-- the numbers of a line that is counted are in the slice
pub line_there : (lines : List ℤ) (i : ℕ) → i < line_count lines → place i line_words ≤ length lines
line_there lines i h = omega arith

pub place_there : (lines : List ℤ) (i k : ℕ) → i < line_count lines → k < line_words → place i k < length lines
place_there lines i k h f = omega arith

-- ---- one place to a line and a field

pub same_line : (i j k m : ℕ) → k < line_words → m < line_words → place i k ≡ place j m → i ≡ j
same_line i j k m f g e = omega arith

pub same_field : (i j k m : ℕ) → k < line_words → m < line_words → place i k ≡ place j m → k ≡ m
same_field i j k m f g e = omega arith

-- ---- a field is set

module _ (lines : List ℤ) (i k : ℕ) (z : ℤ) where
  pub field_set : place i k < length lines → field k (set lines (place i k) z) i ≡ z
  field_set h = get_or-set_same lines (place i k) z (pos 0) h

  -- the other fields of the line, and those of every other line, stay
  pub field_kept : (m : ℕ) → k < line_words → m < line_words → (m ≡ k → ⊥) → (j : ℕ) → field m (set lines (place i k) z) j ≡ field m lines j
  field_kept m f g apart j = get_or-set_other lines (place i k) (place j m) z (pos 0) (λ e. apart (same_field j i m k g f e))

  pub line_kept : (j : ℕ) → (j ≡ i → ⊥) → (m : ℕ) → k < line_words → m < line_words → field m (set lines (place i k) z) j ≡ field m lines j
  line_kept j apart m f g = get_or-set_other lines (place i k) (place j m) z (pos 0) (λ e. apart (same_line j i m k g f e))

-- ---- the entry of a line

pub entry_field : (lines : List ℤ) (i k : ℕ) → k < line_words → field k (entry_at lines i) 0 ≡ field k lines i
entry_field lines i k h =
    let first : place 0 k ≡ k = omega arith in
    rw (first, get_or-take, get_or-drop)

pub entry_whole : (lines : List ℤ) (i : ℕ) → i < line_count lines → length (entry_at lines i) ≡ line_words
entry_whole lines i h = simp (length-take, length-drop) (omega arith)

-- the lines after the first, and after the first i
pub field_on : (lines : List ℤ) (j k : ℕ) → field k (drop line_words lines) j ≡ field k lines (suc j)
field_on lines j k =
    let e : line_words + place j k ≡ place (suc j) k = omega arith in
    rw (get_or-drop line_words lines (place j k) (pos 0), e)

pub field_from : (lines : List ℤ) (i j k : ℕ) → field k (drop (i * line_words) lines) j ≡ field k lines (i + j)
field_from lines i j k =
    let e : i * line_words + place j k ≡ place (i + j) k = omega arith in
    rw (get_or-drop (i * line_words) lines (place j k) (pos 0), e)
