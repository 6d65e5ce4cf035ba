-- Writing what was read: an entry, a run of entries, and the whole file.
-- Assumes nothing.
use mathlib.Core.Path.{◌≡◌, refl, sym, ◌∙◌, ap}
use mathlib.Core.Bool.{Bool, true, false, cond}
use mathlib.Core.List.{List, [], ◌++◌}
use Prim.Native.Nat.{ℕ, zero, suc, ◌+◌, ◌*◌, ◌≤◌, ◌<◌}
use native.Mathlib.Nat.{zero-mul}
use native.Mathlib.Decide.{dec_lt}
use native.Mathlib.Omega.{arith}
use lib.ListN.{length, get_or, take, drop, length-take, length-drop, get_or-eq_default}
use lib.Seq.{take-add, take_all, get_or-take, get_or-drop, drop-drop}
use lib.IntN.{ℤ, pos}
use Rattle.laws.specs.Tests.{eq_z}
use Rattle.laws.proofs.FirstBad.{none_any}
use Rattle.book.specs.Line.{standing_field, standing_at, entry_at}
use Rattle.book.specs.Version.{has_classes}
use Rattle.book.specs.declared.Book.{Book}
use Rattle.book.proofs.Places.{entry_field}
use Rattle.file.specs.Wire.{Bytes, be}
use Rattle.file.specs.Entry.{entry_bytes, held_numbers, line_numbers, numbers, line_kind, entries}
use Rattle.file.specs.Read.{length_of, head_of, held_of, lines_of}
use Rattle.file.specs.Read.{States}
use Rattle.file.specs.declared.entry.Kind.{Kind}
use Rattle.file.specs.declared.entry.Kind.TheVariants.{Held, Line, ClassedLine}
use Rattle.file.proofs.Heads.{Says, head_says, head_states}
use Rattle.file.proofs.Entries.{room_for, entry_read, line_read}
use Rattle.writer.specs.Bytes.{bytes_of}
use Rattle.writer.specs.Entry.{held_bytes, line_bytes, classed_line_bytes, bytes, written}
use Rattle.writer.specs.Write.{head_bytes, file_of, any_withdrawn, cannot_say}
use Rattle.writer.proofs.BothWays.{be_below, four_back, eight_back}
use Rattle.writer.proofs.Fields.{field_back}
use Rattle.writer.proofs.FileRead.{file_is}

-- ---- an entry, by its bytes

module _ (s : List ℕ) (b : Bytes s) where
  -- a number, unsigned
  next : (p : List ℕ) (a k : ℕ) → a + k ≤ length s → p ≡ take a s → p ++ bytes_of k (be k s a) ≡ take (a + k) s
  next p a k h e = field_back s p a k (be k s a) b h e refl

  held_written : length s ≡ 10 → held_bytes (held_numbers s) ≡ s
  unfolding held_bytes held_numbers
  held_written h =
      let p₁ = next [] 0 2 (omega arith) refl in
      field_back s _ 2 8 _ b (omega arith) p₁ (eight_back (be 8 s 2) (be_below 8 s 2 b)) ∙ take_all 10 s (omega arith)

  four_written : (stands its_class : ℤ) → 12 ≤ length s → line_bytes (line_numbers stands its_class s) ≡ take 12 s
  unfolding line_bytes line_numbers
  four_written stands its_class h =
      let p₁ = next [] 0 2 (omega arith) refl in
      let p₂ = next _ 2 2 (omega arith) p₁ in
      let p₃ = field_back s _ 4 4 _ b (omega arith) p₂ (four_back (be 4 s 4) (be_below 4 s 4 b)) in
      next _ 8 4 (omega arith) p₃

  classed_written : length s ≡ 14 → classed_line_bytes (numbers ClassedLine s) ≡ s
  unfolding classed_line_bytes line_numbers
  classed_written h =
      let p₁ = next _ 12 1 (omega arith) (four_written (pos (be 1 s 13)) (pos (be 1 s 12)) (omega arith)) in
      next _ 13 1 (omega arith) p₁ ∙ take_all 14 s (omega arith)

pub entry_written : (kind : Kind) (s : List ℕ) → Bytes s → length s ≡ entry_bytes kind → bytes kind (numbers kind s) ≡ s
entry_written Held s b h = held_written s b h
entry_written Line s b h = four_written s b _ _ (omega arith) ∙ take_all 12 s (omega arith)
entry_written ClassedLine s b h = classed_written s b h

-- ---- a run of entries

bytes_part : (s : List ℕ) (a n : ℕ) → Bytes s → Bytes (take n (drop a s))
bytes_part s a n b i = go (dec_lt i n)
  where
    go : Dec (i < n) → get_or (take n (drop a s)) i 0 < 256
    go (yes l) = rw (get_or-take n (drop a s) i 0 l, get_or-drop a s i 0) (b (a + i))
    go (no l) =
        let short : length (take n (drop a s)) ≤ i = simp length-take (omega arith) in
        rw (get_or-eq_default (take n (drop a s)) 0 short) (omega arith)

module _ (kind : Kind) (file : List ℕ) (a most : ℕ) (b : Bytes file) (room : a + most * entry_bytes kind ≤ length file) where
  abbrev part : ℕ → List ℕ
  part i = take (entry_bytes kind) (drop (a + i * entry_bytes kind) file)

  part_length : (i : ℕ) → i < most → length (part i) ≡ entry_bytes kind
  part_length i l = let whole = room_for i most (entry_bytes kind) l in simp (length-take, length-drop) (omega arith)

  pub entries_written : (n : ℕ) → n ≤ most → written kind (entries kind file a most) n ≡ take (n * entry_bytes kind) (drop a file)
  unfolding written
  entries_written zero l = rw zero-mul
  entries_written (suc n) l =
      let more : n * entry_bytes kind + entry_bytes kind ≡ suc n * entry_bytes kind = omega arith in
      rw (
        entries_written n (omega arith),
        entry_read kind file a most n (omega arith),
        entry_written kind (part n) (bytes_part file (a + n * entry_bytes kind) (entry_bytes kind) b) (part_length n (omega arith)),
        ← (drop-drop (n * entry_bytes kind) a file),
      ) (sym (take-add (n * entry_bytes kind) (entry_bytes kind) (drop a file)) ∙ ap (λ (m : ℕ). take m (drop a file)) more)

-- ---- the whole file

module _ (file : List ℕ) (k : Book) (b : Bytes file) (e : head_of file ≡ States k) where
  abbrev said : Says file k
  said = head_says file k e

  abbrev its_size : length file ≡ length_of k
  its_size = (head_states file k e).size

  head_written : head_bytes k ≡ take 13 file
  unfolding head_bytes
  head_written =
      let c = said.counts_are in
      let p₁ = field_back file [] 0 4 (length_of k) b (omega (arith, its_size)) refl
      (ap (bytes_of 4) (sym its_size ∙ sym said.its_length)) in
      let p₂ = field_back file _ 4 1 k.version b (omega (arith, its_size)) p₁ (ap (λ (x : Book). bytes_of 1 x.version) c) in
      let p₃ = field_back file _ 5 2 k.tolerance b (omega (arith, its_size)) p₂ (ap (λ (x : Book). bytes_of 2 x.tolerance) c) in
      let p₄ = field_back file _ 7 2 k.marks b (omega (arith, its_size)) p₃ (ap (λ (x : Book). bytes_of 2 x.marks) c) in
      let p₅ = field_back file _ 9 2 k.held b (omega (arith, its_size)) p₄ (ap (λ (x : Book). bytes_of 2 x.held) c) in
      field_back file _ 11 2 k.lines b (omega (arith, its_size)) p₅ (ap (λ (x : Book). bytes_of 2 x.lines) c)

  held_written_back : written Held (held_of file k) k.held ≡ take (k.held * 10) (drop 13 file)
  unfolding held_of
  held_written_back = entries_written Held file 13 k.held b (omega (arith, its_size)) k.held (omega arith)

  lines_written_back : written (line_kind k.version) (lines_of file k) k.lines
      ≡ take (k.lines * entry_bytes (line_kind k.version)) (drop (13 + k.held * 10) file)
  unfolding lines_of
  lines_written_back =
      entries_written (line_kind k.version) file (13 + k.held * 10) k.lines b (omega (arith, its_size)) k.lines (omega arith)

  -- "writing what was read gives the same bytes"
  pub file_written : file_of k (held_of file k) (lines_of file k) ≡ file
  file_written =
      let h = k.held * 10 in
      let n = k.lines * entry_bytes (line_kind k.version) in
      rw (
        file_is k (held_of file k) (lines_of file k),
        head_written,
        held_written_back,
        lines_written_back,
        ← (take-add 13 h file),
        ← (take-add (13 + h) n file),
      ) (take_all (13 + h + n) file (omega (arith, its_size)))

-- ---- a file never has what its version cannot say

module _ (file : List ℕ) (k : Book) where
  -- of version 1 every line that is read stands
  stands : has_classes (pos k.version) ≡ false → (i : ℕ) → i < k.lines → standing_at (lines_of file k) i ≡ pos 1
  unfolding line_numbers
  stands e i l =
      let part = take 12 (drop (13 + k.held * 10 + i * 12) file) in
      let read : entry_at (lines_of file k) i ≡ numbers Line part = rw e at (line_read file k i l) in
      sym (entry_field (lines_of file k) i standing_field (omega arith)) ∙ ap (λ (entry : List ℤ). standing_at entry 0) read

  not_withdrawn : has_classes (pos k.version) ≡ false → (i : ℕ) → i < k.lines → eq_z (standing_at (lines_of file k) i) (pos 0) ≡ false
  unfolding eq_z
  not_withdrawn e i l = ap (λ (z : ℤ). eq_z z (pos 0)) (stands e i l)

  pub read_is_sayable : cannot_say k (lines_of file k) ≡ false
  unfolding cannot_say any_withdrawn
  read_is_sayable = go (has_classes (pos k.version)) refl
    where
      go : (c : Bool) → has_classes (pos k.version) ≡ c → cond c false (any_withdrawn (lines_of file k) k.lines) ≡ false
      go true e = refl
      go false e = none_any (λ i. eq_z (standing_at (lines_of file k) i) (pos 0)) k.lines (not_withdrawn e)
