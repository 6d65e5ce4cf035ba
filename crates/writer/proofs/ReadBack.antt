-- Reading what was written: an entry, a run of entries.
-- Assumes nothing.
use mathlib.Core.Path.{◌≡◌, refl, sym, ◌∙◌, ap, subst}
use mathlib.Core.List.{List, [], ◌∷◌, ◌++◌, append_assoc}
use Prim.Native.Nat.{ℕ, zero, suc, ◌+◌, ◌*◌, ◌^◌, ◌<◌}
use native.Mathlib.Nat.{zero-mul}
use native.Mathlib.Omega.{arith}
use lib.ListN.{length, take, drop, length-append}
use lib.Seq.{take-add, take_at, drop_at}
use lib.IntN.{ℤ, pos, negsuc, nat_abs}
use mir.Syntax.{w32, w64}
use mir.Val.{SFits, to_z, of_z}
use mir.Facts.{to_z-of_z, Fits-of_z}
use Rattle.laws.specs.Range.{Between}
use Rattle.laws.proofs.Size.{size_fits}
use Rattle.book.specs.Version.{no_class}
use Rattle.file.specs.Wire.{be}
use Rattle.file.specs.Entry.{entry_bytes, entry_words, held_numbers, line_numbers, numbers, entries}
use Rattle.file.specs.declared.entry.Kind.{Kind}
use Rattle.file.specs.declared.entry.Kind.TheVariants.{Line, ClassedLine}
use Rattle.writer.specs.Bytes.{bytes_of, in_bytes}
use Rattle.writer.specs.Entry.{held_bytes, line_bytes, classed_line_bytes, bytes, written}
use Rattle.writer.proofs.BothWays.{in_four}
use Rattle.writer.proofs.Fields.{run, field_read}
use Rattle.writer.proofs.Entries.{entry_length, written_length}

-- ---- an entry

size_fits_32 : (z : ℤ) → nat_abs z < 2147483648 → SFits w32 z
size_fits_32 (pos n) h = record { sfits = h }
size_fits_32 (negsuc n) h = record { sfits = omega arith }

-- unsigned, in k bytes
record Unsigned (k : ℕ) (z : ℤ) : Type 0 where
  below : of_z w64 z < 256 ^ k
  same : pos (of_z w64 z) ≡ z

unsigned : (k : ℕ) {lo hi : ℕ} {z : ℤ} → Between lo hi z → hi < 256 ^ k → Unsigned k z
unsigned k {z = z} b l =
    let bits : of_z w64 z ≡ nat_abs z = rw b.is in
    record { below = omega (arith, b.high); same = ap pos bits ∙ sym b.is }

held_bytes_are : (mark height : ℤ) → held_bytes (mark ∷ height ∷ []) ≡ run [] ((2, of_z w64 mark) ∷ (8, of_z w64 height) ∷ [])
unfolding held_bytes
held_bytes_are mark height = refl

held_numbers_are : (s : List ℕ) → held_numbers s ≡ pos (be 2 s 0) ∷ to_z w64 (be 8 s 2) ∷ []
unfolding held_numbers
held_numbers_are s = refl

pub held_read : (mark height : ℤ) → Between 0 65535 mark → nat_abs height < 9223372036854775808
    → held_numbers (held_bytes (mark ∷ height ∷ [])) ≡ mark ∷ height ∷ []
held_read mark height m h =
    let u = unsigned 2 m (omega arith) in
    let fits : SFits w64 height = size_fits height h in
    rw (
      held_numbers_are (held_bytes (mark ∷ height ∷ [])),
      held_bytes_are mark height,
      field_read [] ((8, of_z w64 height) ∷ []) 2 (of_z w64 mark) u.below,
      field_read ((2, of_z w64 mark) ∷ []) [] 8 (of_z w64 height) (Fits-of_z fits).fits,
      u.same,
      to_z-of_z fits,
    )

-- the four numbers that every line has, of a difference in its 32 bits, and what stands behind them
abbrev four_of : ℤ → ℤ → ℤ → ℤ → List (ℕ × ℕ) → List (ℕ × ℕ)
four_of from to difference len after = (2, of_z w64 from) ∷ (2, of_z w64 to) ∷ (4, of_z w32 difference) ∷ (4, of_z w64 len) ∷ after

pub record Sayable (from to difference len : ℤ) : Type 0 where
  pub from_fits : Between 0 65535 from
  pub to_fits : Between 0 65535 to
  pub difference_fits : nat_abs difference < 2147483648
  pub length_fits : Between 0 4294967295 len

module _ (from to difference len standing class : ℤ) (s : Sayable from to difference len) where
  abbrev its : List ℤ
  its = from ∷ to ∷ difference ∷ len ∷ standing ∷ class ∷ []

  abbrev in_32 : in_bytes 4 difference ≡ bytes_of 4 (of_z w32 difference)
  in_32 = in_four difference (omega (arith, s.difference_fits))

  line_bytes_are : line_bytes its ≡ run [] (four_of from to difference len [])
  unfolding line_bytes
  line_bytes_are = ap (λ (x : List ℕ). in_bytes 2 from ++ in_bytes 2 to ++ x ++ in_bytes 4 len) in_32

  classed_bytes_are : classed_line_bytes its ≡ run [] (four_of from to difference len ((1, of_z w64 class) ∷ (1, of_z w64 standing) ∷ []))
  unfolding classed_line_bytes
  classed_bytes_are = ap (λ (x : List ℕ). x ++ in_bytes 1 class ++ in_bytes 1 standing) line_bytes_are

  line_numbers_are : (stands its_class : ℤ) (e : List ℕ) → line_numbers stands its_class e
      ≡ pos (be 2 e 0) ∷ pos (be 2 e 2) ∷ to_z w32 (be 4 e 4) ∷ pos (be 4 e 8) ∷ stands ∷ its_class ∷ []
  unfolding line_numbers
  line_numbers_are stands its_class e = refl

  four_read : (after : List (ℕ × ℕ)) (stands its_class : ℤ)
      → line_numbers stands its_class (run [] (four_of from to difference len after))
      ≡ from ∷ to ∷ difference ∷ len ∷ stands ∷ its_class ∷ []
  four_read after stands its_class =
      let f = unsigned 2 s.from_fits (omega arith) in
      let t = unsigned 2 s.to_fits (omega arith) in
      let l = unsigned 4 s.length_fits (omega arith) in
      let fits : SFits w32 difference = size_fits_32 difference s.difference_fits in
      rw (
        line_numbers_are stands its_class (run [] (four_of from to difference len after)),
        field_read [] ((2, of_z w64 to) ∷ (4, of_z w32 difference) ∷ (4, of_z w64 len) ∷ after) 2 (of_z w64 from) f.below,
        field_read ((2, of_z w64 from) ∷ []) ((4, of_z w32 difference) ∷ (4, of_z w64 len) ∷ after) 2 (of_z w64 to) t.below,
        field_read ((2, of_z w64 from) ∷ (2, of_z w64 to) ∷ []) ((4, of_z w64 len) ∷ after) 4 (of_z w32 difference) (Fits-of_z fits).fits,
        field_read ((2, of_z w64 from) ∷ (2, of_z w64 to) ∷ (4, of_z w32 difference) ∷ []) after 4 (of_z w64 len) l.below,
        f.same,
        t.same,
        to_z-of_z fits,
        l.same,
      )

  -- a line of version 1 stands and has no class
  pub line_read : standing ≡ pos 1 → class ≡ no_class → numbers Line (line_bytes its) ≡ its
  line_read stands none = rw (line_bytes_are, stands, none) (four_read [] (pos 1) no_class)

  pub classed_read : Between 0 255 class → Between 0 255 standing → numbers ClassedLine (classed_line_bytes its) ≡ its
  classed_read c t =
      let u = unsigned 1 c (omega arith) in
      let v = unsigned 1 t (omega arith) in
      let four = four_of from to difference len [] in
      rw (
        classed_bytes_are,
        field_read four ((1, of_z w64 standing) ∷ []) 1 (of_z w64 class) u.below,
        field_read (four ++ (1, of_z w64 class) ∷ []) [] 1 (of_z w64 standing) v.below,
        u.same,
        v.same,
      ) (four_read ((1, of_z w64 class) ∷ (1, of_z w64 standing) ∷ []) standing class)

-- ---- a run of entries

module _ (kind : Kind) (slice : List ℤ) where
  abbrev entry : ℕ → List ℤ
  entry i = take (entry_words kind) (drop (i * entry_words kind) slice)

  -- each of the first n entries is read as it was
  abbrev pub ReadBack : ℕ → Type 0
  ReadBack n = (i : ℕ) → i < n → numbers kind (bytes kind (entry i)) ≡ entry i

  pub entries_read : (front rest : List ℕ) (a n : ℕ) → length front ≡ a → ReadBack n
      → entries kind (front ++ written kind slice n ++ rest) a n ≡ take (n * entry_words kind) slice
  unfolding entries written
  entries_read front rest a zero h r = rw zero-mul
  entries_read front rest a (suc n) h r =
      let eb = entry_bytes kind in
      let before = front ++ written kind slice n in
      let last = bytes kind (entry n) in
      let long : length before ≡ a + n * eb = length-append front (written kind slice n) ∙ omega (arith, written_length kind slice n) in
      let all : front ++ written kind slice (suc n) ++ rest ≡ before ++ (last ++ rest) =
      ap (λ (s : List ℕ). s ++ rest) (sym (append_assoc front (written kind slice n) last)) ∙ append_assoc before last rest in
      let more : n * entry_words kind + entry_words kind ≡ suc n * entry_words kind = omega arith in
      let family : List ℕ → Type 0 = λ s. entries kind s a (suc n) ≡ take (suc n * entry_words kind) slice in
      subst family (sym all) (rw (
        entries_read front (last ++ rest) a n h (λ i l. r i (omega arith)),
        drop_at before (last ++ rest) (a + n * eb) long,
        take_at last rest eb (entry_length kind (entry n)),
        r n (omega arith),
      ) (sym (take-add (n * entry_words kind) (entry_words kind) slice) ∙ ap (λ (m : ℕ). take m slice) more))
