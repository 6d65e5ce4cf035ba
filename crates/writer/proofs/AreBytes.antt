-- What is written are bytes, each below 256.
-- Assumes nothing.
use mathlib.Core.List.{List, [], ◌∷◌, ◌++◌}
use Prim.Native.Nat.{ℕ, zero, suc, ◌*◌, ◌/◌, ◌%◌, ◌<◌}
use native.Mathlib.Omega.{arith}
use lib.ListN.{take, drop}
use lib.IntN.{ℤ}
use mir.Syntax.{w64}
use mir.Val.{of_z}
use Rattle.book.specs.Held.{mark_at, height_at}
use Rattle.book.specs.Line.{from_at, to_at, difference_at, length_at, standing_at, class_at}
use Rattle.book.specs.declared.Book.{Book}
use Rattle.file.specs.Wire.{Bytes}
use Rattle.file.specs.Entry.{entry_words, line_kind}
use Rattle.file.specs.declared.entry.Kind.{Kind}
use Rattle.file.specs.declared.entry.Kind.TheVariants.{Held, Line, ClassedLine}
use Rattle.writer.specs.Bytes.{bytes_of}
use Rattle.writer.specs.Entry.{held_bytes, line_bytes, classed_line_bytes, bytes, written}
use Rattle.writer.specs.Write.{head_bytes, file_of}
use Rattle.writer.proofs.Fields.{run}
use Rattle.writer.proofs.FileRead.{head_fields, head_bytes_are, file_is}

none : Bytes []
none i = omega arith

joined : (p q : List ℕ) → Bytes p → Bytes q → Bytes (p ++ q)
joined [] q bp bq i = bq i
joined (x ∷ p) q bp bq zero = bp 0
joined (x ∷ p) q bp bq (suc i) = joined p q (λ j. bp (suc j)) bq i

one : (x : ℕ) → x < 256 → Bytes (x ∷ [])
one x h zero = h
one x h (suc i) = omega arith

number : (k x : ℕ) → Bytes (bytes_of k x)
unfolding bytes_of
number zero x = none
number (suc k) x = joined (bytes_of k (x / 256)) (x % 256 ∷ []) (number k (x / 256)) (one (x % 256) (omega arith))

run_bytes : (p : List ℕ) (fs : List (ℕ × ℕ)) → Bytes p → Bytes (run p fs)
run_bytes p [] b = b
run_bytes p (f ∷ fs) b = run_bytes (p ++ bytes_of f.0 f.1) fs (joined p (bytes_of f.0 f.1) b (number f.0 f.1))

-- the numbers of a line, each with the count of its bytes
abbrev line_fields : List ℤ → List (ℕ × ℕ) → List (ℕ × ℕ)
line_fields e more =
    (2, of_z w64 (from_at e 0)) ∷ (2, of_z w64 (to_at e 0)) ∷ (4, of_z w64 (difference_at e 0)) ∷ (4, of_z w64 (length_at e 0)) ∷ more

entry_bytes : (kind : Kind) (e : List ℤ) → Bytes (bytes kind e)
unfolding held_bytes line_bytes classed_line_bytes
entry_bytes Held e = run_bytes [] ((2, of_z w64 (mark_at e 0)) ∷ (8, of_z w64 (height_at e 0)) ∷ []) none
entry_bytes Line e = run_bytes [] (line_fields e []) none
entry_bytes ClassedLine e = run_bytes [] (line_fields e ((1, of_z w64 (class_at e 0)) ∷ (1, of_z w64 (standing_at e 0)) ∷ [])) none

written_bytes : (kind : Kind) (slice : List ℤ) (n : ℕ) → Bytes (written kind slice n)
unfolding written
written_bytes kind slice zero = none
written_bytes kind slice (suc n) =
    let e = take (entry_words kind) (drop (n * entry_words kind) slice) in
    joined (written kind slice n) (bytes kind e) (written_bytes kind slice n) (entry_bytes kind e)

pub file_bytes : (k : Book) (held lines : List ℤ) → Bytes (file_of k held lines)
file_bytes k held lines =
    let head : Bytes (head_bytes k) = rw (head_bytes_are k) (run_bytes [] (head_fields k) none) in
    let h = written Held held k.held in
    let n = written (line_kind k.version) lines k.lines in
    rw (file_is k held lines)
    (joined (head_bytes k ++ h) n (joined (head_bytes k) h head (written_bytes Held held k.held))
    (written_bytes (line_kind k.version) lines k.lines))
