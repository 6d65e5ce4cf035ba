-- Laws on the bytes of a head and of a run of entries, for every kind of entry.
-- Assumes nothing.
use mathlib.Core.Path.{◌≡◌, refl, ◌∙◌}
use mathlib.Core.List.{List, ◌++◌}
use Prim.Native.Nat.{ℕ, zero, suc, ◌+◌, ◌*◌, ◌-◌}
use native.Mathlib.Nat.{add-sub_cancel_left}
use native.Mathlib.Numerals.{add-one}
use native.Mathlib.Omega.{arith}
use lib.ListN.{length, take, drop, length-append}
use lib.IntN.{ℤ}
use borrow.Rule.Slice.PartMut.{put_mid}
use Rattle.laws.proofs.Lists.{pour}
use Rattle.book.specs.declared.Book.{Book}
use Rattle.file.specs.Entry.{entry_bytes, entry_words}
use Rattle.file.specs.declared.entry.Kind.{Kind}
use Rattle.file.specs.declared.entry.Kind.TheVariants.{Held, Line, ClassedLine}
use Rattle.writer.specs.Entry.{held_bytes, line_bytes, classed_line_bytes, bytes, written}
use Rattle.writer.specs.Write.{head_bytes}

pub entry_length : (kind : Kind) (e : List ℤ) → length (bytes kind e) ≡ entry_bytes kind
unfolding held_bytes line_bytes classed_line_bytes
entry_length Held e = refl
entry_length Line e = refl
entry_length ClassedLine e = refl

pub head_length : (k : Book) → length (head_bytes k) ≡ 13
unfolding head_bytes
head_length k = refl

pub written_length : (kind : Kind) (slice : List ℤ) (n : ℕ) → length (written kind slice n) ≡ n * entry_bytes kind
unfolding written
written_length kind slice zero = omega arith
written_length kind slice (suc n) =
    let e = take (entry_words kind) (drop (n * entry_words kind) slice) in
    length-append (written kind slice n) (bytes kind e) ∙ omega (arith, written_length kind slice n, entry_length kind e)

module _ (kind : Kind) (slice : List ℤ) where
  written_more : (i : ℕ)
      → written kind slice (i + 1) ≡ written kind slice i ++ bytes kind (take (entry_words kind) (drop (i * entry_words kind) slice))
  unfolding written
  written_more i = rw (add-one i)

  -- One turn of the loop that writes entries: the part that was lent holds the bytes of entry i.
  module _ (k w : ℕ) (its_bytes : k ≡ entry_bytes kind) (its_words : w ≡ entry_words kind) (l₀ out vs : List ℕ) (i : ℕ) where
    pub written_pour : out ≡ written kind slice i ++ drop (i * k) l₀
        → vs ≡ bytes kind (take (i * w + w - i * w) (drop (i * w) slice))
        → put_mid (i * k) (i * k + k - i * k) out vs ≡ written kind slice (i + 1) ++ drop ((i + 1) * k) l₀
    written_pour h e =
        pour (written kind slice i) vs l₀ out i k (rw its_bytes (written_length kind slice i)) h
        ∙ rw (e, add-sub_cancel_left (i * w) w, its_words, written_more i)
