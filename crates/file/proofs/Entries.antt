-- Laws on the numbers of a run of entries, for every kind of entry.
-- Assumes nothing.
use mathlib.Core.Path.{◌≡◌, refl, ◌∙◌, ap}
use mathlib.Core.Bool.{Bool, true, false, cond}
use mathlib.Core.List.{List, ◌++◌}
use Prim.Native.Nat.{ℕ, zero, suc, ◌+◌, ◌*◌, ◌-◌, ◌≤◌, ◌<◌}
use native.Mathlib.Nat.{add-sub_cancel_left, mul-le-mul_right}
use native.Mathlib.Numerals.{add-one}
use native.Mathlib.Decide.{ℕ_discrete}
use native.Mathlib.Omega.{arith}
use lib.ListN.{length, take, drop, length-append, length-drop}
use lib.Seq.{take_all, drop_at, drop-append-le, take-append-le}
use lib.IntN.{ℤ, pos}
use borrow.Rule.Slice.PartMut.{put_mid}
use Rattle.laws.proofs.Lists.{pour}
use Rattle.book.specs.Line.{line_words, entry_at}
use Rattle.book.specs.Version.{has_classes}
use Rattle.book.specs.declared.Book.{Book}
use Rattle.file.specs.Entry.{entry_bytes, entry_words, held_numbers, line_numbers, numbers, line_kind, entries}
use Rattle.file.specs.declared.entry.Kind.{Kind}
use Rattle.file.specs.declared.entry.Kind.TheVariants.{Held, Line, ClassedLine}
use Rattle.file.specs.Read.{lines_of, Stated}

-- an entry before the last is whole, w places each
pub room_for : (i n w : ℕ) → i < n → i * w + w ≤ n * w
room_for i n w l = let h : (i + 1) * w ≤ n * w = mul-le-mul_right w (omega arith) in omega arith

pub numbers_count : (kind : Kind) (e : List ℕ) → length (numbers kind e) ≡ entry_words kind
unfolding held_numbers line_numbers
numbers_count Held e = refl
numbers_count Line e = refl
numbers_count ClassedLine e = refl

module _ (kind : Kind) (file : List ℕ) (a : ℕ) where
  pub entries_more : (i : ℕ)
      → entries kind file a (i + 1) ≡ entries kind file a i ++ numbers kind (take (entry_bytes kind) (drop (a + i * entry_bytes kind) file))
  unfolding entries
  entries_more i = rw (add-one i)

  pub entries_length : (n : ℕ) → length (entries kind file a n) ≡ n * entry_words kind
  unfolding entries
  entries_length zero = omega arith
  entries_length (suc n) =
      let x = numbers_count kind (take (entry_bytes kind) (drop (a + n * entry_bytes kind) file)) in
      let y = entries_length n in
      length-append (entries kind file a n) (numbers kind (take (entry_bytes kind) (drop (a + n * entry_bytes kind) file))) ∙ omega arith

  -- One turn of the loop that reads entries: the part that was lent holds the numbers of entry i.
  module _ (k w : ℕ) (bytes : k ≡ entry_bytes kind) (words : w ≡ entry_words kind) (l₀ out vs : List ℤ) (i : ℕ) where
    pub entries_pour : out ≡ entries kind file a i ++ drop (i * w) l₀
        → vs ≡ numbers kind (take (a + i * k + k - (a + i * k)) (drop (a + i * k) file))
        → put_mid (i * w) (i * w + w - i * w) out vs ≡ entries kind file a (i + 1) ++ drop ((i + 1) * w) l₀
    entries_pour h e =
        pour (entries kind file a i) vs l₀ out i w (rw words (entries_length i)) h
        ∙ rw (e, add-sub_cancel_left (a + i * k) k, bytes, entries_more i)

-- a line has six numbers in memory, whatever the version
pub line_words_lem : (version : ℕ) → entry_words (line_kind version) ≡ line_words
line_words_lem version = go (has_classes (pos version))
  where
    go : (c : Bool) → entry_words (cond c ClassedLine Line) ≡ line_words
    go true = refl
    go false = refl

pub lines_length : (file : List ℕ) (k : Book) → length (lines_of file k) ≡ k.lines * line_words
unfolding lines_of
lines_length file k =
    entries_length (line_kind k.version) file (13 + k.held * 10) k.lines ∙ ap (λ (w : ℕ). k.lines * w) (line_words_lem k.version)

-- a file of the stated length holds its lines, and so many places
pub lines_room : (len places : ℕ) (k : Book) (kind : Kind) → Stated len k → kind ≡ line_kind k.version → k.lines * line_words ≤ places
    → (13 + k.held * 10 + k.lines * entry_bytes kind ≤ len) × (k.lines * entry_words kind ≤ places)
lines_room len places k kind s e h = rw (e, line_words_lem k.version) (omega (arith, s.size), h)

-- ---- an entry by itself

module _ (kind : Kind) (file : List ℕ) (a : ℕ) where
  abbrev its_numbers : ℕ → List ℤ
  its_numbers i = numbers kind (take (entry_bytes kind) (drop (a + i * entry_bytes kind) file))

  -- entry i of n, as it was read
  pub entry_read : (n i : ℕ) → i < n → take (entry_words kind) (drop (i * entry_words kind) (entries kind file a n)) ≡ its_numbers i
  unfolding entries
  entry_read zero i l = absurd (omega arith)
  entry_read (suc n) i l = go (ℕ_discrete i n) (entry_read n i)
    where
      go : Dec (i ≡ n) → (i < n → take (entry_words kind) (drop (i * entry_words kind) (entries kind file a n)) ≡ its_numbers i)
          → take (entry_words kind) (drop (i * entry_words kind) (entries kind file a n ++ its_numbers n)) ≡ its_numbers i
      go (yes e) earlier =
          rw (e, drop_at (entries kind file a n) (its_numbers n) (n * entry_words kind) (entries_length kind file a n))
          (take_all (entry_words kind) (its_numbers n)
          (omega (arith, numbers_count kind (take (entry_bytes kind) (drop (a + n * entry_bytes kind) file)))))
      go (no d) earlier =
          let whole = room_for i n (entry_words kind) (omega arith) in
          let long = entries_length kind file a n in
          rw (
            drop-append-le (i * entry_words kind) (entries kind file a n) (its_numbers n) (omega arith),
            take-append-le (entry_words kind) (drop (i * entry_words kind) (entries kind file a n)) (its_numbers n)
                (omega (arith, length-drop (i * entry_words kind) (entries kind file a n))),
          ) (earlier (omega arith))

-- line i of a file, as it was read
pub line_read : (file : List ℕ) (k : Book) (i : ℕ) → i < k.lines
    → let bytes = entry_bytes (line_kind k.version) in
    entry_at (lines_of file k) i ≡ numbers (line_kind k.version) (take bytes (drop (13 + k.held * 10 + i * bytes) file))
unfolding lines_of
line_read file k i l =
    rw (line_words_lem k.version) at (entry_read (line_kind k.version) file (13 + k.held * 10) k.lines i l)
