-- Reading what was written: the whole file of a good book that a file of its version can say.
-- Assumes nothing.
use mathlib.Core.Path.{◌≡◌, refl, ◌∙◌, ap}
use mathlib.Core.Bool.{false, cond}
use mathlib.Core.List.{List, [], ◌∷◌, ◌++◌, append_assoc, append-nil}
use Prim.Native.Nat.{ℕ, zero, suc, ◌+◌, ◌*◌, ◌^◌, ◌≤◌, ◌<◌}
use native.Mathlib.Nat.{mul-le-mul}
use native.Mathlib.Omega.{arith}
use lib.ListN.{length, get_or, take, drop, length-append, length-drop}
use lib.Seq.{take-suc, take_all, get_or-drop}
use lib.IntN.{ℤ, pos, nat_abs}
use borrow.Author.Tests.{eq-eqb, le-ltb}
use Rattle.laws.specs.Tests.{eq_z}
use Rattle.laws.specs.Range.{Between}
use Rattle.laws.proofs.Tests.{eq_z_apart}
use Rattle.laws.proofs.Scans.{none_below}
use Rattle.book.specs.Limits.{most_marks, most_lines}
use Rattle.book.specs.Held.{held_words, mark_at, height_at}
use Rattle.book.specs.Line.{line_words, from_at, to_at, difference_at, length_at, standing_at}
use Rattle.book.specs.Version.{version_out, has_classes}
use Rattle.book.specs.Test.{book_out, test_of}
use Rattle.book.specs.Lent.{Lent}
use Rattle.book.specs.Good.{GoodLine, Lines, HeldEntries, Versioned, single, classed, GoodBook}
use Rattle.book.specs.declared.Book.{Book}
use Rattle.book.proofs.IfGood.{if_good_lem}
use Rattle.book.proofs.Passing.{counts_pass, good_passes}
use Rattle.book.proofs.Versions.{version_passes, known_version, small_tolerance}
use Rattle.file.specs.Wire.{be}
use Rattle.file.specs.Entry.{entry_bytes, line_kind}
use Rattle.file.specs.Read.{length_of, head_of, held_of, lines_of, book_in, Outcome, done, room_of, body_of, after_head, read_of}
use Rattle.file.specs.Read.{States}
use Rattle.file.specs.declared.entry.Kind.TheVariants.{Held}
use Rattle.file.proofs.Heads.{line_bytes}
use Rattle.file.proofs.Entries.{room_for, line_words_lem}
use Rattle.writer.specs.Entry.{written}
use Rattle.writer.specs.Write.{head_bytes, file_of, any_withdrawn, cannot_say}
use Rattle.writer.proofs.BothWays.{be_front}
use Rattle.writer.proofs.Fields.{run, widths, field_read}
use Rattle.writer.proofs.Entries.{head_length, written_length}
use Rattle.writer.proofs.ReadBack.{Sayable, ReadBack, entries_read, held_read, line_read, classed_read}

-- ---- the entries of a good book are read as they were

-- the n numbers from place a on, one by one
abbrev heads : ℕ → ℕ → List ℤ → List ℤ
heads zero a slice = []
heads (suc n) a slice = heads n a slice ++ (get_or slice (a + n) (pos 0) ∷ [])

one_by_one : (n a : ℕ) (slice : List ℤ) → a + n ≤ length slice → take n (drop a slice) ≡ heads n a slice
one_by_one zero a slice h = refl
one_by_one (suc n) a slice h =
    rw (
      take-suc (drop a slice) n (pos 0) (omega (arith, length-drop a slice)),
      one_by_one n a slice (omega arith),
      get_or-drop a slice n (pos 0),
    )

wider : {lo hi : ℕ} {z : ℤ} (most : ℕ) → hi ≤ most → Between lo hi z → Between 0 most z
wider most l b = record { is = b.is; low = omega arith; high = omega (arith, b.high) }

held_back : (held : List ℤ) (b h : ℕ) → b ≤ most_marks → HeldEntries held b h → ReadBack Held held h
held_back held b h few g i l =
    let e = g.each i l in
    let room = room_for i h held_words l in
    rw (one_by_one 2 (i * held_words) held (omega (arith, g.whole)))
    (held_read (mark_at held i) (height_at held i) (wider 65535 (omega arith) e.mark) (omega (arith, e.height)))

-- where no line is withdrawn, each stands
pub all_stand : (lines : List ℤ) (n i : ℕ) → any_withdrawn lines n ≡ false → i < n → Between 0 1 (standing_at lines i)
    → standing_at lines i ≡ pos 1
unfolding any_withdrawn
all_stand lines n i e l s =
    let z = standing_at lines i in
    let not_zero : nat_abs z ≡ 0 → ⊥ =
    λ zero_size. eq_z_apart z (pos 0) (none_below (λ j. eq_z (standing_at lines j) (pos 0)) n e i l) (s.is ∙ ap pos zero_size) in
    s.is ∙ ap pos (by (nat_abs z) not_zero s.high)
  where
    by : (m : ℕ) → (m ≡ 0 → ⊥) → m ≤ 1 → m ≡ 1
    by zero n h = absurd (n refl)
    by (suc m) n h = omega arith

-- a line of a good book can be said, but for standing and class
sayable : (b : ℕ) (lines : List ℤ) (i : ℕ) → b ≤ most_marks → GoodLine b lines i
    → Sayable (from_at lines i) (to_at lines i) (difference_at lines i) (length_at lines i)
sayable b lines i few g =
    record {
      from_fits = wider 65535 (omega arith) g.from;
      to_fits = wider 65535 (omega arith) g.to;
      difference_fits = omega (arith, g.difference);
      length_fits = wider 4294967295 (omega arith) g.long;
    }

module _ (lines : List ℤ) (b n : ℕ) (few : b ≤ most_marks) (g : Lines lines b n) where
  -- six numbers one by one
  six : (i : ℕ) → i < n → take line_words (drop (i * line_words) lines) ≡ heads 6 (i * line_words) lines
  six i l = one_by_one 6 (i * line_words) lines (omega (arith, g.whole, room_for i n line_words l))

  lines_back : {version t : ℕ} → Versioned lines n version t → cond (has_classes (pos version)) false (any_withdrawn lines n) ≡ false
      → ReadBack (line_kind version) lines n
  unfolding eq_z
  lines_back (single low high none) said i l =
      let e = g.each i l in
      rw (six i l)
      (line_read _ _ _ _ _ _ (sayable b lines i few e) (all_stand lines n i said l e.standing) (none i l))
  lines_back (classed each) said i l =
      let e = g.each i l in
      rw (six i l)
      (classed_read _ _ _ _ _ _ (sayable b lines i few e) (wider 255 (omega arith) (each i l)) (wider 255 (omega arith) e.standing))

-- ---- the whole file

module _ (k : Book) (held lines : List ℤ) where
  abbrev file : List ℕ
  file = file_of k held lines

  abbrev held_bytes : List ℕ
  held_bytes = written Held held k.held

  abbrev line_part : List ℕ
  line_part = written (line_kind k.version) lines k.lines

  pub file_is : file ≡ head_bytes k ++ held_bytes ++ line_part
  unfolding file_of
  file_is = refl

  pub file_length_lem : length file ≡ length_of k
  file_length_lem =
      ap length file_is
      ∙ length-append (head_bytes k ++ held_bytes) line_part
      ∙ omega (
        arith,
        length-append (head_bytes k) held_bytes,
        head_length k,
        written_length Held held k.held,
        written_length (line_kind k.version) lines k.lines,
      )

  pub held_read_back : length held ≡ k.held * held_words → ReadBack Held held k.held → held_of file k ≡ held
  unfolding held_of
  held_read_back whole back =
      rw file_is
      (entries_read Held held (head_bytes k) line_part 13 k.held (head_length k) back
      ∙ take_all (k.held * held_words) held (omega arith))

  pub lines_read_back : length lines ≡ k.lines * line_words → ReadBack (line_kind k.version) lines k.lines → lines_of file k ≡ lines
  unfolding lines_of
  lines_read_back whole back =
      let front = head_bytes k ++ held_bytes in
      let long : length front ≡ 13 + k.held * 10 =
      length-append (head_bytes k) held_bytes ∙ omega (arith, head_length k, written_length Held held k.held) in
      rw (file_is, ← (append-nil (front ++ line_part)))
      (entries_read (line_kind k.version) lines front [] (13 + k.held * 10) k.lines long back
      ∙ rw (line_words_lem k.version) (take_all (k.lines * line_words) lines (omega arith)))

-- what the head says: for each number the count of its bytes
abbrev pub head_fields : Book → List (ℕ × ℕ)
head_fields k =
    (4, length_of k) ∷ (1, k.version) ∷ (2, k.tolerance) ∷ (2, k.marks) ∷ (2, k.held) ∷ (2, k.lines) ∷ []

pub head_bytes_are : (k : Book) → head_bytes k ≡ run [] (head_fields k)
unfolding head_bytes
head_bytes_are k = refl

-- so small that its numbers fit
pub record SmallHead (k : Book) : Type 0 where
  pub size : length_of k < 4294967296
  pub version : k.version < 256
  pub tolerance : k.tolerance < 65536
  pub marks : k.marks < 65536
  pub held : k.held < 65536
  pub lines : k.lines < 65536

module _ (k : Book) (held lines : List ℤ) (s : SmallHead k) where
  -- a number of the head stands at its place in the file
  stated : (before after : List (ℕ × ℕ)) (w x : ℕ) → head_fields k ≡ before ++ (w, x) ∷ after → widths before + w ≤ 13 → x < 256 ^ w
      → be w (file_of k held lines) (widths before) ≡ x
  stated before after w x e inside l =
      rw (file_is k held lines, append_assoc (head_bytes k) (written Held held k.held) (written (line_kind k.version) lines k.lines))
      (be_front w (head_bytes k) (written Held held k.held ++ written (line_kind k.version) lines k.lines) (widths before)
      (omega (arith, head_length k))
      ∙ ap (λ (p : List ℕ). be w p (widths before)) (head_bytes_are k ∙ ap (run []) e)
      ∙ field_read before after w x l)

  pub head_read_back : version_out (pos k.version) ≡ false
      → book_out (pos k.version) (pos k.marks) (pos k.tolerance) k.held k.lines ≡ false
      → head_of (file_of k held lines) ≡ States k
  unfolding head_of
  head_read_back known inside =
      let f₁ : ℕ × ℕ = (4, length_of k) in
      let f₂ : ℕ × ℕ = (1, k.version) in
      let f₃ : ℕ × ℕ = (2, k.tolerance) in
      let f₄ : ℕ × ℕ = (2, k.marks) in
      let f₅ : ℕ × ℕ = (2, k.held) in
      let f₆ : ℕ × ℕ = (2, k.lines) in
      rw (
        stated [] (f₂ ∷ f₃ ∷ f₄ ∷ f₅ ∷ f₆ ∷ []) 4 (length_of k) refl (omega arith) s.size,
        stated (f₁ ∷ []) (f₃ ∷ f₄ ∷ f₅ ∷ f₆ ∷ []) 1 k.version refl (omega arith) s.version,
        stated (f₁ ∷ f₂ ∷ []) (f₄ ∷ f₅ ∷ f₆ ∷ []) 2 k.tolerance refl (omega arith) s.tolerance,
        stated (f₁ ∷ f₂ ∷ f₃ ∷ []) (f₅ ∷ f₆ ∷ []) 2 k.marks refl (omega arith) s.marks,
        stated (f₁ ∷ f₂ ∷ f₃ ∷ f₄ ∷ []) (f₆ ∷ []) 2 k.held refl (omega arith) s.held,
        stated (f₁ ∷ f₂ ∷ f₃ ∷ f₄ ∷ f₅ ∷ []) [] 2 k.lines refl (omega arith) s.lines,
        file_length_lem k held lines,
        le-ltb (length_of k) 13 (omega arith),
        eq-eqb (length_of k) (length_of k) refl,
        known,
        inside,
      )

-- ---- a good book that its version can say

module _ (k : Book) (book : Lent) (good : GoodBook k book) (said : cannot_say k book.lines ≡ false) where
  abbrev its_file : List ℕ
  its_file = file_of k book.held book.lines

  small : SmallHead k
  small =
      let most : k.lines * entry_bytes (line_kind k.version) ≤ most_lines * 14 =
      mul-le-mul good.lines_good.few (line_bytes k.version) in
      record {
        size = omega (arith, most, good.held_good.few);
        version = omega (arith, known_version good.by_version);
        tolerance = omega (arith, small_tolerance good.by_version);
        marks = omega (arith, good.few_marks);
        held = omega (arith, good.held_good.few);
        lines = omega (arith, good.lines_good.few);
      }

  pub head_back : head_of its_file ≡ States k
  head_back = head_read_back k book.held book.lines small (version_passes good.by_version) (counts_pass k book good)

  pub held_are : held_of its_file k ≡ book.held
  held_are =
      held_read_back k book.held book.lines good.held_good.whole
      (held_back book.held k.marks k.held good.few_marks good.held_good)

  pub lines_are : lines_of its_file k ≡ book.lines
  unfolding cannot_say
  lines_are =
      lines_read_back k book.held book.lines good.lines_good.whole
      (lines_back book.lines k.marks k.lines good.few_marks good.lines_good good.by_version said)

  -- "Reading what was written gives the same book"
  pub book_read_back : book_in its_file k ≡ book
  book_read_back = rw (held_are, lines_are, ← good.version, ← good.marks, ← good.tolerance)

  module _ (held lines : List ℤ) (h : k.held * held_words ≤ length held) (n : k.lines * line_words ≤ length lines) where
    abbrev its_outcome : Outcome
    its_outcome = record {
      answer = done k;
      held = book.held ++ drop (k.held * held_words) held;
      lines = book.lines ++ drop (k.lines * line_words) lines;
    }

    room_back : room_of its_file k held lines ≡ its_outcome
    unfolding room_of
    room_back = rw (le-ltb (length held) (k.held * held_words) h, le-ltb (length lines) (k.lines * line_words) n, held_are, lines_are)

    body_back : body_of its_file k held lines ≡ its_outcome
    unfolding body_of
    body_back = if_good_lem (test_of (book_in its_file k)) _ _ k (ap test_of book_read_back ∙ good_passes k book good) ∙ room_back

    -- with the same version, b, t, held entries and lines
    pub read_back : read_of its_file held lines ≡ its_outcome
    unfolding read_of after_head
    read_back = ap (after_head its_file held lines) head_back ∙ body_back
