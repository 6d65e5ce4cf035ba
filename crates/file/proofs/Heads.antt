-- What a head that is not refused states.
-- Assumes nothing.
use mathlib.Core.Path.{◌≡◌, refl, sym, ◌∙◌, ap, subst}
use mathlib.Core.Bool.{Bool, true, false, not, cond, ◌||◌}
use mathlib.Core.List.{List}
use Prim.Native.Nat.{ℕ, ◌*◌, ◌≤◌, ◌<◌}
use native.Mathlib.Nat.{mul-le-mul}
use native.Mathlib.Omega.{arith}
use lib.Dec.{eqb, ltb}
use lib.ListN.{length}
use lib.IntN.{ℤ, pos}
use borrow.Author.Tests.{eqb-true, not-false}
use Rattle.laws.specs.Tests.{out_z, out_n, eq_z}
use Rattle.laws.proofs.Tests.{or_left, or_right, in_n_high}
use Rattle.laws.proofs.Size.{between}
use Rattle.book.specs.Limits.{least_version, most_version, least_marks, most_marks, least_lines, most_lines, least_held, most_held}
use Rattle.book.specs.Version.{version_out, has_classes, tolerance_out}
use Rattle.book.specs.Test.{book_out, counts, refused, book_of}
use Rattle.book.specs.declared.Book.{Book}
use Rattle.book.specs.Refusals.{Told}
use Rattle.book.specs.Test.{Tested}
use Rattle.book.specs.Test as tested
use Rattle.book.proofs.Versions.{tolerance_inside}
use Rattle.file.specs.Read.{stated_length, stated_version, stated_t, stated_b, stated_h, stated_n}
use Rattle.file.specs.Read.{stated_counts, file_length, head_of, Stated}
use Rattle.file.specs.Entry.{entry_bytes, line_kind}
use Rattle.file.specs.declared.entry.Kind.TheVariants.{Line, ClassedLine}
use Rattle.file.specs.Read.{Head}
use Rattle.file.specs.Read.{States, Refused}

past : (t : Bool) (number : ℕ) (rest : Head) (k : Book) → cond t (Refused number) rest ≡ States k → (t ≡ false) × (rest ≡ States k)
past true number rest k e = let z : ◌≡◌ {A = ℕ} 0 1 = cc in absurd (omega arith)
past false number rest k e = (refl, e)

-- version and counts that pass the test state a file of their length
pub counts_state : (v b t h n : ℕ) → version_out (pos v) ≡ false → book_out (pos v) (pos b) (pos t) h n ≡ false
    → Stated (file_length v h n) (counts (pos v) (pos b) (pos t) h n)
unfolding book_out version_out
counts_state v b t h n known inside =
    let out₁ = out_z (pos least_marks) (pos most_marks) (pos b) in
    let out₂ = tolerance_out (pos v) (pos t) in
    let out₃ = out_n least_held most_held h in
    let out₄ = out_n least_lines most_lines n in
    let o₃ = or_left (out₁ || out₂ || out₃) out₄ inside in
    let o₂ = or_left (out₁ || out₂) out₃ o₃ in
    record {
      size = refl;
      known_version = (between least_version most_version (pos v) known).high;
      few_marks = (between least_marks most_marks (pos b) (or_left out₁ out₂ o₂)).high;
      small_tolerance = (tolerance_inside (pos v) (pos t) (or_right out₁ out₂ o₂)).1;
      few_held = in_n_high least_held most_held h (or_right (out₁ || out₂) out₃ o₃);
      few_lines = in_n_high least_lines most_lines n (or_right (out₁ || out₂ || out₃) out₄ inside);
    }

-- what a head that is not refused says: its file's length, and version and counts that pass
pub record Says (file : List ℕ) (k : Book) : Type 0 where
  pub its_length : stated_length file ≡ length file
  pub known : version_out (pos (stated_version file)) ≡ false
  pub inside : book_out (pos (stated_version file)) (pos (stated_b file)) (pos (stated_t file)) (stated_h file) (stated_n file) ≡ false
  pub size : length file ≡ file_length (stated_version file) (stated_h file) (stated_n file)
  pub counts_are : k ≡ stated_counts file

pub head_says : (file : List ℕ) (k : Book) → head_of file ≡ States k → Says file k
unfolding head_of
head_says file k e =
    let v = stated_version file in
    let h = stated_h file in
    let n = stated_n file in
    let p₁ = past (ltb (length file) 13) 1 _ k e in
    let p₂ = past (not (eqb (stated_length file) (length file))) 2 _ k p₁.1 in
    let p₃ = past (version_out (pos v)) 3 _ k p₂.1 in
    let p₄ = past (book_out (pos v) (pos (stated_b file)) (pos (stated_t file)) h n) 4 _ k p₃.1 in
    let p₅ = past (not (eqb (length file) (file_length v h n))) 5 _ k p₄.1 in
    record {
      its_length = eqb-true (stated_length file) (length file) (not-false (eqb (stated_length file) (length file)) p₂.0);
      known = p₃.0;
      inside = p₄.0;
      size = eqb-true (length file) (file_length v h n) (not-false (eqb (length file) (file_length v h n)) p₅.0);
      counts_are = cc;
    }

pub head_states : (file : List ℕ) (k : Book) → head_of file ≡ States k → Stated (length file) k
head_states file k e =
    let s = head_says file k e in
    rw (s.counts_are, s.size) (counts_state _ _ _ _ _ s.known s.inside)

-- "A file has 13 + 10h + 12n bytes, at most 8,717"; of version 2 13 + 10h + 14n, at most 9,741
pub longest_is : (file_length 1 most_held most_lines ≡ 8717) × (file_length 2 most_held most_lines ≡ 9741)
unfolding eq_z
longest_is = (refl, refl)

-- a line takes no more than 14 bytes, and no file more than 9,741
pub line_bytes : (version : ℕ) → entry_bytes (line_kind version) ≤ 14
line_bytes version = go (has_classes (pos version))
  where
    go : (c : Bool) → entry_bytes (cond c ClassedLine Line) ≤ 14
    go true = omega arith
    go false = omega arith

pub longest_file : (len : ℕ) (k : Book) → Stated len k → len ≤ 9741
longest_file len k s =
    let most : k.lines * entry_bytes (line_kind k.version) ≤ most_lines * 14 = mul-le-mul s.few_lines (line_bytes k.version) in
    omega (arith, s.size, s.few_held, most)

-- a head whose version or counts are refused
pub book_refused : (version b t : ℤ) (h n : ℕ) (m : Tested) → m ≡ book_of version b t h n → (r : Told) → m ≡ tested.Refused r
    → (rest : Head)
    → Refused r.number ≡ cond (version_out version) (Refused 3) (cond (book_out version b t h n) (Refused 4) rest)
unfolding book_of
book_refused version b t h n m e r g rest = go (version_out version) (book_out version b t h n) e
  where
    is : (number : ℕ) → m ≡ refused number 0 → Refused r.number ≡ Refused number
    is number f =
        let same : refused number 0 ≡ tested.Refused r = sym f ∙ g in
        ap Refused (number_of same)
      where
        number_of : refused number 0 ≡ tested.Refused r → r.number ≡ number
        number_of e = cc

    go : (v o : Bool) → m ≡ cond v (refused 3 0) (cond o (refused 4 0) (tested.Good (counts version b t h n)))
        → Refused r.number ≡ cond v (Refused 3) (cond o (Refused 4) rest)
    go true o f = is 3 f
    go false true f = is 4 f
    go false false f = let z : ◌≡◌ {A = ℕ} 0 1 = cc in absurd (omega arith)

-- its place is 0
pub book_refused_place : (version b t : ℤ) (h n : ℕ) (m : Tested) → m ≡ book_of version b t h n → (r : Told) → m ≡ tested.Refused r
    → r.place ≡ 0
unfolding book_of
book_refused_place version b t h n m e r g = go (version_out version) (book_out version b t h n) e
  where
    is : (number : ℕ) → m ≡ refused number 0 → r.place ≡ 0
    is number f = let same : refused number 0 ≡ tested.Refused r = sym f ∙ g in cc

    go : (v o : Bool) → m ≡ cond v (refused 3 0) (cond o (refused 4 0) (tested.Good (counts version b t h n))) → r.place ≡ 0
    go true o f = is 3 f
    go false true f = is 4 f
    go false false f = let z : ◌≡◌ {A = ℕ} 0 1 = cc in absurd (omega arith)

-- a refusal of the head has a number of the table
abbrev NumberedIf : Head → Type 0
NumberedIf (States k) = Unit {0}
NumberedIf (Refused number) = (0 < number) × (number ≤ 5)

numbered : (t : Bool) (number : ℕ) (rest : Head) → (0 < number) × (number ≤ 5) → NumberedIf rest → NumberedIf (cond t (Refused number) rest)
numbered true number rest h n = h
numbered false number rest h n = n

pub head_numbered : (file : List ℕ) (number : ℕ) → head_of file ≡ Refused number → (0 < number) × (number ≤ 5)
unfolding head_of
head_numbered file number e =
    subst NumberedIf e
    (numbered (ltb (length file) 13) 1 _ (omega arith)
    (numbered (not (eqb (stated_length file) (length file))) 2 _ (omega arith)
    (numbered (version_out (pos (stated_version file))) 3 _ (omega arith)
    (numbered (book_out (pos (stated_version file)) (pos (stated_b file)) (pos (stated_t file)) (stated_h file) (stated_n file)) 4 _
    (omega arith)
    (numbered (not (eqb (length file) (file_length (stated_version file) (stated_h file) (stated_n file)))) 5 _ (omega arith) tt)))))
