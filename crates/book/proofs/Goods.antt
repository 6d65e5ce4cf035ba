-- A book that passes the test is inside every limit; and the test has one answer.
-- Assumes nothing.
use mathlib.Core.Path.{◌≡◌, refl, sym, subst}
use mathlib.Core.Bool.{Bool, true, false, cond, ◌||◌}
use mathlib.Core.List.{List}
use Prim.Native.Nat.{ℕ, zero, suc, ◌*◌, ◌/◌, ◌%◌, ◌≤◌, ◌<◌}
use native.Mathlib.Nat.{div-add-mod'}
use native.Mathlib.Omega.{arith}
use lib.Dec.{eqb, ltb}
use lib.ListN.{length}
use lib.IntN.{ℤ, pos, nat_abs}
use borrow.Author.Tests.{eqb-true, ltb-false, lt-ltb, not-false}
use Rattle.laws.specs.Tests.{out_z, out_n, eq_z}
use Rattle.laws.proofs.Tests.{or_left, or_right, in_n_high, eq_z_apart}
use Rattle.laws.proofs.Scans.{cond_zero, none_bad, none_below, first_most}
use Rattle.laws.proofs.Size.{between, size_within}
use Rattle.book.specs.Limits.{least_version, most_version, least_marks, most_marks, least_lines, most_lines, least_held, most_held}
use Rattle.book.specs.Limits.{most_difference, least_length, most_length, most_held_height}
use Rattle.book.specs.Version.{version_out, tolerance_out, class_out}
use Rattle.book.specs.Height.{held_height_out}
use Rattle.book.specs.Held.{held_words, mark_at, height_at, held_count, held_out, held_before, held_bad, first_bad_held}
use Rattle.book.specs.Line.{line_words, from_at, to_at, difference_at, length_at, standing_at, class_at, line_count, difference_out}
use Rattle.book.specs.Line.{line_fault, class_fault, fault_at, line_bad, first_bad_line}
use Rattle.book.specs.Lent.{Lent}
use Rattle.book.specs.Test.{book_out, counts_of, refused, torn, test_of, test_beside}
use Rattle.book.specs.Good.{GoodLine, GoodHeld, GoodBook, GoodLines}
use Rattle.book.specs.declared.Book.{Book}
use Rattle.book.specs.Refusals.{Told}
use Rattle.book.specs.Test.{Tested, Good, Refused}
use Rattle.book.proofs.Versions.{tolerance_inside, versioned, known_version, small_tolerance, classes}

none_first : (n : ℕ) → ltb 0 n ≡ false → n ≡ 0
none_first n e = let z = ltb-false 0 n e in omega arith

-- a line without a fault has none in its five numbers, nor in its class
no_fault : (version b : ℤ) (lines : List ℤ) (i : ℕ) → line_bad version b lines i ≡ false
    → (line_fault b (from_at lines i) (to_at lines i) (difference_at lines i) (length_at lines i) (standing_at lines i) ≡ 0)
    × (class_out version (class_at lines i) ≡ false)
unfolding line_bad fault_at class_fault
no_fault version b lines i e = go (line_fault b _ _ _ _ _) (none_first (fault_at version b lines i) e)
  where
    go : (f : ℕ) → cond (ltb 0 f) f (cond (class_out version (class_at lines i)) 6 0) ≡ 0
        → (f ≡ 0) × (class_out version (class_at lines i) ≡ false)
    go zero e = (refl, (cond_zero (class_out version (class_at lines i)) 5 0 e).0)
    go (suc f) e = absurd (omega (arith, rw (lt-ltb 0 (suc f) (omega arith)) at e))

pub good_class : (version b : ℤ) (lines : List ℤ) (i : ℕ) → line_bad version b lines i ≡ false
    → class_out version (class_at lines i) ≡ false
good_class version b lines i e = (no_fault version b lines i e).1

-- five numbers without a fault are a line
pub good_line : (version : ℤ) (b : ℕ) (lines : List ℤ) (i : ℕ) → line_bad version (pos b) lines i ≡ false → GoodLine b lines i
unfolding line_fault difference_out
good_line version b lines i e =
    let f = from_at lines i in
    let t = to_at lines i in
    let d = difference_at lines i in
    let l = length_at lines i in
    let s = standing_at lines i in
    let none : line_fault (pos b) f t d l s ≡ 0 = (no_fault version (pos b) lines i e).0 in
    let ends = cond_zero (out_z (pos 1) (pos b) f || out_z (pos 1) (pos b) t) 0 _ none in
    let same = cond_zero (eq_z f t) 1 _ ends.1 in
    let difference = cond_zero (difference_out d) 2 _ same.1 in
    let long = cond_zero (out_z (pos least_length) (pos most_length) l) 3 _ difference.1 in
    let standing = cond_zero (out_z (pos 0) (pos 1) s) 4 0 long.1 in
    record {
      from = between 1 b f (or_left (out_z (pos 1) (pos b) f) (out_z (pos 1) (pos b) t) ends.0);
      to = between 1 b t (or_right (out_z (pos 1) (pos b) f) (out_z (pos 1) (pos b) t) ends.0);
      apart = eq_z_apart f t same.0;
      difference = size_within most_difference d difference.0;
      long = between least_length most_length l long.0;
      standing = between 0 1 s standing.0;
    }

-- a held entry that is not bad
pub good_held : (b : ℕ) (held : List ℤ) (i : ℕ) → held_bad (pos b) held i ≡ false → GoodHeld b held i
unfolding held_bad held_out held_height_out held_before
good_held b held i e =
    let m = mark_at held i in
    let h = height_at held i in
    let out = or_left (held_out (pos b) m h) (held_before held m i) e in
    let fresh = or_right (held_out (pos b) m h) (held_before held m i) e in
    record {
      mark = between 1 b m (or_left (out_z (pos 1) (pos b) m) (held_height_out h) out);
      height = size_within most_held_height h (or_right (out_z (pos 1) (pos b) m) (held_height_out h) out);
      once = λ j l. eq_z_apart (mark_at held j) m (none_below (λ j. eq_z (mark_at held j) m) i fresh j l);
    }

-- an answer of the test that is no refusal got past each refusal
past : (t : Bool) (number place : ℕ) (rest : Tested) (k : Book) → cond t (refused number place) rest ≡ Good k
    → (t ≡ false) × (rest ≡ Good k)
past true number place rest k e = let z : ◌≡◌ {A = ℕ} 0 1 = cc in absurd (omega arith)
past false number place rest k e = (refl, e)

-- a slice of whole entries
whole : (w : ℕ) (slice : List ℤ) → torn w slice ≡ false → length slice ≡ length slice / w * w
unfolding torn
whole w slice e =
    let d = div-add-mod' (length slice) w in
    let z = eqb-true (length slice % w) 0 (not-false (eqb (length slice % w) 0) e) in omega arith

module _ (book : Lent) where
  -- the tests that a book has passed
  pub record Passed : Type 0 where
    pub version : version_out book.version ≡ false
    pub inside : book_out book.version book.b book.t (held_count book.held) (line_count book.lines) ≡ false
    pub held_whole : torn held_words book.held ≡ false
    pub lines_whole : torn line_words book.lines ≡ false
    pub held_good : ltb 0 (first_bad_held book.b book.held) ≡ false
    pub lines_good : ltb 0 (first_bad_line book.version book.b book.lines) ≡ false

  module _ (k : Book) (e : test_of book ≡ Good k) where
    passed : Passed × (k ≡ counts_of book)
    unfolding test_of
    passed =
        let line = first_bad_line book.version book.b book.lines in
        let p₁ = past (version_out book.version) 3 0 _ k e in
        let p₂ = past (book_out book.version book.b book.t (held_count book.held) (line_count book.lines)) 4 0 _ k p₁.1 in
        let p₃ = past (torn held_words book.held) 4 0 _ k p₂.1 in
        let p₄ = past (torn line_words book.lines) 4 0 _ k p₃.1 in
        let p₅ = past (ltb 0 (first_bad_held book.b book.held)) 6 (first_bad_held book.b book.held) _ k p₄.1 in
        let p₆ = past (ltb 0 line) 7 line _ k p₅.1 in (
          record {
            version = p₁.0;
            inside = p₂.0;
            held_whole = p₃.0;
            lines_whole = p₄.0;
            held_good = p₅.0;
            lines_good = p₆.0;
          },
          cc,
        )

    -- the counts of a book that passes are those that were lent
    pub tested_counts : k ≡ counts_of book
    tested_counts = passed.1

    -- "An answer of 0": the book is inside every limit
    pub tested_good : GoodBook k book
    unfolding book_out first_bad_held first_bad_line version_out
    tested_good =
        let p = passed.0 in
        let h = held_count book.held in
        let n = line_count book.lines in
        let out₁ = out_z (pos least_marks) (pos most_marks) book.b in
        let out₂ = tolerance_out book.version book.t in
        let out₃ = out_n least_held most_held h in
        let out₄ = out_n least_lines most_lines n in
        let o₃ = or_left (out₁ || out₂ || out₃) out₄ p.inside in
        let o₂ = or_left (out₁ || out₂) out₃ o₃ in
        let marks = between least_marks most_marks book.b (or_left out₁ out₂ o₂) in
        let tolerance = or_right out₁ out₂ o₂ in
        let no_bad_line =
        none_bad (line_bad book.version book.b book.lines) n
        (none_first (first_bad_line book.version book.b book.lines) p.lines_good) in
        subst (λ (k : Book). GoodBook k book) (sym tested_counts) (record {
          version = (between least_version most_version book.version p.version).is;
          marks = marks.is;
          a_mark = marks.low;
          few_marks = marks.high;
          tolerance = (tolerance_inside book.version book.t tolerance).0;
          by_version = versioned book.lines n book.version book.t p.version tolerance
              (λ i l. good_class book.version book.b book.lines i (no_bad_line i l));
          held_good = record {
            few = in_n_high least_held most_held h (or_right (out₁ || out₂) out₃ o₃);
            whole = whole held_words book.held p.held_whole;
            each = λ i l. good_held (nat_abs book.b) book.held i (subst (λ (z : ℤ). held_bad z book.held i ≡ false) marks.is
                (none_bad (held_bad book.b book.held) h (none_first (first_bad_held book.b book.held) p.held_good) i l));
          };
          lines_good = record {
            few = in_n_high least_lines most_lines n (or_right (out₁ || out₂ || out₃) out₄ p.inside);
            whole = whole line_words book.lines p.lines_whole;
            each = λ i l. good_line book.version (nat_abs book.b) book.lines i
                (subst (λ (z : ℤ). line_bad book.version z book.lines i ≡ false) marks.is (no_bad_line i l));
          };
        })

-- a refusal has a number of the table, and a place that is an entry's or 0
pub record Numbered (r : Told) : Type 0 where
  pub low : 0 < r.number
  pub high : r.number ≤ 7
  pub near : r.place ≤ most_lines

abbrev pub NumberedIf : Tested → Type 0
NumberedIf (Good k) = Unit {0}
NumberedIf (Refused r) = Numbered r

numbered : (t : Bool) (number place : ℕ) (rest : Tested) → (t ≡ true → Numbered (record { number = number; place = place }))
    → (t ≡ false → NumberedIf rest)
    → NumberedIf (cond t (refused number place) rest)
numbered true number place rest h n = h refl
numbered false number place rest h n = n refl

module _ (book : Lent) where
  few_entries : book_out book.version book.b book.t (held_count book.held) (line_count book.lines) ≡ false
      → (held_count book.held ≤ most_held) × (line_count book.lines ≤ most_lines)
  unfolding book_out
  few_entries e =
      let out₁ = out_z (pos least_marks) (pos most_marks) book.b in
      let out₂ = tolerance_out book.version book.t in
      let out₃ = out_n least_held most_held (held_count book.held) in
      let out₄ = out_n least_lines most_lines (line_count book.lines) in
      let o₃ = or_left (out₁ || out₂ || out₃) out₄ e in (
        in_n_high least_held most_held (held_count book.held) (or_right (out₁ || out₂) out₃ o₃),
        in_n_high least_lines most_lines
            (line_count book.lines) (or_right (out₁ || out₂ || out₃) out₄ e),
      )

  -- a refusal without a place
  placeless : (number : ℕ) → 0 < number → number ≤ 7 → Numbered (record { number = number; place = 0 })
  placeless number low high = record { low = low; high = high; near = omega arith }

  pub tested_numbered : (r : Told) → test_of book ≡ Refused r → Numbered r
  unfolding test_of first_bad_held first_bad_line
  tested_numbered r e =
      let line = first_bad_line book.version book.b book.lines in
      let four = placeless 4 (omega arith) (omega arith) in
      subst NumberedIf e
      (numbered (version_out book.version) 3 0 _ (λ _. placeless 3 (omega arith) (omega arith)) (λ _.
      numbered (book_out book.version book.b book.t (held_count book.held) (line_count book.lines)) 4 0 _ (λ _. four) (λ inside.
      let few = few_entries inside in
      let h = first_most (held_bad book.b book.held) (held_count book.held) in
      let n = first_most (line_bad book.version book.b book.lines) (line_count book.lines) in
      numbered (torn held_words book.held) 4 0 _ (λ _. four) (λ _.
      numbered (torn line_words book.lines) 4 0 _ (λ _. four) (λ _.
      numbered (ltb 0 (first_bad_held book.b book.held)) 6 (first_bad_held book.b book.held) _
      (λ _. record { low = omega arith; high = omega arith; near = omega (arith, few.0, h) }) (λ _.
      numbered (ltb 0 line) 7 line _
      (λ _. record { low = omega arith; high = omega arith; near = omega (arith, few.1, n) }) (λ _. tt)))))))

  -- ---- the test with something beside the book

  -- it passes exactly where that is inside and the book passes
  pub beside_passes : (outside : Bool) (k : Book) → test_beside outside book ≡ Good k → (outside ≡ false) × (test_of book ≡ Good k)
  unfolding test_beside
  beside_passes outside k e =
      let p₁ = past (version_out book.version) 3 0 _ k e in
      past outside 4 0 _ k p₁.1

  pub beside_inside : (outside : Bool) → outside ≡ false → test_beside outside book ≡ test_of book
  unfolding test_beside test_of
  beside_inside outside e = rw e (go (version_out book.version) refl)
    where
      go : (v : Bool) → version_out book.version ≡ v → cond v (refused 3 0) (test_of book) ≡ test_of book
      go true e = rw e
      go false e = refl

  pub beside_numbered : (outside : Bool) (r : Told) → test_beside outside book ≡ Refused r → Numbered r
  unfolding test_beside
  beside_numbered outside r e =
      subst NumberedIf e
      (numbered (version_out book.version) 3 0 _ (λ _. placeless 3 (omega arith) (omega arith)) (λ _.
      numbered outside 4 0 _ (λ _. placeless 4 (omega arith) (omega arith)) (λ _. by (test_of book) refl)))
    where
      by : (x : Tested) → test_of book ≡ x → NumberedIf x
      by (Good k) e = tt
      by (Refused r) e = tested_numbered r e

-- a good book has good lines
pub good_lines : (k : Book) (book : Lent) → GoodBook k book → GoodLines k book.lines
good_lines k book g = record {
  known_version = known_version g.by_version;
  a_mark = g.a_mark;
  few_marks = g.few_marks;
  small_tolerance = small_tolerance g.by_version;
  classes = classes g.by_version;
  good = g.lines_good;
}
