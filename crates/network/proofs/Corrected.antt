-- The lent book and its standing lines: when they are sound, and what re-run and withdrawal make of them. Assumes nothing.
use Prim.Native.Nat.{ℕ, zero, suc, ◌+◌, ◌≤◌, ◌<◌}
use native.Mathlib.Omega.{arith}
use mathlib.Core.Path.{◌≡◌, refl, sym, ◌∙◌, ap, ap₂, subst}
use mathlib.Core.Bool.{Bool, cond}
use mathlib.Core.List.{List, [], ◌∷◌, Memᴰ}
use lib.Dec.{lit<}
use lib.IntN.{ℤ, pos, negsuc, nat_abs}
use lib.ListN.{length, set, drop, length-set, length-drop}
use lib.Seq.{drop-set-lt, drop-set-add}
use borrow.Author.Tests.{eq-eqb, ne_eqb}
use Rattle.book.specs.Limits.{least_length}
use Rattle.book.specs.Line.{line_words, from_field, to_field, difference_field, length_field, standing_field, class_field}
use Rattle.book.specs.Line.{place, field, from_at, to_at, length_at, standing_at, class_at}
use Rattle.book.proofs.Places.{field_set, field_kept, line_kept}
use Rattle.network.specs.Standing.{Line, line, keep, standing_from, standing}
use Rattle.network.specs.Sound.{Placed, Sound}
use Rattle.network.specs.Field.{HasLine, line_at}
use Rattle.network.specs.Redone.{measured, new_difference, redone}
use Rattle.network.specs.Without.{without}
use Rattle.network.proofs.Standing.{standing_first, from_on, of_standing, rising_standing}
use Rattle.network.proofs.Withdrawn.{without_none}

-- a book whose standing lines pass their test is sound
pub standing_sound : (b : ℕ) (book : List ℤ)
    → ((i : ℕ) → HasLine book i → Placed b (line_at (suc i) book i)
    × (nat_abs (from_at book i) ≡ nat_abs (to_at book i) → ⊥) × (least_length ≤ nat_abs (length_at book i)))
    → Sound b (standing book)
standing_sound b book h = record {
  placed = λ l m. let w = of_standing book l m in subst (Placed b) (sym w.1.its) (h w.0 w.1.is_there).0;
  apart = λ l m. let w = of_standing book l m in subst (λ (k : Line). k.from ≡ k.to → ⊥) (sym w.1.its) (h w.0 w.1.is_there).1;
  long_enough = λ l m. let w = of_standing book l m in
      subst (λ (k : Line). least_length ≤ k.length) (sym w.1.its) (h w.0 w.1.is_there).2;
  rising = rising_standing book;
}

-- ---- a number of a line is set

module _ (k : ℕ) (book : List ℤ) (f : ℕ) (z : ℤ) (inside : f < line_words) where
  -- of the first line: the rest stays
  set_first : line_words ≤ length book → standing_from k (set book (place 0 f) z)
      ≡ keep (standing_at (set book (place 0 f) z) 0) (line_at k (set book (place 0 f) z) 0) (standing_from (suc k) (drop line_words book))
  set_first h =
      let there : line_words ≤ length (set book (place 0 f) z) = simp length-set h in
      standing_first k (set book (place 0 f) z) there ∙ rw (drop-set-lt line_words book (place 0 f) z (omega arith))

  -- of a later line: the first stays
  set_later : (i : ℕ) → line_words ≤ length book → standing_from k (set book (place (suc i) f) z)
      ≡ keep (standing_at book 0) (line_at k book 0) (standing_from (suc k) (set (drop line_words book) (place i f) z))
  set_later i h =
      let there : line_words ≤ length (set book (place (suc i) f) z) = simp length-set h in
      let on : place (suc i) f ≡ line_words + place i f = omega arith in
      standing_first k (set book (place (suc i) f) z) there
      ∙ rw (
        same standing_field (lit< tt),
        same from_field (lit< tt),
        same to_field (lit< tt),
        same difference_field (lit< tt),
        same length_field (lit< tt),
        same class_field (lit< tt),
      )
      (ap (λ (ls : List ℤ). keep (standing_at book 0) (line_at k book 0) (standing_from (suc k) ls))
      (ap (λ (n : ℕ). drop line_words (set book n z)) on ∙ drop-set-add line_words book (place i f) z))
    where
      same : (m : ℕ) → m < line_words → field m (set book (place (suc i) f) z) 0 ≡ field m book 0
      same m g = line_kept book (suc i) f z 0 (λ e. omega arith) m inside g

-- ---- re-run: "sets the line's difference to the new one"

other_line : (n : ℕ) (d : ℤ) (l : Line) → (l.number ≡ n → ⊥) → measured (new_difference n d) l ≡ l
other_line n d l h =
    ap (λ (t : Bool). line l.number l.from l.to (cond t d l.difference) l.length l.class) (ne_eqb l.number n h)

redone_none : (n : ℕ) (d : ℤ) (lines : List Line) → ((l : Line) → Memᴰ l lines → l.number ≡ n → ⊥) → redone n d lines ≡ lines
redone_none n d [] h = refl
redone_none n d (l ∷ ls) h = ap₂ ◌∷◌ (other_line n d l (h l (Memᴰ.head refl))) (redone_none n d ls (λ k i. h k (Memᴰ.tail i)))

redone_keep : (n : ℕ) (d s : ℤ) (l : Line) (ls : List Line)
    → redone n d (keep s l ls) ≡ keep s (measured (new_difference n d) l) (redone n d ls)
unfolding keep
redone_keep n d (pos zero) l ls = refl
redone_keep n d (pos (suc x)) l ls = refl
redone_keep n d (negsuc x) l ls = refl

rerun_from : (k i : ℕ) (book : List ℤ) (d : ℤ) → HasLine book i
    → standing_from k (set book (place i difference_field) d) ≡ redone (k + i) d (standing_from k book)
rerun_from k zero book d h =
    let first : line_words ≤ length book = omega arith in
    let n : k + 0 ≡ k = omega arith in
    let rest = standing_from (suc k) (drop line_words book) in
    let others : redone k d rest ≡ rest = redone_none k d rest (λ l i z. omega (arith, from_on (suc k) (drop line_words book) l i, z)) in
    let new = line k (nat_abs (from_at book 0)) (nat_abs (to_at book 0)) d (nat_abs (length_at book 0)) (class_at book 0) in
    let its : measured (new_difference k d) (line_at k book 0) ≡ new
    = rw (eq-eqb k k refl) in
    set_first k book difference_field d (lit< tt) first
    ∙ rw (
      same standing_field (lit< tt) (λ e. omega arith),
      same from_field (lit< tt) (λ e. omega arith),
      same to_field (lit< tt) (λ e. omega arith),
      same length_field (lit< tt) (λ e. omega arith),
      same class_field (lit< tt) (λ e. omega arith),
      field_set book 0 difference_field d (omega arith),
      n,
      standing_first k book first,
    )
    (sym (redone_keep k d (standing_at book 0) (line_at k book 0) rest ∙ ap₂ (keep (standing_at book 0)) its others))
  where
    same : (m : ℕ) → m < line_words → (m ≡ difference_field → ⊥) → field m (set book (place 0 difference_field) d) 0 ≡ field m book 0
    same m g a = field_kept book 0 difference_field d m (lit< tt) g a 0
rerun_from k (suc i) book d h =
    let first : line_words ≤ length book = omega arith in
    let n : suc k + i ≡ k + suc i = omega arith in
    let rest = standing_from (suc k) (drop line_words book) in
    let its = other_line (k + suc i) d (line_at k book 0) (λ z. omega (arith, z)) in
    let later = rerun_from (suc k) i (drop line_words book) d (simp length-drop (omega arith)) ∙ ap (λ (x : ℕ). redone x d rest) n in
    set_later k book difference_field d (lit< tt) i first
    ∙ sym (ap (redone (k + suc i) d) (standing_first k book first) ∙ redone_keep (k + suc i) d (standing_at book 0) (line_at k book 0) rest
    ∙ ap₂ (keep (standing_at book 0)) its (sym later))

-- setting the difference of line i, from 0, re-runs the line of number i + 1
pub rerun_sets_difference : (book : List ℤ) (i : ℕ) (d : ℤ) → HasLine book i
    → standing (set book (place i difference_field) d) ≡ redone (suc i) d (standing book)
unfolding standing
rerun_sets_difference book i d h = rerun_from 1 i book d h ∙ ap (λ (n : ℕ). redone n d (standing_from 1 book)) (omega arith)

-- ---- withdrawal: "its standing to 0"

without_here : (n : ℕ) (s : ℤ) (l : Line) (ls : List Line) → l.number ≡ n → without n (keep s l ls) ≡ without n ls
unfolding keep without
without_here n (pos zero) l ls e = refl
without_here n (pos (suc x)) l ls e = rw (eq-eqb l.number n e)
without_here n (negsuc x) l ls e = refl

without_keep : (n : ℕ) (s : ℤ) (l : Line) (ls : List Line) → (l.number ≡ n → ⊥) → without n (keep s l ls) ≡ keep s l (without n ls)
unfolding keep without
without_keep n (pos zero) l ls h = refl
without_keep n (pos (suc x)) l ls h = rw (ne_eqb l.number n h)
without_keep n (negsuc x) l ls h = refl

withdrawal_from : (k i : ℕ) (book : List ℤ) → HasLine book i
    → standing_from k (set book (place i standing_field) (pos 0)) ≡ without (k + i) (standing_from k book)
unfolding keep
withdrawal_from k zero book h =
    let first : line_words ≤ length book = omega arith in
    let n : k + 0 ≡ k = omega arith in
    let rest = standing_from (suc k) (drop line_words book) in
    let others : without k rest ≡ rest = without_none k rest (λ l i z. omega (arith, from_on (suc k) (drop line_words book) l i, z)) in
    set_first k book standing_field (pos 0) (lit< tt) first
    ∙ rw (field_set book 0 standing_field (pos 0) (omega arith), n, standing_first k book first)
    (sym (without_here k (standing_at book 0) (line_at k book 0) rest refl ∙ others))
withdrawal_from k (suc i) book h =
    let first : line_words ≤ length book = omega arith in
    let n : suc k + i ≡ k + suc i = omega arith in
    let rest = standing_from (suc k) (drop line_words book) in
    let later = withdrawal_from (suc k) i (drop line_words book) (simp length-drop (omega arith)) ∙ ap (λ (x : ℕ). without x rest) n in
    set_later k book standing_field (pos 0) (lit< tt) i first
    ∙ sym (ap (without (k + suc i)) (standing_first k book first)
    ∙ without_keep (k + suc i) (standing_at book 0) (line_at k book 0) rest (λ z. omega (arith, z))
    ∙ ap (keep (standing_at book 0) (line_at k book 0)) (sym later))

-- setting the standing of line i, from 0, to 0 withdraws the line of number i + 1
pub withdrawal_sets_standing : (book : List ℤ) (i : ℕ) → HasLine book i
    → standing (set book (place i standing_field) (pos 0)) ≡ without (suc i) (standing book)
unfolding standing
withdrawal_sets_standing book i h = withdrawal_from 1 i book h ∙ ap (λ (n : ℕ). without n (standing_from 1 book)) (omega arith)
