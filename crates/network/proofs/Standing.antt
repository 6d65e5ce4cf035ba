-- The standing lines of a lent book, by its lines: where they come from, that they go by rising number, and that they are few.
-- Assumes nothing.
use Prim.Native.Nat.{ℕ, zero, suc, ◌+◌, ◌*◌, ◌≤◌, ◌<◌}
use native.Mathlib.Omega.{arith}
use mathlib.Core.Path.{◌≡◌, refl, sym, ◌∙◌, ap, subst}
use mathlib.Core.Logic.{◌⊎◌, inl, inr}
use mathlib.Core.Bool.{true, false, true≢false}
use mathlib.Core.List.Memᴰ
use mathlib.Core.List.{List, [], ◌∷◌, Memᴰ}
use lib.IntN.{ℤ, pos, negsuc, pos-ne-negsuc}
use lib.ListN.{length, drop, length-drop}
use lib.Seq.{drop-drop}
use Rattle.laws.specs.Tests.{eq_z}
use Rattle.laws.specs.Range.{Between}
use Rattle.laws.proofs.Inside.{eq_z_true}
use Rattle.book.specs.Line.{line_words, from_field, to_field, difference_field, length_field}
use Rattle.book.specs.Line.{standing_field, class_field, standing_at, line_count}
use Rattle.book.proofs.Places.{field_from, field_on}
use Rattle.network.specs.Standing.{Line, keep, standing_from, standing}
use Rattle.network.specs.Field.{HasLine, line_at, StandsAt, stands_from}
use Rattle.network.specs.Sound.{Rising, none_left, then}

-- ---- a line is taken apart here, and nowhere above

-- a book that is shorter than a line has none
pub standing_short : (k : ℕ) (book : List ℤ) → length book < line_words → standing_from k book ≡ []
unfolding standing_from
standing_short k [] h = refl
standing_short k (f ∷ []) h = refl
standing_short k (f ∷ t ∷ []) h = refl
standing_short k (f ∷ t ∷ d ∷ []) h = refl
standing_short k (f ∷ t ∷ d ∷ n ∷ []) h = refl
standing_short k (f ∷ t ∷ d ∷ n ∷ s ∷ []) h = refl
standing_short k (f ∷ t ∷ d ∷ n ∷ s ∷ c ∷ rest) h = absurd (omega arith)

-- else its first line comes before those of the rest
pub standing_first : (k : ℕ) (book : List ℤ) → line_words ≤ length book
    → standing_from k book ≡ keep (standing_at book 0) (line_at k book 0) (standing_from (suc k) (drop line_words book))
unfolding standing_from
standing_first k [] h = absurd (omega arith)
standing_first k (f ∷ []) h = absurd (omega arith)
standing_first k (f ∷ t ∷ []) h = absurd (omega arith)
standing_first k (f ∷ t ∷ d ∷ []) h = absurd (omega arith)
standing_first k (f ∷ t ∷ d ∷ n ∷ []) h = absurd (omega arith)
standing_first k (f ∷ t ∷ d ∷ n ∷ s ∷ []) h = absurd (omega arith)
standing_first k (f ∷ t ∷ d ∷ n ∷ s ∷ c ∷ rest) h = refl

-- ---- line by line

-- what holds of a book without a line, and of a book if it holds of what follows the first line, holds of every book
module _ (P : ℕ → List ℤ → Type 0) (short : (k : ℕ) (book : List ℤ) → length book < line_words → P k book)
    (more : (k : ℕ) (book : List ℤ) → line_words ≤ length book → P (suc k) (drop line_words book) → P k book) where
  by_count : (n k : ℕ) (book : List ℤ) → line_count book ≡ n → P k book
  by_count zero k book e = short k book (omega arith)
  by_count (suc n) k book e = more k book (omega arith) (by_count n (suc k) (drop line_words book) (simp length-drop (omega arith)))

  pub by_lines : (k : ℕ) (book : List ℤ) → P k book
  by_lines k book = by_count (line_count book) k book refl

-- one line further into the book
pub line_on : (n : ℕ) (book : List ℤ) (j : ℕ) → line_at n (drop line_words book) j ≡ line_at n book (suc j)
line_on n book j = rw (
  field_on book j from_field,
  field_on book j to_field,
  field_on book j difference_field,
  field_on book j length_field,
  field_on book j class_field,
)

line_from : (n : ℕ) (book : List ℤ) (i j : ℕ) → line_at n (drop (i * line_words) book) j ≡ line_at n book (i + j)
line_from n book i j =
    rw (
      field_from book i j from_field,
      field_from book i j to_field,
      field_from book i j difference_field,
      field_from book i j length_field,
      field_from book i j class_field,
    )

-- a line that stands, in front of others
pub record Kept (s : ℤ) (x l : Line) : Type 0 where
  pub beyond : ℕ
  pub stands : s ≡ pos (suc beyond)
  pub its : l ≡ x

pub of_keep : (s : ℤ) (x : Line) (ls : List Line) (l : Line) → Memᴰ l (keep s x ls) → Kept s x l ⊎ Memᴰ l ls
unfolding keep
of_keep (pos zero) x ls l m = inr m
of_keep (pos (suc y)) x ls l (Memᴰ.head e) = inl (record { beyond = y; stands = refl; its = e })
of_keep (pos (suc y)) x ls l (Memᴰ.tail m) = inr m
of_keep (negsuc y) x ls l m = inr m

pub in_keep : (s : ℤ) (x : Line) (ls : List Line) (l : Line) → Kept s x l → Memᴰ l (keep s x ls)
unfolding keep
in_keep s x ls l k = rw k.stands (Memᴰ.head k.its)

pub in_rest : (s : ℤ) (x : Line) (ls : List Line) (l : Line) → Memᴰ l ls → Memᴰ l (keep s x ls)
unfolding keep
in_rest (pos zero) x ls l m = m
in_rest (pos (suc y)) x ls l m = Memᴰ.tail m
in_rest (negsuc y) x ls l m = m

-- ---- rising numbers

-- what stands from line k on has numbers from k on
pub from_on : (k : ℕ) (book : List ℤ) (l : Line) → Memᴰ l (standing_from k book) → k ≤ l.number
from_on k book l =
    by_lines (λ k book. Memᴰ l (standing_from k book) → k ≤ l.number)
    (λ k book h m. absurd (Memᴰ.not-nil (rw (standing_short k book h) at m)))
    (λ k book h ih m. go k book ih (of_keep _ _ _ l (rw (standing_first k book h) at m)))
    k book
  where
    go : (k : ℕ) (book : List ℤ) → (Memᴰ l (standing_from (suc k) (drop line_words book)) → suc k ≤ l.number)
        → Kept (standing_at book 0) (line_at k book 0) l ⊎ Memᴰ l (standing_from (suc k) (drop line_words book)) → k ≤ l.number
    go k book ih (inl w) = omega (arith, ap (λ (y : Line). y.number) w.its)
    go k book ih (inr m) = omega (arith, ih m)

rising_keep : (s : ℤ) (x : Line) (ls : List Line) → ((l : Line) → Memᴰ l ls → x.number < l.number) → Rising ls
    → Rising (keep s x ls)
unfolding keep
rising_keep (pos zero) x ls h r = r
rising_keep (pos (suc y)) x ls h r = then h r
rising_keep (negsuc y) x ls h r = r

rising_from : (k : ℕ) (book : List ℤ) → Rising (standing_from k book)
rising_from =
    by_lines (λ k book. Rising (standing_from k book))
    (λ k book h. rw (standing_short k book h) none_left)
    (λ k book h r. rw (standing_first k book h) (rising_keep _ _ _ (λ l i. from_on (suc k) (drop line_words book) l i) r))

pub rising_standing : (book : List ℤ) → Rising (standing book)
unfolding standing
rising_standing book = rising_from 1 book

-- ---- no more lines stand than there are

length_keep : (s : ℤ) (x : Line) (ls : List Line) → length (keep s x ls) ≤ suc (length ls)
unfolding keep
length_keep (pos zero) x ls = omega arith
length_keep (pos (suc y)) x ls = omega arith
length_keep (negsuc y) x ls = omega arith

few_from : (k : ℕ) (book : List ℤ) → length (standing_from k book) ≤ line_count book
few_from =
    by_lines (λ k book. length (standing_from k book) ≤ line_count book)
    (λ k book h. rw (standing_short k book h) (omega arith))
    (λ k book h ih. rw (standing_first k book h)
    (omega (
      arith,
      length_keep (standing_at book 0) (line_at k book 0) (standing_from (suc k) (drop line_words book)),
      length-drop line_words book,
    )))

pub few_standing : (book : List ℤ) → length (standing book) ≤ line_count book
unfolding standing
few_standing book = few_from 1 book

-- ---- the standing lines are the lines of the book that stand

stands_on : (k i : ℕ) (book : List ℤ) (l : Line) → line_words ≤ length book
    → StandsAt (drop line_words book) i (suc k + i) l → StandsAt book (suc i) (k + suc i) l
stands_on k i book l h w =
    let n : suc k + i ≡ k + suc i = omega arith in
    record {
      is_there = omega (arith, w.is_there, length-drop line_words book);
      beyond = w.beyond;
      stands = sym (field_on book i standing_field) ∙ w.stands;
      its = w.its ∙ ap (λ (x : ℕ). line_at x (drop line_words book) i) n ∙ line_on (k + suc i) book i;
    }

of_standing_from : (k : ℕ) (book : List ℤ) (l : Line) → Memᴰ l (standing_from k book) → (i : ℕ) × StandsAt book i (k + i) l
of_standing_from k book l =
    by_lines (λ k book. Memᴰ l (standing_from k book) → (i : ℕ) × StandsAt book i (k + i) l)
    (λ k book h m. absurd (Memᴰ.not-nil (rw (standing_short k book h) at m)))
    (λ k book h ih m. go k book h ih (of_keep _ _ _ l (rw (standing_first k book h) at m)))
    k book
  where
    go : (k : ℕ) (book : List ℤ) → line_words ≤ length book
        → (Memᴰ l (standing_from (suc k) (drop line_words book)) → (i : ℕ) × StandsAt (drop line_words book) i (suc k + i) l)
        → Kept (standing_at book 0) (line_at k book 0) l ⊎ Memᴰ l (standing_from (suc k) (drop line_words book))
        → (i : ℕ) × StandsAt book i (k + i) l
    go k book h ih (inl w) =
        let n : k ≡ k + 0 = omega arith in
        (0, record { is_there = omega arith; beyond = w.beyond; stands = w.stands; its = w.its ∙ ap (λ (x : ℕ). line_at x book 0) n })
    go k book h ih (inr m) = let w = ih m in (suc w.0, stands_on k w.0 book l h w.1)

in_standing_from : (k : ℕ) (book : List ℤ) (i : ℕ) (l : Line) → StandsAt book i (k + i) l → Memᴰ l (standing_from k book)
in_standing_from k book zero l w =
    let h : line_words ≤ length book = omega (arith, w.is_there) in
    let n : k + 0 ≡ k = omega arith in
    rw (standing_first k book h)
    (in_keep _ _ _ l (record { beyond = w.beyond; stands = w.stands; its = w.its ∙ ap (λ (x : ℕ). line_at x book 0) n }))
in_standing_from k book (suc i) l w =
    let h : line_words ≤ length book = omega (arith, w.is_there) in
    let n : k + suc i ≡ suc k + i = omega arith in
    rw (standing_first k book h)
    (in_rest _ _ _ l (in_standing_from (suc k) (drop line_words book) i l (record {
      is_there = omega (arith, w.is_there, length-drop line_words book);
      beyond = w.beyond;
      stands = field_on book i standing_field ∙ w.stands;
      its = w.its ∙ sym (line_on (k + suc i) book i) ∙ ap (λ (x : ℕ). line_at x (drop line_words book) i) n;
    })))

-- a standing line is a line of the book that stands, numbered from 1
pub of_standing : (book : List ℤ) (l : Line) → Memᴰ l (standing book) → (i : ℕ) × StandsAt book i (suc i) l
unfolding standing
of_standing book l m = let w = of_standing_from 1 book l m in (w.0, subst (λ (n : ℕ). StandsAt book w.0 n l) (omega arith) w.1)

-- and every line of the book that stands is one
pub in_standing : (book : List ℤ) (i : ℕ) (l : Line) → StandsAt book i (suc i) l → Memᴰ l (standing book)
unfolding standing
in_standing book i l w = in_standing_from 1 book i l (subst (λ (n : ℕ). StandsAt book i n l) (omega arith) w)

-- ---- from a place on, for a loop that goes from the last line to the first

-- all of them
pub stands_all : (book : List ℤ) (i : ℕ) → i ≡ 0 → standing book ≡ stands_from book i
unfolding standing
stands_all book i e = ap (stands_from book) (sym e)

-- none after the last
pub stands_none : (book : List ℤ) (i : ℕ) → line_count book ≤ i → stands_from book i ≡ []
stands_none book i h = standing_short (suc i) (drop (i * line_words) book) (simp length-drop (omega arith))

-- the line at place i in front of those after it
pub stands_at : (book : List ℤ) (i : ℕ) → HasLine book i
    → stands_from book i ≡ keep (standing_at book i) (line_at (suc i) book i) (stands_from book (suc i))
stands_at book i h =
    let there : line_words ≤ length (drop (i * line_words) book) = simp length-drop (omega arith) in
    let first : i + 0 ≡ i = omega arith in
    let on : i * line_words + line_words ≡ suc i * line_words = omega arith in
    standing_first (suc i) (drop (i * line_words) book) there
    ∙ rw (field_from book i 0 standing_field, line_from (suc i) book i 0, first, drop-drop line_words (i * line_words) book, on)

keep_out : (s : ℤ) (l : Line) (ls : List Line) → eq_z s (pos 0) ≡ true → keep s l ls ≡ ls
unfolding keep
keep_out s l ls h = ap (λ (x : ℤ). keep x l ls) (eq_z_true s (pos 0) h)

keep_in : (s : ℤ) (l : Line) (ls : List Line) → Between 0 1 s → eq_z s (pos 0) ≡ false → keep s l ls ≡ l ∷ ls
unfolding keep eq_z
keep_in (pos zero) l ls b h = absurd (true≢false h)
keep_in (pos (suc x)) l ls b h = refl
keep_in (negsuc x) l ls b h = absurd (pos-ne-negsuc (suc x) x (sym b.is))

module _ (book : List ℤ) (i : ℕ) (h : HasLine book i) where
  -- a withdrawn line is left out
  pub stands_not : eq_z (standing_at book i) (pos 0) ≡ true → stands_from book i ≡ stands_from book (suc i)
  stands_not e = stands_at book i h ∙ keep_out (standing_at book i) (line_at (suc i) book i) (stands_from book (suc i)) e

  -- a line that stands is the first
  pub stands_here : Between 0 1 (standing_at book i) → eq_z (standing_at book i) (pos 0) ≡ false
      → stands_from book i ≡ line_at (suc i) book i ∷ stands_from book (suc i)
  stands_here b e = stands_at book i h ∙ keep_in (standing_at book i) (line_at (suc i) book i) (stands_from book (suc i)) b e
