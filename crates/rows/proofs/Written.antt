-- Rows written one after the other, from the table of loops. Assumes nothing.
use Prim.Native.Nat.{ℕ, ◌+◌, ◌*◌, ◌-◌, ◌<◌}
use native.Mathlib.Omega.{arith}
use native.Mathlib.Numerals.{add-one}
use mathlib.Core.Path.{◌≡◌, sym, ◌∙◌, ap, ap₂}
use mathlib.Core.List.{List, [], ◌∷◌, ◌++◌, append_assoc, append-nil}
use lib.IntN.{ℤ}
use lib.ListN.{length, get_or, take, drop}
use lib.Seq.{take-suc, take_all, length-take-le}
use borrow.Rule.Slice.PartMut.{put_mid}
use Rattle.laws.proofs.Lists.{pour}
use Rattle.book.specs.Good.{GoodLines}
use Rattle.book.specs.declared.Book.{Book}
use Rattle.loops.specs.Loops.{Loop, loop_at}
use Rattle.loops.specs.Row.{row_words, row, rows}
use Rattle.loops.specs.Report.{loops_of}
use Rattle.loops.specs.Table.{Table}
use Rattle.loops.proofs.Row.{rows_length}
use Rattle.loops.proofs.Places.{loop_at_is, loop_is}
use Rattle.loops.proofs.Table.{run_is}
use Rattle.rows.specs.Sums.{row_of, RunIn}
use Rattle.rows.proofs.Passes.{loop_run, loop_row}

rows_more : (t : ℕ) (done : List Loop) (lp : Loop) → rows t (done ++ (lp ∷ [])) ≡ rows t done ++ row t lp
unfolding rows
rows_more t [] lp = append-nil (row t lp)
rows_more t (l ∷ done) lp = ap (λ (r : List ℤ). row t l ++ r) (rows_more t done lp) ∙ sym (append_assoc (row t l) (rows t done) (row t lp))

-- the first i rows are written, and what was there is after them
abbrev pub Written : ℕ → List Loop → List ℤ → List ℤ → ℕ → Type 0
Written t ls out₀ out i = out ≡ rows t (take i ls) ++ drop (i * row_words) out₀

pub written_next : (t : ℕ) (ls : List Loop) (out₀ out vs : List ℤ) (i : ℕ) → i < length ls → Written t ls out₀ out i
    → vs ≡ row t (loop_at ls i)
    → Written t ls out₀ (put_mid (i * row_words) (i * row_words + row_words - i * row_words) out vs) (i + 1)
written_next t ls out₀ out vs i lt w e =
    let before : length (rows t (take i ls)) ≡ i * row_words =
    omega (arith, rows_length t (take i ls), length-take-le i ls (omega arith)) in
    let more : take (i + 1) ls ≡ take i ls ++ (loop_at ls i ∷ []) = rw (add-one i, loop_is ls i lt) (take-suc ls i [] lt) in
    pour (rows t (take i ls)) vs out₀ out i row_words before w
    ∙ ap (λ (p : List ℤ). p ++ drop ((i + 1) * row_words) out₀)
    (ap (λ (v : List ℤ). rows t (take i ls) ++ v) e ∙ sym (rows_more t (take i ls) (loop_at ls i)) ∙ ap (rows t) (sym more))

pub written_end : (t : ℕ) (ls : List Loop) (out₀ out : List ℤ) (i count : ℕ) → count ≡ length ls → i ≡ count → Written t ls out₀ out i
    → out ≡ rows t ls ++ drop (count * row_words) out₀
written_end t ls out₀ out i count e z w =
    w ∙ ap₂ (λ (l : List Loop) (k : ℕ). rows t l ++ drop (k * row_words) out₀) (take_all i ls (omega arith)) z

-- loop i of a good book, read off the table
module _ (k : Book) (lines : List ℤ) (good : GoodLines k lines) {starts runs : List ℕ} {count : ℕ}
    (tb : Table (loops_of k.marks lines) starts runs count)
    (i : ℕ) (lt : i < count) where
  abbrev pub run : List ℕ
  run = take (get_or starts (i + 1) 0 - get_or starts i 0) (drop (get_or starts i 0) runs)

  left : i < length (loops_of k.marks lines)
  left = omega (arith, tb.counted)

  pub run_in : RunIn lines run
  run_in =
      rw (run_is tb i left) (loop_run k lines good (loop_at (loops_of k.marks lines) i) (loop_at_is (loops_of k.marks lines) i left))

  pub run_row : (t : ℕ) → row_of t lines run ≡ row t (loop_at (loops_of k.marks lines) i)
  run_row t =
      ap (row_of t lines) (run_is tb i left) ∙ loop_row k lines good (loop_at (loops_of k.marks lines) i)
      (loop_at_is (loops_of k.marks lines) i left) t
