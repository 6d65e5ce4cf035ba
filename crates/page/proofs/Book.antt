-- The parts of a book's report together. Assumes nothing.
use Prim.Native.Nat.{ℕ, ◌≤◌}
use native.Mathlib.Omega.{arith}
use mathlib.Core.Path.{◌≡◌, refl, sym, ◌∙◌, ap}
use mathlib.Core.List.{List, ◌++◌}
use lib.IntN.{ℤ}
use lib.ListN.{length, take, drop}
use lib.Seq.{take_at}
use Rattle.book.specs.Limits.{most_lines}
use Rattle.book.specs.declared.Book.{Book}
use Rattle.book.specs.Good.{GoodLines}
use Rattle.loops.specs.Report.{loops_of}
use Rattle.table.specs.Filled.{found_in}
use Rattle.table.specs.declared.Found.{Found}
use Rattle.lists.specs.Listing.{Listing, listing, entered, list_of}
use Rattle.lists.specs.NotChecked.{unchecked_of}
use Rattle.lists.specs.Listing.{Listed}
use Rattle.lists.proofs.Lists.{list_whole}
use Rattle.lists.proofs.Unwatched.{few_listed}
use Rattle.text.specs.Put.{Put}
use Rattle.text.specs.Report.{head_text}
use Rattle.text.proofs.Puts.{◌then◌}
use Rattle.page.specs.Page.{loop_lines, loops_page}

module _ (k : Book) (ls : List ℤ) (g : GoodLines k ls) where
  -- the head and the loops
  pub loops_put : {f : Found} → f ≡ found_in k.marks ls → {out out₁ out₂ : List ℕ} {r s : ℕ}
      → Put out out₁ 0 r (head_text k.version k.marks k.lines f.pieces f.count)
      → Put out₁ out₂ r s (loop_lines k.tolerance 1 (loops_of k.marks ls))
      → Put out out₂ 0 s (loops_page k ls)
  unfolding loops_page
  loops_put e p q = (rw e at p) then q

  -- the list of the lines that are not checked, in room for the most there can be
  module _ (out : List ℤ) {out' : List ℤ} {r : Listed} (room : most_lines ≤ length out)
      (e : listing r out' ≡ list_of (unchecked_of k.marks ls) out) where
    both : listing r out' ≡ listing (entered (length (unchecked_of k.marks ls)))
        (unchecked_of k.marks ls ++ drop (length (unchecked_of k.marks ls)) out)
    both = e ∙ sym (list_whole (unchecked_of k.marks ls) out (omega (arith, few_listed k ls g)))

    -- nothing is refused
    pub none_refused : r.refusal.number ≡ 0
    none_refused = ap (λ (l : Listing). l.answer.refusal.number) both

    entries_are : r.entries ≡ length (unchecked_of k.marks ls)
    entries_are = ap (λ (l : Listing). l.answer.entries) both

    pub unchecked_fits : length out' ≡ length out → r.entries ≤ length out'
    unchecked_fits n = omega (arith, entries_are, few_listed k ls g)

    pub unchecked_is : take r.entries out' ≡ unchecked_of k.marks ls
    unchecked_is =
        ap (λ (l : Listing). take l.answer.entries l.out) both
        ∙ take_at (unchecked_of k.marks ls) (drop (length (unchecked_of k.marks ls)) out) (length (unchecked_of k.marks ls)) refl
