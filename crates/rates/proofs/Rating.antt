-- The rate call: what its tests tell.
-- Assumes nothing.
use Prim.Native.Nat.{ℕ, ◌≤◌, zero-le}
use mathlib.Core.Path.{◌≡◌, refl, subst}
use mathlib.Core.Bool.{Bool, true, false}
use mathlib.Core.List.{List}
use lib.Dec.{ltb}
use lib.ListN.{length, get_or}
use lib.IntN.{ℤ, pos, nat_abs}
use borrow.Author.Tests.{ltb-true, ltb-false, eqb-true, not-false}
use Rattle.laws.specs.Tests.{eq_z}
use Rattle.laws.proofs.Scans.{none_bad}
use Rattle.laws.proofs.Size.{size_within}
use Rattle.book.specs.Limits.{most_height}
use Rattle.book.specs.Height.{work_height_out}
use Rattle.book.specs.Lent.{Lent}
use Rattle.book.specs.Test.{test_of}
use Rattle.fields.specs.Heights.{Working}
use Rattle.rates.specs.Rates.{first_high, heights_out}
use Rattle.book.specs.declared.Book.{Book}
use Rattle.book.specs.Test.{Good}
use Rattle.book.proofs.Goods.{tested_good}
use Rattle.fields.proofs.Setting.{past_end}

-- lent heights none of which is outside
pub working_lent : (hs : List ℤ) (b : ℕ) → length hs ≡ b → first_high hs ≡ 0 → Working hs b
unfolding first_high work_height_out
working_lent hs b e z = record { all = e; inside = λ j. by j (ltb j (length hs)) refl }
  where
    by : (j : ℕ) (t : Bool) → ltb j (length hs) ≡ t → nat_abs (get_or hs j (pos 0)) ≤ most_height
    by j true t =
        size_within most_height (get_or hs j (pos 0)) (none_bad (λ i. work_height_out (get_or hs i (pos 0))) (length hs) z j
        (ltb-true j (length hs) t))
    by j false t = rw (past_end hs j (ltb-false j (length hs) t)) zero-le

-- b heights
pub marks_of : (book : Lent) (k : Book) → test_of book ≡ Good k → (heights : List ℤ) → heights_out book heights ≡ false
    → length heights ≡ k.marks
unfolding eq_z heights_out
marks_of book k e heights q =
    let g = tested_good book k e in
    let same = not-false (eq_z (pos (length heights)) book.b) q in
    eqb-true (length heights) k.marks (subst (λ (z : ℤ). eq_z (pos (length heights)) z ≡ true) g.marks same)
