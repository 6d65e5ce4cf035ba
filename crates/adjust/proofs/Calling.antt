-- The answer of the call by its tests. Assumes nothing.
use Prim.Native.Nat.{ℕ, ◌≤◌, ◌<◌}
use native.Mathlib.Omega.{arith}
use mathlib.Core.Path.{◌≡◌, sym, ◌∙◌, ap, subst}
use mathlib.Core.List.{List, ◌++◌}
use lib.ListN.{length, drop}
use lib.IntN.{ℤ}
use borrow.Author.Tests.{lt-ltb, le-ltb}
use Rattle.book.specs.Lent.{Lent}
use Rattle.book.specs.Test.{refusal, test_of}
use Rattle.book.specs.Good.{GoodBook}
use Rattle.book.specs.declared.Book.{Book}
use Rattle.book.specs.Refusals.{Told}
use Rattle.book.specs.Test.{Good, Refused}
use Rattle.book.proofs.Goods.{good_lines}
use Rattle.book.proofs.IfGood.{if_refused, if_good_lem}
use Rattle.adjust.specs.Adjusted.{Outcome, done, refused, adjustment}
use Rattle.adjust.specs.Answers.{settled_at, refused_with, answered, Answers}
use Rattle.adjust.specs.Call.{adjusted, given_by, adjust_good, adjust_of, GoodEntries}
use Rattle.adjust.specs.Answers.{Adjusted}

-- a tested book has good entries
pub good_entries : (k : Book) (book : Lent) → GoodBook k book → GoodEntries k book.held book.lines
good_entries k book g = record {
  lines_good = good_lines k book g;
  held_good = g.held_good;
}

-- the call by the test of its book
module _ (book : Lent) (out : List ℤ) where
  pub by_refusal : (r : Told) → test_of book ≡ Refused r → adjust_of book out ≡ adjusted (refused_with r) out
  unfolding adjust_of
  by_refusal = if_refused (test_of book) (λ r. adjusted (refused_with r) out) (λ k. adjust_good k book.held book.lines out)

  pub by_good_book : (k : Book) → test_of book ≡ Good k → adjust_of book out ≡ adjust_good k book.held book.lines out
  unfolding adjust_of
  by_good_book = if_good_lem (test_of book) (λ r. adjusted (refused_with r) out) (λ k. adjust_good k book.held book.lines out)

-- what is given by an answer and the heights that it leaves
module _ (a : Adjusted) (z out : List ℤ) where
  given_done : (o : Outcome) → Answers a z o → a.refusal.number ≡ 0 → adjusted a (z ++ drop (length z) out) ≡ given_by out o
  given_done (done n hs) w e =
      let q : done n z ≡ done n hs = subst (λ (x : Adjusted). answered x z ≡ done n hs) w.whole w.is in
      let same : z ≡ hs = cc in
      ap (λ (x : Adjusted). adjusted x (z ++ drop (length z) out)) w.whole
      ∙ ap (λ (x : List ℤ). adjusted (settled_at n) (x ++ drop (length x) out)) same
  given_done (refused k p) w e =
      let none : k ≡ 0 = sym (ap (λ (x : Adjusted). x.refusal.number) w.whole) ∙ e in
      let q : answered (refused_with (refusal k p)) z ≡ refused k p =
      subst (λ (x : Adjusted). answered x z ≡ refused k p) w.whole w.is in
      absurd (clash (subst (λ (x : ℕ). answered (refused_with (refusal x p)) z ≡ refused x p) none q))
    where
      clash : done 0 z ≡ refused 0 p → ⊥
      clash e = let x : ◌≡◌ {A = ℕ} 0 1 = cc in omega arith

  given_refused : (o : Outcome) → Answers a z o → (a.refusal.number ≡ 0 → ⊥) → adjusted a out ≡ given_by out o
  given_refused (done n hs) w e = absurd (e (ap (λ (x : Adjusted). x.refusal.number) w.whole))
  given_refused (refused k p) w e = ap (λ (x : Adjusted). adjusted x out) w.whole

module _ (k : Book) (held lines out : List ℤ) where
  -- 10
  pub call_ten : (a : Adjusted) → length out < k.marks → a ≡ refused_with (refusal 10 0) → adjusted a out ≡ adjust_good k held lines out
  unfolding adjust_good
  call_ten a h e = rw (lt-ltb (length out) k.marks h) (ap (λ (x : Adjusted). adjusted x out) e)

  module _ (a : Adjusted) (z : List ℤ) (room : k.marks ≤ length out) (w : Answers a z (adjustment k.marks held lines)) where
    pub call_done : a.refusal.number ≡ 0 → (out' : List ℤ) → out' ≡ z ++ drop (length z) out
        → adjusted a out' ≡ adjust_good k held lines out
    unfolding adjust_good
    call_done e out' q =
        rw (le-ltb (length out) k.marks room) (ap (adjusted a) q ∙ given_done a z out (adjustment k.marks held lines) w e)

    pub call_refused : (a.refusal.number ≡ 0 → ⊥) → adjusted a out ≡ adjust_good k held lines out
    unfolding adjust_good
    call_refused e = rw (le-ltb (length out) k.marks room) (given_refused a z out (adjustment k.marks held lines) w e)
