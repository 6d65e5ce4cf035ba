-- The test of a lent book is the table's 3, 4, 6 and 7. Assumes nothing.
use mathlib.Core.Bool.{Bool, true, false, cond, ◌||◌}
use mathlib.Core.List.{List, [], ◌∷◌}
use mathlib.Core.Path.{◌≡◌, refl, sym, ◌∙◌, ap}
use Prim.Native.Nat.{ℕ}
use native.Mathlib.Omega.{arith}
use lib.Dec.{ltb}
use Rattle.book.specs.Lent.{Lent}
use Rattle.book.specs.Held.{held_words, held_count, first_bad_held}
use Rattle.book.specs.Line.{line_words, line_count, first_bad_line}
use Rattle.laws.proofs.Tests.{or_left, or_right}
use Rattle.book.specs.Version.{version_out}
use Rattle.book.specs.Test.{torn, book_out, counts_of, refusal, refused, test_of, test_beside, if_good}
use Rattle.book.proofs.Goods.{beside_inside}
use Rattle.book.specs.declared.Book.{Book}
use Rattle.book.specs.Refusals.{Told}
use Rattle.book.specs.Test.{Good, Refused}
use Rattle.book.specs.Test.{Tested}
use Rattle.demands.specs.Rules.{Rule}
pub use Rattle.demands.specs.Rules.{None}
use Rattle.demands.specs.Tables.{book_fault, beside_rules, book_rules}
use Rattle.demands.proofs.Rules.{by_rules}
pub use Rattle.demands.proofs.Rules.{none_in, none_and, first_of_lem, rest_of}

-- a test that ends well got past every rule
past_rules : (rules : List Rule) (c k : Book) → by_rules rules Refused (Good c) ≡ Good k → None rules
unfolding by_rules
past_rules [] c k e = none_in
past_rules (q ∷ rest) c k e = go q.applies refl e (past_rules rest c k)
  where
    go : (x : Bool) → q.applies ≡ x → cond x (Refused q.gives) (by_rules rest Refused (Good c)) ≡ Good k
        → (by_rules rest Refused (Good c) ≡ Good k → None rest) → None (q ∷ rest)
    go true a e ih = let z : ◌≡◌ {A = ℕ} 0 1 = cc in absurd (omega arith)
    go false a e ih = none_and a (ih e)

-- ---- the rules of a book

-- what the call adds to the four
pub own_rules : {version counts held lines : Rule} {more : List Rule} → None (version ∷ counts ∷ held ∷ lines ∷ more) → None more
own_rules h = rest_of (rest_of (rest_of (rest_of h)))

module _ (outside : Bool) (book : Lent) {more : List Rule} where
  -- where none applies, what is lent beside the book is inside, and none of the book alone applies
  pub none_beside : None (beside_rules outside book more) → (outside ≡ false) × None (book_rules book more)
  none_beside h =
      let four = rest_of h in (
        or_left outside (book_fault book) (first_of_lem four),
        none_and (first_of_lem h) (none_and (or_right outside (book_fault book) (first_of_lem four)) (rest_of four)),
      )

  pub beside_none : outside ≡ false → None (book_rules book more) → None (beside_rules outside book more)
  beside_none e h = rw e h

-- ---- the test

on_the_test : {A : Type 0} (outside : Bool) (book : Lent) (on : Tested → A) (more : List Rule) (refuse : Told → A) (done : A)
    → ((r : Told) → on (Refused r) ≡ refuse r)
    → on (Good (counts_of book)) ≡ by_rules more refuse done
    → on (test_beside outside book) ≡ by_rules (beside_rules outside book more) refuse done
unfolding test_beside test_of by_rules book_fault
on_the_test outside book on more refuse done f e =
    go (version_out book.version) outside
    (book_out book.version book.b book.t (held_count book.held) (line_count book.lines))
    (torn held_words book.held) (torn line_words book.lines)
    (ltb 0 h) (ltb 0 l)
  where
    h : ℕ
    h = first_bad_held book.b book.held

    l : ℕ
    l = first_bad_line book.version book.b book.lines

    go : (v o x y z s q : Bool)
        → on (cond v (refused 3 0) (cond o (refused 4 0) (cond v (refused 3 0)
        (cond x (refused 4 0) (cond y (refused 4 0) (cond z (refused 4 0)
        (cond s (refused 6 h) (cond q (refused 7 l) (Good (counts_of book))))))))))
        ≡ cond v (refuse (refusal 3 0)) (cond (o || (x || y || z)) (refuse (refusal 4 0)) (cond s (refuse (refusal 6 h))
        (cond q (refuse (refusal 7 l)) (by_rules more refuse done))))
    go true o x y z s q = f _
    go false true x y z s q = f _
    go false false true y z s q = f _
    go false false false true z s q = f _
    go false false false false true s q = f _
    go false false false false false true q = f _
    go false false false false false false true = f _
    go false false false false false false false = e

-- what follows the test keeps to the table of the book, and then to its own
pub by_the_test_beside : {A : Type 0} (outside : Bool) (book : Lent) (go : Book → A) (more : List Rule) (refuse : Told → A) (done : A)
    → go (counts_of book) ≡ by_rules more refuse done
    → if_good (test_beside outside book) refuse go ≡ by_rules (beside_rules outside book more) refuse done
by_the_test_beside outside book go more refuse done e =
    on_the_test outside book (λ x. if_good x refuse go) more refuse done (λ r. refl) e

pub by_the_test : {A : Type 0} (book : Lent) (go : Book → A) (more : List Rule) (refuse : Told → A) (done : A)
    → go (counts_of book) ≡ by_rules more refuse done
    → if_good (test_of book) refuse go ≡ by_rules (book_rules book more) refuse done
by_the_test book go more refuse done e =
    ap (λ (x : Tested). if_good x refuse go) (sym (beside_inside book false refl)) ∙ by_the_test_beside false book go more refuse done e

module _ (book : Lent) where
  -- 3, 4, 6 and 7 are the whole test
  pub test_by_rules : test_of book ≡ by_rules (book_rules book []) Refused (Good (counts_of book))
  unfolding by_rules
  test_by_rules =
      sym (beside_inside book false refl) ∙ on_the_test false book (λ x. x) [] Refused (Good (counts_of book)) (λ r. refl) refl

  -- a book of whose rules none applies passes
  pub passes_if : {more : List Rule} → None (book_rules book more) → test_of book ≡ Good (counts_of book)
  unfolding by_rules
  passes_if h =
      let four = rest_of h in
      test_by_rules ∙ rw (first_of_lem h, first_of_lem four, first_of_lem (rest_of four), first_of_lem (rest_of (rest_of four)))

  -- and of one that passes none applies
  pub passes_only_if : (k : Book) → test_of book ≡ Good k → {more : List Rule} → None more → None (book_rules book more)
  passes_only_if k e h =
      let w = past_rules (book_rules book []) (counts_of book) k (sym test_by_rules ∙ e) in
      let four = rest_of w in
      none_and (first_of_lem w) (none_and (first_of_lem four)
      (none_and (first_of_lem (rest_of four)) (none_and (first_of_lem (rest_of (rest_of four))) h)))
