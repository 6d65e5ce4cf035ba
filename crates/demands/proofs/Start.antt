-- The start of the adjustment and the pieces without a held mark, in plain words. Assumes nothing.
use mathlib.Core.Path.{◌≡◌, refl, sym, ◌∙◌, ap, subst}
use mathlib.Core.Logic.{◌↔◌}
use mathlib.Core.Bool.{Bool, true, false, not, true≢false}
use Prim.Native.Nat.{ℕ, zero, suc, ◌-◌, ◌≤◌, ◌<◌}
use native.Mathlib.Omega.{arith}
use borrow.Author.Tests.{not-false, not-true}
use Rattle.laws.proofs.Scans.{none_bad}
use Rattle.laws.proofs.FirstBad.{first_is_first}
use Rattle.book.specs.Lent.{Lent}
use Rattle.book.specs.Test.{test_of}
use Rattle.book.specs.declared.Book.{Book}
use Rattle.book.specs.Test.{Good}
use Rattle.book.proofs.Goods.{tested_good}
use Rattle.network.specs.Standing.{standing}
use Rattle.network.specs.Sound.{Sound}
use Rattle.network.specs.Tree.{tree}
use Rattle.loops.proofs.Sounding.{good_sound}
use Rattle.fields.specs.Heights.{Working}
use Rattle.fields.proofs.Stands.{lines_of}
use Rattle.start.specs.Start.{held_height, is_some, is_held, rooted_by, root_height, root_of, unheld_piece, start_of, start_heights}
use Rattle.start.proofs.Beginning.{start_length, start_height}
use Rattle.start.proofs.Pieces.{joined_one_root, piece_is_held}
use Rattle.start.proofs.Inside.{start_working}
use Rattle.start.proofs.Following.{followed, follows_tree_line, lowest_held_has_its_own}
use Rattle.demands.specs.Heights.{unheld_mark, PieceHeld, UnheldAt, StartIs}

module _ (book : Lent) (k : Book) (passes : test_of book ≡ Good k) where
  sound : Sound k.marks (standing book.lines)
  sound = good_sound k book (tested_good book k passes)

  -- whether the root of mark m has a height
  held_root : ℕ → Bool
  held_root m = is_some (root_of (rooted_by (tree k.marks (standing book.lines))) (held_height book.held) k.marks m)

  held_root_lem : (m : ℕ) → 0 < m → m ≤ k.marks → (held_root m ≡ true) ↔ PieceHeld k.marks book.held book.lines m
  unfolding is_held held_root
  held_root_lem m low high = piece_is_held k.marks (standing book.lines) sound (held_height book.held) m low high

  -- the start is that of document 01's sentence
  pub start_is_by_the_tree : StartIs k.marks book.held book.lines
  unfolding start_of
  start_is_by_the_tree = record {
    followed = followed k.marks (standing book.lines) sound (held_height book.held);
    lowest_held_has_its_own = λ m z low high own lowest. lowest_held_has_its_own k.marks (standing book.lines) sound
        (held_height book.held) m z low high own lowest;
    others_follow_the_tree = λ l i. follows_tree_line k.marks (standing book.lines) sound (held_height book.held) l i;
    one_to_each_mark = start_length k.marks book.held book.lines;
    held_set_to_its_own = λ m z low high own. start_height k.marks book.held book.lines m low high ∙ rw own;
    free_stays = λ m low high free. start_height k.marks book.held book.lines m low high ∙ rw free;
  }

  -- 13 is a matter of the sweeps alone: a start that is not refused by 11 has every height inside its limit
  pub start_is_never_outside : unheld_mark k.marks book.held book.lines ≡ 0
      → Working (start_heights k.marks book.held book.lines) k.marks
  unfolding unheld_mark
  start_is_never_outside =
      let g = tested_good book k passes in
      start_working k.marks k.lines k.held book.held book.lines g.few_marks (lines_of book k passes)
      g.held_good

  -- 11 is not given exactly if each mark's piece has a held mark
  pub each_piece_held_exactly_if : (unheld_mark k.marks book.held book.lines ≡ 0)
      ↔ ((m : ℕ) → 0 < m → m ≤ k.marks → PieceHeld k.marks book.held book.lines m)
  unfolding unheld_mark unheld_piece held_root
  each_piece_held_exactly_if = (to, λ f. back (unheld_mark k.marks book.held book.lines) refl f)
    where
      to : unheld_mark k.marks book.held book.lines ≡ 0 → (m : ℕ) → 0 < m → m ≤ k.marks
          → PieceHeld k.marks book.held book.lines m
      to e m low high =
          let one : suc (m - 1) ≡ m = omega arith in
          let h : not (held_root (suc (m - 1))) ≡ false = none_bad (λ i. not (held_root (suc i))) k.marks e (m - 1) (omega arith) in
          (held_root_lem m low high).0 (subst (λ (x : ℕ). held_root x ≡ true) one (not-false (held_root (suc (m - 1))) h))

      back : (u : ℕ) → unheld_mark k.marks book.held book.lines ≡ u
          → ((m : ℕ) → 0 < m → m ≤ k.marks → PieceHeld k.marks book.held book.lines m) → u ≡ 0
      back zero e f = refl
      back (suc i) e f =
          let w = first_is_first (λ j. not (held_root (suc j))) k.marks i e in
          absurd (true≢false (sym ((held_root_lem (suc i) (omega arith) w.0).1 (f (suc i) (omega arith) w.0))
          ∙ not-true (held_root (suc i)) w.1))

  -- and where it is, its place is the lowest mark of a piece without one, lowest of all such
  pub unheld_place_is_lowest : (i : ℕ) → unheld_mark k.marks book.held book.lines ≡ suc i
      → UnheldAt k.marks book.held book.lines (suc i)
  unfolding unheld_mark unheld_piece held_root
  unheld_place_is_lowest i e =
      let w = first_is_first (λ j. not (held_root (suc j))) k.marks i e in
      let none_here : held_root (suc i) ≡ false = not-true (held_root (suc i)) w.1 in
      record {
        a_mark = (omega arith, w.0);
        none_held = λ p. true≢false (sym ((held_root_lem (suc i) (omega arith) w.0).1 p) ∙ none_here);
        lowest_of_piece = λ r low l walk x.
            let one : suc (r - 1) ≡ r = omega arith in
            let same =
            joined_one_root k.marks (standing book.lines) sound r (suc i) low (omega (arith, w.0)) (omega arith) w.0
            (walk, x) in
            let there : held_root r ≡ true =
            subst (λ (y : ℕ). held_root y ≡ true) one (not-false (held_root (suc (r - 1))) (w.2 (r - 1) (omega arith))) in
            true≢false (sym there ∙ same_root r (suc i) same ∙ none_here);
        lowest_of_all = λ m low l.
            let one : suc (m - 1) ≡ m = omega arith in
            (held_root_lem m low (omega (arith, w.0))).0 (subst (λ (y : ℕ). held_root y ≡ true) one
            (not-false (held_root (suc (m - 1))) (w.2 (m - 1) (omega arith))));
      }
    where
      same_root : (a c : ℕ)
          → (rooted_by (tree k.marks (standing book.lines)) a).root ≡ (rooted_by (tree k.marks (standing book.lines)) c).root
          → held_root a ≡ held_root c
      same_root a c q =
          ap (λ (r : ℕ). is_some (root_height (rooted_by (tree k.marks (standing book.lines))) (held_height book.held) r 1
          k.marks)) q
