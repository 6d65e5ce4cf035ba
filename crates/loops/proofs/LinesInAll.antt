-- How many lines the loops run in all, and the first of them. Assumes nothing.
use Prim.Native.Nat.{ℕ, zero, suc, ◌+◌, ◌*◌, ◌≤◌}
use native.Mathlib.Omega.{arith}
use mathlib.Core.Path.{◌≡◌, refl, ap}
use mathlib.Core.List.{List, [], ◌∷◌, ◌++◌, Memᴰ}
use lib.ListN.{length}
use Rattle.book.specs.Limits.{most_marks, most_lines}
use Rattle.network.specs.Standing.{Line}
use Rattle.network.specs.Sound.{Sound}
use Rattle.network.specs.Tree.{tree, tree_lines}
use Rattle.network.proofs.Count.{tree_and_roots}
use Rattle.network.proofs.Marks.{size}
use Rattle.loops.specs.Loops.{Loop, loops}
use Rattle.loops.specs.LinesInAll.{lines_in_all, most_lines_in_all}
use Rattle.loops.proofs.EachLoop.{loop_runs_no_more_than_tree, loops_are_counted}

-- loops of at most k lines each
in_all_at_most : (k : ℕ) (ls : List Loop) → ((lp : Loop) → Memᴰ lp ls → length lp ≤ k) → lines_in_all ls ≤ length ls * k
unfolding lines_in_all
in_all_at_most k [] h = omega arith
in_all_at_most k (l ∷ ls) h = omega (arith, h l (Memᴰ.head refl), in_all_at_most k ls (λ lp i. h lp (Memᴰ.tail i)))

in_all_append : (done rest : List Loop) → lines_in_all (done ++ rest) ≡ lines_in_all done + lines_in_all rest
unfolding lines_in_all
in_all_append [] rest = omega arith
in_all_append (l ∷ ls) rest = omega (arith, in_all_append ls rest)

-- of two numbers that make at most 2h + 1 the product is at most that of h and h + 1
product_at_most : (h x y : ℕ) → x + y ≤ suc (h + h) → x * y ≤ h * suc h
product_at_most h zero y le = omega arith
product_at_most h (suc x) zero le = omega arith
product_at_most zero (suc x) (suc y) le = absurd (omega arith)
product_at_most (suc h) (suc x) (suc y) le = omega (arith, product_at_most h x y (omega arith))

module _ (b : ℕ) (lines : List Line) (sound : Sound b lines) where
  -- each line closes a loop or is in the tree
  pub loops_and_tree_lines : length (loops b lines) + length (tree_lines (tree b lines)) ≡ length lines
  loops_and_tree_lines = omega (arith, loops_are_counted b lines sound, tree_and_roots (tree b lines), size b lines sound.placed)

  module _ (few : length lines ≤ most_lines) where
    pub lines_in_all_at_most : lines_in_all (loops b lines) ≤ most_lines_in_all
    lines_in_all_at_most =
        let k = suc (length (tree_lines (tree b lines))) in
        omega (
          arith,
          in_all_at_most k (loops b lines) (loop_runs_no_more_than_tree b lines sound),
          product_at_most most_marks (length (loops b lines)) k (omega (arith, loops_and_tree_lines)),
        )

    -- so have the first loops, and with them the next one
    pub lines_before : (done rest : List Loop) → done ++ rest ≡ loops b lines → lines_in_all done ≤ most_lines_in_all
    lines_before done rest e = omega (arith, in_all_append done rest, ap lines_in_all e, lines_in_all_at_most)

    pub lines_with_next : (done : List Loop) (lp : Loop) (rest : List Loop) → done ++ (lp ∷ rest) ≡ loops b lines
        → lines_in_all done + length lp ≤ most_lines_in_all
    unfolding lines_in_all
    lines_with_next done lp rest e = omega (arith, in_all_append done (lp ∷ rest), ap lines_in_all e, lines_in_all_at_most)
