-- Each loop has its closing line once, forward and first, is closed, runs no line twice and no more lines than there are marks, and no
-- earlier loop runs its closing line. Assumes nothing.
use Prim.Native.Nat.{ℕ, suc, ◌+◌, ◌≤◌, ◌<◌}
use native.Mathlib.Omega.{arith}
use mathlib.Core.Path.{◌≡◌, refl, sym, ◌∙◌, ap, subst}
use mathlib.Core.Logic.{◌⊎◌, inl, inr}
use mathlib.Core.Bool.{true, false}
use mathlib.Core.List.Memᴰ
use mathlib.Core.List.{List, [], ◌∷◌, Memᴰ}
use lib.ListN.{length}
use borrow.Author.Tests.{ne_eqb}
use Rattle.network.specs.Standing.{Line}
use Rattle.network.specs.Sound.{Sound}
use Rattle.network.specs.Pairwise.{Pairwise, no_pair, pairs}
use Rattle.network.specs.Tree.{tree, tree_lines, pieces}
use Rattle.network.specs.Closing.{closing}
use Rattle.network.specs.Walk.{Pass, pass, Walk, step}
use Rattle.network.specs.Subgraph.{is_in, only, numbers}
use Rattle.network.proofs.Descent.{clash}
use Rattle.network.specs.ClosingOrder.{Distinct}
use Rattle.network.proofs.Pairwise.{pairwise_first, pairwise_rest}
use Rattle.network.proofs.ClosingLines.{closing_line_stands, never_tree_line_and_closing_line, each_line_closes_once}
use Rattle.network.proofs.ShortestPath.{pass_line, shortest_no_mark_twice, shortest_no_line_twice}
use Rattle.network.proofs.FewLines.{fewer_lines_than_marks, no_more_lines_than_tree}
use Rattle.network.proofs.Subgraph.{of_only, is_in_numbers, not_in}
use Rattle.network.proofs.Walks.{walk_wider}
use Rattle.loops.specs.Loops.{Loop, loops}
use Rattle.loops.specs.AllLoops.{LoopsOf, no_loop, loop_then}
use Rattle.loops.specs.EachLoop.{IsLoopOf, OneToOne, none_left, each}
use Rattle.loops.specs.Row.{closing_number}
use Rattle.loops.specs.Checked.{runs}
use Rattle.loops.proofs.AllLoops.{sound_only, first_or_in, loops_are}
use Rattle.loops.proofs.Count.{loops_count}

-- ---- closing lines that are not yet in the subgraph

-- the closing lines cs stand, are different lines, and none is in the subgraph yet
pub record ToCome (lines : List Line) (sub : List ℕ) (cs : List Line) : Type 0 where
  pub stand : (c : Line) → Memᴰ c cs → Memᴰ c lines
  pub differ : Distinct cs
  pub not_yet : (c : Line) → Memᴰ c cs → is_in c.number sub ≡ false

-- once the first of them is added, that holds of the others
pub come_next : {lines : List Line} {sub : List ℕ} {c : Line} {cs : List Line} → ToCome lines sub (c ∷ cs)
    → ToCome lines (c.number ∷ sub) cs
come_next {lines = lines} {sub = sub} {c = c} {cs = cs} t = record {
  stand = λ k i. t.stand k (Memᴰ.tail i);
  differ = pairwise_rest t.differ;
  not_yet = λ k i. not_in (is_in k.number (c.number ∷ sub)) (λ h. out k i (first_or_in c.number k.number sub h));
}
  where
    out : (k : Line) → Memᴰ k cs → (c.number ≡ k.number) ⊎ (is_in k.number sub ≡ true) → ⊥
    out k i (inl e) = pairwise_first t.differ k i e
    out k i (inr h) = clash h (t.not_yet k (Memᴰ.tail i))

-- a walk in the subgraph runs over no line that is not yet in it
pub avoids : (lines : List Line) (sub : List ℕ) {r u : ℕ} {w : List Pass} → Walk (only sub lines) r u w → (n : ℕ) → is_in n sub ≡ false
    → (p : Pass)
    → Memᴰ p w → p.line.number ≡ n → ⊥
avoids lines sub x n h p i e = clash (of_only sub lines p.line (pass_line x p i)).1 (ap (λ (k : ℕ). is_in k sub) e ∙ h)

-- a walk without a pass over line n does not run it
pub runs_not : (n : ℕ) (w : List Pass) → ((p : Pass) → Memᴰ p w → p.line.number ≡ n → ⊥) → runs n w ≡ false
unfolding runs
runs_not n [] h = refl
runs_not n (p ∷ ps) h = rw (ne_eqb p.line.number n (h p (Memᴰ.head refl))) (runs_not n ps (λ q i. h q (Memᴰ.tail i)))

-- ---- each loop

-- loops whose paths are the shortest are one to one with their closing lines, and each is what document 01 calls a loop
pub loops_one_to_one : {b : ℕ} {lines : List Line} → Sound b lines → {sub : List ℕ} {cs : List Line} {ls : List Loop}
    → ToCome lines sub cs → LoopsOf lines sub cs ls
    → OneToOne (IsLoopOf lines) cs ls
loops_one_to_one sound t no_loop = none_left
loops_one_to_one {b = b} {lines = lines} sound t (loop_then {sub = sub} {c = c} {cs = cs} {path = path} x p) =
    each (record {
      path = path;
      closing_first = refl;
      closed = step refl (t.stand c (Memᴰ.head refl)) (walk_wider (λ l m. (of_only sub lines l m).0) x.is_walk);
      no_mark_twice = shortest_no_mark_twice b (only sub lines) (sound_only sound sub) x;
      no_line_twice = pairs (λ q i z. avoids lines sub x.is_walk c.number (t.not_yet c (Memᴰ.head refl)) q i (sym z))
          (shortest_no_line_twice b (only sub lines) (sound_only sound sub) x);
    })
    (loops_one_to_one sound (come_next t) p)

-- what holds one to one holds of each loop
pub one_of : {R : Line → Loop → Type 0} {cs : List Line} {ls : List Loop} → OneToOne R cs ls → (lp : Loop) → Memᴰ lp ls
    → (c : Line) × Memᴰ c cs × R c lp
one_of none_left lp i = absurd (Memᴰ.not-nil i)
one_of {R = R} (each {c = c} x p) lp (Memᴰ.head e) = (c, Memᴰ.head refl, subst (R c) (sym e) x)
one_of (each x p) lp (Memᴰ.tail i) = let k = one_of p lp i in (k.0, Memᴰ.tail k.1, k.2)

-- every loop has one of the closing lines
loop_closes : {lines : List Line} {sub : List ℕ} {cs : List Line} {ls : List Loop} → LoopsOf lines sub cs ls → (lp : Loop) → Memᴰ lp ls
    → (c : Line) × Memᴰ c cs × (closing_number lp ≡ c.number)
loop_closes no_loop lp i = absurd (Memᴰ.not-nil i)
loop_closes (loop_then {c = c} x p) lp (Memᴰ.head e) = (c, Memᴰ.head refl, ap closing_number e)
loop_closes (loop_then {c = c} x p) lp (Memᴰ.tail i) = let k = loop_closes p lp i in (k.0, Memᴰ.tail k.1, k.2)

earlier_avoid : {lines : List Line} {sub : List ℕ} {cs : List Line} {ls : List Loop} → ToCome lines sub cs → LoopsOf lines sub cs ls
    → Pairwise (λ (lp later : Loop). runs (closing_number later) lp ≡ false) ls
earlier_avoid t no_loop = no_pair
earlier_avoid {lines = lines} t (loop_then {sub = sub} {c = c} {cs = cs} {path = path} {ls = ls} x p) =
    pairs (λ later i. go later (loop_closes p later i)) (earlier_avoid (come_next t) p)
  where
    go : (later : Loop) → (d : Line) × Memᴰ d cs × (closing_number later ≡ d.number)
        → runs (closing_number later) (pass c true ∷ path) ≡ false
    go later (d, i, e) = rw e (runs_not d.number (pass c true ∷ path) other)
      where
        other : (q : Pass) → Memᴰ q (pass c true ∷ path) → q.line.number ≡ d.number → ⊥
        other q (Memᴰ.head z) h = pairwise_first t.differ d i (sym (ap (λ (o : Pass). o.line.number) z) ∙ h)
        other q (Memᴰ.tail j) h = avoids lines sub x.is_walk d.number (t.not_yet d (Memᴰ.tail i)) q j h

-- ---- the theorems

module _ (b : ℕ) (lines : List Line) (sound : Sound b lines) where
  -- at the start the subgraph is the tree, and no closing line is in it
  pub closing_lines_to_come : ToCome lines (numbers (tree_lines (tree b lines))) (closing lines (tree b lines))
  closing_lines_to_come = record {
    stand = closing_line_stands b lines sound;
    differ = each_line_closes_once b lines sound;
    not_yet =
        λ c i. not_in (is_in c.number (numbers (tree_lines (tree b lines))))
        (λ h. let k = is_in_numbers (tree_lines (tree b lines)) c.number h in
        never_tree_line_and_closing_line b lines sound k.0 c k.1 i (sym k.2));
  }

  -- loops and closing lines are one to one, in their order; each loop has its closing line once, forward and first, is closed, and runs
  -- no line twice
  pub each_loop_is : OneToOne (IsLoopOf lines) (closing lines (tree b lines)) (loops b lines)
  each_loop_is = loops_one_to_one sound closing_lines_to_come (loops_are b lines sound)

  -- so each loop belongs to a closing line
  pub loop_has_closing_line : (lp : Loop) → Memᴰ lp (loops b lines)
      → (c : Line) × Memᴰ c (closing lines (tree b lines)) × IsLoopOf lines c lp
  loop_has_closing_line lp i = one_of each_loop_is lp i

  -- no more lines than the book has marks, and but for the closing line no more than the tree has
  abbrev FewLines : Loop → Type 0
  FewLines lp = (length lp ≤ b) × (length lp ≤ suc (length (tree_lines (tree b lines))))

  -- so it is with each loop, since its path comes through no mark twice
  few_lines : (lp : Loop) → Memᴰ lp (loops b lines) → FewLines lp
  few_lines lp i = let k = loop_has_closing_line lp i in few k.0 k.2
    where
      few : (c : Line) → IsLoopOf lines c lp → FewLines lp
      few c x = go (subst (Walk lines c.from c.from) x.closing_first x.closed)
        where
          go : Walk lines c.from c.from (pass c true ∷ x.path) → FewLines lp
          go (step s m w) =
              let p = sound.placed c m in
              let path = ap length x.closing_first in (
                omega (arith, path, fewer_lines_than_marks b lines sound.placed w (p.to_low, p.to_high) x.no_mark_twice),
                omega (arith, path, no_more_lines_than_tree b lines sound w (p.to_low, p.to_high) x.no_mark_twice),
              )

  pub loop_has_few_lines : (lp : Loop) → Memᴰ lp (loops b lines) → length lp ≤ b
  loop_has_few_lines lp i = (few_lines lp i).0

  pub loop_runs_no_more_than_tree : (lp : Loop) → Memᴰ lp (loops b lines) → length lp ≤ suc (length (tree_lines (tree b lines)))
  loop_runs_no_more_than_tree lp i = (few_lines lp i).1

  -- every line that a loop runs stands, and it runs one at least
  pub loop_runs_lines : (lp : Loop) → Memᴰ lp (loops b lines) → (p : Pass) → Memᴰ p lp → Memᴰ p.line lines
  loop_runs_lines lp i p m = pass_line (loop_has_closing_line lp i).2.closed p m

  pub loop_has_a_line : (lp : Loop) → Memᴰ lp (loops b lines) → 0 < length lp
  loop_has_a_line lp i = omega (arith, ap length (loop_has_closing_line lp i).2.closing_first)

  -- no earlier loop runs a loop's closing line
  pub no_earlier_loop_runs_it : Pairwise (λ (lp later : Loop). runs (closing_number later) lp ≡ false) (loops b lines)
  no_earlier_loop_runs_it = earlier_avoid closing_lines_to_come (loops_are b lines sound)

  -- loops are lines less marks plus pieces
  pub loops_are_counted : length (loops b lines) + b ≡ length lines + pieces (tree b lines)
  loops_are_counted = loops_count b lines sound.placed sound.rising sound.apart
