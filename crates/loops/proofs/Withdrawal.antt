-- Withdrawal of a closing line: its own loop goes, and each loop that does not run it stays. Assumes nothing.
use Prim.Native.Nat.{ℕ, suc, ◌≤◌}
use native.Mathlib.Omega.{arith}
use mathlib.Core.Path.{◌≡◌, refl, sym, ◌∙◌, ap, subst₂}
use mathlib.Core.Bool.{Bool, true, false, not, ◌||◌, true≢false}
use mathlib.Core.List.{List, ◌∷◌, Memᴰ}
use lib.Dec.{eqb}
use lib.ListN.{length}
use borrow.Author.Tests.{eqb-true, eqb-false, ne_eqb}
use Rattle.network.specs.Standing.{Line}
use Rattle.network.specs.Sound.{Sound}
use Rattle.network.specs.Tree.{Tree, tree, tree_lines, pieces}
use Rattle.network.specs.Closing.{closing}
use Rattle.network.specs.Walk.{Pass, pass, IsShortest}
use Rattle.network.specs.Subgraph.{is_in, keep_if, only, numbers}
use Rattle.network.specs.Without.{without}
use Rattle.network.proofs.Descent.{clash}
use Rattle.network.proofs.Enough.{shortest_unique}
use Rattle.network.proofs.ClosingLines.{closing_line_stands}
use Rattle.network.proofs.ShortestPath.{pass_line, walk_within, shortest_of_fewer}
use Rattle.network.proofs.Pieces.{one_piece_more, pieces_never_fewer}
use Rattle.network.proofs.Subgraph.{in_only, of_only}
use Rattle.network.proofs.Without.{in_without, of_without}
use Rattle.network.proofs.Withdrawn.{not_withdrawn, one_fewer, sound_without, withdrawal_keeps_tree, withdrawal_keeps_closing_lines}
use Rattle.loops.specs.Loops.{Loop, loops}
use Rattle.loops.specs.AllLoops.{LoopsOf, no_loop, loop_then}
use Rattle.loops.specs.Checked.{runs}
use Rattle.loops.specs.Withdrawn.{Withdrawn, none_left, goes, stays}
use Rattle.loops.proofs.AllLoops.{loops_are}
use Rattle.loops.proofs.Checked.{runs_mem}
use Rattle.loops.proofs.EachLoop.{loops_are_counted}

or-false : (a c : Bool) → (a || c) ≡ false → c ≡ false
or-false true c h = absurd (true≢false h)
or-false false c h = h

-- two subgraphs have the same lines but for line x
abbrev ButFor : ℕ → List ℕ → List ℕ → Type 0
ButFor x sub few = (n : ℕ) → (n ≡ x → ⊥) → is_in n few ≡ is_in n sub

but_for_more : (x : ℕ) (sub few : List ℕ) (c : ℕ) → ButFor x sub few → ButFor x (c ∷ sub) (c ∷ few)
unfolding is_in
but_for_more x sub few c h n d = ap (λ (t : Bool). eqb c n || t) (h n d)

but_for_own : (x : ℕ) (sub few : List ℕ) (c : ℕ) → c ≡ x → ButFor x sub few → ButFor x (c ∷ sub) few
unfolding is_in
but_for_own x sub few c e h n d = rw (ne_eqb c n (λ z. d (sym z ∙ e))) (h n d)

-- a path that does not run line x is the shortest without it
path_stays : (lines : List Line) (x : ℕ) (sub few : List ℕ) → ButFor x sub few → {r u : ℕ} {path now : List Pass}
    → IsShortest (only sub lines) r u path → IsShortest (only few (without x lines)) r u now → runs x path ≡ false → now ≡ path
path_stays lines x sub few but {path = path} p q off =
    shortest_unique q (shortest_of_fewer wider p (walk_within p.is_walk (λ o i. still o i)))
  where
    wider : (l : Line) → Memᴰ l (only few (without x lines)) → Memᴰ l (only sub lines)
    wider l m =
        let o = of_only few (without x lines) l m in
        in_only sub lines l (of_without x lines l o.0) (sym (but l.number (not_withdrawn x lines l o.0)) ∙ o.1)

    still : (o : Pass) → Memᴰ o path → Memᴰ o.line (only few (without x lines))
    still o i =
        let m = of_only sub lines o.line (pass_line p.is_walk o i) in
        let d : o.line.number ≡ x → ⊥ = (λ z. clash (runs_mem x path o i z) off) in
        in_only few (without x lines) o.line (in_without x lines o.line m.0 d) (but o.line.number d ∙ m.1)

withdrawn : (lines : List Line) (x : ℕ) (sub few : List ℕ) → ButFor x sub few → {cs : List Line} {old new : List Loop}
    → LoopsOf lines sub cs old → LoopsOf (without x lines) few (without x cs) new → Withdrawn x old new
unfolding without runs
withdrawn lines x sub few but no_loop no_loop = none_left
withdrawn lines x sub few but {new = new} (loop_then {c = c} {cs = cs} {path = path} {ls = old} p f) q =
    go (eqb c.number x) refl few but new q
    (λ few but new g. withdrawn lines x (c.number ∷ sub) few but {new = new} f g)
  where
    off_path : runs x (pass c true ∷ path) ≡ false → runs x path ≡ false
    off_path h = or-false (eqb c.number x) (runs x path) h

    go : (t : Bool) → eqb c.number x ≡ t → (few : List ℕ) → ButFor x sub few → (new : List Loop)
        → LoopsOf (without x lines) few (keep_if (not t) c (without x cs)) new
        → ((few : List ℕ) → ButFor x (c.number ∷ sub) few → (new : List Loop) → LoopsOf (without x lines) few (without x cs) new
        → Withdrawn x old new)
        → Withdrawn x ((pass c true ∷ path) ∷ old) new
    go true e few but new q ih =
        goes (eqb-true c.number x e) (ih few (but_for_own x sub few c.number (eqb-true c.number x e) but) new q)
    go false e few but _ (loop_then {path = now} {ls = new} q g) ih =
        stays (eqb-false c.number x e) refl (λ h. ap (λ (w : List Pass). pass c true ∷ w)
        (path_stays lines x sub few but p q (off_path h)))
        (ih (c.number ∷ few) (but_for_more x sub few c.number but) new g)

-- ---- the theorems

module _ (b : ℕ) (lines : List Line) (sound : Sound b lines) (c : Line) (closes : Memᴰ c (closing lines (tree b lines))) where
  -- its own loop goes, the others keep their closing lines and their order, and a loop that does not run the line is unchanged
  pub withdrawal_keeps_loops : Withdrawn c.number (loops b lines) (loops b (without c.number lines))
  withdrawal_keeps_loops =
      withdrawn lines c.number sub sub (λ n d. refl) (loops_are b lines sound)
      (subst₂ (λ (ns : List ℕ) (cs : List Line). LoopsOf (without c.number lines) ns cs (loops b (without c.number lines)))
      (ap (λ (t : Tree). numbers (tree_lines t)) (withdrawal_keeps_tree b lines sound c closes))
      (withdrawal_keeps_closing_lines b lines sound c closes)
      (loops_are b (without c.number lines) (sound_without sound c.number)))
    where
      sub : List ℕ
      sub = numbers (tree_lines (tree b lines))

  -- exactly one loop goes
  pub one_loop_goes : suc (length (loops b (without c.number lines))) ≡ length (loops b lines)
  one_loop_goes = omega (
    arith,
    loops_are_counted b lines sound,
    loops_are_counted b (without c.number lines) (sound_without sound c.number),
    one_fewer lines sound.rising c (closing_line_stands b lines sound c closes),
    ap pieces (withdrawal_keeps_tree b lines sound c closes),
  )

-- withdrawing any standing line leaves no more loops, and so no more rows
pub loops_never_grow : (b : ℕ) (lines : List Line) → Sound b lines → (l : Line) → Memᴰ l lines
    → length (loops b (without l.number lines)) ≤ length (loops b lines)
loops_never_grow b lines sound l stands = omega (
  arith,
  loops_are_counted b lines sound,
  loops_are_counted b (without l.number lines) (sound_without sound l.number),
  one_fewer lines sound.rising l stands,
  one_piece_more b lines sound l stands,
)

-- and at most one fewer
pub at_most_one_loop_fewer : (b : ℕ) (lines : List Line) → Sound b lines → (l : Line) → Memᴰ l lines
    → length (loops b lines) ≤ suc (length (loops b (without l.number lines)))
at_most_one_loop_fewer b lines sound l stands = omega (
  arith,
  loops_are_counted b lines sound,
  loops_are_counted b (without l.number lines) (sound_without sound l.number),
  one_fewer lines sound.rising l stands,
  pieces_never_fewer b lines sound l stands,
)
