-- Re-run: with another difference of one line every loop runs the same lines the same way, and only misclosures move. Assumes nothing.
use Prim.Native.Nat.{ℕ, ◌+◌}
use mathlib.Core.Path.{◌≡◌, refl, sym, ◌∙◌, ap, ap₂}
use mathlib.Core.Bool.{Bool, true, false, ◌||◌, cond, true≢false}
use mathlib.Core.List.{List, [], ◌∷◌, map, map-map, Memᴰ}
use lib.Dec.{eqb}
use lib.IntN.{ℤ, pos, ◌+ℤ◌, ◌-ℤ◌, ◌*ℤ◌, +ℤ_idr, +ℤ_comm, -ℤ-+ℤ_cancel, *ℤ-zero, neg_ℤ-+ℤ}
use lib.ListN.{length, length-map}
use borrow.Author.Tests.{eqb-true, eqb-false, ne_eqb}
use Rattle.network.specs.Standing.{Line, line}
use Rattle.network.specs.Tree.{Tree, tree, tree_lines, pieces}
use Rattle.network.specs.Closing.{closing}
use Rattle.network.specs.Walk.{Pass, pass, way_length}
use Rattle.network.specs.Path.{shortest}
use Rattle.network.specs.Subgraph.{only, numbers}
use Rattle.network.specs.Redone.{Measure, measured, new_difference, redone, measured_pass, redone_pass}
use Rattle.network.proofs.Differences.{tree_same, tree_lines_same, pieces_same, numbers_same, closing_same, only_same, shortest_same}
use Rattle.loops.specs.Loops.{Loop, added, loops_from, loops}
use Rattle.loops.specs.Row.{signed, listed, misclosure, closing_number}
use Rattle.loops.specs.Passes.{sense, pass_if, once, passes}
use Rattle.loops.specs.Checked.{runs}
use Rattle.loops.proofs.Passes.{four, *ℤ_distrib}
use Rattle.loops.proofs.Misclosure.{times_sense}

-- ---- the loops run the same lines the same way

module _ (g : Line → Measure) where
  added_same : (c : ℕ) (path : List Pass) (sub : List ℕ) → added c (map (measured_pass g) path) sub ≡ added c path sub
  added_same c [] sub = refl
  added_same c (p ∷ []) sub = refl
  added_same c (p ∷ q ∷ ps) sub = refl

  path_same : (b : ℕ) (lines : List Line) (sub : List ℕ) (c : Line)
      → shortest b (only sub (map (measured g) lines)) c.to c.from
      ≡ map (measured_pass g) (shortest b (only sub lines) c.to c.from)
  path_same b lines sub c =
      ap (λ (ls : List Line). shortest b ls c.to c.from) (only_same g sub lines)
      ∙ shortest_same g b (only sub lines) c.to c.from

  loops_from_same : (b : ℕ) (lines cs : List Line) (sub : List ℕ)
      → loops_from b (map (measured g) lines) (map (measured g) cs) sub ≡ map (map (measured_pass g)) (loops_from b lines cs sub)
  unfolding loops_from
  loops_from_same b lines [] sub = refl
  loops_from_same b lines (c ∷ cs) sub =
      ap₂ (λ (path : List Pass) (ls : List Loop). (pass (measured g c) true ∷ path) ∷ ls) (path_same b lines sub c)
      (ap (loops_from b (map (measured g) lines) (map (measured g) cs))
      (ap (λ (path : List Pass). added c.number path sub) (path_same b lines sub c)
      ∙ added_same c.number (shortest b (only sub lines) c.to c.from) sub)
      ∙ loops_from_same b lines cs (added c.number (shortest b (only sub lines) c.to c.from) sub))

  tree_numbers_same : (b : ℕ) (lines : List Line)
      → numbers (tree_lines (tree b (map (measured g) lines))) ≡ numbers (tree_lines (tree b lines))
  tree_numbers_same b lines =
      ap (λ (t : Tree). numbers (tree_lines t)) (tree_same g b lines) ∙ ap numbers (tree_lines_same g (tree b lines))
      ∙ numbers_same g (tree_lines (tree b lines))

  closing_lines_same : (b : ℕ) (lines : List Line)
      → closing (map (measured g) lines) (tree b (map (measured g) lines)) ≡ map (measured g) (closing lines (tree b lines))
  closing_lines_same b lines = ap (closing (map (measured g) lines)) (tree_same g b lines) ∙ closing_same g lines (tree b lines)

  -- with other differences and classes every loop runs the same lines the same way
  pub loops_same : (b : ℕ) (lines : List Line) → loops b (map (measured g) lines) ≡ map (map (measured_pass g)) (loops b lines)
  unfolding loops
  loops_same b lines =
      ap₂ (loops_from b (map (measured g) lines)) (closing_lines_same b lines) (tree_numbers_same b lines)
      ∙ loops_from_same b lines (closing lines (tree b lines)) (numbers (tree_lines (tree b lines)))

  -- a loop is as long as before
  pub way_length_same : (lp : Loop) → way_length (map (measured_pass g) lp) ≡ way_length lp
  unfolding way_length
  way_length_same [] = refl
  way_length_same (p ∷ ps) = ap (λ (n : ℕ). p.line.length + n) (way_length_same ps)

  -- and has the same closing line
  pub closing_number_same : (lp : Loop) → closing_number (map (measured_pass g) lp) ≡ closing_number lp
  closing_number_same [] = refl
  closing_number_same (p ∷ ps) = refl

-- ---- a re-run of line n

module _ (n : ℕ) (d : ℤ) where
  -- each loop is the same passes, but for the difference of line n
  pub rerun_keeps_loops : (b : ℕ) (lines : List Line) → loops b (redone n d lines) ≡ map (map (redone_pass n d)) (loops b lines)
  rerun_keeps_loops b lines = loops_same (new_difference n d) b lines

  -- the tree lines enter in the same order
  pub rerun_keeps_tree : (b : ℕ) (lines : List Line)
      → numbers (tree_lines (tree b (redone n d lines))) ≡ numbers (tree_lines (tree b lines))
  rerun_keeps_tree b lines = tree_numbers_same (new_difference n d) b lines

  -- the closing lines close in the same order
  pub rerun_keeps_closing_lines : (b : ℕ) (lines : List Line)
      → numbers (closing (redone n d lines) (tree b (redone n d lines))) ≡ numbers (closing lines (tree b lines))
  rerun_keeps_closing_lines b lines =
      ap numbers (closing_lines_same (new_difference n d) b lines) ∙ numbers_same (new_difference n d) (closing lines (tree b lines))

  -- the pieces are as many
  pub rerun_keeps_pieces : (b : ℕ) (lines : List Line) → pieces (tree b (redone n d lines)) ≡ pieces (tree b lines)
  rerun_keeps_pieces b lines = ap pieces (tree_same (new_difference n d) b lines) ∙ pieces_same (new_difference n d) (tree b lines)

  -- a loop's lines and their sense are the same
  pub rerun_keeps_listing : (lp : Loop) → map listed (map (redone_pass n d) lp) ≡ map listed lp
  rerun_keeps_listing lp = map-map listed (redone_pass n d) lp

  -- its closing line, count of lines and length are the same
  pub rerun_keeps_closing_line : (lp : Loop) → closing_number (map (redone_pass n d) lp) ≡ closing_number lp
  rerun_keeps_closing_line lp = closing_number_same (new_difference n d) lp

  -- it has as many lines
  pub rerun_keeps_count : (lp : Loop) → length (map (redone_pass n d) lp) ≡ length lp
  rerun_keeps_count lp = length-map lp (redone_pass n d)

  -- it is as long
  pub rerun_keeps_length : (lp : Loop) → way_length (map (redone_pass n d) lp) ≡ way_length lp
  rerun_keeps_length lp = way_length_same (new_difference n d) lp

  -- a pass over another line is the same
  other_pass : (p : Pass) → (p.line.number ≡ n → ⊥) → redone_pass n d p ≡ p
  other_pass p h =
      ap (λ (t : Bool). pass (line p.line.number p.line.from p.line.to (cond t d p.line.difference) p.line.length
      p.line.class) p.forward) (ne_eqb p.line.number n h)

  -- a loop without the line is the same, and so is its row
  pub rerun_keeps_other_loops : (lp : Loop) → runs n lp ≡ false → map (redone_pass n d) lp ≡ lp
  unfolding runs
  rerun_keeps_other_loops [] h = refl
  rerun_keeps_other_loops (p ∷ ps) h = go (eqb p.line.number n) (runs n ps) refl refl h (rerun_keeps_other_loops ps)
    where
      go : (s t : Bool) → eqb p.line.number n ≡ s → runs n ps ≡ t → (s || t) ≡ false
          → (runs n ps ≡ false → map (redone_pass n d) ps ≡ ps)
          → ◌≡◌ {A = Loop} (redone_pass n d p ∷ map (redone_pass n d) ps) (p ∷ ps)
      go true t x y e ih = absurd (true≢false e)
      go false t x y e ih = ap₂ ◌∷◌ (other_pass p (eqb-false p.line.number n x)) (ih (y ∙ e))

  signed_add : (f : Bool) (a c : ℤ) → signed f a +ℤ signed f c ≡ signed f (a +ℤ c)
  signed_add true a c = refl
  signed_add false a c = sym (neg_ℤ-+ℤ a c)

  pass_moves : (l : Line) (p : Pass) → (p.line.number ≡ n → p.line ≡ l)
      → signed p.forward (new_difference n d p.line).difference
      ≡ signed p.forward p.line.difference +ℤ (d -ℤ l.difference) *ℤ once p n
  unfolding once
  pass_moves l p h = go (eqb p.line.number n) refl
    where
      go : (t : Bool) → eqb p.line.number n ≡ t
          → signed p.forward (cond t d p.line.difference)
          ≡ signed p.forward p.line.difference +ℤ (d -ℤ l.difference) *ℤ pass_if t (sense p.forward)
      go true e =
          let one : p.line.difference ≡ l.difference = ap (λ (k : Line). k.difference) (h (eqb-true p.line.number n e)) in
          sym (ap₂ (λ (x y : ℤ). signed p.forward x +ℤ y) one (times_sense (d -ℤ l.difference) p.forward)
          ∙ signed_add p.forward l.difference (d -ℤ l.difference)
          ∙ ap (signed p.forward) (+ℤ_comm l.difference (d -ℤ l.difference) ∙ -ℤ-+ℤ_cancel d l.difference))
      go false e =
          sym (ap (λ (z : ℤ). signed p.forward p.line.difference +ℤ z) (*ℤ-zero (d -ℤ l.difference))
          ∙ +ℤ_idr (signed p.forward p.line.difference))

  -- the misclosure moves by the line's signed passes times what its difference moved
  pub rerun_moves_misclosure : (l : Line) (lp : Loop) → ((p : Pass) → Memᴰ p lp → p.line.number ≡ n → p.line ≡ l)
      → misclosure (map (redone_pass n d) lp) ≡ misclosure lp +ℤ (d -ℤ l.difference) *ℤ passes lp n
  unfolding misclosure passes
  rerun_moves_misclosure l [] h = sym (ap (λ (z : ℤ). pos 0 +ℤ z) (*ℤ-zero (d -ℤ l.difference)))
  rerun_moves_misclosure l (p ∷ ps) h =
      ap₂ (λ (x y : ℤ). x +ℤ y) (pass_moves l p (h p (Memᴰ.head refl))) (rerun_moves_misclosure l ps (λ q i. h q (Memᴰ.tail i)))
      ∙ four (signed p.forward p.line.difference) ((d -ℤ l.difference) *ℤ once p n) (misclosure ps)
      ((d -ℤ l.difference) *ℤ passes ps n)
      ∙ ap (λ (z : ℤ). signed p.forward p.line.difference +ℤ misclosure ps +ℤ z)
      (sym (*ℤ_distrib (once p n) (passes ps n) (d -ℤ l.difference)))
