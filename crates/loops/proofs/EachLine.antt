-- The passes over each line by its number: of a line that does not stand, and of one that no circuit passes, a closed walk has as many one
-- way as the other, and no loop runs it. Assumes nothing.
use Prim.Native.Nat.{ℕ}
use mathlib.Core.Path.{◌≡◌, refl, sym, ◌∙◌, subst}
use mathlib.Core.Bool.{Bool, true, false}
use mathlib.Core.List.{List, Memᴰ}
use lib.IntN.{ℤ, pos}
use borrow.Author.Tests.{ne_eqb}
use Rattle.network.specs.Standing.{Line}
use Rattle.network.specs.Sound.{Sound}
use Rattle.network.specs.Subgraph.{is_in, numbers}
use Rattle.network.specs.Walk.{Pass, Walk, here, step}
use Rattle.network.proofs.Descent.{clash}
use Rattle.network.proofs.Subgraph.{nos_is_in, is_in_numbers, not_in}
use Rattle.loops.specs.Loops.{loops}
use Rattle.loops.specs.Checked.{checked}
use Rattle.loops.specs.Circuit.{Circuit}
use Rattle.loops.specs.Passes.{once, passes, combine, SumOf, multiples_of, NoPasses}
use Rattle.loops.proofs.EachLoop.{runs_not, loop_runs_lines}
use Rattle.loops.proofs.Basis.{sum_of_its_multiples}
use Rattle.loops.proofs.Checked.{checked_by, checked_iff_circuit, unchecked_zero}

-- no line of these has the number n
abbrev pub NoLine : List Line → ℕ → Type 0
NoLine lines n = (l : Line) → Memᴰ l lines → l.number ≡ n → ⊥

-- a walk along them does not pass line n
pub passes_elsewhere : {lines : List Line} {n : ℕ} → NoLine lines n → {r u : ℕ} {w : List Pass} → Walk lines r u w → passes w n ≡ pos 0
unfolding passes once
passes_elsewhere f (here e) = refl
passes_elsewhere {n = n} f (step {p = p} s m w) = rw (ne_eqb p.line.number n (f p.line m), passes_elsewhere f w)

module _ (b : ℕ) (lines : List Line) (sound : Sound b lines) where
  -- a line of that number is run by no closed walk and no loop
  pub no_passes_if_no_line : (n : ℕ) → NoLine lines n → {r : ℕ} {w : List Pass} → Walk lines r r w → NoPasses (loops b lines) w n
  no_passes_if_no_line n f x = (passes_elsewhere f x, λ ks. unchecked_zero ks (loops b lines) n not_run)
    where
      not_run : checked n (loops b lines) ≡ false
      not_run = not_in (checked n (loops b lines)) (λ h.
          let l = checked_by n (loops b lines) h in
          clash l.2 (runs_not n l.0 (λ p i. f p.line (loop_runs_lines b lines sound l.0 l.1 p i))))

  -- a line that no circuit passes is run by no loop, and by a closed walk as often one way as the other
  pub no_passes_if_no_circuit : (l : Line) → Memᴰ l lines → (Circuit lines l.number → ⊥) → {r : ℕ} {w : List Pass}
      → Walk lines r r w → NoPasses (loops b lines) w l.number
  no_passes_if_no_circuit l m f {r = r} {w = w} x =
      let not_run = not_in (checked l.number (loops b lines)) (λ h. f ((checked_iff_circuit b lines sound l m).0 h)) in
      let none : (ks : List ℤ) → combine ks (loops b lines) l.number ≡ pos 0 =
      λ ks. unchecked_zero ks (loops b lines) l.number not_run in
      ((sum_of_its_multiples b lines sound r x).passes_are l m ∙ none (multiples_of w (loops b lines)), none)

  -- so where a closed walk is the sum of multiples of the loops over the standing lines, it is so over every number
  pub sum_over_each_number : {r : ℕ} {w : List Pass} → Walk lines r r w → (ks : List ℤ) → SumOf lines (loops b lines) w ks → (n : ℕ)
      → passes w n ≡ combine ks (loops b lines) n
  sum_over_each_number {w = w} x ks s n = go (is_in n (numbers lines)) refl
    where
      go : (t : Bool) → is_in n (numbers lines) ≡ t → passes w n ≡ combine ks (loops b lines) n
      go true e =
          let l = is_in_numbers lines n e in
          subst (λ (k : ℕ). passes w k ≡ combine ks (loops b lines) k) l.2 (s.passes_are l.0 l.1)
      go false e =
          let none =
          no_passes_if_no_line n (λ l m z. clash (subst (λ (k : ℕ). is_in k (numbers lines) ≡ true) z (nos_is_in lines l m)) e) x in
          none.0 ∙ sym (none.1 ks)
