-- The loops by their place: the loop and the row at place i. Assumes nothing.
use mathlib.Core.Path.{◌≡◌, refl, sym, ◌∙◌, ap}
use mathlib.Core.Bool.{Bool, true, false, ◌||◌}
use mathlib.Core.List.{List, [], ◌∷◌, ◌++◌, append-nil, Memᴰ}
use Prim.Native.Nat.{ℕ, zero, suc, ◌+◌, ◌*◌, ◌<◌}
use native.Mathlib.Omega.{arith}
use lib.Dec.{eqb}
use lib.ListN.{length, get_or, take, get_or-append}
use lib.Seq.{append_snoc, get_or-append-add}
use lib.IntN.{pos}
use Rattle.network.specs.Standing.{Line}
use Rattle.network.specs.Pairwise.{Pairwise, no_pair, pairs}
use Rattle.network.specs.Subgraph.{is_in, only, numbers}
use Rattle.network.specs.Walk.{Pass, pass, IsShortest}
use Rattle.loops.specs.Loops.{Loop, loop_at}
use Rattle.loops.specs.AllLoops.{LoopsOf, no_loop, loop_then}
use Rattle.loops.specs.Row.{row_words, row, rows}
use Rattle.loops.proofs.Row.{row_length}

-- the loop at a place below the count is one of the loops
pub loop_at_is : (ls : List Loop) (i : ℕ) → i < length ls → Memᴰ (loop_at ls i) ls
unfolding loop_at
loop_at_is [] i h = absurd (omega arith)
loop_at_is (l ∷ ls) zero h = Memᴰ.head refl
loop_at_is (l ∷ ls) (suc i) h = Memᴰ.tail (loop_at_is ls i (omega arith))

pub loop_is : (ls : List Loop) (i : ℕ) → i < length ls → loop_at ls i ≡ get_or ls i []
unfolding loop_at
loop_is [] i h = absurd (omega arith)
loop_is (l ∷ ls) zero h = refl
loop_is (l ∷ ls) (suc i) h = loop_is ls i (omega arith)

-- what holds of each loop and every later one
pub pairs_at : {R : Loop → Loop → Type 0} {ls : List Loop} → Pairwise R ls → (i j : ℕ) → i < j → j < length ls
    → R (loop_at ls i) (loop_at ls j)
unfolding loop_at
pairs_at (pairs f p) zero (suc j) l h = f _ (loop_at_is _ j (omega arith))
pairs_at (pairs f p) (suc i) (suc j) l h = pairs_at p i j (omega arith) (omega arith)
pairs_at (pairs f p) i zero l h = absurd (omega arith)
pairs_at no_pair i j l h = absurd (omega arith)

-- ---- the subgraph of the loop at a place

-- the same numbers, the same lines
same_only : (ns ms : List ℕ) → ((n : ℕ) → is_in n ns ≡ is_in n ms) → (lines : List Line) → only ns lines ≡ only ms lines
unfolding only
same_only ns ms h [] = refl
same_only ns ms h (l ∷ ls) = rw (h l.number, same_only ns ms h ls)

or_swap : (x y z : Bool) → x || (y || z) ≡ y || (x || z)
or_swap true true z = refl
or_swap true false z = refl
or_swap false true z = refl
or_swap false false z = refl

-- a line at the end counts as one at the start
in_after : (n : ℕ) (c : Line) (ls : List Line) → is_in n (numbers (ls ++ (c ∷ []))) ≡ is_in n (c.number ∷ numbers ls)
unfolding is_in
in_after n c [] = refl
in_after n c (l ∷ ls) = rw (in_after n c ls) (or_swap (eqb l.number n) (eqb c.number n) (is_in n (numbers ls)))

-- what the loop at place i is, over the lines `base` and the closing lines before its own
pub record At (lines base cs : List Line) (lp : Loop) (i : ℕ) : Type 0 where
  pub line : Line
  pub path : List Pass
  pub closes : Memᴰ line cs
  pub its : lp ≡ pass line true ∷ path
  pub shortest : IsShortest (only (numbers (base ++ take i cs)) lines) line.from line.to path

pub loop_at_lem : {lines : List Line} {sub : List ℕ} {cs : List Line} {ls : List Loop} → LoopsOf lines sub cs ls → (base : List Line)
    → ((n : ℕ) → is_in n sub ≡ is_in n (numbers base)) → (i : ℕ) → i < length ls → At lines base cs (loop_at ls i) i
unfolding loop_at is_in
loop_at_lem no_loop base h i l = absurd (omega arith)
loop_at_lem {lines = lines} (loop_then {sub = sub} {c = c} {path = path} x p) base h zero l = record {
  line = c;
  path = path;
  closes = Memᴰ.head refl;
  its = refl;
  shortest = rw (append-nil, ← same_only sub (numbers base) h lines) x;
}
loop_at_lem {lines = lines} (loop_then {sub = sub} {c = c} {cs = cs} {path = path} x p) base h (suc i) l =
    let w = loop_at_lem p (base ++ (c ∷ [])) (λ n. ap (λ (x : Bool). eqb c.number n || x) (h n)
    ∙ sym (in_after n c base)) i (omega arith) in
    record {
      line = w.line;
      path = w.path;
      closes = Memᴰ.tail w.closes;
      its = w.its;
      shortest = rw (← append_snoc base c (take i cs)) w.shortest;
    }

-- ---- the row at a place

-- the numbers of row i are those of the loop at place i
pub row_at : (t : ℕ) (ls : List Loop) (i : ℕ) → i < length ls → (j : ℕ) → j < row_words
    → get_or (rows t ls) (row_words * i + j) (pos 0) ≡ get_or (row t (loop_at ls i)) j (pos 0)
unfolding rows loop_at
row_at t [] i h j l = absurd (omega arith)
row_at t (lp ∷ ls) zero h j l =
    let here : row_words * 0 + j ≡ j = omega arith in
    rw here (get_or-append (row t lp) (rows t ls) (pos 0) j (omega (arith, row_length t lp)))
row_at t (lp ∷ ls) (suc i) h j l =
    let further : row_words * suc i + j ≡ length (row t lp) + (row_words * i + j) = omega (arith, row_length t lp) in
    rw (further, get_or-append-add (row t lp) (rows t ls) (row_words * i + j) (pos 0)) (row_at t ls i (omega arith) j l)
