-- The rule "not added" never changes a loop: every loop's path is the shortest over the tree and all closing lines before its own.
-- Assumes nothing.
use Prim.Native.Nat.{ℕ}
use mathlib.Core.Path.{◌≡◌, refl, ap₂, subst}
use mathlib.Core.Logic.{◌⊎◌, inl, inr}
use mathlib.Core.Bool.{true}
use mathlib.Core.List.{List, [], ◌∷◌, Memᴰ}
use lib.Dec.{eqb}
use borrow.Author.Tests.{eqb-true, eq-eqb}
use Rattle.network.specs.Standing.{Line}
use Rattle.network.specs.Sound.{Sound}
use Rattle.network.specs.Pairwise.{Pairwise}
use Rattle.network.specs.Tree.{tree, tree_lines}
use Rattle.network.specs.Closing.{closing}
use Rattle.network.specs.Walk.{Ends, Pass, pass, stop, Walk, here, step, IsShortest}
use Rattle.network.specs.Path.{shortest}
use Rattle.network.specs.Subgraph.{is_in, only, numbers}
use Rattle.network.proofs.Grown.{ends_to}
use Rattle.network.proofs.Shortest.{turn, ends_of}
use Rattle.network.proofs.Count.{unique}
use Rattle.network.proofs.Marks.{grows}
use Rattle.network.proofs.Enough.{shortest_unique}
use Rattle.network.proofs.Closers.{InTree}
use Rattle.network.proofs.ClosingLines.{closing_line_stands}
use Rattle.network.proofs.Entries.{tree_line_stands}
use Rattle.network.proofs.Growth.{tree_grows}
use Rattle.network.proofs.Joined.{joined}
use Rattle.network.proofs.Pairwise.{pairwise_first, pairwise_rest}
use Rattle.network.proofs.Parallel.{Parallel, Lower, closed_first_is_lower, entered_is_lower}
use Rattle.network.proofs.Replaced.{shortest_of_more}
use Rattle.network.proofs.ShortestPath.{shortest_is_shortest}
use Rattle.network.proofs.Subgraph.{in_only, of_only, rising_only, or_true, or_right}
use Rattle.network.proofs.Subgraph.{nos_is_in, is_in_numbers, in_tree_lines, of_tree_lines}
use Rattle.network.proofs.Walks.{Way, walk_wider}
use Rattle.loops.specs.Loops.{Loop, added, loops_from, loops}
use Rattle.loops.specs.AllLoops.{all_loops_from, all_loops, LoopsOf, no_loop, loop_then}

-- some of a sound book's lines are sound
pub sound_only : {b : ℕ} {lines : List Line} → Sound b lines → (ns : List ℕ) → Sound b (only ns lines)
sound_only {lines = lines} sound ns = record {
  placed = λ l m. sound.placed l (of_only ns lines l m).0;
  apart = λ l m. sound.apart l (of_only ns lines l m).0;
  long_enough = λ l m. sound.long_enough l (of_only ns lines l m).0;
  rising = rising_only ns lines sound.rising;
}

-- ---- there is only one list of loops

-- two lists of loops of the same closing lines, each path the shortest, are one
pub loops_of_unique : {lines : List Line} {sub : List ℕ} {cs : List Line} {ls ms : List Loop} → LoopsOf lines sub cs ls
    → LoopsOf lines sub cs ms → ls ≡ ms
loops_of_unique no_loop no_loop = refl
loops_of_unique (loop_then {c = c} x p) (loop_then y q) =
    ap₂ (λ (path : List Pass) (ls : List Loop). (pass c true ∷ path) ∷ ls) (shortest_unique x y) (loops_of_unique p q)

-- ---- more numbers, more lines

-- a number of the subgraph stays in it when another is added
pub in_more : (c n : ℕ) (ns : List ℕ) → is_in n ns ≡ true → is_in n (c ∷ ns) ≡ true
unfolding is_in
in_more c n ns h = or_right (eqb c n) (is_in n ns) h

-- the number that is added is in it
pub in_first : (c n : ℕ) (ns : List ℕ) → c ≡ n → is_in n (c ∷ ns) ≡ true
unfolding is_in
in_first c n ns e = rw (eq-eqb c n e)

-- and nothing else is new
pub first_or_in : (c n : ℕ) (ns : List ℕ) → is_in n (c ∷ ns) ≡ true → (c ≡ n) ⊎ (is_in n ns ≡ true)
unfolding is_in
first_or_in c n ns h = go (or_true (eqb c n) (is_in n ns) h)
  where
    go : (eqb c n ≡ true) ⊎ (is_in n ns ≡ true) → (c ≡ n) ⊎ (is_in n ns ≡ true)
    go (inl e) = inl (eqb-true c n e)
    go (inr h) = inr h

-- every number of ns is one of ms
abbrev pub Within : List ℕ → List ℕ → Type 0
Within ns ms = (n : ℕ) → is_in n ns ≡ true → is_in n ms ≡ true

-- so the subgraph's lines are among the lines of a larger one
pub only_wider : (lines : List Line) (ns ms : List ℕ) → Within ns ms → (l : Line) → Memᴰ l (only ns lines)
    → Memᴰ l (only ms lines)
only_wider lines ns ms h l m = let o = of_only ns lines l m in in_only ms lines l o.0 (h l.number o.1)

module _ (b : ℕ) (lines : List Line) (sound : Sound b lines) where
  -- the shortest path back over some of the lines that join the closing line's ends
  path_back : (ns : List ℕ) (c : Line) → Memᴰ c lines → Way (only ns lines) c.from c.to
      → IsShortest (only ns lines) c.from c.to (shortest b (only ns lines) c.to c.from)
  path_back ns c m w =
      let p = sound.placed c m in
      shortest_is_shortest b (only ns lines) (sound_only sound ns) c.to c.from p.from_low p.from_high w.1

  abbrev Joins : List ℕ → List Line → Type 0
  Joins ns cs = (c : Line) → Memᴰ c cs → Memᴰ c lines × Way (only ns lines) c.from c.to

  joins_more : (ns ms : List ℕ) (d : Line) (cs : List Line) → Within ns ms → Joins ns (d ∷ cs) → Joins ms cs
  joins_more ns ms d cs h j c i = let k = j c (Memᴰ.tail i) in (k.0, (k.1.0, walk_wider (only_wider lines ns ms h) k.1.1))

  -- ---- every closing line added

  all_loops_from_lem : (cs : List Line) (sub : List ℕ) → Joins sub cs → LoopsOf lines sub cs (all_loops_from b lines cs sub)
  unfolding all_loops_from
  all_loops_from_lem [] sub j = no_loop
  all_loops_from_lem (c ∷ cs) sub j =
      let k = j c (Memᴰ.head refl) in
      loop_then (path_back sub c k.0 k.1) (all_loops_from_lem cs (c.number ∷ sub)
      (joins_more sub (c.number ∷ sub) c cs (λ n h. in_more c.number n sub h) j))

  -- ---- the rule "not added"

  -- `sub` are the lines added so far, `full` all up to here, `cs` the closing lines to come
  record NotMissed (sub full : List ℕ) (cs : List Line) : Type 0 where
    kept : (n : ℕ) → is_in n sub ≡ true → is_in n full ≡ true
    better : (d : Line) → Memᴰ d lines → is_in d.number full ≡ true
        → (is_in d.number sub ≡ true) ⊎ ((y : Line) × Memᴰ y (only sub lines) × Parallel y d × Lower y d)
    joins : Joins sub cs
    first : (c : Line) → Memᴰ c cs → (y : Line) → Memᴰ y lines → is_in y.number sub ≡ true → Parallel y c → Lower y c
    order : Pairwise (λ (y d : Line). Parallel y d → Lower y d) cs

  -- the path over the lines added so far is the shortest over all
  path_is : {sub full : List ℕ} {c : Line} {cs : List Line} → NotMissed sub full (c ∷ cs)
      → IsShortest (only full lines) c.from c.to (shortest b (only sub lines) c.to c.from)
  path_is {sub = sub} {full = full} {c = c} w =
      let k = w.joins c (Memᴰ.head refl) in
      shortest_of_more (only sub lines) (only full lines) (only_wider lines sub full w.kept) better (path_back sub c k.0 k.1)
    where
      better : (d : Line) → Memᴰ d (only full lines)
          → Memᴰ d (only sub lines) ⊎ ((y : Line) × Memᴰ y (only sub lines) × Parallel y d × Lower y d)
      better d m = let o = of_only full lines d m in go o.0 (w.better d o.0 o.1)
        where
          go : Memᴰ d lines → (is_in d.number sub ≡ true) ⊎ ((y : Line) × Memᴰ y (only sub lines) × Parallel y d × Lower y d)
              → Memᴰ d (only sub lines) ⊎ ((y : Line) × Memᴰ y (only sub lines) × Parallel y d × Lower y d)
          go i (inl h) = inl (in_only sub lines d i h)
          go i (inr h) = inr h

  -- the closing line is added
  with_it : {sub full : List ℕ} (c : Line) {cs : List Line} → NotMissed sub full (c ∷ cs)
      → NotMissed (c.number ∷ sub) (c.number ∷ full) cs
  with_it {sub = sub} {full = full} c {cs = cs} w = record {
    kept = λ n h. kept n (first_or_in c.number n sub h);
    better = λ d m h. better d m (first_or_in c.number d.number full h);
    joins = joins_more sub (c.number ∷ sub) c cs (λ n h. in_more c.number n sub h) w.joins;
    first = λ d i y m h. first d i y m (first_or_in c.number y.number sub h);
    order = pairwise_rest w.order;
  }
    where
      kept : (n : ℕ) → (c.number ≡ n) ⊎ (is_in n sub ≡ true) → is_in n (c.number ∷ full) ≡ true
      kept n (inl e) = in_first c.number n full e
      kept n (inr h) = in_more c.number n full (w.kept n h)

      better : (d : Line) → Memᴰ d lines → (c.number ≡ d.number) ⊎ (is_in d.number full ≡ true)
          → (is_in d.number (c.number ∷ sub) ≡ true) ⊎ ((y : Line) × Memᴰ y (only (c.number ∷ sub) lines) × Parallel y d
          × Lower y d)
      better d m (inl e) = inl (in_first c.number d.number sub e)
      better d m (inr h) = old (w.better d m h)
        where
          old : (is_in d.number sub ≡ true) ⊎ ((y : Line) × Memᴰ y (only sub lines) × Parallel y d × Lower y d)
              → (is_in d.number (c.number ∷ sub) ≡ true)
              ⊎ ((y : Line) × Memᴰ y (only (c.number ∷ sub) lines) × Parallel y d × Lower y d)
          old (inl h) = inl (in_more c.number d.number sub h)
          old (inr (y, i, q, z)) = inr (y, only_wider lines sub (c.number ∷ sub) (λ n h. in_more c.number n sub h) y i, q, z)

      first : (d : Line) → Memᴰ d cs → (y : Line) → Memᴰ y lines → (c.number ≡ y.number) ⊎ (is_in y.number sub ≡ true)
          → Parallel y d → Lower y d
      first d i y m (inl e) =
          subst (λ (k : Line). Parallel k d → Lower k d) (unique lines sound.rising c y (w.joins c (Memᴰ.head refl)).0 m e)
          (pairwise_first w.order d i)
      first d i y m (inr h) = w.first d (Memᴰ.tail i) y m h

  -- its path is one line: it is not added
  without_it : {sub full : List ℕ} (c : Line) {cs : List Line} (p : Pass) → NotMissed sub full (c ∷ cs)
      → Walk (only sub lines) c.from c.to (p ∷ []) → NotMissed sub (c.number ∷ full) cs
  without_it {sub = sub} {full = full} c {cs = cs} p w (step s m (here e)) = record {
    kept = λ n h. in_more c.number n full (w.kept n h);
    better = λ d i h. better d i (first_or_in c.number d.number full h);
    joins = joins_more sub sub c cs (λ n h. h) w.joins;
    first = λ d i. w.first d (Memᴰ.tail i);
    order = pairwise_rest w.order;
  }
    where
      -- the one line of the path has the closing line's ends
      one_line : Parallel p.line c
      one_line = turn (ends_to e (subst (λ (u : ℕ). Ends p.line u (stop p)) s (ends_of p)))

      better : (d : Line) → Memᴰ d lines → (c.number ≡ d.number) ⊎ (is_in d.number full ≡ true)
          → (is_in d.number sub ≡ true) ⊎ ((y : Line) × Memᴰ y (only sub lines) × Parallel y d × Lower y d)
      better d i (inl z) =
          subst (λ (k : Line). (is_in k.number sub ≡ true) ⊎ ((y : Line) × Memᴰ y (only sub lines) × Parallel y k × Lower y k))
          (unique lines sound.rising c d (w.joins c (Memᴰ.head refl)).0 i z)
          (inr (
            p.line,
            m,
            one_line,
            w.first c (Memᴰ.head refl) p.line (of_only sub lines p.line m).0
                (of_only sub lines p.line m).1 one_line,
          ))
      better d i (inr h) = w.better d i h

  loops_from_lem : (cs : List Line) (sub full : List ℕ) → NotMissed sub full cs → LoopsOf lines full cs (loops_from b lines cs sub)
  unfolding loops_from
  loops_from_lem [] sub full w = no_loop
  loops_from_lem (c ∷ cs) sub full w =
      loop_then (path_is w) (loops_from_lem cs (added c.number path sub) (c.number ∷ full) (next path (path_walk)))
    where
      path : List Pass
      path = shortest b (only sub lines) c.to c.from

      path_walk : Walk (only sub lines) c.from c.to path
      path_walk = let k = w.joins c (Memᴰ.head refl) in (path_back sub c k.0 k.1).is_walk

      next : (q : List Pass) → Walk (only sub lines) c.from c.to q → NotMissed (added c.number q sub) (c.number ∷ full) cs
      next [] x = with_it c w
      next (p ∷ []) x = without_it c p w x
      next (p ∷ q ∷ ps) x = with_it c w

  -- ---- the theorems

  tree_joins : Joins (numbers (tree_lines (tree b lines))) (closing lines (tree b lines))
  tree_joins c m = (
    closing_line_stands b lines sound c m,
    joined lines (only (numbers (tree_lines (tree b lines))) lines)
        (grows b lines sound.placed) holds c m,
  )
    where
      holds : (l : Line) → InTree (tree b lines) l → Memᴰ l (only (numbers (tree_lines (tree b lines))) lines)
      holds l t =
          let i = in_tree_lines (tree b lines) l t in
          in_only (numbers (tree_lines (tree b lines))) lines l (tree_line_stands b lines sound l i)
          (nos_is_in (tree_lines (tree b lines)) l i)

  -- were every closing line added, each path would be the shortest over the tree and all closing lines before it
  pub all_loops_are : LoopsOf lines (numbers (tree_lines (tree b lines))) (closing lines (tree b lines)) (all_loops b lines)
  unfolding all_loops
  all_loops_are = all_loops_from_lem (closing lines (tree b lines)) (numbers (tree_lines (tree b lines))) tree_joins

  -- each loop runs its closing line, then the shortest path over the tree and all closing lines before it
  pub loops_are : LoopsOf lines (numbers (tree_lines (tree b lines))) (closing lines (tree b lines)) (loops b lines)
  unfolding loops
  loops_are = loops_from_lem (closing lines (tree b lines)) sub sub (record {
    kept = λ n h. h;
    better = λ d m h. inl h;
    joins = tree_joins;
    first = first;
    order = closed_first_is_lower lines sound.rising sound.apart (grows b lines sound.placed);
  })
    where
      sub : List ℕ
      sub = numbers (tree_lines (tree b lines))

      first : (c : Line) → Memᴰ c (closing lines (tree b lines)) → (y : Line) → Memᴰ y lines → is_in y.number sub ≡ true
          → Parallel y c → Lower y c
      first c i y m h =
          let k = is_in_numbers (tree_lines (tree b lines)) y.number h in
          let is : k.0 ≡ y = unique lines sound.rising k.0 y (tree_line_stands b lines sound k.0 k.1) m k.2 in
          entered_is_lower lines sound.rising sound.apart (tree_grows b lines sound) y c
          (subst (λ (l : Line). InTree (tree b lines) l) is (of_tree_lines (tree b lines) k.0 k.1)) i

  -- the rule "A closing line whose path has one line is not added" never changes a loop
  pub not_added_never_matters : loops b lines ≡ all_loops b lines
  not_added_never_matters = loops_of_unique loops_are all_loops_are
