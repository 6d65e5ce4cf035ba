-- A line is checked exactly if it is a closing line or a closing line crosses it: the tree and the closing lines suffice. Assumes nothing.
use Prim.Native.Nat.{ℕ}
use mathlib.Core.Path.{◌≡◌, refl, sym, ◌∙◌, ap, subst}
use mathlib.Core.Logic.{◌⊎◌, inl, inr, ◌↔◌}
use mathlib.Core.Bool.{Bool, true, false, ◌||◌, false≢true}
use mathlib.Core.List.Memᴰ
use mathlib.Core.List.{List, [], ◌∷◌, Memᴰ}
use lib.Dec.{eqb}
use borrow.Author.Tests.{eqb-true, eq-eqb, ne_eqb}
use Rattle.laws.proofs.Tests.{same_test}
use Rattle.network.specs.Standing.{Line}
use Rattle.network.specs.Sound.{Sound, Rising}
use Rattle.network.specs.Pairwise.{pairs}
use Rattle.network.specs.Tree.{Tree, tree, tree_lines}
use Rattle.network.specs.Closing.{closing}
use Rattle.network.specs.Walk.{Pass, end, start, stop, Walk, here, step, OnlyOnce}
use Rattle.network.specs.Subgraph.{is_in, only, numbers}
use Rattle.network.proofs.Descent.{clash}
use Rattle.network.proofs.Count.{unique}
use Rattle.network.proofs.Marks.{grows}
use Rattle.network.proofs.Entries.{tree_line_stands}
use Rattle.network.proofs.ClosingLines.{tree_line_or_closing_line, never_tree_line_and_closing_line, closing_line_stands}
use Rattle.network.proofs.ShortestPath.{pass_line}
use Rattle.network.proofs.Subgraph.{in_only, of_only, or_true, or_right, is_in_numbers, not_in, of_tree_lines}
use Rattle.loops.specs.Loops.{Loop, loops}
use Rattle.loops.specs.AllLoops.{LoopsOf, no_loop, loop_then}
use Rattle.loops.specs.Checked.{runs, checked}
use Rattle.loops.specs.Crossed.{on_way, crosses, crossed}
use Rattle.loops.proofs.AllLoops.{first_or_in, loops_are}
use Rattle.loops.proofs.EachLoop.{loop_has_closing_line}
use Rattle.loops.proofs.Checked.{runs_mem, checked_by}
use Rattle.loops.proofs.Ways.{differ_false, same_differ, crosses_itself_only}

-- ---- sides: the way of a mark runs over line n, or it does not

module _ (es : Tree) (n : ℕ) where
  -- a pass over a line that does not cross line n stays on its side
  pass_stays : (p : Pass) → crosses es n p.line ≡ false → on_way es n (start p) ≡ on_way es n (stop p)
  unfolding crosses
  pass_stays p h = go p.forward (differ_false (on_way es n p.line.from) (on_way es n p.line.to) h)
    where
      go : (f : Bool) → on_way es n p.line.from ≡ on_way es n p.line.to
          → on_way es n (end f p.line.from p.line.to) ≡ on_way es n (end f p.line.to p.line.from)
      go true e = e
      go false e = sym e

  -- and one that does not change sides does not cross
  no_cross : (p : Pass) → on_way es n (start p) ≡ on_way es n (stop p) → crosses es n p.line ≡ false
  unfolding crosses
  no_cross p h = same_differ (on_way es n p.line.from) (on_way es n p.line.to) (go p.forward h)
    where
      go : (f : Bool) → on_way es n (end f p.line.from p.line.to) ≡ on_way es n (end f p.line.to p.line.from)
          → on_way es n p.line.from ≡ on_way es n p.line.to
      go true e = e
      go false e = sym e

  -- a walk none of whose lines crosses line n ends on the side where it began
  walk_stays : {ls : List Line} {r u : ℕ} {w : List Pass} → Walk ls r u w → ((p : Pass) → Memᴰ p w → crosses es n p.line ≡ false)
      → on_way es n u ≡ on_way es n r
  walk_stays (here e) f = ap (on_way es n) e
  walk_stays (step {p = p} s m x) f =
      ap (on_way es n) (sym s) ∙ pass_stays p (f p (Memᴰ.head refl)) ∙ walk_stays x (λ q i. f q (Memᴰ.tail i))

  -- a walk that runs line n once, and else no line that crosses it, ends on the side where it began only if line n does not cross itself
  walk_over : {ls : List Line} {r u : ℕ} {w : List Pass} → Walk ls r u w → OnlyOnce w
      → ((p : Pass) → Memᴰ p w → (p.line.number ≡ n → ⊥) → crosses es n p.line ≡ false)
      → on_way es n u ≡ on_way es n r → (p : Pass) → Memᴰ p w → p.line.number ≡ n → crosses es n p.line ≡ false
  walk_over (here e) o f h p i z = absurd (Memᴰ.not-nil i)
  walk_over (step {p = q} s m x) (pairs g o) f h p (Memᴰ.head e) z =
      let rest = walk_stays x (λ y i. f y (Memᴰ.tail i) (λ k. g y i (sym (ap (λ (a : Pass). a.line.number) e) ∙ z ∙ sym k))) in
      subst (λ (a : Pass). crosses es n a.line ≡ false) (sym e) (no_cross q (ap (on_way es n) s ∙ h ∙ sym rest))
  walk_over (step {p = q} s m x) (pairs g o) f h p (Memᴰ.tail i) z =
      walk_over x o (λ y j. f y (Memᴰ.tail j))
      (sym (pass_stays q (f q (Memᴰ.head refl) (λ k. g p i (k ∙ sym z)))) ∙ ap (on_way es n) s ∙ h) p i z

-- ---- what is crossed

-- line c checks line n: it is that line, or it crosses it
pub checks_one : (es : Tree) (n : ℕ) (c : Line) → (eqb c.number n || crosses es n c) ≡ true → (c.number ≡ n) ⊎ (crosses es n c ≡ true)
checks_one es n c h = go (or_true (eqb c.number n) (crosses es n c) h)
  where
    go : (eqb c.number n ≡ true) ⊎ (crosses es n c ≡ true) → (c.number ≡ n) ⊎ (crosses es n c ≡ true)
    go (inl x) = inl (eqb-true c.number n x)
    go (inr x) = inr x

pub one_checks : (es : Tree) (n : ℕ) (c : Line) → (c.number ≡ n) ⊎ (crosses es n c ≡ true) → (eqb c.number n || crosses es n c) ≡ true
one_checks es n c (inl x) = rw (eq-eqb c.number n x)
one_checks es n c (inr x) = or_right (eqb c.number n) (crosses es n c) x

-- what is crossed is one of the lines or is crossed by one
pub crossed_by : (es : Tree) (n : ℕ) (cs : List Line) → crossed es n cs ≡ true
    → (c : Line) × Memᴰ c cs × ((c.number ≡ n) ⊎ (crosses es n c ≡ true))
unfolding crossed
crossed_by es n [] h = absurd (false≢true h)
crossed_by es n (c ∷ cs) h = go (or_true (eqb c.number n || crosses es n c) (crossed es n cs) h) (crossed_by es n cs)
  where
    go : ((eqb c.number n || crosses es n c) ≡ true) ⊎ (crossed es n cs ≡ true)
        → (crossed es n cs ≡ true → (d : Line) × Memᴰ d cs × ((d.number ≡ n) ⊎ (crosses es n d ≡ true)))
        → (d : Line) × Memᴰ d (c ∷ cs) × ((d.number ≡ n) ⊎ (crosses es n d ≡ true))
    go (inl x) ih = (c, Memᴰ.head refl, checks_one es n c x)
    go (inr x) ih = let k = ih x in (k.0, Memᴰ.tail k.1, k.2)

-- and the other way
pub in_crossed : (es : Tree) (n : ℕ) (cs : List Line) (c : Line) → Memᴰ c cs → (c.number ≡ n) ⊎ (crosses es n c ≡ true)
    → crossed es n cs ≡ true
unfolding crossed
in_crossed es n [] c m h = elim m [ ]
in_crossed es n (k ∷ cs) c (Memᴰ.head e) h =
    rw (one_checks es n k (subst (λ (x : Line). (x.number ≡ n) ⊎ (crosses es n x ≡ true)) e h))
in_crossed es n (k ∷ cs) c (Memᴰ.tail i) h =
    or_right (eqb k.number n || crosses es n k) (crossed es n cs) (in_crossed es n cs c i h)

-- ---- the loop of the first closing line that crosses line n runs over it

module _ (es : Tree) (lines : List Line) (rising : Rising lines) (n : ℕ) where
  -- no line of the subgraph but line n itself crosses line n
  abbrev Uncrossed : List ℕ → Type 0
  Uncrossed sub = (k : Line) → Memᴰ k (only sub lines) → (k.number ≡ n → ⊥) → crosses es n k ≡ false

  -- a line that does not cross line n may be added
  still_uncrossed : (sub : List ℕ) (c : Line) → Memᴰ c lines → crosses es n c ≡ false → Uncrossed sub → Uncrossed (c.number ∷ sub)
  still_uncrossed sub c i h f k j d =
      go (of_only (c.number ∷ sub) lines k j).0 (first_or_in c.number k.number sub (of_only (c.number ∷ sub) lines k j).1)
    where
      go : Memᴰ k lines → (c.number ≡ k.number) ⊎ (is_in k.number sub ≡ true) → crosses es n k ≡ false
      go m (inl e) = subst (λ (x : Line). crosses es n x ≡ false) (unique lines rising c k i m e) h
      go m (inr e) = f k (in_only sub lines k m e) d

  -- so if one of the closing lines crosses line n, a loop runs it
  crossed_runs : {sub : List ℕ} {cs : List Line} {ls : List Loop} → LoopsOf lines sub cs ls
      → ((c : Line) → Memᴰ c cs → Memᴰ c lines) → Uncrossed sub
      → (c : Line) → Memᴰ c cs → crosses es n c ≡ true → checked n ls ≡ true
  unfolding checked runs crosses
  crossed_runs no_loop m f c i h = absurd (Memᴰ.not-nil i)
  crossed_runs (loop_then {sub = sub} {c = d} {cs = cs} {path = path} {ls = ls} x l) m f c i h =
      go (crosses es n d) refl (runs n path) refl (λ g j. crossed_runs l (λ k z. m k (Memᴰ.tail z)) g c j h)
    where
      rest : crosses es n d ≡ false → Memᴰ c (d ∷ cs) → Memᴰ c cs
      rest e (Memᴰ.head z) = clash h (ap (crosses es n) z ∙ e)
      rest e (Memᴰ.tail j) = j

      go : (t : Bool) → crosses es n d ≡ t → (r : Bool) → runs n path ≡ r
          → (Uncrossed (d.number ∷ sub) → Memᴰ c cs → checked n ls ≡ true)
          → ((eqb d.number n || r) || checked n ls) ≡ true
      go true e true q ih = ap (λ (t : Bool). t || checked n ls) (or_right (eqb d.number n) true refl)
      go true e false q ih =
          let stays = walk_stays es n x.is_walk (λ p j. f p.line (pass_line x.is_walk p j) (λ z. clash (runs_mem n path p j z) q)) in
          clash e (same_differ (on_way es n d.from) (on_way es n d.to) (sym stays))
      go false e r q ih =
          or_right (eqb d.number n || r) (checked n ls) (ih (still_uncrossed sub d (m d (Memᴰ.head refl)) e f) (rest e i))

  -- a closing line's own loop runs it
  closing_runs : {sub : List ℕ} {cs : List Line} {ls : List Loop} → LoopsOf lines sub cs ls → (c : Line) → Memᴰ c cs → c.number ≡ n
      → checked n ls ≡ true
  unfolding checked runs
  closing_runs no_loop c i e = absurd (Memᴰ.not-nil i)
  closing_runs (loop_then {c = d} x l) c (Memᴰ.head z) e = rw (eq-eqb d.number n (ap (λ (k : Line). k.number) (sym z) ∙ e))
  closing_runs (loop_then {c = d} {path = path} {ls = ls} x l) c (Memᴰ.tail i) e =
      or_right (eqb d.number n || runs n path) (checked n ls) (closing_runs l c i e)

-- a loop that runs line n has a pass over it
runs_of : (n : ℕ) (w : List Pass) → runs n w ≡ true → (p : Pass) × Memᴰ p w × (p.line.number ≡ n)
unfolding runs
runs_of n [] h = absurd (false≢true h)
runs_of n (q ∷ qs) h = go (or_true (eqb q.line.number n) (runs n qs) h) (runs_of n qs)
  where
    go : (eqb q.line.number n ≡ true) ⊎ (runs n qs ≡ true) → (runs n qs ≡ true → (p : Pass) × Memᴰ p qs × (p.line.number ≡ n))
        → (p : Pass) × Memᴰ p (q ∷ qs) × (p.line.number ≡ n)
    go (inl x) ih = (q, Memᴰ.head refl, eqb-true q.line.number n x)
    go (inr x) ih = let k = ih x in (k.0, Memᴰ.tail k.1, k.2)

-- ---- the theorems

module _ (b : ℕ) (lines : List Line) (sound : Sound b lines) where
  abbrev es : Tree
  es = tree b lines

  -- a tree line crosses itself and no other line
  tree_line_crosses : (k : Line) → Memᴰ k (tree_lines es) → (n : ℕ) → crosses es n k ≡ eqb k.number n
  tree_line_crosses k i n =
      crosses_itself_only lines sound.rising sound.apart (grows b lines sound.placed) k (of_tree_lines es k i) n

  -- at the start the subgraph is the tree, and none of its lines crosses another
  tree_uncrossed : (n : ℕ) → Uncrossed es lines sound.rising n (numbers (tree_lines es))
  tree_uncrossed n k i d =
      let o = of_only (numbers (tree_lines es)) lines k i in
      let t = is_in_numbers (tree_lines es) k.number o.1 in
      let is : t.0 ≡ k = unique lines sound.rising t.0 k (tree_line_stands b lines sound t.0 t.1) o.0 t.2 in
      ap (crosses es n) (sym is) ∙ tree_line_crosses t.0 t.1 n ∙ ne_eqb t.0.number n (λ z. d (sym t.2 ∙ z))

  -- a loop runs over a tree line only if a closing line crosses it
  run_is_crossed : (l : Line) → Memᴰ l (tree_lines es) → (lp : Loop) → Memᴰ lp (loops b lines) → runs l.number lp ≡ true
      → crossed es l.number (closing lines es) ≡ false → ⊥
  run_is_crossed l i lp j h none_crosses =
      let w = loop_has_closing_line b lines sound lp j in
      let p = runs_of l.number lp h in
      let is : p.0.line ≡ l =
      unique lines sound.rising p.0.line l (pass_line w.2.closed p.0 p.1) (tree_line_stands b lines sound l i)
      p.2 in
      clash (tree_line_crosses l i l.number ∙ eq-eqb l.number l.number refl)
      (ap (crosses es l.number) (sym is) ∙ walk_over es l.number w.2.closed w.2.no_line_twice (others w.2.closed) refl
      p.0 p.1 p.2)
    where
      others : {r : ℕ} → Walk lines r r lp → (q : Pass) → Memᴰ q lp → (q.line.number ≡ l.number → ⊥)
          → crosses es l.number q.line ≡ false
      others x q k d = go (tree_line_or_closing_line b lines sound q.line (pass_line x q k))
        where
          go : Memᴰ q.line (tree_lines es) ⊎ Memᴰ q.line (closing lines es) → crosses es l.number q.line ≡ false
          go (inl t) = tree_line_crosses q.line t l.number ∙ ne_eqb q.line.number l.number d
          go (inr c) =
              not_in (crosses es l.number q.line) (λ z. clash (in_crossed es l.number (closing lines es) q.line c (inr z))
              none_crosses)

  -- a standing line is run in a loop exactly if it is a closing line or a closing line crosses it
  pub checked_iff_crossed : (l : Line) → Memᴰ l lines
      → (checked l.number (loops b lines) ≡ true)
      ↔ (Memᴰ l (closing lines (tree b lines)) ⊎ ((c : Line) × Memᴰ c (closing lines (tree b lines))
      × (crosses (tree b lines) l.number c ≡ true)))
  checked_iff_crossed l m = (λ h. to h (tree_line_or_closing_line b lines sound l m), back)
    where
      by_tree : Memᴰ l (tree_lines es) → checked l.number (loops b lines) ≡ true → (t : Bool)
          → crossed es l.number (closing lines es) ≡ t
          → (c : Line) × Memᴰ c (closing lines es) × (crosses es l.number c ≡ true)
      by_tree i h false e = let lp = checked_by l.number (loops b lines) h in absurd (run_is_crossed l i lp.0 lp.1 lp.2 e)
      by_tree i h true e = go (crossed_by es l.number (closing lines es) e)
        where
          go : (c : Line) × Memᴰ c (closing lines es) × ((c.number ≡ l.number) ⊎ (crosses es l.number c ≡ true))
              → (c : Line) × Memᴰ c (closing lines es) × (crosses es l.number c ≡ true)
          go (c, j, inl z) = absurd (never_tree_line_and_closing_line b lines sound l c i j z)
          go (c, j, inr z) = (c, j, z)

      to : checked l.number (loops b lines) ≡ true → Memᴰ l (tree_lines es) ⊎ Memᴰ l (closing lines es)
          → Memᴰ l (closing lines es) ⊎ ((c : Line) × Memᴰ c (closing lines es) × (crosses es l.number c ≡ true))
      to h (inl i) = inr (by_tree i h (crossed es l.number (closing lines es)) refl)
      to h (inr i) = inl i

      back : Memᴰ l (closing lines es) ⊎ ((c : Line) × Memᴰ c (closing lines es) × (crosses es l.number c ≡ true))
          → checked l.number (loops b lines) ≡ true
      back (inl i) = closing_runs es lines sound.rising l.number (loops_are b lines sound) l i refl
      back (inr (c, i, h)) =
          crossed_runs es lines sound.rising l.number (loops_are b lines sound) (closing_line_stands b lines sound)
          (tree_uncrossed l.number) c i h

  -- the same as an equation: what is checked is worked out from the tree and the closing lines, without the loops
  pub checked_is_crossed : (l : Line) → Memᴰ l lines
      → checked l.number (loops b lines) ≡ crossed (tree b lines) l.number (closing lines (tree b lines))
  checked_is_crossed l m = same_test (checked l.number (loops b lines)) (crossed es l.number (closing lines es)) to back
    where
      to : checked l.number (loops b lines) ≡ true → crossed es l.number (closing lines es) ≡ true
      to h = go ((checked_iff_crossed l m).0 h)
        where
          go : Memᴰ l (closing lines es) ⊎ ((c : Line) × Memᴰ c (closing lines es) × (crosses es l.number c ≡ true))
              → crossed es l.number (closing lines es) ≡ true
          go (inl i) = in_crossed es l.number (closing lines es) l i (inl refl)
          go (inr (c, i, z)) = in_crossed es l.number (closing lines es) c i (inr z)

      back : crossed es l.number (closing lines es) ≡ true → checked l.number (loops b lines) ≡ true
      back h = go (crossed_by es l.number (closing lines es) h)
        where
          go : (c : Line) × Memᴰ c (closing lines es) × ((c.number ≡ l.number) ⊎ (crosses es l.number c ≡ true))
              → checked l.number (loops b lines) ≡ true
          go (c, i, inl z) = closing_runs es lines sound.rising l.number (loops_are b lines sound) c i z
          go (c, i, inr z) = (checked_iff_crossed l m).1 (inr (c, i, z))
