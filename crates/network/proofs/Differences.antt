-- Nothing of the tree, the closing lines or the paths reads a difference or a class: with others they are the same. Assumes nothing.
use Prim.Native.Nat.{ℕ, zero, suc, ◌≤◌, ◌<◌}
use mathlib.Core.Path.{◌≡◌, refl, sym, ◌∙◌, ap, ap₂, subst}
use mathlib.Core.Bool.{Bool, true, false, not, ◌&&◌}
use mathlib.Core.List.Memᴰ
use mathlib.Core.List.{List, [], ◌∷◌, ◌++◌, map}
use mathlib.Core.Option
use mathlib.Core.Option.{Option, none, some}
use lib.Dec.{eqb, leb}
use lib.IntN.{ℤ}
use Rattle.book.specs.Limits.{least_length}
use Rattle.network.specs.Standing.{Line}
use Rattle.network.specs.Sound.{Placed, Rising, none_left, then, Sound}
use Rattle.network.specs.Redone.{Measure, measured, measured_pass}
use Rattle.network.specs.Tree.{Entry, entry, Tree, Candidate, candidate, or_else, distance, score, far_of, far, lower_of, lowest_of}
use Rattle.network.specs.Tree.{lowest, first_out, next, step, grow, marks, tree, pieces, roots1, tree_lines, lines1}
use Rattle.network.specs.Closing.{insert, insert_of, same_line, closer_of, closers_at, just_lines, closing}
use Rattle.network.specs.Path.{Pass, pass, start, stop, down, pick_pass, descent, onward, descend, or_zero, shortest}
use Rattle.network.specs.Subgraph.{is_in, keep_if, only, numbers}

map-append : {A B : Type 0} (f : A → B) (xs ys : List A) → map f (xs ++ ys) ≡ map f xs ++ map f ys
map-append f [] ys = refl
map-append f (x ∷ xs) ys = ap (λ (l : List _). f x ∷ l) (map-append f xs ys)

module _ (g : Line → Measure) where
  -- an entry of the tree over lines measured again
  abbrev pub measured_entry : Entry → Entry
  measured_entry e = entry e.mark e.dist (Option.map (measured g) e.by)

  -- a candidate over a line measured again
  abbrev pub measured_candidate : Candidate → Candidate
  measured_candidate c = candidate c.score (measured g c.line)

  abbrev again : List Line → List Line
  again = map (measured g)

  abbrev again_tree : Tree → Tree
  again_tree = map measured_entry

  -- ---- the tree

  distance_same : (es : Tree) (m : ℕ) → distance (again_tree es) m ≡ distance es m
  unfolding distance
  distance_same [] m = refl
  distance_same (e ∷ es) m = ap (or_else (eqb e.mark m) (some e.dist)) (distance_same es m)

  score_same : (es : Tree) (l : Line) → score (again_tree es) (measured g l) ≡ score es l
  unfolding score
  score_same es l = rw (distance_same es l.from, distance_same es l.to)

  far_same : (es : Tree) (l : Line) → far (again_tree es) (measured g l) ≡ far es l
  unfolding far
  far_same es l = rw (distance_same es l.from) (go (distance es l.from))
    where
      go : (o : Option ℕ) → far_of o (measured g l) ≡ far_of o l
      go none = refl
      go (some d) = refl

  lowest_same : (es : Tree) (lines : List Line) → lowest (again_tree es) (again lines) ≡ Option.map measured_candidate (lowest es lines)
  unfolding lowest
  lowest_same es [] = refl
  lowest_same es (l ∷ ls) = rw (score_same es l, lowest_same es ls) (go (score es l) (lowest es ls))
    where
      go : (s : Option ℕ) (o : Option Candidate)
          → lowest_of s (measured g l) (Option.map measured_candidate o) ≡ Option.map measured_candidate (lowest_of s l o)
      go none o = refl
      go (some s) none = refl
      go (some s) (some c) = pick (leb s c.score)
        where
          pick : (t : Bool)
              → lower_of t (candidate s (measured g l)) (measured_candidate c)
              ≡ Option.map measured_candidate (lower_of t (candidate s l) c)
          pick true = refl
          pick false = refl

  first_out_same : (es : Tree) (ms : List ℕ) → first_out (again_tree es) ms ≡ first_out es ms
  unfolding first_out
  first_out_same es [] = refl
  first_out_same es (m ∷ ms) = rw (distance_same es m, first_out_same es ms)

  step_same : (lines : List Line) (roots : List ℕ) (es : Tree) → step (again lines) roots (again_tree es) ≡ again_tree (step lines roots es)
  unfolding step
  step_same lines roots es = rw (lowest_same es lines, first_out_same es roots) (go (lowest es lines) (first_out es roots))
    where
      go : (o : Option Candidate) (r : Option ℕ) → next (again_tree es) (Option.map measured_candidate o) r ≡ again_tree (next es o r)
      go (some c) r = ap (λ (m : ℕ). entry m c.score (some (measured g c.line)) ∷ again_tree es) (far_same es c.line)
      go none (some m) = refl
      go none none = refl

  -- the same marks enter, by the same lines, at the same distances
  pub grow_same : (lines : List Line) (roots : List ℕ) (k : ℕ) → grow (again lines) roots k ≡ again_tree (grow lines roots k)
  unfolding grow
  grow_same lines roots zero = refl
  grow_same lines roots (suc k) = ap (step (again lines) roots) (grow_same lines roots k) ∙ step_same lines roots (grow lines roots k)

  -- the tree has the same marks at the same distances, in the same order
  pub tree_same : (b : ℕ) (lines : List Line) → tree b (again lines) ≡ again_tree (tree b lines)
  unfolding tree
  tree_same b lines = grow_same lines (marks b) b

  -- the tree's lines are the same, in the same order
  pub tree_lines_same : (es : Tree) → tree_lines (again_tree es) ≡ again (tree_lines es)
  unfolding tree_lines
  tree_lines_same [] = refl
  tree_lines_same (e ∷ es) = go e.by (tree_lines_same es)
    where
      go : (o : Option Line) → tree_lines (again_tree es) ≡ again (tree_lines es)
          → lines1 (Option.map (measured g) o) (tree_lines (again_tree es)) ≡ again (lines1 o (tree_lines es))
      go none h = h
      go (some l) h = ap (λ (ls : List Line). ls ++ (measured g l ∷ [])) h ∙ sym (map-append (measured g) (tree_lines es) (l ∷ []))

  -- the pieces are as many
  pub pieces_same : (es : Tree) → pieces (again_tree es) ≡ pieces es
  unfolding pieces
  pieces_same [] = refl
  pieces_same (e ∷ es) = go e.by (pieces_same es)
    where
      go : (o : Option Line) → pieces (again_tree es) ≡ pieces es
          → roots1 (Option.map (measured g) o) (pieces (again_tree es)) ≡ roots1 o (pieces es)
      go none h = ap suc h
      go (some l) h = h

  -- the lines have the same numbers
  pub numbers_same : (ls : List Line) → numbers (again ls) ≡ numbers ls
  numbers_same [] = refl
  numbers_same (l ∷ ls) = ap (λ (ns : List ℕ). l.number ∷ ns) (numbers_same ls)

  -- ---- the closing lines

  insert_same : (a : Candidate) (cs : List Candidate)
      → insert (measured_candidate a) (map measured_candidate cs) ≡ map measured_candidate (insert a cs)
  unfolding insert
  insert_same a [] = refl
  insert_same a (c ∷ cs) = go (leb a.score c.score) (insert_same a cs)
    where
      go : (t : Bool) → insert (measured_candidate a) (map measured_candidate cs) ≡ map measured_candidate (insert a cs)
          → insert_of t (measured_candidate a) (map measured_candidate (c ∷ cs))
          (measured_candidate c ∷ insert (measured_candidate a) (map measured_candidate cs))
          ≡ map measured_candidate (insert_of t a (c ∷ cs) (c ∷ insert a cs))
      go true h = refl
      go false h = ap (λ (l : List Candidate). measured_candidate c ∷ l) h

  same_line_same : (o : Option Line) (l : Line) → same_line (Option.map (measured g) o) (measured g l) ≡ same_line o l
  same_line_same none l = refl
  same_line_same (some k) l = refl

  closers_at_same : (es : Tree) (e : Entry) (lines : List Line)
      → closers_at (again_tree es) (measured_entry e) (again lines) ≡ map measured_candidate (closers_at es e lines)
  unfolding closers_at
  closers_at_same es e [] = refl
  closers_at_same es e (l ∷ ls) =
      rw (far_same es l, score_same es l, same_line_same e.by l, closers_at_same es e ls)
      (go (eqb (far es l) e.mark && not (same_line e.by l)) (score es l))
    where
      rest : List Candidate
      rest = closers_at es e ls

      go : (t : Bool) (s : Option ℕ)
          → closer_of t s (measured g l) (map measured_candidate rest) ≡ map measured_candidate (closer_of t s l rest)
      go true none = refl
      go true (some s) = insert_same (candidate s l) rest
      go false s = refl

  just_lines_same : (cs : List Candidate) → just_lines (map measured_candidate cs) ≡ again (just_lines cs)
  unfolding just_lines
  just_lines_same [] = refl
  just_lines_same (c ∷ cs) = ap (λ (ls : List Line). measured g c.line ∷ ls) (just_lines_same cs)

  -- the closing lines are the same, in the same order
  pub closing_same : (lines : List Line) (es : Tree) → closing (again lines) (again_tree es) ≡ again (closing lines es)
  unfolding closing
  closing_same lines [] = refl
  closing_same lines (e ∷ es) =
      ap₂ (λ (xs ys : List Line). xs ++ ys) (closing_same lines es)
      (ap just_lines (closers_at_same es e lines) ∙ just_lines_same (closers_at es e lines))
      ∙ sym (map-append (measured g) (closing lines es) (just_lines (closers_at es e lines)))

  -- ---- the paths

  -- the subgraph has the same lines
  pub only_same : (ns : List ℕ) (lines : List Line) → only ns (again lines) ≡ again (only ns lines)
  unfolding only
  only_same ns [] = refl
  only_same ns (l ∷ ls) = go (is_in l.number ns) (only_same ns ls)
    where
      go : (t : Bool) → only ns (again ls) ≡ again (only ns ls)
          → keep_if t (measured g l) (only ns (again ls)) ≡ again (keep_if t l (only ns ls))
      go true h = ap (λ (ks : List Line). measured g l ∷ ks) h
      go false h = h

  down_same : (es : Tree) (p : Pass) → down (again_tree es) (measured_pass g p) ≡ down es p
  unfolding down
  down_same es p = rw (distance_same es (start p), distance_same es (stop p))

  descent_same : (es : Tree) (u : ℕ) (lines : List Line)
      → descent (again_tree es) u (again lines) ≡ Option.map (measured_pass g) (descent es u lines)
  unfolding descent
  descent_same es u [] = refl
  descent_same es u (l ∷ ls) = rw (down_same es (pass l true), down_same es (pass l false), descent_same es u ls)
      (go (eqb l.from u && down es (pass l true)) (eqb l.to u && down es (pass l false)))
    where
      go : (s t : Bool)
          → pick_pass s (measured_pass g (pass l true)) (pick_pass t (measured_pass g (pass l false))
          (Option.map (measured_pass g) (descent es u ls)))
          ≡ Option.map (measured_pass g) (pick_pass s (pass l true) (pick_pass t (pass l false) (descent es u ls)))
      go true t = refl
      go false true = refl
      go false false = refl

  descend_same : (sub : List Line) (es : Tree) (k u : ℕ)
      → descend (again sub) (again_tree es) k u ≡ map (measured_pass g) (descend sub es k u)
  unfolding descend
  descend_same sub es zero u = refl
  descend_same sub es (suc k) u = rw (descent_same es u sub) (go (descent es u sub) (descend_same sub es k))
    where
      go : (o : Option Pass) → ((u : ℕ) → descend (again sub) (again_tree es) k u ≡ map (measured_pass g) (descend sub es k u))
          → onward (Option.map (measured_pass g) o) (λ m. descend (again sub) (again_tree es) k m)
          ≡ map (measured_pass g) (onward o (λ m. descend sub es k m))
      go none ih = refl
      go (some p) ih = ap (λ (ps : List Pass). measured_pass g p ∷ ps) (ih (stop p))

  -- the shortest path runs the same lines the same way
  pub shortest_same : (b : ℕ) (sub : List Line) (u r : ℕ) → shortest b (again sub) u r ≡ map (measured_pass g) (shortest b sub u r)
  unfolding shortest
  shortest_same b sub u r =
      rw (grow_same sub (r ∷ []) b, distance_same (grow sub (r ∷ []) b) u)
      (descend_same sub (grow sub (r ∷ []) b) (or_zero (distance (grow sub (r ∷ []) b) u)) u)

  -- ---- the lines stay sound

  rising_same : {lines : List Line} → Rising lines → Rising (again lines)
  rising_same none_left = none_left
  rising_same (then {l = l} {ls = ls} above r) =
      then (λ k i. let m = Memᴰ.of_map (measured g) ls i in subst (λ (x : Line). l.number < x.number) m.2 (above m.0 m.1))
      (rising_same r)

  -- lines measured again are sound
  pub sound_same : {b : ℕ} {lines : List Line} → Sound b lines → Sound b (again lines)
  sound_same {b = b} {lines = lines} sound = record {
    placed = λ l i. let m = Memᴰ.of_map (measured g) lines i in
        subst (Placed b) m.2 (let p = sound.placed m.0 m.1 in
        record { from_low = p.from_low; from_high = p.from_high; to_low = p.to_low; to_high = p.to_high });
    apart = λ l i. let m = Memᴰ.of_map (measured g) lines i in subst (λ (x : Line). x.from ≡ x.to → ⊥) m.2
        (sound.apart m.0 m.1);
    long_enough = λ l i. let m = Memᴰ.of_map (measured g) lines i in subst (λ (x : Line). least_length ≤ x.length) m.2
        (sound.long_enough m.0 m.1);
    rising = rising_same sound.rising;
  }
