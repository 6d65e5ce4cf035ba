-- All closing lines are checked, by rising number: which they are, and what is marked after them. Assumes nothing.
use Prim.Native.Nat.{ℕ, ◌+◌, ◌*◌, ◌-◌, ◌≤◌, ◌<◌}
use native.Mathlib.Omega.{arith}
use native.Mathlib.Decide.{ℕ_discrete}
use mathlib.Core.Path.{◌≡◌, refl, sym, ◌∙◌, ap, subst}
use mathlib.Core.Logic.{◌⊎◌, inl, inr}
use mathlib.Core.Bool.{Bool, true, false, not, ◌||◌, cond, false≢true}
use mathlib.Core.List.Memᴰ
use mathlib.Core.List.{List, ◌∷◌, Memᴰ}
use mathlib.Core.Option.{none, some, none-ne-some, some-injective}
use lib.ListN.{get_or}
use lib.Dec.{eqb}
use borrow.Author.Tests.{eqb-false, ne_eqb}
use Rattle.laws.proofs.Tests.{same_test}
use Rattle.network.specs.Standing.{Line}
use Rattle.network.specs.Tree.{Entry, Tree, distance, tree, tree_lines}
use Rattle.network.specs.Closing.{closing}
use Rattle.network.proofs.Grown.{After, new, old, after, Grown, empty, by_line, by_root, is_new, keeps}
use Rattle.network.proofs.Shortest.{never}
use Rattle.network.proofs.Count.{unique}
use Rattle.network.proofs.ClosingLines.{tree_line_or_closing_line, never_tree_line_and_closing_line, closing_line_stands}
use Rattle.network.proofs.Subgraph.{in_tree_lines, of_tree_lines, or_true, or_right}
use Rattle.loops.specs.Crossed.{crosses, crossed}
use Rattle.loops.proofs.Crossed.{checks_one, one_checks, crossed_by, in_crossed}
use Rattle.chains.specs.Chains.{Half, fore, aft, mark_of, number_limit}
use Rattle.chains.specs.Listed.{Listed}
use Rattle.chains.proofs.Halves.{half_no, line_metres}
use Rattle.search.specs.Front.{came, By, Key}
use Rattle.search.specs.Front as f
use Rattle.search.proofs.Enter.{came_new, came_old}
use Rattle.tree.specs.Plant.{Holding}
use Rattle.unchecked.specs.Ways.{checked_mark, is_marked, IsMark, TreeHeld, line_in, closes_at, Passed, closing_line, other_line}
use Rattle.unchecked.proofs.Following.{tree_held, entry_came, book_sound, grown_tree, key_at}
use Rattle.unchecked.proofs.Marking.{from_at, to_at}

-- ---- a mark came in by the line of its entry

-- of a mark in the tree
abbrev Came : Tree → Entry → Type 0
Came es x = (came es x.mark ≡ x.by) × ((d : ℕ) × (distance es x.mark ≡ some d))

came_on : (e : Entry) (es : Tree) → distance es e.mark ≡ none → (x : Entry) → Memᴰ x (e ∷ es) → (Memᴰ x es → Came es x)
    → Came (e ∷ es) x
came_on e es out x (Memᴰ.head p) ih = subst (Came (e ∷ es)) (sym p) (came_new e es e.mark refl, hit (after e es e.mark))
  where
    hit : After e es e.mark → (d : ℕ) × (distance (e ∷ es) e.mark ≡ some d)
    hit (new q h) = (e.dist, h)
    hit (old q h) = absurd (q refl)
came_on e es out x (Memᴰ.tail i) ih =
    let k = ih i in (
      came_old e es x.mark (λ z. never k.1.1 (ap (distance es) (sym z) ∙ out))
          ∙ k.0,
      (k.1.0, keeps e es x.mark k.1.0 out k.1.1),
    )

came_in : (lines : List Line) {es : Tree} → Grown lines es → (x : Entry) → Memᴰ x es → Came es x
came_in lines empty x i = absurd (Memᴰ.not-nil i)
came_in lines (by_line {e = e} {es = es} g b) x i = came_on e es (is_new b) x i (came_in lines g x)
came_in lines (by_root {e = e} {es = es} g b) x i = came_on e es b.out x i (came_in lines g x)

-- ---- the lines that close are the closing lines

-- the three tests of a line
tests : (a b c : Bool) → cond a false (cond b false (not c)) ≡ true → (a ≡ false) × (b ≡ false) × (c ≡ false)
tests true b c h = absurd (false≢true h)
tests false true c h = absurd (false≢true h)
tests false false true h = absurd (false≢true h)
tests false false false h = (refl, refl, refl)

module _ {n q : ℕ} {lines : List Line} {ends best order : List ℕ} (li : Listed lines n q ends)
    (ho : Holding (tree (n - 1) lines) best order ends) where
  abbrev es : Tree
  es = tree (n - 1) lines

  held : TreeHeld n lines ends best
  held = tree_held li ho

  -- a mark that came in by a line of this number came in by a tree line
  came_by : (m k : ℕ) → IsMark n m → 0 < k → line_in best m ≡ k → (l : Line) × Memᴰ l (tree_lines es) × (l.number ≡ k)
  came_by m k is low e = go (key_at n lines ends best held m is)
    where
      go : (d : ℕ) × (distance es m ≡ some d) × Key es best ends m d → (l : Line) × Memᴰ l (tree_lines es) × (l.number ≡ k)
      go (d, at, ky) = by ky.by (entry_came es m d at)
        where
          by : By es ends m d ky.h → (x : Entry) × Memᴰ x es × (x.mark ≡ m) × (x.by ≡ came es m)
              → (l : Line) × Memᴰ l (tree_lines es) × (l.number ≡ k)
          by (f.root c a b) x = absurd (omega (arith, ky.key, b))
          by (f.line l u du c hf lo tp i s) (x, x_in, x_mark, x_by) =
              (l, in_tree_lines es l (x, x_in, x_by ∙ c), omega (arith, ky.key, ky.low, half_no hf))

  -- so a closing line stands, and no end of it came in by it
  pub closing_closes : (c : Line) → Memᴰ c (closing lines es) → closes_at ends best c.number ≡ true
  closing_closes c m =
      let stands = closing_line_stands (n - 1) lines (book_sound n lines ends best held) c m in
      let so = li.sound c stands in
      let other : (u : ℕ) → IsMark n u → (v : ℕ) → v ≡ u → line_in best v ≡ c.number → ⊥
      = (λ u is v same e.
      let w = came_by u c.number is so.numbered (ap (line_in best) (sym same) ∙ e) in
      never_tree_line_and_closing_line (n - 1) lines (book_sound n lines ends best held) w.0 c w.1 m (sym w.2)) in
      rw (
        ne_eqb (get_or ends (c.number * 2) 0) 0 (λ z. omega (arith, line_metres li c stands, so.long)),
        ne_eqb (line_in best (mark_of ends (c.number * 2))) c.number
            (other c.to (so.to_low, so.to_high) _ (to_at held c stands refl)),
        ne_eqb (line_in best (mark_of ends (c.number * 2 + 1))) c.number
            (other c.from (so.from_low, so.from_high) _ (from_at held c stands refl)),
      )

  -- and a tree line is the one by which one of its ends came in
  tree_line_came : (l : Line) → Memᴰ l (tree_lines es) → (line_in best l.to ≡ l.number) ⊎ (line_in best l.from ≡ l.number)
  tree_line_came l i = go (of_tree_lines es l i)
    where
      go : (x : Entry) × Memᴰ x es × (x.by ≡ some l) → (line_in best l.to ≡ l.number) ⊎ (line_in best l.from ≡ l.number)
      go (x, x_in, its) = by ky.by
        where
          k : Came es x
          k = came_in lines (grown_tree n lines ends best held) x x_in

          ky : Key es best ends x.mark k.1.0
          ky = ho.keyed x.mark k.1.0 k.1.1

          by : By es ends x.mark k.1.0 ky.h → (line_in best l.to ≡ l.number) ⊎ (line_in best l.from ≡ l.number)
          by (f.root c a b) = absurd (none-ne-some l (sym c ∙ k.0 ∙ its))
          by (f.line m u du c hf lo tp i s) =
              half (subst (λ (z : Line). Half z u x.mark ky.h) (some-injective _ _ (sym c ∙ k.0 ∙ its)) hf)
            where
              half : Half l u x.mark ky.h → (line_in best l.to ≡ l.number) ⊎ (line_in best l.from ≡ l.number)
              half (fore p z e) = inl (ap (line_in best) z ∙ omega (arith, ky.key, ky.low))
              half (aft p z e) = inr (ap (line_in best) z ∙ omega (arith, ky.key, ky.low))

  -- so that a line that closes is a closing line
  pub closes_closing : (k : ℕ) → k < q → closes_at ends best k ≡ true → (c : Line) × Memᴰ c (closing lines es) × (c.number ≡ k)
  closes_closing k lt h =
      let t = tests (eqb (get_or ends (k * 2) 0) 0) (eqb (line_in best (mark_of ends (k * 2))) k)
      (eqb (line_in best (mark_of ends (k * 2 + 1))) k) h in
      let w = li.line_of k lt (omega (arith, eqb-false (get_or ends (k * 2) 0) 0 t.0)) in
      go w.0 w.1 w.2 (eqb-false _ _ t.1) (eqb-false _ _ t.2)
      (tree_line_or_closing_line (n - 1) lines (book_sound n lines ends best held) w.0 w.1)
    where
      go : (l : Line) → Memᴰ l lines → l.number ≡ k → (line_in best (mark_of ends (k * 2)) ≡ k → ⊥)
          → (line_in best (mark_of ends (k * 2 + 1)) ≡ k → ⊥)
          → Memᴰ l (tree_lines es) ⊎ Memᴰ l (closing lines es) → (c : Line) × Memᴰ c (closing lines es) × (c.number ≡ k)
      go l i e no_to no_from (inr c) = (l, c, e)
      go l i e no_to no_from (inl t) = absurd (neither (tree_line_came l t))
        where
          neither : (line_in best l.to ≡ l.number) ⊎ (line_in best l.from ≡ l.number) → ⊥
          neither (inl z) = no_to (ap (line_in best) (to_at held l i e) ∙ z ∙ e)
          neither (inr z) = no_from (ap (line_in best) (from_at held l i e) ∙ z ∙ e)

-- ---- what is marked so far

-- all that is marked is to be marked, and what the closing lines with numbers below `number` check is marked
pub record SoFar (n : ℕ) (lines : List Line) (marked : List ℕ) (number : ℕ) : Type 0 where
  pub sound : (j : ℕ) → j < number_limit → is_marked marked j ≡ true
      → crossed (tree (n - 1) lines) j (closing lines (tree (n - 1) lines)) ≡ true
  pub complete : (c : Line) → Memᴰ c (closing lines (tree (n - 1) lines)) → c.number < number
      → (j : ℕ) → (eqb c.number j || crosses (tree (n - 1) lines) j c) ≡ true → is_marked marked j ≡ true

module _ {n q : ℕ} {lines : List Line} {ends best order : List ℕ} (li : Listed lines n q ends)
    (ho : Holding (tree (n - 1) lines) best order ends) where
  -- at the start nothing is marked
  pub start_so_far : {marked : List ℕ} → ((j : ℕ) → j < number_limit → get_or marked j 0 ≡ 0) → SoFar n lines marked 1
  start_so_far z = record {
    sound = λ j lt h. absurd (false≢true (sym (ap (λ (k : ℕ). eqb k checked_mark) (z j lt)) ∙ h));
    complete =
        λ c m lt j h. absurd (omega (
          arith,
          lt,
          (li.sound c
              (closing_line_stands (n - 1) lines (book_sound n lines ends best (tree_held li ho)) c m)).numbered,
        ));
  }

  module _ {marked marked' : List ℕ} {number : ℕ} (lt : number < q) (w : SoFar n lines marked number) where
    -- one line more
    pub next_so_far : Passed ends best marked marked' number → SoFar n lines marked' (number + 1)
    next_so_far (other_line h e) = subst (λ (m : List ℕ). SoFar n lines m (number + 1)) (sym e) (record {
      sound = w.sound;
      complete = λ c m less j x. go c m (ℕ_discrete c.number number) less j x;
    })
      where
        go : (c : Line) → Memᴰ c (closing lines (tree (n - 1) lines)) → Dec (c.number ≡ number) → c.number < number + 1
            → (j : ℕ) → (eqb c.number j || crosses (tree (n - 1) lines) j c) ≡ true → is_marked marked j ≡ true
        go c m (yes z) less j x = absurd (false≢true (sym h ∙ ap (closes_at ends best) (sym z) ∙ closing_closes li ho c m))
        go c m (no z) less j x = w.complete c m (omega arith) j x
    next_so_far (closing_line h lc) = record {
      sound = sound;
      complete = λ c m less j x. complete c m
          (ℕ_discrete c.number number) less j x;
    }
      where
        k : (c : Line) × Memᴰ c (closing lines (tree (n - 1) lines)) × (c.number ≡ number)
        k = closes_closing li ho number lt h

        stands : (c : Line) → Memᴰ c (closing lines (tree (n - 1) lines)) → Memᴰ c lines
        stands = closing_line_stands (n - 1) lines (book_sound n lines ends best (tree_held li ho))

        now : (j : ℕ) → is_marked marked' j ≡ (is_marked marked j || (eqb k.0.number j || crosses (tree (n - 1) lines) j k.0))
        now j = lc n lines (tree_held li ho) k.0 (stands k.0 k.1) k.2 j

        sound : (j : ℕ) → j < number_limit → is_marked marked' j ≡ true
            → crossed (tree (n - 1) lines) j (closing lines (tree (n - 1) lines)) ≡ true
        sound j less x = go (or_true (is_marked marked j) (eqb k.0.number j || crosses (tree (n - 1) lines) j k.0) (sym (now j) ∙ x))
          where
            go : (is_marked marked j ≡ true) ⊎ ((eqb k.0.number j || crosses (tree (n - 1) lines) j k.0) ≡ true)
                → crossed (tree (n - 1) lines) j (closing lines (tree (n - 1) lines)) ≡ true
            go (inl y) = w.sound j less y
            go (inr y) =
                in_crossed (tree (n - 1) lines) j (closing lines (tree (n - 1) lines)) k.0 k.1
                (checks_one (tree (n - 1) lines) j k.0 y)

        complete : (c : Line) → Memᴰ c (closing lines (tree (n - 1) lines)) → Dec (c.number ≡ number) → c.number < number + 1
            → (j : ℕ) → (eqb c.number j || crosses (tree (n - 1) lines) j c) ≡ true → is_marked marked' j ≡ true
        complete c m (no z) less j x =
            now j ∙ ap (λ (t : Bool). t || (eqb k.0.number j || crosses (tree (n - 1) lines) j k.0))
            (w.complete c m (omega arith) j x)
        complete c m (yes z) less j x =
            let same = unique lines li.rising c k.0 (stands c m) (stands k.0 k.1) (z ∙ sym k.2) in
            now j ∙ or_right (is_marked marked j) _
            (subst (λ (l : Line). (eqb l.number j || crosses (tree (n - 1) lines) j l) ≡ true) same x)

  -- at the end marked is what is crossed
  pub all_so_far : {marked : List ℕ} {number : ℕ} → q ≤ number → SoFar n lines marked number
      → (j : ℕ) → j < number_limit → is_marked marked j ≡ crossed (tree (n - 1) lines) j (closing lines (tree (n - 1) lines))
  all_so_far {marked = marked} le w j lt =
      same_test (is_marked marked j) (crossed (tree (n - 1) lines) j (closing lines (tree (n - 1) lines))) (w.sound j lt)
      (λ h.
      let k = crossed_by (tree (n - 1) lines) j (closing lines (tree (n - 1) lines)) h in
      let stands = closing_line_stands (n - 1) lines (book_sound n lines ends best (tree_held li ho)) k.0 k.1 in
      w.complete k.0 k.1 (omega (arith, li.numbered k.0 stands)) j (one_checks (tree (n - 1) lines) j k.0 k.2))
