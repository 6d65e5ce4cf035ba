-- Lines are marked along two ways of the tree, to where they meet: when a line is passed, the rest is the same task from a nearer mark.
-- Assumes nothing.
use Prim.Native.Nat.{ℕ, ◌+◌, ◌*◌, ◌-◌, ◌≤◌, ◌<◌}
use native.Mathlib.Omega.{arith}
use native.Mathlib.Decide.{ℕ_discrete}
use mathlib.Core.Path.{◌≡◌, refl, sym, ◌∙◌, ap, ap₂, subst}
use mathlib.Core.Bool.{Bool, true, false, ◌||◌, or-false, or_assoc}
use mathlib.Core.List.{List, Memᴰ}
use lib.ListN.{length, get_or, set, length-set}
use lib.Seq.{get_or-set_same, get_or-set_other}
use lib.Dec.{eqb}
use borrow.Author.Tests.{eqb-true, eq-eqb, ne_eqb}
use Rattle.book.specs.Limits.{least_length}
use Rattle.network.specs.Standing.{Line}
use Rattle.network.specs.Tree.{Tree, tree}
use Rattle.network.proofs.Subgraph.{or_right}
use Rattle.loops.specs.Crossed.{on_way, differ, crosses}
use Rattle.loops.proofs.Ways.{differ_turn, same_differ}
use Rattle.chains.specs.Chains.{fore, aft, mark_of, number_limit}
use Rattle.unchecked.specs.Ways.{checked_mark, is_marked, IsMark, TreeHeld, Climbed, Follows, Followed}
use Rattle.unchecked.proofs.Following.{held_mark, distance_at, Step, step_at, meet}

-- ---- one mark more

-- marked are the lines that were, and line i
marked_set : (marked : List ℕ) (i : ℕ) → i < length marked → (j : ℕ)
    → is_marked (set marked i checked_mark) j ≡ (is_marked marked j || eqb i j)
marked_set marked i lt j = go (ℕ_discrete j i)
  where
    go : Dec (j ≡ i) → is_marked (set marked i checked_mark) j ≡ (is_marked marked j || eqb i j)
    go (yes e) =
        ap (λ (k : ℕ). is_marked (set marked i checked_mark) k) e
        ∙ ap (λ (k : ℕ). eqb k checked_mark) (get_or-set_same marked i checked_mark 0 lt)
        ∙ sym (or_right (is_marked marked j) (eqb i j) (eq-eqb i j (sym e)))
    go (no d) =
        ap (λ (k : ℕ). eqb k checked_mark) (get_or-set_other marked i j checked_mark 0 d) ∙ sym (or-false (is_marked marked j))
        ∙ ap (λ (t : Bool). is_marked marked j || t) (sym (ne_eqb i j (λ z. d (sym z))))

-- ---- two ways, to where they meet

-- a line that is passed, as e says, is on this way and not on the other; any other is on the rest w exactly if it is on the whole way a
passes : (e m : Bool) {a b : Bool} (w : Bool) → a ≡ (e || w) → (e ≡ true → b ≡ false) → ((m || e) || differ w b) ≡ (m || differ a b)
passes e true w p q = refl
passes true false w p q = sym (ap₂ differ p (q refl))
passes false false {b = b} w p q = ap (λ (x : Bool). differ x b) (sym p)

-- one line of the way of u is passed, to the mark r
module _ {n : ℕ} {lines : List Line} {ends best : List ℕ} {t : TreeHeld n lines ends best} {u : ℕ} (s : Step n lines ends best t u)
    {marked marked₁ : List ℕ} {r : ℕ} (c : Climbed ends best marked marked₁ u r) where
  abbrev es : Tree
  es = tree (n - 1) lines

  r_is : r ≡ s.u
  r_is = c.nearer ∙ s.nearer

  r_mark : IsMark n r
  r_mark = rw r_is s.u_is

  r_nearer : distance_at best r + least_length ≤ distance_at best u
  r_nearer = rw r_is s.falls

  -- what is marked and what is left stay together the same
  same : (v : ℕ) → IsMark n v → get_or best v 0 < get_or best u 0 → number_limit ≤ length marked → (j : ℕ)
      → (is_marked marked₁ j || differ (on_way es j r) (on_way es j v)) ≡ (is_marked marked j || differ (on_way es j u) (on_way es j v))
  same v iv farther room j =
      rw (c.marks, s.number, marked_set marked s.l.number (omega (arith, s.small)) j, r_is)
      (passes (eqb s.l.number j) (is_marked marked j) (on_way es j s.u) (s.way j) clear)
    where
      clear : eqb s.l.number j ≡ true → on_way es j v ≡ false
      clear e = rw (← eqb-true s.l.number j e) (s.clear v iv farther)

-- there is as much room as before
pub climbed_length : {ends best marked marked₁ : List ℕ} {m r : ℕ} → Climbed ends best marked marked₁ m r → length marked₁ ≡ length marked
climbed_length c = rw (c.marks, length-set)

-- the two marks may change places
pub follows_turn : {ends best marked : List ℕ} {u v : ℕ} → Follows ends best marked u v → Follows ends best marked v u
follows_turn p =
    record { marks = p.marks; n = p.n; bests = p.bests; lines = p.lines; held = p.held; u_is = p.v_is; v_is = p.u_is }

module _ {ends best marked : List ℕ} {u v : ℕ} (p : Follows ends best marked u v) where
  -- where the ways meet nothing is left to mark
  pub followed_met : get_or best u 0 ≡ get_or best v 0 → Followed ends best marked marked u v
  followed_met e n lines t iu iv j = rw (same_differ _ _ (meet n lines ends best t u v iu iv e j), or-false)

  -- u is farther than v, and so no root: one line of its way is passed
  module _ (farther : get_or best v 0 < get_or best u 0) {marked₁ : List ℕ} {r : ℕ} (c : Climbed ends best marked marked₁ u r) where
    step : {n : ℕ} {lines : List Line} (t : TreeHeld n lines ends best) → IsMark n u → Step n lines ends best t u
    step t iu = step_at _ _ _ _ t u iu (omega arith)

    -- "the distance falls at each step"
    pub distance_falls : distance_at best r + least_length ≤ distance_at best u
    distance_falls = r_nearer (step p.held p.u_is) c

    -- the ways of r and v are followed next
    pub follows_rest : Follows ends best marked₁ r v
    follows_rest = record {
      marks = rw (climbed_length c) p.marks;
      n = p.n;
      bests = p.bests;
      lines = p.lines;
      held = p.held;
      u_is = r_mark (step p.held p.u_is) c;
      v_is = p.v_is;
    }

    -- and then those of u and v have been, whichever of the two is named first
    pub followed_rest : (marked' : List ℕ) → Followed ends best marked₁ marked' r v → Followed ends best marked marked' u v
    followed_rest marked' f n lines t iu iv j =
        let s = step t iu in
        f n lines t (r_mark s c) iv j ∙ same s c v iv farther p.marks j

    pub followed_turn : (marked' : List ℕ) → Followed ends best marked₁ marked' r v → Followed ends best marked marked' v u
    followed_turn marked' f n lines t iv iu j = rw differ_turn (followed_rest marked' f n lines t iu iv j)

-- ---- one closing line

module _ {n : ℕ} {lines : List Line} {ends best : List ℕ} (t : TreeHeld n lines ends best) (c : Line)
    (is_line : Memᴰ c lines) {number : ℕ} (its : c.number ≡ number) where
  -- its ends stand in ends
  pub from_at : mark_of ends (number * 2 + 1) ≡ c.from
  from_at = held_mark t c c.to c.from (number * 2 + 1) is_line (aft refl refl (omega arith))

  pub to_at : mark_of ends (number * 2) ≡ c.to
  to_at = held_mark t c c.from c.to (number * 2) is_line (fore refl refl (omega arith))

  pub from_mark : IsMark n (mark_of ends (number * 2 + 1))
  from_mark = subst (IsMark n) (sym from_at) ((t.sound c is_line).from_low, (t.sound c is_line).from_high)

  pub to_mark : IsMark n (mark_of ends (number * 2))
  to_mark = subst (IsMark n) (sym to_at) ((t.sound c is_line).to_low, (t.sound c is_line).to_high)

  pub small_number : number < number_limit
  small_number = omega (arith, (t.sound c is_line).number)

  -- the line is marked, and so is what it crosses
  pub loop_checked : (marked marked' : List ℕ) → number_limit ≤ length marked
      → Followed ends best (set marked number checked_mark) marked' (mark_of ends (number * 2 + 1)) (mark_of ends (number * 2))
      → (j : ℕ) → is_marked marked' j ≡ (is_marked marked j || (eqb c.number j || crosses (tree (n - 1) lines) j c))
  unfolding crosses
  loop_checked marked marked' room fo j =
      fo n lines t from_mark to_mark j
      ∙ ap₂ (λ (x y : Bool). x || y) (marked_set marked number (omega (arith, small_number)) j ∙ ap
      (λ (k : ℕ). is_marked marked j || eqb k j) (sym its))
      (ap₂ (λ (x y : ℕ). differ (on_way (tree (n - 1) lines) j x) (on_way (tree (n - 1) lines) j y)) from_at to_at)
      ∙ or_assoc (is_marked marked j) (eqb c.number j)
      (differ (on_way (tree (n - 1) lines) j c.from) (on_way (tree (n - 1) lines) j c.to))
