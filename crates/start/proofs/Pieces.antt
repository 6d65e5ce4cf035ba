-- The places of the marks in the tree: two marks have one root exactly if a walk joins them, and each tree line leads up by its difference.
-- Assumes nothing.
use Prim.Native.Nat.{ℕ, zero, suc, ◌+◌, ◌≤◌, ◌<◌}
use native.Mathlib.Omega.{arith}
use native.Mathlib.Decide.{ℕ_discrete, dec_lt}
use mathlib.Core.Path.{◌≡◌, refl, sym, ◌∙◌, ap, subst}
use mathlib.Core.Logic.{◌↔◌}
use mathlib.Core.Bool.{Bool, true, false, true≢false}
use mathlib.Core.List.{List, [], ◌∷◌, ◌++◌}
use mathlib.Core.Option.{Option, none, some}
use lib.Dec.{eqb}
use lib.IntN.{ℤ}
use borrow.Author.Tests.{eqb-true, eqb-false, eq-eqb, ne_eqb}
use Rattle.network.specs.Standing.{Line}
use Rattle.network.specs.Sound.{Sound}
use Rattle.network.specs.Walk.{Ends, along, against, here}
use Rattle.network.specs.Tree.{Entry, entry, Tree, distance, far, tree}
use Rattle.network.specs.Piece.{root_if, root_at}
use Rattle.network.specs.Growth.{Growth, nothing, enters, next_root}
use Rattle.network.proofs.Grown.{Scored, scored, After, new, old, after, ends_to}
use Rattle.network.proofs.Shortest.{never, turn}
use Rattle.network.proofs.Growth.{tree_grows}
use Rattle.network.proofs.ClosingLines.{has_distance}
use Rattle.network.proofs.Roots.{root_is_lowest}
use Rattle.network.proofs.Walks.{Way, walk_append, way_back, over}
use Rattle.start.specs.Start.{Rooted, up, down, is_some, rooted_by, root_height, root_of}
use Rattle.start.specs.Start as start
use Rattle.start.proofs.Lifting.{free_mark, held_here, held_elsewhere}

-- ---- a tree by its newest entry

pub rooted_new : (e : Entry) (es : Tree) (m : ℕ) → e.mark ≡ m → rooted_by (e ∷ es) m ≡ start.enters (λ k. rooted_by es k) m e.by
unfolding rooted_by
rooted_new e es m p = rw (eq-eqb e.mark m p, rooted_by)

pub rooted_old : (e : Entry) (es : Tree) (m : ℕ) → (e.mark ≡ m → ⊥) → rooted_by (e ∷ es) m ≡ rooted_by es m
unfolding rooted_by
rooted_old e es m p = rw (ne_eqb e.mark m p, rooted_by)

root_new : (e : Entry) (es : Tree) → root_at (e ∷ es) e.mark ≡ root_if e.by
unfolding root_at
root_new e es = rw (eq-eqb e.mark e.mark refl)

root_old : (e : Entry) (es : Tree) (m : ℕ) → (e.mark ≡ m → ⊥) → root_at (e ∷ es) m ≡ root_at es m
unfolding root_at
root_old e es m d = rw (ne_eqb e.mark m d)

-- what is not in the tree is no root
root_out : (es : Tree) (m : ℕ) → distance es m ≡ none → root_at es m ≡ false
unfolding root_at
root_out [] m h = refl
root_out (e ∷ es) m h = go (after e es m) (root_out es m)
  where
    go : After e es m → (distance es m ≡ none → root_at es m ≡ false) → root_at (e ∷ es) m ≡ false
    go (new p q) ih = never q h
    go (old p q) ih = root_old e es m p ∙ ih (sym q ∙ h)

-- a mark that comes in by a line, by the line's to
abbrev pub by_side : (ℕ → Rooted) → Line → Bool → Rooted
by_side before l t = elim t [ true ↦ up (before l.from) l.difference | false ↦ down (before l.to) l.difference ]

pub by_side_lem : (before : ℕ → Rooted) (l : Line) (m : ℕ) (t : Bool) → eqb l.to m ≡ t → start.enters before m (some l) ≡ by_side before l t
by_side_lem before l m t e = ap (by_side before l) e

-- it has the root of the mark at the line's other end
comes_by : (before : ℕ → Rooted) (l : Line) (near m : ℕ) → Ends l near m → (near ≡ m → ⊥)
    → (start.enters before m (some l)).root ≡ (before near).root
comes_by before l near m (along p q) d =
    ap (λ (x : Rooted). x.root) (by_side_lem before l m true (eq-eqb l.to m q)) ∙ ap (λ (x : ℕ). (before x).root) p
comes_by before l near m (against p q) d =
    ap (λ (x : Rooted). x.root) (by_side_lem before l m false (ne_eqb l.to m (λ z. d (sym p ∙ z)))) ∙ ap (λ (x : ℕ). (before x).root) p

module _ (b : ℕ) (lines : List Line) (sound : Sound b lines) where
  -- the root of a mark of the tree is a root, and a walk leads to it
  record InPiece (es : Tree) (m : ℕ) : Type 0 where
    is_root : root_at es (rooted_by es m).root ≡ true
    low : 0 < (rooted_by es m).root
    way : Way lines (rooted_by es m).root m

  -- so it stays when a mark enters
  stays_in : (e : Entry) (es : Tree) (m d : ℕ) → distance es e.mark ≡ none → distance es m ≡ some d → InPiece es m → InPiece (e ∷ es) m
  stays_in e es m d out is_in t =
      let x = rooted_old e es m (λ z. never is_in (ap (distance es) (sym z) ∙ out)) in
      record {
        is_root = ap (λ (p : Rooted). root_at (e ∷ es) p.root) x
            ∙ root_old e es (rooted_by es m).root (λ z. true≢false
            (sym t.is_root ∙ root_out es (rooted_by es m).root (ap (distance es) (sym z) ∙ out)))
            ∙ t.is_root;
        low = subst (λ (p : Rooted). 0 < p.root) (sym x) t.low;
        way = subst (λ (p : Rooted). Way lines p.root m) (sym x) t.way;
      }

  in_piece : {es : Tree} → Growth b lines es → (m d : ℕ) → distance es m ≡ some d → InPiece es m
  unfolding distance
  in_piece nothing m d h = never h refl
  in_piece (enters {es = es} {c = c} g x) m d h = go (after e es m) (λ h. in_piece g m d h) (in_piece g sc.near sc.d sc.is_in)
    where
      e : Entry
      e = entry (far es c.line) c.score (some c.line)

      sc : Scored es c.line c.score
      sc = scored es c.line c.score x.its_score

      out : distance es (far es c.line) ≡ none
      out = ap (distance es) sc.is_far ∙ sc.is_out

      go : After e es m → (distance es m ≡ some d → InPiece es m) → InPiece es sc.near → InPiece (e ∷ es) m
      go (old p q) ih near = let k = sym q ∙ h in stays_in e es m d out k (ih k)
      go (new p q) ih near =
          let ends : Ends c.line sc.near m = ends_to (sym sc.is_far ∙ p) sc.ends in
          let same : (rooted_by (e ∷ es) m).root ≡ (rooted_by es sc.near).root =
          ap (λ (y : Rooted). y.root) (rooted_new e es m p)
          ∙ comes_by (λ k. rooted_by es k) c.line sc.near m ends (λ z. never sc.is_in (ap (distance es) (z ∙ sym p) ∙ out)) in
          let o = over c.line m sc.near x.is_line (turn ends) in
          record {
            is_root = ap (root_at (e ∷ es)) same
                ∙ root_old e es (rooted_by es sc.near).root
                (λ z. true≢false (sym near.is_root ∙ root_out es (rooted_by es sc.near).root (ap (distance es) (sym z) ∙ out)))
                ∙ near.is_root;
            low = subst (λ (r : ℕ). 0 < r) (sym same) near.low;
            way = subst (λ (r : ℕ). Way lines r m) (sym same) (o.0 ++ near.way.0, walk_append o.1 near.way.1);
          }
  in_piece (next_root {es = es} {m = k} g dn n) m d h = go (after e es m) (λ h. in_piece g m d h)
    where
      e : Entry
      e = entry k 0 none

      go : After e es m → (distance es m ≡ some d → InPiece es m) → InPiece (e ∷ es) m
      go (old p q) ih = let z = sym q ∙ h in stays_in e es m d n.is_out z (ih z)
      go (new p q) ih =
          let same : (rooted_by (e ∷ es) m).root ≡ m = ap (λ (y : Rooted). y.root) (rooted_new e es m p) in
          record {
            is_root = ap (root_at (e ∷ es)) (same ∙ sym p) ∙ root_new e es;
            low = subst (λ (r : ℕ). 0 < r) (sym same) (omega (arith, p, n.low));
            way = subst (λ (r : ℕ). Way lines r m) (sym same) ([], here refl);
          }

  abbrev pub at : ℕ → Rooted
  at m = rooted_by (tree b lines) m

  its_piece : (m : ℕ) → 0 < m → m ≤ b → InPiece (tree b lines) m
  its_piece m low high = let d = has_distance b lines sound m low high in in_piece (tree_grows b lines sound) m d.0 d.1

  -- marks that a walk joins have one root
  not_below : (a c : ℕ) → InPiece (tree b lines) a → InPiece (tree b lines) c → Way lines a c → (at a).root < (at c).root → ⊥
  not_below a c x y w l =
      let back = way_back y.way.1 in
      root_is_lowest b lines sound (tree_grows b lines sound) (at c).root (at a).root y.is_root x.low l
      (walk_append (walk_append back.1 w.1) x.way.1)

  pub joined_one_root : (a c : ℕ) → 0 < a → a ≤ b → 0 < c → c ≤ b → Way lines a c → (at a).root ≡ (at c).root
  joined_one_root a c al au cl cu w = go (dec_lt (at a).root (at c).root) (dec_lt (at c).root (at a).root)
    where
      go : Dec ((at a).root < (at c).root) → Dec ((at c).root < (at a).root) → (at a).root ≡ (at c).root
      go (yes l) r = absurd (not_below a c (its_piece a al au) (its_piece c cl cu) w l)
      go (no k) (yes l) = absurd (not_below c a (its_piece c cl cu) (its_piece a al au) (way_back w.1) l)
      go (no k) (no l) = omega arith

  -- and marks that have one root a walk joins
  pub one_root_joined : (a c : ℕ) → 0 < a → a ≤ b → 0 < c → c ≤ b → (at a).root ≡ (at c).root → Way lines a c
  one_root_joined a c al au cl cu e =
      let x = its_piece a al au in
      let y = its_piece c cl cu in
      let w = subst (λ (r : ℕ). Way lines r c) (sym e) y.way in
      let back = way_back x.way.1 in
      (w.0 ++ back.0, walk_append w.1 back.1)

-- ---- whether a piece has a held mark

module _ (at : ℕ → Rooted) (held : ℕ → Option ℤ) (r : ℕ) where
  -- a held mark of root r from m on, among k marks
  abbrev HeldFrom : ℕ → ℕ → Type 0
  HeldFrom m k = (j : ℕ) × (m ≤ j) × (j < m + k) × (is_some (held j) ≡ true) × ((at j).root ≡ r)

  later : (m k : ℕ) → HeldFrom (suc m) k → HeldFrom m (suc k)
  later m k h = (h.0, omega (arith, h.1), omega (arith, h.2), h.3, h.4)

  held_there : (m k : ℕ) → is_some (root_height at held r m k) ≡ true → HeldFrom m k
  unfolding root_height
  held_there m zero e = absurd (true≢false (sym e))
  held_there m (suc k) e = go (held m) refl (eqb (at m).root r) refl (held_there (suc m) k)
    where
      go : (o : Option ℤ) → held m ≡ o → (t : Bool) → eqb (at m).root r ≡ t
          → (is_some (root_height at held r (suc m) k) ≡ true → HeldFrom (suc m) k) → HeldFrom m (suc k)
      go none p t q ih = later m k (ih (ap is_some (sym (free_mark at held r m k p)) ∙ e))
      go (some z) p true q ih = here_is z p (eqb-true (at m).root r q)
        where
          here_is : (z : ℤ) → held m ≡ some z → (at m).root ≡ r → HeldFrom m (suc k)
          here_is z p q = (m, omega arith, omega arith, ap is_some p, q)
      go (some z) p false q ih = later m k (ih (ap is_some (sym (held_elsewhere at held r m k z p q)) ∙ e))

  there_held : (m k : ℕ) → HeldFrom m k → is_some (root_height at held r m k) ≡ true
  there_held m zero h = absurd (omega (arith, h.1, h.2))
  there_held m (suc k) h =
      go (held m) refl (eqb (at m).root r) refl (ℕ_discrete h.0 m)
      (λ d. there_held (suc m) k (h.0, omega (arith, h.1, d), omega (arith, h.2), h.3, h.4))
    where
      go : (o : Option ℤ) → held m ≡ o → (t : Bool) → eqb (at m).root r ≡ t → Dec (h.0 ≡ m)
          → ((h.0 ≡ m → ⊥) → is_some (root_height at held r (suc m) k) ≡ true) → is_some (root_height at held r m (suc k)) ≡ true
      go none p t q (yes z) ih = absurd (true≢false (sym h.3 ∙ ap (λ (x : ℕ). is_some (held x)) z ∙ ap is_some p))
      go none p t q (no d) ih = ap is_some (free_mark at held r m k p) ∙ ih d
      go (some z) p true q d ih = ap is_some (held_here at held r m k z p q)
      go (some z) p false q (yes w) ih = absurd (eqb-false (at m).root r q (ap (λ (x : ℕ). (at x).root) (sym w) ∙ h.4))
      go (some z) p false q (no d) ih = ap is_some (held_elsewhere at held r m k z p q) ∙ ih d

-- a root has a height exactly if a walk joins the mark with a held one
module _ (b : ℕ) (lines : List Line) (sound : Sound b lines) (held : ℕ → Option ℤ) (m : ℕ) (low : 0 < m) (high : m ≤ b) where
  pub piece_is_held : (is_some (root_of (rooted_by (tree b lines)) held b m) ≡ true)
      ↔ ((k : ℕ) × (0 < k) × (k ≤ b) × (is_some (held k) ≡ true) × Way lines k m)
  piece_is_held = (
    λ e.
        let h = held_there (rooted_by (tree b lines)) held (rooted_by (tree b lines) m).root 1 b e in (
          h.0,
          omega (arith, h.1),
          omega (arith, h.2),
          h.3,
          one_root_joined b lines sound h.0 m (omega (arith, h.1))
              (omega (arith, h.2)) low high h.4,
        ),
    λ h. there_held (rooted_by (tree b lines)) held (rooted_by (tree b lines) m).root 1 b
        (h.0, omega (arith, h.1), omega (arith, h.2), h.3, joined_one_root b lines sound h.0 m h.1 h.2 low high h.4),
  )
