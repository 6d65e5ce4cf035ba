-- "in each piece the lowest held mark has its held height, the others follow along the tree": the heights before held marks are set to
-- their own.
-- Assumes nothing.
use Prim.Native.Nat.{ℕ, zero, suc, ◌+◌, ◌≤◌, ◌<◌}
use native.Mathlib.Omega.{arith}
use native.Mathlib.Decide.{ℕ_discrete}
use mathlib.Core.Path.{◌≡◌, refl, sym, ◌∙◌, ap, subst}
use mathlib.Core.Logic.{◌⊎◌, inl, inr}
use mathlib.Core.Bool.{Bool, true, false}
use mathlib.Core.List.Memᴰ
use mathlib.Core.List.{List, [], ◌∷◌, Memᴰ}
use mathlib.Core.Option.{Option, none, some, some-ne-none}
use lib.Dec.{eqb}
use lib.IntN.{ℤ, ◌+ℤ◌, ◌-ℤ◌, +ℤ_assoc, -ℤ-+ℤ_cancel}
use borrow.Author.Tests.{eqb-true, eq-eqb, ne_eqb}
use Rattle.network.specs.Standing.{Line}
use Rattle.network.specs.Sound.{Sound}
use Rattle.network.specs.Walk.{Ends, along, against}
use Rattle.network.specs.Tree.{Entry, entry, Tree, distance, far, tree, tree_lines}
use Rattle.network.specs.Growth.{Growth, nothing, enters, next_root}
use Rattle.network.proofs.Flow.{entered}
use Rattle.network.proofs.Grown.{scored, keeps, ends_to}
use Rattle.network.proofs.Shortest.{never}
use Rattle.network.proofs.Growth.{tree_grows}
use Rattle.network.proofs.Walks.{Way}
use Rattle.start.specs.Start.{Rooted, up, down, rooted_by, root_height, root_of}
use Rattle.start.specs.Start as start
use Rattle.start.proofs.Lifting.{free_mark, held_here, held_elsewhere}
use Rattle.start.proofs.Pieces.{rooted_new, rooted_old, by_side_lem, one_root_joined}

-- ---- a tree line leads up by its difference

-- a line both of whose ends are in the tree, in one piece, as high over its root as the line says
record OnTree (es : Tree) (l : Line) : Type 0 where
  from_in : (d : ℕ) × (distance es l.from ≡ some d)
  to_in : (d : ℕ) × (distance es l.to ≡ some d)
  same_root : (rooted_by es l.to).root ≡ (rooted_by es l.from).root
  raises : (rooted_by es l.to).over ≡ (rooted_by es l.from).over +ℤ l.difference

-- so it stays when a mark enters
stays_on : (e : Entry) (es : Tree) (l : Line) → distance es e.mark ≡ none → OnTree es l → OnTree (e ∷ es) l
stays_on e es l out t =
    let f = rooted_old e es l.from (λ z. never t.from_in.1 (ap (distance es) (sym z) ∙ out)) in
    let g = rooted_old e es l.to (λ z. never t.to_in.1 (ap (distance es) (sym z) ∙ out)) in
    record {
      from_in = (t.from_in.0, keeps e es l.from t.from_in.0 out t.from_in.1);
      to_in = (t.to_in.0, keeps e es l.to t.to_in.0 out t.to_in.1);
      same_root = ap (λ (x : Rooted). x.root) g ∙ t.same_root ∙ sym (ap (λ (x : Rooted). x.root) f);
      raises = ap (λ (x : Rooted). x.over) g ∙ t.raises ∙ sym (ap (λ (x : Rooted). x.over +ℤ l.difference) f);
    }

-- and so it is of the line by which a mark enters
new_on : (e : Entry) (es : Tree) (l : Line) (near d : ℕ) → Ends l near e.mark → e.by ≡ some l → distance es near ≡ some d
    → distance es e.mark ≡ none → OnTree (e ∷ es) l
new_on e es l near d (along p q) by is_in out =
    let f : rooted_by (e ∷ es) l.from ≡ rooted_by es l.from =
    rooted_old e es l.from (λ z. never is_in (ap (distance es) (sym p ∙ sym z) ∙ out)) in
    let g : rooted_by (e ∷ es) l.to ≡ up (rooted_by es l.from) l.difference =
    rooted_new e es l.to (sym q) ∙ ap (start.enters (λ k. rooted_by es k) l.to) by
    ∙ by_side_lem (λ k. rooted_by es k) l l.to true (eq-eqb l.to l.to refl) in
    record {
      from_in = (d, keeps e es l.from d out (ap (distance es) p ∙ is_in));
      to_in = (e.dist, ap (distance (e ∷ es)) q ∙ entered e es);
      same_root = ap (λ (x : Rooted). x.root) g ∙ sym (ap (λ (x : Rooted). x.root) f);
      raises = ap (λ (x : Rooted). x.over) g ∙ sym (ap (λ (x : Rooted). x.over +ℤ l.difference) f);
    }
new_on e es l near d (against p q) by is_in out =
    let g : rooted_by (e ∷ es) l.to ≡ rooted_by es l.to =
    rooted_old e es l.to (λ z. never is_in (ap (distance es) (sym p ∙ sym z) ∙ out)) in
    let f : rooted_by (e ∷ es) l.from ≡ down (rooted_by es l.to) l.difference =
    rooted_new e es l.from (sym q) ∙ ap (start.enters (λ k. rooted_by es k) l.from) by
    ∙ by_side_lem (λ k. rooted_by es k) l l.from false (ne_eqb l.to l.from
    (λ z. never is_in (ap (distance es) (sym p ∙ z ∙ q) ∙ out))) in
    record {
      from_in = (e.dist, ap (distance (e ∷ es)) q ∙ entered e es);
      to_in = (d, keeps e es l.to d out (ap (distance es) p ∙ is_in));
      same_root = ap (λ (x : Rooted). x.root) g ∙ sym (ap (λ (x : Rooted). x.root) f);
      raises =
          ap (λ (x : Rooted). x.over) g ∙ sym (-ℤ-+ℤ_cancel (rooted_by es l.to).over l.difference)
          ∙ sym (ap (λ (x : Rooted). x.over +ℤ l.difference) f);
    }

on_tree : (b : ℕ) (lines : List Line) {es : Tree} → Growth b lines es → (l : Line) → Memᴰ l (tree_lines es) → OnTree es l
unfolding tree_lines
on_tree b lines nothing l i = absurd (Memᴰ.not-nil i)
on_tree b lines (enters {es = es} {c = c} g x) l i = go (Memᴰ.append_cases (tree_lines es) i) (λ j. on_tree b lines g l j)
  where
    go : Memᴰ l (tree_lines es) ⊎ Memᴰ l (c.line ∷ []) → (Memᴰ l (tree_lines es) → OnTree es l)
        → OnTree (entry (far es c.line) c.score (some c.line) ∷ es) l
    go (inl j) ih = let sc = scored es c.line c.score x.its_score in
        stays_on (entry (far es c.line) c.score (some c.line)) es l (ap (distance es) sc.is_far ∙ sc.is_out) (ih j)
    go (inr j) ih =
        let sc = scored es c.line c.score x.its_score in
        let e = entry (far es c.line) c.score (some c.line) in
        subst (OnTree (e ∷ es)) (sym (Memᴰ.eq_of_singleton j))
        (new_on e es c.line sc.near sc.d (ends_to (sym sc.is_far) sc.ends) refl sc.is_in
        (ap (distance es) sc.is_far ∙ sc.is_out))
on_tree b lines (next_root {es = es} {m = m} g d n) l i = stays_on (entry m 0 none) es l n.is_out (on_tree b lines g l i)

-- ---- the heights along the tree

along_adds : (o : Option ℤ) (x y : Rooted) (d : ℤ) → x.over ≡ y.over +ℤ d → start.along x o ≡ start.along y o +ℤ d
along_adds none x y d e = e
along_adds (some z) x y d e = ap (λ (w : ℤ). z +ℤ w) e ∙ sym (+ℤ_assoc z y.over d)

module _ (b : ℕ) (lines : List Line) (sound : Sound b lines) (held : ℕ → Option ℤ) where
  abbrev at : ℕ → Rooted
  at m = rooted_by (tree b lines) m

  -- how high mark m stands along the tree
  abbrev pub followed : ℕ → ℤ
  followed m = start.along (at m) (root_of (λ k. rooted_by (tree b lines) k) held b m)

  pub follows_tree_line : (l : Line) → Memᴰ l (tree_lines (tree b lines)) → followed l.to ≡ followed l.from +ℤ l.difference
  follows_tree_line l i =
      let t = on_tree b lines (tree_grows b lines sound) l i in
      ap (λ (r : ℕ). start.along (at l.to) (root_height (λ k. rooted_by (tree b lines) k) held r 1 b)) t.same_root
      ∙ along_adds (root_of (λ k. rooted_by (tree b lines) k) held b l.from) (at l.to) (at l.from) l.difference t.raises

  module _ (k : ℕ) (z : ℤ) (low : 0 < k) (high : k ≤ b) (own : held k ≡ some z)
      (lowest : (j : ℕ) → 0 < j → j < k → Way lines j k → held j ≡ none) where
    first_found : (m n : ℕ) → 0 < m → m ≤ k → k < m + n
        → root_height (λ j. rooted_by (tree b lines) j) held (at k).root m n ≡ some (z -ℤ (at k).over)
    first_found m zero lm h l = absurd (omega arith)
    first_found m (suc n) lm h l =
        go (ℕ_discrete m k) (held m) refl (eqb (at m).root (at k).root) refl
        (λ d. first_found (suc m) n (omega arith) (omega (arith, d)) (omega arith))
      where
        go : Dec (m ≡ k) → (o : Option ℤ) → held m ≡ o → (t : Bool) → eqb (at m).root (at k).root ≡ t
            → ((m ≡ k → ⊥) → root_height (λ j. rooted_by (tree b lines) j) held (at k).root (suc m) n ≡ some (z -ℤ (at k).over))
            → root_height (λ j. rooted_by (tree b lines) j) held (at k).root m (suc n) ≡ some (z -ℤ (at k).over)
        go (yes e) o p t q ih =
            held_here (λ j. rooted_by (tree b lines) j) held (at k).root m n z (ap held e ∙ own)
            (eq-eqb (at m).root (at k).root (ap (λ (x : ℕ). (at x).root) e))
            ∙ ap (λ (x : ℕ). some (z -ℤ (at x).over)) e
        go (no d) none p t q ih = free_mark (λ j. rooted_by (tree b lines) j) held (at k).root m n p ∙ ih d
        go (no d) (some y) p true q ih =
            absurd (some-ne-none y (sym p ∙ lowest m lm (omega (arith, d))
            (one_root_joined b lines sound m k lm (omega arith) low high (eqb-true (at m).root (at k).root q))))
        go (no d) (some y) p false q ih = held_elsewhere (λ j. rooted_by (tree b lines) j) held (at k).root m n y p q ∙ ih d

    -- the lowest held mark of a piece has its held height
    pub lowest_held_has_its_own : followed k ≡ z
    lowest_held_has_its_own =
        ap (start.along (at k)) (first_found 1 b (omega arith) low (omega arith)) ∙ -ℤ-+ℤ_cancel z (at k).over
