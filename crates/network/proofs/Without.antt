-- The lowest candidate has the lowest number of its score; and the tree without a line that is not of the tree. Assumes nothing.
use Prim.Native.Nat.{ℕ, zero, suc, ◌<◌}
use native.Mathlib.Omega.{arith}
use native.Mathlib.Nat.{le_antisymm}
use mathlib.Core.Path.{◌≡◌, refl, sym, ◌∙◌, ap, ap₂}
use mathlib.Core.Logic.{◌⊎◌, inl, inr}
use mathlib.Core.Bool.{Bool, true, false, not}
use mathlib.Core.List.{List, [], ◌∷◌, Memᴰ}
use mathlib.Core.Option.{Option, none, some}
use lib.Dec.{eqb, leb}
use borrow.Author.Tests.{leb-false, ne_eqb}
use Rattle.network.specs.Standing.{Line}
use Rattle.network.specs.Tree.{Entry, Tree, Candidate, candidate, score, lower_of, lowest_of, lowest, first_out, next, step, grow}
use Rattle.network.specs.Subgraph.{keep_if}
unfoldable pub use Rattle.network.specs.Without.{without}
use Rattle.network.proofs.Grown.{lowest_none, lowest_some, IsLowest, line_of, score_of}
use Rattle.network.proofs.Shortest.{never, same}
use Rattle.network.specs.Sound.{Rising, then}

-- ---- then the lowest number

pub lowest_first : (es : Tree) (lines : List Line) → Rising lines → (c : Candidate) → lowest es lines ≡ some c
    → (l : Line) → Memᴰ l lines → score es l ≡ some c.score → (c.line ≡ l) ⊎ (c.line.number < l.number)
unfolding lowest
lowest_first es [] _ c h l m s = elim m [ ]
lowest_first es (k ∷ ls) (then above r) c h l m s = go (score es k) (lowest es ls) refl refl h m (lowest_first es ls r c)
  where
    go : (a : Option ℕ) (d : Option Candidate) → score es k ≡ a → lowest es ls ≡ d → lowest_of a k d ≡ some c → Memᴰ l (k ∷ ls)
        → (lowest es ls ≡ some c → (l : Line) → Memᴰ l ls → score es l ≡ some c.score → (c.line ≡ l)
        ⊎ (c.line.number < l.number))
        → (c.line ≡ l) ⊎ (c.line.number < l.number)
    go none d x y e (Memᴰ.head i) ih = never s (ap (score es) i ∙ x)
    go none d x y e (Memᴰ.tail i) ih = ih (y ∙ e) l i s
    go (some t) none x y e (Memᴰ.head i) ih = inl (sym (line_of _ _ e) ∙ sym i)
    go (some t) none x y e (Memᴰ.tail i) ih = never s (lowest_none es ls y l i)
    go (some t) (some d) x y e i ih = pick (leb t d.score) refl e i
      where
        pick : (b : Bool) → leb t d.score ≡ b → lower_of b (candidate t k) d ≡ some c → Memᴰ l (k ∷ ls)
            → (c.line ≡ l) ⊎ (c.line.number < l.number)
        pick true z e (Memᴰ.head i) = inl (sym (line_of _ _ e) ∙ sym i)
        pick true z e (Memᴰ.tail i) = inr (omega (arith, above l i, ap (λ (n : Line). n.number) (line_of _ _ e)))
        pick false z e (Memᴰ.head i) =
            absurd (omega (arith, leb-false t d.score z, score_of _ _ e, same (sym (ap (score es) i) ∙ s) x))
        pick false z e (Memᴰ.tail i) = ih (y ∙ e) l i s

-- ---- the lines without line x

pub in_without : (x : ℕ) (lines : List Line) (l : Line) → Memᴰ l lines → (l.number ≡ x → ⊥) → Memᴰ l (without x lines)
unfolding without
in_without x [] l m d = elim m [ ]
in_without x (k ∷ ls) l (Memᴰ.head e) d = rw (ne_eqb k.number x (λ z. d (ap (λ (n : Line). n.number) e ∙ z))) (Memᴰ.head e)
in_without x (k ∷ ls) l (Memᴰ.tail i) d = go (not (eqb k.number x)) (in_without x ls l i d)
  where
    go : (t : Bool) → Memᴰ l (without x ls) → Memᴰ l (keep_if t k (without x ls))
    go true j = Memᴰ.tail j
    go false j = j

pub of_without : (x : ℕ) (lines : List Line) (l : Line) → Memᴰ l (without x lines) → Memᴰ l lines
unfolding without
of_without x [] l m = m
of_without x (k ∷ ls) l m = go (not (eqb k.number x)) m (of_without x ls l)
  where
    go : (t : Bool) → Memᴰ l (keep_if t k (without x ls)) → (Memᴰ l (without x ls) → Memᴰ l ls) → Memᴰ l (k ∷ ls)
    go true (Memᴰ.head e) ih = Memᴰ.head e
    go true (Memᴰ.tail i) ih = Memᴰ.tail (ih i)
    go false i ih = Memᴰ.tail (ih i)

pub rising_without : (x : ℕ) (lines : List Line) → Rising lines → Rising (without x lines)
unfolding without
rising_without x [] r = r
rising_without x (k ∷ ls) (then above r) = go (not (eqb k.number x)) (rising_without x ls r)
  where
    go : (t : Bool) → Rising (without x ls) → Rising (keep_if t k (without x ls))
    go true ih = then (λ j i. above j (of_without x ls j i)) ih
    go false ih = ih

-- ---- the tree is the same where x is no line of it: what is lowest is settled by its laws, not by how `lowest` goes through the list

module _ (lines : List Line) (rising : Rising lines) (x : ℕ) where
  candidate_eq : (c d : Candidate) → c.line ≡ d.line → c.score ≡ d.score → c ≡ d
  candidate_eq c d e f = ap₂ candidate f e

  lowest_kept : (es : Tree) (c : Candidate) → lowest es lines ≡ some c → (c.line.number ≡ x → ⊥) → lowest es (without x lines) ≡ some c
  lowest_kept es c h d = go (lowest es (without x lines)) refl
    where
      w : IsLowest es lines c
      w = lowest_some es lines c h

      go : (o : Option Candidate) → lowest es (without x lines) ≡ o → o ≡ some c
      go none e = never w.its_score (lowest_none es (without x lines) e c.line (in_without x lines c.line w.is_line d))
      go (some c') e = ap some (candidate_eq c' c (pick a b) (sym eq))
        where
          v : IsLowest es (without x lines) c'
          v = lowest_some es (without x lines) c' e

          in_all : Memᴰ c'.line lines
          in_all = of_without x lines c'.line v.is_line

          eq : c.score ≡ c'.score
          eq =
              le_antisymm (w.least c'.line c'.score in_all v.its_score)
              (v.least c.line c.score (in_without x lines c.line w.is_line d) w.its_score)

          a : (c.line ≡ c'.line) ⊎ (c.line.number < c'.line.number)
          a = lowest_first es lines rising c h c'.line in_all (v.its_score ∙ ap some (sym eq))

          b : (c'.line ≡ c.line) ⊎ (c'.line.number < c.line.number)
          b =
              lowest_first es (without x lines) (rising_without x lines rising) c' e c.line
              (in_without x lines c.line w.is_line d) (w.its_score ∙ ap some eq)

          pick : (c.line ≡ c'.line) ⊎ (c.line.number < c'.line.number)
              → (c'.line ≡ c.line) ⊎ (c'.line.number < c.line.number) → c'.line ≡ c.line
          pick (inl i) j = sym i
          pick (inr i) (inl j) = j
          pick (inr i) (inr j) = absurd (omega arith)

  lowest_still_none : (es : Tree) → lowest es lines ≡ none → lowest es (without x lines) ≡ none
  lowest_still_none es h = go (lowest es (without x lines)) refl
    where
      go : (o : Option Candidate) → lowest es (without x lines) ≡ o → o ≡ none
      go none e = refl
      go (some c) e =
          let v = lowest_some es (without x lines) c e in never v.its_score
          (lowest_none es lines h c.line (of_without x lines c.line v.is_line))

  abbrev pub NotUsed : Tree → Type 0
  NotUsed es = (e : Entry) → Memᴰ e es → (l : Line) → e.by ≡ some l → l.number ≡ x → ⊥

  -- what is not used after a step was not before it, and the step is the same without x
  step_without : (roots : List ℕ) (es : Tree) → NotUsed (step lines roots es)
      → (step (without x lines) roots es ≡ step lines roots es) × NotUsed es
  unfolding step
  step_without roots es n = go (lowest es lines) (first_out es roots) refl n
    where
      go : (a : Option Candidate) (r : Option ℕ) → lowest es lines ≡ a → NotUsed (next es a r)
          → (next es (lowest es (without x lines)) r ≡ next es a r) × NotUsed es
      go (some c) r p n = (
        ap (λ (o : Option Candidate). next es o r) (lowest_kept es c p (n _ (Memᴰ.head refl) c.line refl)),
        λ e i. n e
            (Memᴰ.tail i),
      )
      go none (some m) p n = (ap (λ (o : Option Candidate). next es o (some m)) (lowest_still_none es p), λ e i. n e (Memᴰ.tail i))
      go none none p n = (ap (λ (o : Option Candidate). next es o none) (lowest_still_none es p), n)

  pub grow_without : (roots : List ℕ) (k : ℕ) → NotUsed (grow lines roots k) → grow (without x lines) roots k ≡ grow lines roots k
  unfolding grow
  grow_without roots zero n = refl
  grow_without roots (suc k) n =
      let s = step_without roots (grow lines roots k) n in
      ap (step (without x lines) roots) (grow_without roots k s.1) ∙ s.0
