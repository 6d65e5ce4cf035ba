-- The tree is grown as document 01 says, and only one tree is. Assumes nothing.
use Prim.Native.Nat.{ℕ, zero, suc, ◌≤◌, ◌<◌}
use native.Mathlib.Omega.{arith}
use native.Mathlib.Nat.{le_antisymm}
use native.Mathlib.Decide.{ℕ_discrete, dec_lt}
use mathlib.Core.Path.{◌≡◌, refl, sym, ◌∙◌, ap, ap₂, subst}
use mathlib.Core.Logic.{◌⊎◌, inl, inr}
use mathlib.Core.List.Memᴰ
use mathlib.Core.List.{List, [], ◌∷◌, Memᴰ}
use mathlib.Core.Option.{Option, none, some, some-injective}
use lib.ListN.{length}
use Rattle.network.specs.Standing.{Line}
use Rattle.network.specs.Sound.{Rising, Sound}
use Rattle.network.specs.Tree.{entry, Tree, Candidate, candidate, distance, score, far, lowest, first_of, first_out, next, step, grow}
use Rattle.network.specs.Tree.{up_to, marks, tree}
use Rattle.network.specs.Growth.{EntersNext, NextRoot, Growth, nothing, enters, next_root}
use Rattle.network.proofs.Grown.{IsLowest, lowest_none, lowest_some, first_out_some}
use Rattle.network.proofs.Shortest.{never}
use Rattle.network.proofs.Count.{unique}
use Rattle.network.proofs.Marks.{of_marks, in_marks, size}
use Rattle.network.proofs.Without.{lowest_first}

-- ---- the candidate that enters

-- what `lowest` gives enters next
pub lowest_enters : (es : Tree) (lines : List Line) → Rising lines → (c : Candidate) → lowest es lines ≡ some c → EntersNext es lines c
lowest_enters es lines rising c h = record { is_line = w.is_line; its_score = w.its_score; lowest = least }
  where
    w : IsLowest es lines c
    w = lowest_some es lines c h

    least : (l : Line) (s : ℕ) → Memᴰ l lines → score es l ≡ some s → (c.score < s) ⊎ ((c.score ≡ s) × (c.line.number ≤ l.number))
    least l s m q = go (ℕ_discrete c.score s)
      where
        tied : c.score ≡ s → (c.line ≡ l) ⊎ (c.line.number < l.number) → c.line.number ≤ l.number
        tied e (inl x) = omega (arith, ap (λ (k : Line). k.number) x)
        tied e (inr x) = omega arith

        go : Dec (c.score ≡ s) → (c.score < s) ⊎ ((c.score ≡ s) × (c.line.number ≤ l.number))
        go (yes e) = inr (e, tied e (lowest_first es lines rising c h l m (q ∙ ap some (sym e))))
        go (no n) = inl (omega (arith, w.least l s m q))

-- and nothing else does
pub only_one_enters : {es : Tree} {lines : List Line} → Rising lines → {c d : Candidate} → EntersNext es lines c → EntersNext es lines d
    → c ≡ d
only_one_enters {es = es} {lines = lines} rising {c = c} {d = d} x y =
    go (x.lowest d.line d.score y.is_line y.its_score) (y.lowest c.line c.score x.is_line x.its_score)
  where
    go : (c.score < d.score) ⊎ ((c.score ≡ d.score) × (c.line.number ≤ d.line.number))
        → (d.score < c.score) ⊎ ((d.score ≡ c.score) × (d.line.number ≤ c.line.number)) → c ≡ d
    go (inl a) (inl e) = absurd (omega arith)
    go (inl a) (inr e) = absurd (omega (arith, e.0))
    go (inr a) (inl e) = absurd (omega (arith, a.0))
    go (inr a) (inr e) = ap₂ candidate a.0 (unique lines rising c.line d.line x.is_line y.is_line (le_antisymm a.1 e.1))

-- ---- the next root

-- marks that go by rising number
data Ascending : List ℕ → Type 0 where
  no_mark : Ascending []
  mark_then : {m : ℕ} {ms : List ℕ} → ((k : ℕ) → Memᴰ k ms → m < k) → Ascending ms → Ascending (m ∷ ms)

ascending_up_to : (b : ℕ) (ms : List ℕ) → ((k : ℕ) → Memᴰ k ms → b < k) → Ascending ms → Ascending (up_to b ms)
unfolding up_to
ascending_up_to zero ms h a = a
ascending_up_to (suc b) ms h a = ascending_up_to b (suc b ∷ ms) above (mark_then h a)
  where
    above : (k : ℕ) → Memᴰ k (suc b ∷ ms) → b < k
    above k (Memᴰ.head e) = omega (arith, e)
    above k (Memᴰ.tail i) = omega (arith, h k i)

ascending_marks : (b : ℕ) → Ascending (marks b)
unfolding marks
ascending_marks b = ascending_up_to b [] (λ k i. absurd (Memᴰ.not-nil i)) no_mark

-- the first that is out is the lowest that is out
first_out_lowest : (es : Tree) {ms : List ℕ} → Ascending ms → (m : ℕ) → first_out es ms ≡ some m → (k : ℕ) → Memᴰ k ms → k < m
    → distance es k ≡ none → ⊥
unfolding first_out
first_out_lowest es no_mark m h k i lt out = Memᴰ.not-nil i
first_out_lowest es (mark_then {m = r} {ms = rs} above a) m h k i lt out = go (distance es r) refl h i (first_out_lowest es a m)
  where
    go : (o : Option ℕ) → distance es r ≡ o → first_of o r (first_out es rs) ≡ some m → Memᴰ k (r ∷ rs)
        → (first_out es rs ≡ some m → (k : ℕ) → Memᴰ k rs → k < m → distance es k ≡ none → ⊥) → ⊥
    go none p q (Memᴰ.head e) ih = omega (arith, e, some-injective r m q)
    go none p q (Memᴰ.tail j) ih = omega (arith, above k j, some-injective r m q)
    go (some d) p q (Memᴰ.head e) ih = never p (sym (ap (distance es) e) ∙ out)
    go (some d) p q (Memᴰ.tail j) ih = ih q k j lt out

first_out_root : (b : ℕ) (es : Tree) (m : ℕ) → first_out es (marks b) ≡ some m → NextRoot b es m
first_out_root b es m h =
    let f = first_out_some es (marks b) m h in
    let p = of_marks b m f.1 in
    record {
      low = p.0;
      high = p.1;
      is_out = f.0;
      lowest = λ k z lt. first_out_lowest es (ascending_marks b) m h k
          (in_marks b k z (omega arith)) lt;
    }

only_one_root : {b : ℕ} {es : Tree} {m n : ℕ} → NextRoot b es m → NextRoot b es n → m ≡ n
only_one_root {m = m} {n = n} x y = go (dec_lt m n) (dec_lt n m)
  where
    go : Dec (m < n) → Dec (n < m) → m ≡ n
    go (yes p) q = absurd (y.lowest m x.low p x.is_out)
    go (no p) (yes q) = absurd (x.lowest n y.low q y.is_out)
    go (no p) (no q) = omega arith

-- ---- the tree

growth : (b : ℕ) (lines : List Line) → Rising lines → (k : ℕ) → Growth b lines (grow lines (marks b) k)
unfolding grow step
growth b lines rising zero = nothing
growth b lines rising (suc k) = go (growth b lines rising k) (lowest es lines) (first_out es (marks b)) refl refl
  where
    es : Tree
    es = grow lines (marks b) k

    go : Growth b lines es → (o : Option Candidate) (r : Option ℕ) → lowest es lines ≡ o → first_out es (marks b) ≡ r
        → Growth b lines (next es o r)
    go g (some c) r p q = enters g (lowest_enters es lines rising c p)
    go g none (some m) p q = next_root g (lowest_none es lines p) (first_out_root b es m q)
    go g none none p q = g

-- the tree of a book grows as document 01 says
pub tree_grows : (b : ℕ) (lines : List Line) → Sound b lines → Growth b lines (tree b lines)
unfolding tree
tree_grows b lines sound = growth b lines sound.rising b

-- two trees that grow so, of as many marks, are one
pub growth_unique : (b : ℕ) (lines : List Line) → Rising lines → {es fs : Tree} → Growth b lines es → Growth b lines fs
    → length es ≡ length fs → es ≡ fs
growth_unique b lines rising nothing nothing n = refl
growth_unique b lines rising nothing (enters g y) n = absurd (omega (arith, n))
growth_unique b lines rising nothing (next_root g d y) n = absurd (omega (arith, n))
growth_unique b lines rising (enters f x) nothing n = absurd (omega (arith, n))
growth_unique b lines rising (enters {es = es} {c = c} f x) (enters {es = fs} {c = d} g y) n =
    go (growth_unique b lines rising f g (omega (arith, n)))
  where
    go : es ≡ fs
        → ◌≡◌ {A = Tree} (entry (far es c.line) c.score (some c.line) ∷ es)
        (entry (far fs d.line) d.score (some d.line) ∷ fs)
    go e = ap₂ (λ (t : Tree) (k : Candidate). entry (far t k.line) k.score (some k.line) ∷ t) e
        (only_one_enters rising (subst (λ (t : Tree). EntersNext t lines c) e x) y)
growth_unique b lines rising (enters {es = es} {c = c} f x) (next_root {es = fs} g d y) n =
    go (growth_unique b lines rising f g (omega (arith, n)))
  where
    go : {A : Type 0} → es ≡ fs → A
    go e = never x.its_score (subst (λ (t : Tree). score t c.line ≡ none) (sym e) (d c.line x.is_line))
growth_unique b lines rising (next_root f d x) nothing n = absurd (omega (arith, n))
growth_unique b lines rising (next_root {es = es} f d x) (enters {es = fs} {c = c} g y) n =
    go (growth_unique b lines rising f g (omega (arith, n)))
  where
    go : {A : Type 0} → es ≡ fs → A
    go e = never y.its_score (subst (λ (t : Tree). score t c.line ≡ none) e (d c.line y.is_line))
growth_unique b lines rising (next_root {es = es} {m = m} f d x) (next_root {es = fs} {m = k} g c y) n =
    go (growth_unique b lines rising f g (omega (arith, n)))
  where
    go : es ≡ fs → ◌≡◌ {A = Tree} (entry m 0 none ∷ es) (entry k 0 none ∷ fs)
    go e = ap₂ (λ (t : Tree) (j : ℕ). entry j 0 none ∷ t) e (only_one_root (subst (λ (t : Tree). NextRoot b t m) e x) y)

-- so a tree of b marks that grows so is the tree
pub only_tree : (b : ℕ) (lines : List Line) → Sound b lines → {es : Tree} → Growth b lines es → length es ≡ b → es ≡ tree b lines
only_tree b lines sound g n = growth_unique b lines sound.rising g (tree_grows b lines sound) (n ∙ sym (size b lines sound.placed))
