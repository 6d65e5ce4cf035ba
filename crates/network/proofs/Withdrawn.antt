-- A closing line withdrawn: the tree stays, and so does the order of the other closing lines. Assumes nothing.
use Prim.Native.Nat.{ℕ, suc}
use native.Mathlib.Omega.{arith}
use mathlib.Core.Path.{◌≡◌, refl, sym, ◌∙◌, ap, ap₂}
use mathlib.Core.Bool.{Bool, true, false, not}
use mathlib.Core.List.Memᴰ
use mathlib.Core.List.{List, [], ◌∷◌, ◌++◌, Memᴰ}
use lib.Dec.{eqb}
use lib.ListN.{length}
use borrow.Author.Tests.{eqb-false, eq-eqb, ne_eqb}
use Rattle.network.specs.Standing.{Line}
use Rattle.network.specs.Sound.{Rising, then, Sound}
use Rattle.network.specs.Pairwise.{Pairwise, no_pair, pairs}
use Rattle.network.specs.Tree.{Entry, Tree, Candidate, tree, marks}
use Rattle.network.specs.Closing.{closers_at, just_lines, closing}
use Rattle.network.specs.ClosingOrder.{Sooner}
use Rattle.network.specs.Subgraph.{keep_if}
use Rattle.network.specs.Without.{without}
use Rattle.network.proofs.ClosingLines.{never_tree_line_and_closing_line}
use Rattle.network.proofs.ClosingOrder.{in_closers_at, of_closers_at, order_closers_at, sooner_unique}
use Rattle.network.proofs.Subgraph.{in_tree_lines}
use Rattle.network.proofs.Without.{in_without, of_without, rising_without, grow_without}

-- ---- the lines without one

-- none of the lines left has the number x
pub not_withdrawn : (x : ℕ) (lines : List Line) (l : Line) → Memᴰ l (without x lines) → l.number ≡ x → ⊥
unfolding without
not_withdrawn x [] l m e = Memᴰ.not-nil m
not_withdrawn x (k ∷ ls) l m e = go (eqb k.number x) refl m (not_withdrawn x ls l)
  where
    go : (t : Bool) → eqb k.number x ≡ t → Memᴰ l (keep_if (not t) k (without x ls))
        → (Memᴰ l (without x ls) → l.number ≡ x → ⊥) → ⊥
    go true h i ih = ih i e
    go false h (Memᴰ.head z) ih = eqb-false k.number x h (sym (ap (λ (y : Line). y.number) z) ∙ e)
    go false h (Memᴰ.tail i) ih = ih i e

-- leaving a line out of two lists, one after the other
pub without_append : (x : ℕ) (ls ms : List Line) → without x (ls ++ ms) ≡ without x ls ++ without x ms
unfolding without
without_append x [] ms = refl
without_append x (l ∷ ls) ms = go (not (eqb l.number x)) (without_append x ls ms)
  where
    go : (t : Bool) → without x (ls ++ ms) ≡ without x ls ++ without x ms
        → keep_if t l (without x (ls ++ ms)) ≡ keep_if t l (without x ls) ++ without x ms
    go true h = ap (λ (ks : List Line). l ∷ ks) h
    go false h = h

-- where no line has the number, nothing goes
pub without_none : (x : ℕ) (lines : List Line) → ((l : Line) → Memᴰ l lines → l.number ≡ x → ⊥) → without x lines ≡ lines
unfolding without
without_none x [] h = refl
without_none x (l ∷ ls) h =
    rw (ne_eqb l.number x (h l (Memᴰ.head refl))) (ap (λ (ks : List Line). l ∷ ks)
    (without_none x ls (λ k i. h k (Memᴰ.tail i))))

-- and where one has, one goes
pub one_fewer : (lines : List Line) → Rising lines → (l : Line) → Memᴰ l lines
    → suc (length (without l.number lines)) ≡ length lines
unfolding without
one_fewer [] _ l m = elim m [ ]
one_fewer (k ∷ ls) (then above r) l (Memᴰ.head e) =
    rw (eq-eqb k.number l.number (sym (ap (λ (y : Line). y.number) e)))
    (ap (λ (ks : List Line). suc (length ks)) (without_none l.number ls
    (λ j i z. omega (arith, above j i, z, ap (λ (y : Line). y.number) e))))
one_fewer (k ∷ ls) (then above r) l (Memᴰ.tail i) =
    rw (ne_eqb k.number l.number (λ z. omega (arith, above l i, z))) (ap suc (one_fewer ls r l i))

-- the lines left are sound
pub sound_without : {b : ℕ} {lines : List Line} → Sound b lines → (x : ℕ) → Sound b (without x lines)
sound_without {lines = lines} sound x = record {
  placed = λ l m. sound.placed l (of_without x lines l m);
  apart = λ l m. sound.apart l (of_without x lines l m);
  long_enough = λ l m. sound.long_enough l (of_without x lines l m);
  rising = rising_without x lines sound.rising;
}

-- ---- candidates without one line's

abbrev keep_candidate : Bool → Candidate → List Candidate → List Candidate
keep_candidate true c cs = c ∷ cs
keep_candidate false c cs = cs

unfoldable others : ℕ → List Candidate → List Candidate
others x [] = []
others x (c ∷ cs) = keep_candidate (not (eqb c.line.number x)) c (others x cs)

in_others : (x : ℕ) (cs : List Candidate) (c : Candidate) → Memᴰ c cs → (c.line.number ≡ x → ⊥) → Memᴰ c (others x cs)
unfolding others
in_others x [] c m h = elim m [ ]
in_others x (d ∷ cs) c (Memᴰ.head e) h =
    rw (ne_eqb d.line.number x (λ z. h (ap (λ (y : Candidate). y.line.number) e ∙ z))) (Memᴰ.head e)
in_others x (d ∷ cs) c (Memᴰ.tail i) h = go (not (eqb d.line.number x)) (in_others x cs c i h)
  where
    go : (t : Bool) → Memᴰ c (others x cs) → Memᴰ c (keep_candidate t d (others x cs))
    go true j = Memᴰ.tail j
    go false j = j

of_others : (x : ℕ) (cs : List Candidate) (c : Candidate) → Memᴰ c (others x cs) → Memᴰ c cs × (c.line.number ≡ x → ⊥)
unfolding others
of_others x [] c m = absurd (Memᴰ.not-nil m)
of_others x (d ∷ cs) c m = go (eqb d.line.number x) refl m (of_others x cs c)
  where
    wide : Memᴰ c cs × (c.line.number ≡ x → ⊥) → Memᴰ c (d ∷ cs) × (c.line.number ≡ x → ⊥)
    wide (i, h) = (Memᴰ.tail i, h)

    go : (t : Bool) → eqb d.line.number x ≡ t → Memᴰ c (keep_candidate (not t) d (others x cs))
        → (Memᴰ c (others x cs) → Memᴰ c cs × (c.line.number ≡ x → ⊥))
        → Memᴰ c (d ∷ cs) × (c.line.number ≡ x → ⊥)
    go true h i ih = wide (ih i)
    go false h (Memᴰ.head e) ih =
        (Memᴰ.head e, λ z. eqb-false d.line.number x h (sym (ap (λ (y : Candidate). y.line.number) e) ∙ z))
    go false h (Memᴰ.tail i) ih = wide (ih i)

order_others : (x : ℕ) {cs : List Candidate} → Pairwise Sooner cs → Pairwise Sooner (others x cs)
unfolding others
order_others x no_pair = no_pair
order_others x (pairs {a = a} {rest = cs} f p) = go (not (eqb a.line.number x)) (order_others x p)
  where
    go : (t : Bool) → Pairwise Sooner (others x cs) → Pairwise Sooner (keep_candidate t a (others x cs))
    go true q = pairs (λ c i. f c (of_others x cs c i).0) q
    go false q = q

lines_others : (x : ℕ) (cs : List Candidate) → just_lines (others x cs) ≡ without x (just_lines cs)
unfolding others just_lines without
lines_others x [] = refl
lines_others x (c ∷ cs) = go (not (eqb c.line.number x)) (lines_others x cs)
  where
    go : (t : Bool) → just_lines (others x cs) ≡ without x (just_lines cs)
        → just_lines (keep_candidate t c (others x cs)) ≡ keep_if t c.line (without x (just_lines cs))
    go true h = ap (λ (ls : List Line). c.line ∷ ls) h
    go false h = h

-- what closes at an entry without line x is what closes there, but for x: both lists are "by score, then number"
closers_at_without : (x : ℕ) {lines : List Line} → Rising lines → (es : Tree) (e : Entry)
    → closers_at es e (without x lines) ≡ others x (closers_at es e lines)
closers_at_without x {lines = lines} rising es e =
    sooner_unique (order_closers_at es e (rising_without x lines rising)) (order_others x (order_closers_at es e rising))
    (λ c. (to c, back c))
  where
    to : (c : Candidate) → Memᴰ c (closers_at es e (without x lines)) → Memᴰ c (others x (closers_at es e lines))
    to c i =
        let w = of_closers_at es e (without x lines) c i in
        in_others x (closers_at es e lines) c
        (in_closers_at es e lines c (record {
          is_line = of_without x lines c.line w.is_line;
          its_score = w.its_score;
          reaches
              = w.reaches;
          not_entered = w.not_entered;
        }))
        (not_withdrawn x lines c.line w.is_line)

    back : (c : Candidate) → Memᴰ c (others x (closers_at es e lines)) → Memᴰ c (closers_at es e (without x lines))
    back c i =
        let o = of_others x (closers_at es e lines) c i in
        let w = of_closers_at es e lines c o.0 in
        in_closers_at es e (without x lines) c (record {
          is_line = in_without x lines c.line w.is_line o.1;
          its_score = w.its_score;
          reaches = w.reaches;
          not_entered = w.not_entered;
        })

-- the closing lines are the old ones without x, in the same order
pub closing_without : (x : ℕ) {lines : List Line} → Rising lines → (es : Tree) → closing (without x lines) es ≡ without x (closing lines es)
unfolding closing without
closing_without x rising [] = refl
closing_without x {lines = lines} rising (e ∷ es) =
    ap₂ (λ (ls ms : List Line). ls ++ ms) (closing_without x rising es)
    (ap just_lines (closers_at_without x rising es e) ∙ lines_others x (closers_at es e lines))
    ∙ sym (without_append x (closing lines es) (just_lines (closers_at es e lines)))

-- ---- the theorems

module _ (b : ℕ) (lines : List Line) (sound : Sound b lines) (c : Line) (closes : Memᴰ c (closing lines (tree b lines))) where
  -- withdrawing a closing line leaves the tree as it is
  pub withdrawal_keeps_tree : tree b (without c.number lines) ≡ tree b lines
  unfolding tree
  withdrawal_keeps_tree = grow_without lines sound.rising c.number (marks b) b (λ e i l h z.
      never_tree_line_and_closing_line b lines sound l c (in_tree_lines (tree b lines) l (e, i, h)) closes (sym z))

  -- and the other closing lines in their order
  pub withdrawal_keeps_closing_lines : closing (without c.number lines) (tree b (without c.number lines))
      ≡ without c.number (closing lines (tree b lines))
  withdrawal_keeps_closing_lines =
      ap (closing (without c.number lines)) withdrawal_keeps_tree ∙ closing_without c.number sound.rising (tree b lines)
