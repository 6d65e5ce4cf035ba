-- Laws of the tree. Assumes nothing.
use Prim.Native.Nat.{ℕ, zero, suc, ◌+◌, ◌≤◌}
use native.Mathlib.Omega.{arith}
use native.Mathlib.Nat.{le_trans}
use mathlib.Core.Path.{◌≡◌, refl, sym, ◌∙◌, ap}
use mathlib.Core.Logic.{◌⊎◌, inl, inr}
use mathlib.Core.Bool.{Bool, true, false}
use mathlib.Core.List.Memᴰ
use mathlib.Core.List.{List, [], ◌∷◌, Memᴰ}
use mathlib.Core.Option.{Option, none, some, some-injective, none-ne-some, some-ne-none}
use lib.Dec.{leb, eqb}
use borrow.Author.Tests.{leb-true, leb-false, eqb-true, eqb-false}
use Rattle.network.specs.Standing.{Line}
use Rattle.network.specs.Walk.{Ends, along, against}
use Rattle.network.specs.Tree.{Entry, Tree, Candidate, candidate, distance, one_end, score, far, lower_of, lowest_of, lowest, first_of}
use Rattle.network.specs.Tree.{first_out, next, step, grow}

-- ---- a score: the line has just one end in the tree

pub record Scored (es : Tree) (l : Line) (s : ℕ) : Type 0 where
  pub near : ℕ
  pub away : ℕ
  pub ends : Ends l near away
  pub d : ℕ
  pub is_in : distance es near ≡ some d
  pub is_out : distance es away ≡ none
  pub sum : s ≡ d + l.length
  pub is_far : far es l ≡ away

pub scored : (es : Tree) (l : Line) (s : ℕ) → score es l ≡ some s → Scored es l s
unfolding score far
scored es l s h = go (distance es l.from) (distance es l.to) refl refl h
  where
    go : (a b : Option ℕ) → distance es l.from ≡ a → distance es l.to ≡ b → one_end a b l.length ≡ some s → Scored es l s
    go none none p q e = absurd (none-ne-some s e)
    go (some d) none p q e = record {
      near = l.from;
      away = l.to;
      ends = along refl refl;
      d = d;
      is_in = p;
      is_out = q;
      sum = cc;
      is_far = rw p;
    }
    go none (some d) p q e = record {
      near = l.to;
      away = l.from;
      ends = against refl refl;
      d = d;
      is_in = q;
      is_out = p;
      sum = cc;
      is_far = rw p;
    }
    go (some d) (some d') p q e = absurd (none-ne-some s e)

pub score_of_lem : (es : Tree) (l : Line) (u v d : ℕ) → Ends l u v → distance es u ≡ some d → distance es v ≡ none
    → score es l ≡ some (d + l.length)
unfolding score
score_of_lem es l u v d (along p q) a b = rw (p, q, a, b)
score_of_lem es l u v d (against p q) a b = rw (p, q, a, b)

-- ---- the distance after one more entry

pub data After (e : Entry) (es : Tree) (m : ℕ) : Type 0 where
  new : e.mark ≡ m → distance (e ∷ es) m ≡ some e.dist → After e es m
  old : (e.mark ≡ m → ⊥) → distance (e ∷ es) m ≡ distance es m → After e es m

pub after : (e : Entry) (es : Tree) (m : ℕ) → After e es m
unfolding distance
after e es m = go (eqb e.mark m) refl
  where
    go : (t : Bool) → eqb e.mark m ≡ t → After e es m
    go true h = new (eqb-true _ _ h) (rw h)
    go false h = old (eqb-false _ _ h) (rw h)

-- ---- the lowest candidate is one of the lines, has the score it carries, and no line has a lower one

pub record IsLowest (es : Tree) (lines : List Line) (c : Candidate) : Type 0 where
  pub is_line : Memᴰ c.line lines
  pub its_score : score es c.line ≡ some c.score
  pub least : (l : Line) (s : ℕ) → Memᴰ l lines → score es l ≡ some s → c.score ≤ s

-- what `lowest_of` makes of one line's score and the best of the rest
pub lowest_of_none : (a : Option ℕ) (k : Line) (b : Option Candidate) → lowest_of a k b ≡ none → (a ≡ none) × (b ≡ none)
lowest_of_none none k b h = (refl, h)
lowest_of_none (some s) k none h = absurd (some-ne-none _ h)
lowest_of_none (some s) k (some b) h = go (leb s b.score) h
  where
    go : (t : Bool) → lower_of t (candidate s k) b ≡ none → (some s ≡ none) × (some b ≡ none)
    go true e = absurd (some-ne-none _ e)
    go false e = absurd (some-ne-none _ e)

pub record Lowest1 (a : Option ℕ) (k : Line) (b : Option Candidate) (c : Candidate) : Type 0 where
  pub which : ((c.line ≡ k) × (a ≡ some c.score)) ⊎ (b ≡ some c)
  pub not_over : (s : ℕ) → a ≡ some s → c.score ≤ s
  pub not_over_rest : (d : Candidate) → b ≡ some d → c.score ≤ d.score

pub score_of : (c d : Candidate) → some c ≡ some d → c.score ≡ d.score
score_of c d e = ap (λ (x : Candidate). x.score) (some-injective c d e)

pub line_of : (c d : Candidate) → some c ≡ some d → c.line ≡ d.line
line_of c d e = ap (λ (x : Candidate). x.line) (some-injective c d e)

pub lowest_of_some : (a : Option ℕ) (k : Line) (b : Option Candidate) (c : Candidate) → lowest_of a k b ≡ some c → Lowest1 a k b c
lowest_of_some none k b c h = record {
  which = inr h;
  not_over = λ s e. absurd (none-ne-some s e);
  not_over_rest = λ d e. omega (arith, score_of c d (sym h ∙ e));
}
lowest_of_some (some s) k none c h = record {
  which = inl (sym (line_of _ _ h), ap some (score_of _ _ h));
  not_over = λ s' e. omega (arith, score_of _ _ h, some-injective s s' e);
  not_over_rest = λ d e. absurd (none-ne-some d e);
}
lowest_of_some (some s) k (some b) c h = go (leb s b.score) refl h
  where
    go : (t : Bool) → leb s b.score ≡ t → lower_of t (candidate s k) b ≡ some c → Lowest1 (some s) k (some b) c
    go true t e = record {
      which = inl (sym (line_of _ _ e), ap some (score_of _ _ e));
      not_over = λ s' f. omega (arith, score_of _ _ e, some-injective s s' f);
      not_over_rest = λ d f. omega (arith, score_of _ _ e, score_of b d f, leb-true s b.score t);
    }
    go false t e = record {
      which = inr e;
      not_over = λ s' f. omega (arith, score_of _ _ e, some-injective s s' f, leb-false s b.score t);
      not_over_rest = λ d f. omega (arith, score_of _ _ e, score_of b d f);
    }

pub lowest_none : (es : Tree) (lines : List Line) → lowest es lines ≡ none → (l : Line) → Memᴰ l lines → score es l ≡ none
unfolding lowest
lowest_none es [] h l m = elim m [ ]
lowest_none es (k ∷ ls) h l (Memᴰ.head e) = ap (score es) e ∙ (lowest_of_none (score es k) k (lowest es ls) h).0
lowest_none es (k ∷ ls) h l (Memᴰ.tail m) = lowest_none es ls (lowest_of_none (score es k) k (lowest es ls) h).1 l m

-- a line of the rest is not below what the rest's lowest is not below
pub rest_least : (es : Tree) (ls : List Line) (n : ℕ) (b : Option Candidate) → lowest es ls ≡ b
    → ((d : Candidate) → b ≡ some d → n ≤ d.score)
    → ((d : Candidate) → lowest es ls ≡ some d → IsLowest es ls d) → (l : Line) (s : ℕ) → Memᴰ l ls → score es l ≡ some s → n ≤ s
rest_least es ls n none e f ih l s m q = absurd (none-ne-some s (sym (lowest_none es ls e l m) ∙ q))
rest_least es ls n (some d) e f ih l s m q = le_trans (f d refl) ((ih d e).least l s m q)

pub lowest_some : (es : Tree) (lines : List Line) (c : Candidate) → lowest es lines ≡ some c → IsLowest es lines c
unfolding lowest
lowest_some es [] c h = absurd (none-ne-some c h)
lowest_some es (k ∷ ls) c h = go (lowest_of_some (score es k) k (lowest es ls) c h) (lowest_some es ls)
  where
    -- the line k is the lowest, or the rest's lowest is
    pick : ((c.line ≡ k) × (score es k ≡ some c.score)) ⊎ (lowest es ls ≡ some c)
        → ((d : Candidate) → lowest es ls ≡ some d → IsLowest es ls d)
        → Memᴰ c.line (k ∷ ls) × (score es c.line ≡ some c.score)
    pick (inl (e, q)) ih = (Memᴰ.head e, ap (score es) e ∙ q)
    pick (inr q) ih = (Memᴰ.tail (ih c q).is_line, (ih c q).its_score)

    least1 : Lowest1 (score es k) k (lowest es ls) c → ((d : Candidate) → lowest es ls ≡ some d → IsLowest es ls d)
        → (l : Line) (s : ℕ) → Memᴰ l (k ∷ ls) → score es l ≡ some s → c.score ≤ s
    least1 w ih l s (Memᴰ.head e) q = w.not_over s (sym (ap (score es) e) ∙ q)
    least1 w ih l s (Memᴰ.tail m) q = rest_least es ls c.score (lowest es ls) refl w.not_over_rest ih l s m q

    go : Lowest1 (score es k) k (lowest es ls) c → ((d : Candidate) → lowest es ls ≡ some d → IsLowest es ls d) → IsLowest es (k ∷ ls) c
    go w ih = record { is_line = (pick w.which ih).0; its_score = (pick w.which ih).1; least = least1 w ih }

pub first_out_some : (es : Tree) (roots : List ℕ) (m : ℕ) → first_out es roots ≡ some m → (distance es m ≡ none) × Memᴰ m roots
unfolding first_out
first_out_some es [] m h = absurd (none-ne-some m h)
first_out_some es (r ∷ rs) m h = go (distance es r) refl h (first_out_some es rs m)
  where
    go : (a : Option ℕ) → distance es r ≡ a → first_of a r (first_out es rs) ≡ some m
        → (first_out es rs ≡ some m → (distance es m ≡ none) × Memᴰ m rs)
        → (distance es m ≡ none) × Memᴰ m (r ∷ rs)
    go none p q ih = let e = some-injective r m q in (ap (distance es) (sym e) ∙ p, Memᴰ.head (sym e))
    go (some d) p q ih = let i = ih q in (i.0, Memᴰ.tail i.1)

pub first_out_none : (es : Tree) (roots : List ℕ) → first_out es roots ≡ none → (m : ℕ) → Memᴰ m roots → distance es m ≡ none → ⊥
unfolding first_out
first_out_none es [] h m i out = elim i [ ]
first_out_none es (r ∷ rs) h m i out = go (distance es r) refl h i (first_out_none es rs)
  where
    go : (a : Option ℕ) → distance es r ≡ a → first_of a r (first_out es rs) ≡ none → Memᴰ m (r ∷ rs)
        → (first_out es rs ≡ none → (m : ℕ) → Memᴰ m rs → distance es m ≡ none → ⊥) → ⊥
    go none p q i ih = some-ne-none _ q
    go (some d) p q (Memᴰ.head e) ih = some-ne-none d (sym p ∙ sym (ap (distance es) e) ∙ out)
    go (some d) p q (Memᴰ.tail i) ih = ih q m i out

-- ---- a tree as it is grown: what a law of the tree goes by induction on

-- what enters by a line: the far mark of the line with the lowest score
pub record ByLine (lines : List Line) (es : Tree) (e : Entry) : Type 0 where
  pub l : Line
  pub its : e.by ≡ some l
  pub is_line : Memᴰ l lines
  pub sc : Scored es l e.dist
  pub its_mark : e.mark ≡ sc.away
  pub least : (k : Line) (s : ℕ) → Memᴰ k lines → score es k ≡ some s → e.dist ≤ s

-- what enters as a root: no line has a score
pub record ByRoot (lines : List Line) (es : Tree) (e : Entry) : Type 0 where
  pub its : e.by ≡ none
  pub zero_at : e.dist ≡ 0
  pub out : distance es e.mark ≡ none
  pub done : (k : Line) → Memᴰ k lines → score es k ≡ none

pub data Grown (lines : List Line) : Tree → Type 0 where
  empty : Grown lines []
  by_line : {e : Entry} {es : Tree} → Grown lines es → ByLine lines es e → Grown lines (e ∷ es)
  by_root : {e : Entry} {es : Tree} → Grown lines es → ByRoot lines es e → Grown lines (e ∷ es)

-- what a step does
pub data Stepped (lines : List Line) (roots : List ℕ) (es : Tree) : Tree → Type 0 where
  line : {e : Entry} → ByLine lines es e → Stepped lines roots es (e ∷ es)
  root : {e : Entry} → ByRoot lines es e → Memᴰ e.mark roots → Stepped lines roots es (e ∷ es)
  stop : ((k : Line) → Memᴰ k lines → score es k ≡ none) → ((m : ℕ) → Memᴰ m roots → distance es m ≡ none → ⊥)
      → Stepped lines roots es es

pub stepped : (lines : List Line) (roots : List ℕ) (es : Tree) → Stepped lines roots es (step lines roots es)
unfolding step
stepped lines roots es = go (lowest es lines) (first_out es roots) refl refl
  where
    go : (a : Option Candidate) (b : Option ℕ) → lowest es lines ≡ a → first_out es roots ≡ b → Stepped lines roots es (next es a b)
    go (some c) b p q =
        let w = lowest_some es lines c p in
        let sc = scored es c.line c.score w.its_score in
        line (record { l = c.line; its = refl; is_line = w.is_line; sc = sc; its_mark = sc.is_far; least = w.least })
    go none (some m) p q =
        let f = first_out_some es roots m q in
        root (record { its = refl; zero_at = refl; out = f.0; done = lowest_none es lines p }) f.1
    go none none p q = stop (lowest_none es lines p) (first_out_none es roots q)

pub grown_step : (lines : List Line) (roots : List ℕ) {es es' : Tree} → Grown lines es → Stepped lines roots es es' → Grown lines es'
grown_step lines roots g (line b) = by_line g b
grown_step lines roots g (root b m) = by_root g b
grown_step lines roots g (stop d f) = g

pub grown : (lines : List Line) (roots : List ℕ) (k : ℕ) → Grown lines (grow lines roots k)
unfolding grow
grown lines roots zero = empty
grown lines roots (suc k) = grown_step lines roots (grown lines roots k) (stepped lines roots (grow lines roots k))

pub is_new : {lines : List Line} {es : Tree} {e : Entry} → ByLine lines es e → distance es e.mark ≡ none
is_new {es = es} b = ap (distance es) b.its_mark ∙ b.sc.is_out

-- ---- law 1: every line of the tree is one of the lines

pub by_of : {a b : Entry} → a ≡ b → a.by ≡ b.by
by_of p = ap (λ (x : Entry). x.by) p

pub tree_line : (lines : List Line) {es : Tree} → Grown lines es → (e : Entry) → Memᴰ e es → (l : Line) → e.by ≡ some l
    → Memᴰ l lines
tree_line lines empty e m l q = elim m [ ]
tree_line lines (by_line g b) e (Memᴰ.head p) l q = Memᴰ.cast (some-injective _ _ (sym q ∙ by_of p ∙ b.its)) b.is_line
tree_line lines (by_line g b) e (Memᴰ.tail m) l q = tree_line lines g e m l q
tree_line lines (by_root g b) e (Memᴰ.head p) l q = absurd (none-ne-some l (sym b.its ∙ sym (by_of p) ∙ q))
tree_line lines (by_root g b) e (Memᴰ.tail m) l q = tree_line lines g e m l q

-- ---- law 2: a mark in the tree is a root at distance 0, or has a parent, nearer by the length of a line that joins them

-- a mark of the tree keeps its distance when one that is not in the tree enters
pub keeps : (e : Entry) (es : Tree) (m d : ℕ) → distance es e.mark ≡ none → distance es m ≡ some d → distance (e ∷ es) m ≡ some d
keeps e es m d f h = go (after e es m)
  where
    go : After e es m → distance (e ∷ es) m ≡ some d
    go (new p q) = absurd (none-ne-some d (sym f ∙ ap (distance es) p ∙ h))
    go (old p q) = q ∙ h

pub data Parent (lines : List Line) (es : Tree) (m d : ℕ) : Type 0 where
  is_root : d ≡ 0 → Parent lines es m d
  over : (l : Line) (u du : ℕ) → Memᴰ l lines → Ends l u m → distance es u ≡ some du → d ≡ du + l.length → Parent lines es m d

pub parent_keeps : (lines : List Line) (e : Entry) (es : Tree) (m d : ℕ) → distance es e.mark ≡ none → Parent lines es m d
    → Parent lines (e ∷ es) m d
parent_keeps lines e es m d f (is_root z) = is_root z
parent_keeps lines e es m d f (over l u du i j h s) = over l u du i j (keeps e es u du f h) s

pub ends_to : {l : Line} {u v w : ℕ} → v ≡ w → Ends l u v → Ends l u w
ends_to e (along p q) = along p (q ∙ e)
ends_to e (against p q) = against p (q ∙ e)

pub parent : (lines : List Line) {es : Tree} → Grown lines es → (m d : ℕ) → distance es m ≡ some d → Parent lines es m d
unfolding distance
parent lines empty m d h = absurd (none-ne-some d h)
parent lines (by_line {e = e} {es = es} g b) m d h = go (after e es m) (parent lines g m d)
  where
    go : After e es m → (distance es m ≡ some d → Parent lines es m d) → Parent lines (e ∷ es) m d
    go (new p q) ih =
        over b.l b.sc.near b.sc.d b.is_line (ends_to (sym b.its_mark ∙ p) b.sc.ends)
        (keeps e es b.sc.near b.sc.d (is_new b) b.sc.is_in)
        (sym (some-injective _ _ (sym q ∙ h)) ∙ b.sc.sum)
    go (old p q) ih = parent_keeps lines e es m d (is_new b) (ih (sym q ∙ h))
parent lines (by_root {e = e} {es = es} g b) m d h = go (after e es m) (parent lines g m d)
  where
    go : After e es m → (distance es m ≡ some d → Parent lines es m d) → Parent lines (e ∷ es) m d
    go (new p q) ih = is_root (sym (some-injective _ _ (sym q ∙ h)) ∙ b.zero_at)
    go (old p q) ih = parent_keeps lines e es m d b.out (ih (sym q ∙ h))
