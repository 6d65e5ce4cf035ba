-- Of two lines with the same two ends, the one that entered or closed first is the shorter, or as long and of the lower number. Assumes
-- nothing.
use Prim.Native.Nat.{ℕ, ◌≤◌, ◌<◌}
use native.Mathlib.Omega.{arith}
use mathlib.Core.Path.{◌≡◌, refl, sym, ◌∙◌, ap, subst}
use mathlib.Core.Logic.{◌⊎◌, inl, inr}
use mathlib.Core.List.Memᴰ
use mathlib.Core.List.{List, ◌∷◌, ◌++◌, Memᴰ}
use mathlib.Core.Option.{none, some, some-injective, none-ne-some}
use borrow.Author.Tests.{eqb-false}
use Rattle.network.specs.Standing.{Line}
use Rattle.network.specs.Sound.{Rising, Apart}
use Rattle.network.specs.Walk.{Ends, along, against}
use Rattle.network.specs.Pairwise.{Pairwise, no_pair, pairs}
use Rattle.network.specs.Tree.{Entry, entry, Tree, Candidate, distance, score, far}
use Rattle.network.specs.Closing.{closers_at, just_lines, closing}
use Rattle.network.specs.ClosingOrder.{ClosesAt, Sooner}
use Rattle.network.specs.Growth.{EntersNext, Growth, nothing, enters, next_root}
use Rattle.network.proofs.Grown.{Scored, scored, by_of, ByLine, Grown, empty, by_line, by_root, is_new}
use Rattle.network.proofs.Shortest.{same, never, turn}
use Rattle.network.proofs.Flow.{ends_in, ends_two}
use Rattle.network.proofs.Closers.{InTree, Closer, of_just_lines, of_closers, closing_ends, closer_ends}
use Rattle.network.proofs.ClosingOrder.{of_closers_at, order_closers_at}
use Rattle.network.proofs.Pairwise.{pairwise_append}

-- the line y has the two ends of d
abbrev pub Parallel : Line → Line → Type 0
Parallel y d = Ends y d.from d.to

-- y is shorter than d, or as long and of the lower number
abbrev pub Lower : Line → Line → Type 0
Lower y d = (y.length < d.length) ⊎ ((y.length ≡ d.length) × (y.number < d.number))

-- a line with the ends of d has whatever ends d has
pub parallel_ends : {y d : Line} {u v : ℕ} → Parallel y d → Ends d u v → Ends y u v
parallel_ends (along p q) (along a c) = along (p ∙ a) (q ∙ c)
parallel_ends (along p q) (against a c) = against (q ∙ a) (p ∙ c)
parallel_ends (against p q) (along a c) = against (p ∙ a) (q ∙ c)
parallel_ends (against p q) (against a c) = along (q ∙ a) (p ∙ c)

-- and d has its ends
pub parallel_sym : {y d : Line} → Parallel y d → Parallel d y
parallel_sym (along p q) = along (sym p) (sym q)
parallel_sym (against p q) = against (sym q) (sym p)

-- ---- two candidates with the same ends: by score, then number, is by length, then number

sooner_lower : (es : Tree) (y d : Line) (s t : ℕ) → score es y ≡ some s → score es d ≡ some t → Parallel y d
    → (s < t) ⊎ ((s ≡ t) × (y.number < d.number)) → Lower y d
sooner_lower es y d s t p q par so = go so
  where
    a : Scored es y s
    a = scored es y s p

    c : Scored es d t
    c = scored es d t q

    -- both are scored from the same end
    near : (c.near ≡ a.away) ⊎ (c.near ≡ a.near) → a.d ≡ c.d
    near (inl x) = never c.is_in (ap (distance es) x ∙ a.is_out)
    near (inr x) = same a.is_in (ap (distance es) (sym x) ∙ c.is_in)

    one_distance : a.d ≡ c.d
    one_distance = near (ends_two (turn a.ends) (turn (parallel_ends par c.ends)))

    go : (s < t) ⊎ ((s ≡ t) × (y.number < d.number)) → Lower y d
    go (inl lt) = inl (omega (arith, a.sum, c.sum, one_distance))
    go (inr (e, lt)) = inr (omega (arith, a.sum, c.sum, one_distance, e), lt)

-- ---- both closed

module _ (lines : List Line) (rising : Rising lines) (apart : Apart lines) where
  closers_parallel : (es : Tree) (e : Entry) {cs : List Candidate} → Pairwise Sooner cs
      → ((c : Candidate) → Memᴰ c cs → ClosesAt lines es e c)
      → Pairwise (λ (y d : Line). Parallel y d → Lower y d) (just_lines cs)
  unfolding just_lines
  closers_parallel es e no_pair h = no_pair
  closers_parallel es e (pairs {a = a} {rest = cs} f p) h =
      pairs (λ d i. go d (of_just_lines cs d i)) (closers_parallel es e p (λ c i. h c (Memᴰ.tail i)))
    where
      go : (d : Line) → (c : Candidate) × Memᴰ c cs × (d ≡ c.line) → Parallel a.line d → Lower a.line d
      go d (c, i, x) = subst (λ (k : Line). Parallel a.line k → Lower a.line k) (sym x)
          (λ par. sooner_lower es a.line c.line a.score c.score (h a (Memᴰ.head refl)).its_score
          (h c (Memᴰ.tail i)).its_score par (f c i))

  -- a line that closed earlier has both its ends in the tree, and one of a new closing line's is not
  closed_earlier : (e : Entry) (es : Tree) → Grown lines es → distance es e.mark ≡ none → (y d : Line) → Memᴰ y (closing lines es)
      → Memᴰ d (just_lines (closers_at es e lines)) → Parallel y d → ⊥
  closed_earlier e es g out y d i j par =
      let w = closer_ends es e lines d (of_closers es e lines d j) in
      closing_ends lines rising apart g y i w.0 e.mark (parallel_ends par w.2) out

  parallel_step : (e : Entry) (es : Tree) → Grown lines es → distance es e.mark ≡ none
      → Pairwise (λ (y d : Line). Parallel y d → Lower y d) (closing lines es)
      → Pairwise (λ (y d : Line). Parallel y d → Lower y d) (closing lines es ++ just_lines (closers_at es e lines))
  parallel_step e es g out p =
      pairwise_append p (closers_parallel es e (order_closers_at es e rising) (of_closers_at es e lines))
      (λ y d i j par. absurd (closed_earlier e es g out y d i j par))

  -- of two closing lines with the same ends the one that closed first is the lower
  pub closed_first_is_lower : {es : Tree} → Grown lines es → Pairwise (λ (y d : Line). Parallel y d → Lower y d) (closing lines es)
  unfolding closing
  closed_first_is_lower empty = no_pair
  closed_first_is_lower (by_line {e = e} {es = es} g x) = parallel_step e es g (is_new x) (closed_first_is_lower g)
  closed_first_is_lower (by_root {e = e} {es = es} g x) = parallel_step e es g x.out (closed_first_is_lower g)

  -- ---- one entered

  -- what enters next enters by a line
  pub next_by_line : {es : Tree} {c : Candidate} → EntersNext es lines c
      → ByLine lines es (entry (far es c.line) c.score (some c.line))
  next_by_line {es = es} {c = c} x =
      let sc = scored es c.line c.score x.its_score in
      record { l = c.line; its = refl; is_line = x.is_line; sc = sc; its_mark = sc.is_far; least = λ k s m q. not_over (x.lowest k s m q) }
    where
      not_over : {s n : ℕ} → (c.score < s) ⊎ ((c.score ≡ s) × (c.line.number ≤ n)) → c.score ≤ s
      not_over (inl lt) = omega arith
      not_over (inr e) = omega (arith, e.0)

  -- a tree that grows as document 01 says is a grown tree
  pub growth_grown : {b : ℕ} {es : Tree} → Growth b lines es → Grown lines es
  growth_grown nothing = empty
  growth_grown (enters g x) = by_line (growth_grown g) (next_by_line x)
  growth_grown (next_root g d r) = by_root (growth_grown g) (record { its = refl; zero_at = refl; out = r.is_out; done = d })

  -- a tree line is lower than a closing line with the same ends
  pub entered_is_lower : {b : ℕ} {es : Tree} → Growth b lines es → (y d : Line) → InTree es y → Memᴰ d (closing lines es)
      → Parallel y d → Lower y d
  unfolding closing next_by_line
  entered_is_lower nothing y d t m par = absurd (Memᴰ.not-nil m)
  entered_is_lower (next_root {es = es} g done r) y d (x, Memᴰ.head p, h) m par = absurd (none-ne-some y (sym (by_of p) ∙ h))
  entered_is_lower (next_root {es = es} {m = k} g done r) y d (x, Memᴰ.tail i, h) m par =
      go (Memᴰ.append_cases (closing lines es) m) (λ j q. entered_is_lower g y d (x, i, h) j q)
    where
      go : Memᴰ d (closing lines es) ⊎ Memᴰ d (just_lines (closers_at es (entry k 0 none) lines))
          → (Memᴰ d (closing lines es) → Parallel y d → Lower y d) → Lower y d
      go (inl j) ih = ih j par
      go (inr j) ih = let w = of_closers es (entry k 0 none) lines d j in never w.its_score (done d w.is_line)
  entered_is_lower (enters {es = es} {c = c} g n) y d t m par =
      go (Memᴰ.append_cases (closing lines es) m) t (λ t j q. entered_is_lower g y d t j q)
    where
      e : Entry
      e = entry (far es c.line) c.score (some c.line)

      by_line_lem : ByLine lines es e
      by_line_lem = next_by_line n

      go : Memᴰ d (closing lines es) ⊎ Memᴰ d (just_lines (closers_at es e lines)) → InTree (e ∷ es) y
          → (InTree es y → Memᴰ d (closing lines es) → Parallel y d → Lower y d) → Lower y d
      go (inl j) (x, Memᴰ.tail i, h) ih = ih (x, i, h) j par
      go (inl j) (x, Memᴰ.head p, h) ih =
          absurd (closing_ends lines rising apart (growth_grown g) d j by_line_lem.sc.near by_line_lem.sc.away
          (parallel_ends (parallel_sym par) (subst (λ (k : Line). Ends k by_line_lem.sc.near by_line_lem.sc.away)
          (some-injective c.line y (sym (by_of p) ∙ h)) by_line_lem.sc.ends))
          by_line_lem.sc.is_out)
      go (inr j) (x, Memᴰ.tail i, h) ih =
          let w = closer_ends es e lines d (of_closers es e lines d j) in
          absurd (ends_in lines (growth_grown g) x i y h w.0 e.mark (parallel_ends par w.2) (is_new by_line_lem))
      go (inr j) (x, Memᴰ.head p, h) ih =
          subst (λ (k : Line). Parallel k d → Lower k d) (some-injective c.line y (sym (by_of p) ∙ h))
          (own (of_closers es e lines d j)) par
        where
          own : Closer es e lines d → Parallel c.line d → Lower c.line d
          own w q =
              sooner_lower es c.line d c.score w.s n.its_score w.its_score q
              (before (n.lowest d w.s w.is_line w.its_score))
            where
              before : (c.score < w.s) ⊎ ((c.score ≡ w.s) × (c.line.number ≤ d.number))
                  → (c.score < w.s) ⊎ ((c.score ≡ w.s) × (c.line.number < d.number))
              before (inl lt) = inl lt
              before (inr (z, le)) = let other = eqb-false c.line.number d.number w.other in inr (z, omega arith)
