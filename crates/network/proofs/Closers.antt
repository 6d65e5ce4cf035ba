-- Every line is in the tree or closes a loop, and not both; closing lines differ. Assumes nothing.
use Prim.Native.Nat.{ℕ, ◌+◌}
use native.Mathlib.Omega.{arith}
use mathlib.Core.Path.{◌≡◌, refl, sym, ◌∙◌, ap, subst}
use mathlib.Core.Logic.{◌⊎◌, inl, inr}
use mathlib.Core.Bool.{false}
use mathlib.Core.List.Memᴰ
use mathlib.Core.List.{List, [], ◌∷◌, ◌++◌, Memᴰ}
use mathlib.Core.Option.{Option, none, some, some-injective, none-ne-some}
use native.Mathlib.Decide.{ℕ_discrete}
use borrow.Author.Tests.{eq-eqb, ne_eqb}
use Rattle.network.specs.Standing.{Line}
use Rattle.network.specs.Tree.{Entry, Tree, Candidate, candidate, distance, score, far}
use Rattle.network.specs.Closing.{same_line, closers_at, just_lines, closing}
use Rattle.network.specs.Pairwise.{Pairwise, no_pair, pairs}
use Rattle.network.specs.ClosingOrder.{ClosesAt, Sooner, Distinct}
use Rattle.network.proofs.Grown.{Scored, scored, score_of_lem, After, new, old, after, keeps, ends_to, by_of, ByLine, Grown, empty}
use Rattle.network.proofs.Grown.{by_line, by_root, is_new, tree_line}
use Rattle.network.specs.Walk.{Ends, along, against}
use Rattle.network.proofs.Shortest.{same, never, was_out}
use Rattle.network.proofs.Descent.{clash}
use Rattle.network.specs.Sound.{Rising, Apart}
use Rattle.network.proofs.Count.{unique}
use Rattle.network.proofs.ClosingOrder.{not_same, of_not_same, in_closers_at, of_closers_at, order_closers_at}
use Rattle.network.proofs.Pairwise.{pairwise_append}
use Rattle.network.proofs.Flow.{ends_in, ends_two, entered}

-- ---- the lines of candidates

pub in_just_lines : (cs : List Candidate) (c : Candidate) → Memᴰ c cs → Memᴰ c.line (just_lines cs)
unfolding just_lines
in_just_lines [] c m = elim m [ ]
in_just_lines (d ∷ cs) c (Memᴰ.head e) = Memᴰ.head (ap (λ (x : Candidate). x.line) e)
in_just_lines (d ∷ cs) c (Memᴰ.tail m) = Memᴰ.tail (in_just_lines cs c m)

pub of_just_lines : (cs : List Candidate) (l : Line) → Memᴰ l (just_lines cs) → (c : Candidate) × Memᴰ c cs × (l ≡ c.line)
unfolding just_lines
of_just_lines [] l m = absurd (Memᴰ.not-nil m)
of_just_lines (c ∷ cs) l (Memᴰ.head e) = (c, Memᴰ.head refl, e)
of_just_lines (c ∷ cs) l (Memᴰ.tail m) = let i = of_just_lines cs l m in (i.0, Memᴰ.tail i.1, i.2)

-- ---- what closes at an entry

pub record Closer (es : Tree) (e : Entry) (lines : List Line) (l : Line) : Type 0 where
  pub is_line : Memᴰ l lines
  pub s : ℕ
  pub its_score : score es l ≡ some s
  pub reaches : far es l ≡ e.mark
  pub other : same_line e.by l ≡ false

pub in_closers : (es : Tree) (e : Entry) (lines : List Line) (l : Line) → Closer es e lines l
    → Memᴰ l (just_lines (closers_at es e lines))
in_closers es e lines l c =
    in_just_lines (closers_at es e lines) (candidate c.s l) (in_closers_at es e lines (candidate c.s l)
    (record { is_line = c.is_line; its_score = c.its_score; reaches = c.reaches; not_entered = of_not_same e.by l c.other }))

pub of_closers : (es : Tree) (e : Entry) (lines : List Line) (l : Line) → Memᴰ l (just_lines (closers_at es e lines))
    → Closer es e lines l
of_closers es e lines l m =
    let i = of_just_lines (closers_at es e lines) l m in
    let w = of_closers_at es e lines i.0 i.1 in
    subst (λ (x : Line). Closer es e lines x) (sym i.2) (record {
      is_line = w.is_line;
      s = i.0.score;
      its_score = w.its_score;
      reaches = w.reaches;
      other = not_same e.by i.0.line w.not_entered;
    })

-- a closer's two ends: one in the tree, one the mark that enters
pub closer_ends : (es : Tree) (e : Entry) (lines : List Line) (l : Line) → Closer es e lines l
    → (u d : ℕ) × Ends l u e.mark × (distance es u ≡ some d)
closer_ends es e lines l c =
    let w = scored es l c.s c.its_score in
    (w.near, w.d, ends_to (sym w.is_far ∙ c.reaches) w.ends, w.is_in)

-- the far end of a line with one end in the tree
far_of : (es : Tree) (l : Line) (u v d : ℕ) → Ends l u v → distance es u ≡ some d → distance es v ≡ none → far es l ≡ v
far_of es l u v d j h out = let w = scored es l (d + l.length) (score_of_lem es l u v d j h out) in w.is_far ∙ go w (ends_two j w.ends)
  where
    go : (w : Scored es l (d + l.length)) → (w.away ≡ u) ⊎ (w.away ≡ v) → w.away ≡ v
    go w (inl x) = never h (ap (distance es) (sym x) ∙ w.is_out)
    go w (inr x) = x

-- ---- tree or closing

abbrev pub InTree : Tree → Line → Type 0
InTree es l = (e : Entry) × Memᴰ e es × (e.by ≡ some l)

module _ (lines : List Line) (rising : Rising lines) (apart : Apart lines) where
  same_line_of : (l : Line) (k : Line) (o : Option Line) → o ≡ some k → (l.number ≡ k.number → ⊥) → same_line o l ≡ false
  same_line_of l k o h d = rw h (ne_eqb k.number l.number (λ z. d (sym z)))

  -- a line that has one end in the tree and the new mark for its other: by which the mark came in, or closing
  arrives : (es : Tree) (e : Entry) (b : ByLine lines es e) (l : Line) → Memᴰ l lines → (u d : ℕ) → Ends l u e.mark
      → distance es u ≡ some d
      → InTree (e ∷ es) l ⊎ Memᴰ l (just_lines (closers_at es e lines))
  arrives es e b l m u d j h = go (ℕ_discrete l.number b.l.number)
    where
      go : Dec (l.number ≡ b.l.number)
          → ((x : Entry) × Memᴰ x (e ∷ es) × (x.by ≡ some l)) ⊎ Memᴰ l (just_lines (closers_at es e lines))
      go (yes z) = inl (e, Memᴰ.head refl, b.its ∙ ap some (unique lines rising b.l l b.is_line m (sym z)))
      go (no z) =
          let s = score_of_lem es l u e.mark d j h (is_new b) in
          inr (in_closers es e lines l
          (record {
            is_line = m;
            s = d + l.length;
            its_score = s;
            reaches = far_of es l u e.mark d j h (is_new b);
            other = same_line_of l
                b.l e.by b.its z;
          }))

  -- one step of the law below: `arrive` says what becomes of a line with one end in the tree and the new mark for its other
  tree_or_closing_step : (e : Entry) (es : Tree) (l : Line) → Memᴰ l lines → (a b : ℕ) → distance (e ∷ es) l.from ≡ some a
      → distance (e ∷ es) l.to ≡ some b
      → ((u d : ℕ) → Ends l u e.mark → distance es u ≡ some d → InTree (e ∷ es) l ⊎ Memᴰ l (just_lines (closers_at es e lines)))
      → (distance es l.from ≡ some a → distance es l.to ≡ some b → InTree es l ⊎ Memᴰ l (closing lines es))
      → InTree (e ∷ es) l ⊎ Memᴰ l (closing lines es ++ just_lines (closers_at es e lines))
  tree_or_closing_step e es l m a b p q arrive ih = go (after e es l.from) (after e es l.to)
    where
      late : InTree (e ∷ es) l ⊎ Memᴰ l (just_lines (closers_at es e lines))
          → InTree (e ∷ es) l ⊎ Memᴰ l (closing lines es ++ just_lines (closers_at es e lines))
      late (inl t) = inl t
      late (inr c) = inr (Memᴰ.append_right (closing lines es) c)

      early : InTree es l ⊎ Memᴰ l (closing lines es)
          → InTree (e ∷ es) l ⊎ Memᴰ l (closing lines es ++ just_lines (closers_at es e lines))
      early (inl (x, i, h)) = inl (x, Memᴰ.tail i, h)
      early (inr c) = inr (Memᴰ.append_left (just_lines (closers_at es e lines)) c)

      go : After e es l.from → After e es l.to
          → InTree (e ∷ es) l ⊎ Memᴰ l (closing lines es ++ just_lines (closers_at es e lines))
      go (new i j) (new i' j') = absurd (apart l m (sym i ∙ i'))
      go (new i j) (old i' j') = late (arrive l.to b (against refl (sym i)) (sym j' ∙ q))
      go (old i j) (new i' j') = late (arrive l.from a (along refl (sym i')) (sym j ∙ p))
      go (old i j) (old i' j') = early (ih (sym j ∙ p) (sym j' ∙ q))

  pub tree_or_closing : {es : Tree} → Grown lines es → (l : Line) → Memᴰ l lines → (a b : ℕ) → distance es l.from ≡ some a
      → distance es l.to ≡ some b
      → InTree es l ⊎ Memᴰ l (closing lines es)
  unfolding closing distance
  tree_or_closing empty l m a b p q = never p refl
  tree_or_closing (by_line {e = e} {es = es} g x) l m a b p q =
      tree_or_closing_step e es l m a b p q (arrives es e x l m) (λ p q. tree_or_closing g l m a b p q)
  tree_or_closing (by_root {e = e} {es = es} g x) l m a b p q =
      tree_or_closing_step e es l m a b p q (λ u d j h. never (score_of_lem es l u e.mark d j h x.out) (x.done l m))
      (λ p q. tree_or_closing g l m a b p q)

  -- ---- a closing line is a line, has both ends in the tree, and is not of the tree

  closing_line_of : (es : Tree) (c : Line) → Memᴰ c (closing lines es) → Memᴰ c lines
  unfolding closing
  closing_line_of [] c m = absurd (Memᴰ.not-nil m)
  closing_line_of (e ∷ es) c m = go (closing_line_of es c) (Memᴰ.append_cases (closing lines es) m)
    where
      go : (Memᴰ c (closing lines es) → Memᴰ c lines)
          → Memᴰ c (closing lines es) ⊎ Memᴰ c (just_lines (closers_at es e lines)) → Memᴰ c lines
      go ih (inl i) = ih i
      go ih (inr i) = (of_closers es e lines c i).is_line

  pub closing_line : {es : Tree} → Grown lines es → (c : Line) → Memᴰ c (closing lines es) → Memᴰ c lines
  closing_line {es = es} g c m = closing_line_of es c m

  -- one step of the law below, whatever entered
  closing_ends_step : (e : Entry) (es : Tree) → distance es e.mark ≡ none → (c : Line) (u v : ℕ) → Ends c u v
      → (Memᴰ c (closing lines es) → distance es v ≡ none → ⊥)
      → Memᴰ c (closing lines es) ⊎ Memᴰ c (just_lines (closers_at es e lines)) → distance (e ∷ es) v ≡ none → ⊥
  closing_ends_step e es out c u v j ih (inl i) h = ih i (was_out e es v h)
  closing_ends_step e es out c u v j ih (inr i) h =
      let w = closer_ends es e lines c (of_closers es e lines c i) in go w.0 w.1 w.3 (ends_two w.2 j)
    where
      go : (n d : ℕ) → distance es n ≡ some d → (v ≡ n) ⊎ (v ≡ e.mark) → ⊥
      go n d k (inl x) = never (keeps e es n d out k) (ap (distance (e ∷ es)) (sym x) ∙ h)
      go n d k (inr x) = never (entered e es) (ap (distance (e ∷ es)) (sym x) ∙ h)

  pub closing_ends : {es : Tree} → Grown lines es → (c : Line) → Memᴰ c (closing lines es) → (u v : ℕ) → Ends c u v
      → distance es v ≡ none → ⊥
  unfolding closing
  closing_ends empty c m u v j h = Memᴰ.not-nil m
  closing_ends (by_line {e = e} {es = es} g x) c m u v j h =
      closing_ends_step e es (is_new x) c u v j (λ i. closing_ends g c i u v j) (Memᴰ.append_cases (closing lines es) m) h
  closing_ends (by_root {e = e} {es = es} g x) c m u v j h =
      closing_ends_step e es x.out c u v j (λ i. closing_ends g c i u v j) (Memᴰ.append_cases (closing lines es) m) h

  -- what closes at an entry has an end outside the tree before it
  closer_out : (e : Entry) (es : Tree) (c : Line) → distance es e.mark ≡ none → Memᴰ c (just_lines (closers_at es e lines))
      → (u v : ℕ) × Ends c u v × (distance es v ≡ none)
  closer_out e es c out i = let w = closer_ends es e lines c (of_closers es e lines c i) in (w.0, e.mark, w.2, out)

  -- one step of the law below: the line by which e entered had an end outside the tree
  closing_not_tree_step : (e : Entry) (es : Tree) → Grown lines es → distance es e.mark ≡ none
      → ((l : Line) → e.by ≡ some l → Memᴰ l lines × ((u v : ℕ) × Ends l u v × (distance es v ≡ none)))
      → (c : Line) → Memᴰ c (closing lines es) ⊎ Memᴰ c (just_lines (closers_at es e lines)) → (l : Line) → InTree (e ∷ es) l
      → c.number ≡ l.number
      → (Memᴰ c (closing lines es) → InTree es l → ⊥) → ⊥
  closing_not_tree_step e es g out own c (inl i) l (y, Memᴰ.head p, h) z ih =
      let o = own l (sym (by_of p) ∙ h) in
      let is : l ≡ c = unique lines rising l c o.0 (closing_line_of es c i) (sym z) in
      closing_ends g c i o.1.0 o.1.1 (subst (λ (k : Line). Ends k o.1.0 o.1.1) is o.1.2) o.1.3
  closing_not_tree_step e es g out own c (inl i) l (y, Memᴰ.tail k, h) z ih = ih i (y, k, h)
  closing_not_tree_step e es g out own c (inr i) l (y, Memᴰ.head p, h) z ih =
      clash (ap (λ (o : Option Line). same_line o c) (sym (by_of p) ∙ h) ∙ eq-eqb l.number c.number (sym z))
      (of_closers es e lines c i).other
  closing_not_tree_step e es g out own c (inr i) l (y, Memᴰ.tail k, h) z ih =
      let w = closer_out e es c out i in
      let is : c ≡ l = unique lines rising c l (of_closers es e lines c i).is_line (tree_line lines g y k l h) z in
      ends_in lines g y k l h w.0 w.1 (subst (λ (k : Line). Ends k w.0 w.1) is w.2) w.3

  pub closing_not_tree : {es : Tree} → Grown lines es → (c : Line) → Memᴰ c (closing lines es) → (l : Line) → InTree es l
      → c.number ≡ l.number → ⊥
  unfolding closing
  closing_not_tree empty c m l t z = Memᴰ.not-nil m
  closing_not_tree (by_line {e = e} {es = es} g x) c m l t z =
      closing_not_tree_step e es g (is_new x) own c (Memᴰ.append_cases (closing lines es) m) l t z (λ i t. closing_not_tree g c i l t z)
    where
      own : (l : Line) → e.by ≡ some l → Memᴰ l lines × ((u v : ℕ) × Ends l u v × (distance es v ≡ none))
      own l h =
          subst (λ (k : Line). Memᴰ k lines × ((u v : ℕ) × Ends k u v × (distance es v ≡ none)))
          (some-injective x.l l (sym x.its ∙ h))
          (x.is_line, (x.sc.near, x.sc.away, x.sc.ends, x.sc.is_out))
  closing_not_tree (by_root {e = e} {es = es} g x) c m l t z =
      closing_not_tree_step e es g x.out (λ l h. absurd (none-ne-some l (sym x.its ∙ h))) c
      (Memᴰ.append_cases (closing lines es) m) l t z
      (λ i t. closing_not_tree g c i l t z)

-- ---- closing lines differ

-- candidates "by score, then number" are different lines
distinct_sooner : (es : Tree) (e : Entry) (lines : List Line) → Rising lines → {cs : List Candidate} → Pairwise Sooner cs
    → ((c : Candidate) → Memᴰ c cs → ClosesAt lines es e c) → Distinct (just_lines cs)
unfolding just_lines
distinct_sooner es e lines rising no_pair h = no_pair
distinct_sooner es e lines rising (pairs {a = a} {rest = cs} f p) h =
    pairs (λ k i. apart_from k (of_just_lines cs k i)) (distinct_sooner es e lines rising p (λ c i. h c (Memᴰ.tail i)))
  where
    apart_from : (k : Line) → (c : Candidate) × Memᴰ c cs × (k ≡ c.line) → a.line.number ≡ k.number → ⊥
    apart_from k (c, i, x) z = go (f c i)
      where
        u : ClosesAt lines es e a
        u = h a (Memᴰ.head refl)

        w : ClosesAt lines es e c
        w = h c (Memᴰ.tail i)

        one_number : a.line.number ≡ c.line.number
        one_number = z ∙ ap (λ (l : Line). l.number) x

        one_line : a.line ≡ c.line
        one_line = unique lines rising a.line c.line u.is_line w.is_line one_number

        go : Sooner a c → ⊥
        go (inl lt) = omega (arith, same u.its_score (ap (score es) one_line ∙ w.its_score))
        go (inr lt) = omega (arith, lt.1, one_number)

distinct_closers : (es : Tree) (e : Entry) (lines : List Line) → Rising lines → Distinct (just_lines (closers_at es e lines))
distinct_closers es e lines rising = distinct_sooner es e lines rising (order_closers_at es e rising) (of_closers_at es e lines)

module _ (lines : List Line) (rising : Rising lines) (apart : Apart lines) where
  distinct_step : (e : Entry) (es : Tree) → Grown lines es → distance es e.mark ≡ none → Distinct (closing lines es)
      → Distinct (closing lines es ++ just_lines (closers_at es e lines))
  distinct_step e es g out d = pairwise_append d (distinct_closers es e lines rising) apart_from
    where
      apart_from : (x y : Line) → Memᴰ x (closing lines es) → Memᴰ y (just_lines (closers_at es e lines)) → x.number ≡ y.number
          → ⊥
      apart_from x y i j z =
          let w = closer_out lines rising apart e es y out j in
          let is : y ≡ x = unique lines rising y x (of_closers es e lines y j).is_line (closing_line lines rising apart g x i) (sym z) in
          closing_ends lines rising apart g x i w.0 w.1 (subst (λ (k : Line). Ends k w.0 w.1) is w.2) w.3

  pub distinct_closing : {es : Tree} → Grown lines es → Distinct (closing lines es)
  unfolding closing
  distinct_closing empty = no_pair
  distinct_closing (by_line {e = e} {es = es} g x) = distinct_step e es g (is_new x) (distinct_closing g)
  distinct_closing (by_root {e = e} {es = es} g x) = distinct_step e es g x.out (distinct_closing g)
