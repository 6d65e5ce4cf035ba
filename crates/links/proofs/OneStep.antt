-- Each step that is made is one of the rule's, the first there is; and each of the rule's is the one that is made. Assumes nothing.
use Prim.Native.Nat.{ℕ, zero, suc, ◌≤◌}
use native.Mathlib.Omega.{arith}
use mathlib.Core.Path.{◌≡◌, refl, sym, ◌∙◌, ap, subst}
use mathlib.Core.Logic.{◌⊎◌, inl, inr}
use mathlib.Core.Bool.{true, false}
use mathlib.Core.List.{List, [], ◌∷◌, ◌++◌, append_assoc}
use mathlib.Core.List.Memᴰ
use mathlib.Core.List.{Memᴰ}
use mathlib.Core.Option.{none, some}
use borrow.Author.Tests.{lt-ltb, eqb-true, eqb-false, eq-eqb, ne_eqb}
use Rattle.network.specs.Pairwise.{Pairwise}
use Rattle.links.specs.Link.{Link, read_from, read_to, joined, closes_on_itself, begun, lowest_line}
use Rattle.links.specs.Ends.{ends_at, has_end, lowest_with, first_that}
use Rattle.links.specs.Sketch.{Sketch, sketch, spur_off, loop_off, merged_at, step}
use Rattle.links.specs.Steps.{EndAt, Lowest, NoMark, NoLoop, Spur, LoopOff, Merge, NoneLeft}
use Rattle.links.specs.Shape.{ByLowest}
use Rattle.links.specs.Stage.{Rises}
use Rattle.links.proofs.Among.{pairwise_after, pairwise_before}
use Rattle.links.proofs.Ends.{end_there, has_end_lem, ends_some, ends_around, no_ends, ends_of_none, FirstOf, first_or_none}
use Rattle.links.proofs.Ends.{finds_first, but_first_lem, finds_none, merges_first, two_ends}
use Rattle.links.proofs.Ends.{lowest_mark, no_mark, lowest_found, none_with}

-- a step of the rule, whichever it is
pub data Next (b : ℕ) (s s' : Sketch) : Type 0 where
  by_spur : Spur b s s' → Next b s s'
  by_loop : LoopOff b s s' → Next b s s'
  by_merge : Merge b s s' → Next b s s'

-- ---- which step is made

module _ (b : ℕ) (s : Sketch) where
  -- the spur, where a mark has one link end
  pub step_spur : (m : ℕ) → Lowest b 1 s.links m → step b s ≡ spur_off m s
  unfolding step
  step_spur m x = rw (lowest_found b 1 s.links m x, lt-ltb 0 m x.low)

  module _ (no_spur : NoMark b 1 s.links) where
    -- else the self-closing loop, where there is one
    pub step_loop : (x : Link) → first_that closes_on_itself s.links ≡ some x → step b s ≡ loop_off x s
    unfolding step
    step_loop x e = rw (none_with b 1 s.links no_spur, e)

    module _ (no_loop : first_that closes_on_itself s.links ≡ none) where
      -- else the merge, where a mark has two link ends
      pub step_merge : (m : ℕ) → Lowest b 2 s.links m → step b s ≡ sketch (merged_at m s.links) s.spurs s.loops
      unfolding step
      step_merge m x = rw (none_with b 1 s.links no_spur, no_loop, lowest_found b 2 s.links m x, lt-ltb 0 m x.low)

      -- else none
      pub step_none : NoMark b 2 s.links → step b s ≡ s
      unfolding step
      step_none no_merge = rw (none_with b 1 s.links no_spur, no_loop, none_with b 2 s.links no_merge)

-- ---- what it makes of the links

module _ (s : Sketch) (before : List Link) (x : Link) (after : List Link) (links_are : s.links ≡ before ++ x ∷ after) where
  -- the spur at mark m, where no link before has an end there
  pub spur_off_lem : (m : ℕ) → ((y : Link) → Memᴰ y before → has_end m y ≡ false) → has_end m x ≡ true
      → spur_off m s ≡ sketch (before ++ after) (s.spurs ++ read_from m x ∷ []) s.loops
  unfolding spur_off
  spur_off_lem m f e = rw (links_are, finds_first (has_end m) before x after f e, but_first_lem (has_end m) before x after f e)

  -- the loop x, where no link before closes on itself
  pub loop_off_lem : ((y : Link) → Memᴰ y before → closes_on_itself y ≡ false) → closes_on_itself x ≡ true
      → loop_off x s ≡ sketch (before ++ after) s.spurs (s.loops ++ begun x ∷ [])
  unfolding loop_off
  loop_off_lem f e = rw (links_are, but_first_lem closes_on_itself before x after f e)

-- ---- what is known of the ends at its mark

module _ (s : Sketch) (m : ℕ) (before : List Link) (x : Link) (after : List Link) (links_are : s.links ≡ before ++ x ∷ after)
    (there : EndAt m x) where
  -- at a mark with one link end only its link has one
  only_one : ends_at m s.links ≡ 1 → (y : Link) → Memᴰ y before → has_end m y ≡ false
  only_one one =
      no_ends m before (omega (
        arith,
        one,
        ap (ends_at m) links_are,
        ends_around m before x after,
        ends_some m x (has_end_lem m x there),
      ))

-- at a mark with two link ends of two links no other link has one
module _ (s : Sketch) (m : ℕ) (before : List Link) (x : Link) (between : List Link) (y : Link) (after : List Link)
    (links_are : s.links ≡ before ++ x ∷ (between ++ y ∷ after)) (x_there : EndAt m x) (y_there : EndAt m y)
    (two : ends_at m s.links ≡ 2) where
  no_more : (ends_at m before ≡ 0) × (ends_at m between ≡ 0)
  no_more =
      let whole = ap (ends_at m) links_are in
      let rest = ends_around m before x (between ++ y ∷ after) in
      let more = ends_around m between y after in
      let one = ends_some m x (has_end_lem m x x_there) in
      let other = ends_some m y (has_end_lem m y y_there) in
      omega arith

  -- none before the first
  none_before : (z : Link) → Memᴰ z before → has_end m z ≡ false
  none_before = no_ends m before no_more.0

  -- and none between the two
  none_between : (z : Link) → Memᴰ z between → has_end m z ≡ false
  none_between = no_ends m between no_more.1

-- ---- each step that is made is one of the rule's

module _ (b : ℕ) (s : Sketch) where
  -- the first link with an end at a mark with one link end comes off as its spur
  makes_spur : (m : ℕ) → Lowest b 1 s.links m → Next b s (step b s)
  makes_spur m x = go (first_or_none (has_end m) s.links)
    where
      go : FirstOf (has_end m) s.links ⊎ ((y : Link) → Memᴰ y s.links → has_end m y ≡ false) → Next b s (step b s)
      go (inl w) = by_spur (record {
        mark = m;
        before = w.before;
        its = w.its;
        after = w.after;
        links_are = w.links_are;
        lowest = x;
        there = end_there m w.its w.holds;
        then = step_spur b s m x ∙ spur_off_lem s w.before w.its w.after w.links_are m w.none_before w.holds;
      })
      go (inr f) = absurd (omega (arith, x.has_them, ends_of_none m s.links f))

  module _ (no_spur : NoMark b 1 s.links) where
    -- of links that rise by lowest line, the first that closes on itself has the lowest line of those that do
    makes_loop : Rises s → FirstOf closes_on_itself s.links → Next b s (step b s)
    makes_loop rises w = by_loop (record {
      no_spur = no_spur;
      before = w.before;
      its = w.its;
      after = w.after;
      links_are = w.links_are;
      closes = eqb-true w.its.first w.its.last w.holds;
      lowest = λ y i e. go y e (Memᴰ.append_cases w.before (subst (Memᴰ y) w.links_are i));
      then = step_loop b s no_spur w.its
          (ap (first_that closes_on_itself) w.links_are
          ∙ finds_first closes_on_itself w.before w.its w.after w.none_before w.holds)
          ∙ loop_off_lem s w.before w.its w.after w.links_are w.none_before w.holds;
    })
      where
        go : (y : Link) → y.first ≡ y.last → Memᴰ y w.before ⊎ Memᴰ y (w.its ∷ w.after)
            → lowest_line w.its.way ≤ lowest_line y.way
        go y e (inl i) = absurd (eqb-false y.first y.last (w.none_before y i) e)
        go y e (inr (Memᴰ.head z)) = omega (arith, ap (λ (x : Link). lowest_line x.way) z)
        go y e (inr (Memᴰ.tail i)) =
            omega (arith, pairwise_after w.before w.its w.after (subst (Pairwise ByLowest) w.links_are rises) y i)

    module _ (no_loop : NoLoop s.links) where
      -- no link is found that closes on itself
      none_closes : first_that closes_on_itself s.links ≡ none
      none_closes = finds_none closes_on_itself s.links (λ y i. ne_eqb y.first y.last (no_loop y i))

      -- the two ends at a mark are those of two links, since no link has both there
      makes_merge : (m : ℕ) → Lowest b 2 s.links m → Next b s (step b s)
      makes_merge m x =
          let w = two_ends m s.links x.has_them no_loop in
          by_merge (record {
            no_spur = no_spur;
            no_loop = no_loop;
            mark = m;
            before = w.before;
            one = w.one;
            between = w.between;
            other = w.other;
            after = w.after;
            links_are = w.links_are ∙ sym (append_assoc w.before (w.one ∷ w.between) (w.other ∷ w.after));
            lowest = x;
            one_there = end_there m w.one w.one_there;
            other_there = end_there m w.other w.other_there;
            then = step_merge b s no_spur none_closes m x
                ∙ ap (λ (l : List Link). sketch l s.spurs s.loops)
                (ap (merged_at m) w.links_are
                ∙ merges_first m w.before w.one w.between w.other w.after w.none_before w.one_there w.none_between
                w.other_there
                ∙ sym (append_assoc w.before (joined (read_to m w.one) (read_from m w.other) ∷ w.between) w.after));
          })

  -- a step of the rule is made, or there is none
  pub step_is : Rises s → Next b s (step b s) ⊎ NoneLeft b s
  step_is rises = spurs (lowest_with b 1 s.links) refl
    where
      merges : NoMark b 1 s.links → NoLoop s.links → (n : ℕ) → lowest_with b 2 s.links ≡ n → Next b s (step b s) ⊎ NoneLeft b s
      merges no_spur no_loop zero e = inr (record { no_spur = no_spur; no_loop = no_loop; no_merge = no_mark b 2 s.links e })
      merges no_spur no_loop (suc i) e = inl (makes_merge no_spur no_loop (suc i) (lowest_mark b 2 s.links i e))

      loops : NoMark b 1 s.links → FirstOf closes_on_itself s.links ⊎ ((y : Link) → Memᴰ y s.links → closes_on_itself y ≡ false)
          → Next b s (step b s) ⊎ NoneLeft b s
      loops no_spur (inl w) = inl (makes_loop no_spur rises w)
      loops no_spur (inr f) =
          merges no_spur (λ y i. eqb-false y.first y.last (f y i)) (lowest_with b 2 s.links) refl

      spurs : (n : ℕ) → lowest_with b 1 s.links ≡ n → Next b s (step b s) ⊎ NoneLeft b s
      spurs zero e = loops (no_mark b 1 s.links e) (first_or_none closes_on_itself s.links)
      spurs (suc i) e = inl (makes_spur (suc i) (lowest_mark b 1 s.links i e))

  -- where none is left, nothing changes
  pub none_made : NoneLeft b s → step b s ≡ s
  none_made x = step_none b s x.no_spur (none_closes x.no_spur x.no_loop) x.no_merge

-- ---- each step of the rule is the one that is made

module _ (b : ℕ) (s s' : Sketch) where
  -- only one link has an end at the mark of a spur
  is_spur : Spur b s s' → s' ≡ step b s
  is_spur x =
      x.then ∙ sym (step_spur b s x.mark x.lowest
      ∙ spur_off_lem s x.before x.its x.after x.links_are x.mark
      (only_one s x.mark x.before x.its x.after x.links_are x.there x.lowest.has_them)
      (has_end_lem x.mark x.its x.there))

  -- no link before the one of lowest line closes on itself, since they rise by lowest line
  is_loop : Rises s → LoopOff b s s' → s' ≡ step b s
  is_loop rises x =
      x.then ∙ sym (step_loop b s x.no_spur x.its
      (ap (first_that closes_on_itself) x.links_are ∙ finds_first closes_on_itself x.before x.its x.after none_before closes)
      ∙ loop_off_lem s x.before x.its x.after x.links_are none_before closes)
    where
      closes : closes_on_itself x.its ≡ true
      closes = eq-eqb x.its.first x.its.last x.closes

      none_before : (y : Link) → Memᴰ y x.before → closes_on_itself y ≡ false
      none_before y i = ne_eqb y.first y.last (λ e. omega (
        arith,
        pairwise_before x.before x.its x.after (subst (Pairwise ByLowest) x.links_are rises) y i,
        x.lowest y (subst (Memᴰ y) (sym x.links_are) (Memᴰ.append_left (x.its ∷ x.after) i)) e,
      ))

  -- and only two links at the mark of a merge
  is_merge : Merge b s s' → s' ≡ step b s
  is_merge x =
      x.then ∙ sym (step_merge b s x.no_spur (none_closes b s x.no_spur x.no_loop) x.mark x.lowest
      ∙ ap (λ (l : List Link). sketch l s.spurs s.loops)
      (ap (merged_at x.mark) links_are
      ∙ merges_first x.mark x.before x.one x.between x.other x.after
      (none_before s x.mark x.before x.one x.between x.other x.after links_are x.one_there x.other_there
      x.lowest.has_them)
      (has_end_lem x.mark x.one x.one_there)
      (none_between s x.mark x.before x.one x.between x.other x.after links_are x.one_there x.other_there
      x.lowest.has_them)
      (has_end_lem x.mark x.other x.other_there)
      ∙ sym (append_assoc x.before (joined (read_to x.mark x.one) (read_from x.mark x.other) ∷ x.between) x.after)))
    where
      links_are : s.links ≡ x.before ++ x.one ∷ (x.between ++ x.other ∷ x.after)
      links_are = x.links_are ∙ append_assoc x.before (x.one ∷ x.between) (x.other ∷ x.after)

  -- whichever it is
  pub is_step : Rises s → Next b s s' → s' ≡ step b s
  is_step rises (by_spur x) = is_spur x
  is_step rises (by_loop x) = is_loop rises x
  is_step rises (by_merge x) = is_merge x
