-- What holds of the sketch at every stage, from every line as a link of its own until no step is left. Assumes nothing.
use Prim.Native.Nat.{ℕ, zero, suc}
use native.Mathlib.Omega.{arith}
use mathlib.Core.Path.{◌≡◌, refl, sym, ◌∙◌, ap, subst}
use mathlib.Core.Logic.{◌⊎◌, inl, inr}
use mathlib.Core.Bool.{true}
use mathlib.Core.List.Memᴰ
use mathlib.Core.List.{List, [], ◌∷◌, ◌++◌, map, append-nil, append_assoc}
use mathlib.Core.List.{Memᴰ}
use lib.ListN.{length}
use Rattle.network.specs.Standing.{Line}
use Rattle.network.specs.Sound.{Sound, Rising, none_left, then}
use Rattle.network.specs.Pairwise.{Pairwise, no_pair, pairs}
use Rattle.network.specs.Walk.{Pass, pass, flip, Walk, here, step as onward}
use Rattle.network.proofs.Walks.{walk_append}
use Rattle.links.specs.Link.{Link, own_link, turned, read_from, read_to, joined, begun, lowest_line}
use Rattle.links.specs.Sketch.{Sketch, sketch, step, steps, start_of, in_all}
use Rattle.links.specs.Shape.{ByLowest, times_run, times_in, lines_in}
use Rattle.links.specs.Steps.{EndAt, Spur, LoopOff, Merge, NoneLeft}
use Rattle.links.proofs.Turning.{walk_turned, of_turned, turned_some, from_holds, to_holds, reads_from, reads_to}
use Rattle.links.proofs.Lowest.{joined_lowest, both_some}
use Rattle.links.proofs.Begun.{begun_count, begun_each}
use Rattle.links.proofs.Among.{it_is_in, all_without, all_both, pairwise_without, all_instead, pairwise_instead, pairwise_before}
use Rattle.links.specs.Stage.{Drawn, DrawnWay, Stage}
use Rattle.links.proofs.OneStep.{Next, by_spur, by_loop, by_merge, step_is, none_made}
use Rattle.links.proofs.Kept.{times_add, lines_add, times_total, lines_total, next_keeps}

-- ---- one link

module _ {b : ℕ} {lines : List Line} where
  -- so is a line as a link of its own
  own_drawn : Sound b lines → (l : Line) → Memᴰ l lines → Drawn b lines (own_link l)
  own_drawn sound l m = let p = sound.placed l m in record {
    first_low = p.from_low;
    first_high = p.from_high;
    last_low = p.to_low;
    last_high = p.to_high;
    some_line = λ e. Memᴰ.not-nil (subst (Memᴰ (pass l true)) e (Memᴰ.head refl));
    over_lines = λ q i. subst (λ (k : Line). Memᴰ k lines) (sym (ap (λ (o : Pass). o.line) (Memᴰ.eq_of_singleton i))) m;
  }

  -- a link read the other way
  turned_drawn : (x : Link) → Drawn b lines x → Drawn b lines (turned x)
  turned_drawn x d = record {
    first_low = d.last_low;
    first_high = d.last_high;
    last_low = d.first_low;
    last_high = d.first_high;
    some_line = turned_some x.way d.some_line;
    over_lines = λ p i. d.over_lines (flip p) (of_turned x.way p i);
  }

  -- and two links that become one
  joined_drawn : (x y : Link) → Drawn b lines x → Drawn b lines y → Drawn b lines (joined x y)
  joined_drawn x y c d = record {
    first_low = c.first_low;
    first_high = c.first_high;
    last_low = d.last_low;
    last_high = d.last_high;
    some_line = both_some x.way y.way c.some_line;
    over_lines = all_both (λ (p : Pass). Memᴰ p.line lines) x.way y.way c.over_lines d.over_lines;
  }

  -- and a link begun with its lowest line
  begun_drawn : (x : Link) → Drawn b lines x → Drawn b lines (begun x)
  begun_drawn x d = record {
    first_low = d.first_low;
    first_high = d.first_high;
    last_low = d.last_low;
    last_high = d.last_high;
    some_line = λ e. d.some_line (no_lines x.way
        (omega (arith, begun_count (lowest_line x.way) [] x.way, ap length e)));
    over_lines = begun_each (λ (l : Line). Memᴰ l lines) (lowest_line x.way) [] x.way
        (λ q i. absurd (Memᴰ.not-nil i)) d.over_lines;
  }
    where
      no_lines : (w : List Pass) → length w ≡ 0 → w ≡ []
      no_lines [] e = refl
      no_lines (p ∷ ps) e = absurd (omega (arith, e))

module _ {b : ℕ} {lines : List Line} where
  -- so is a line as a link of its own
  own_way : Sound b lines → (l : Line) → Memᴰ l lines → DrawnWay b lines (own_link l)
  own_way sound l m = record { drawn = own_drawn sound l m; walks = onward refl m (here refl) }

  -- a link read the other way, from a mark, and to a mark
  pub turned_way : (x : Link) → DrawnWay b lines x → DrawnWay b lines (turned x)
  turned_way x d = record { drawn = turned_drawn x d.drawn; walks = walk_turned d.walks }

  from_way : (m : ℕ) (x : Link) → DrawnWay b lines x → DrawnWay b lines (read_from m x)
  from_way m x d = from_holds (DrawnWay b lines) m x d (turned_way x d)

  to_way : (m : ℕ) (x : Link) → DrawnWay b lines x → DrawnWay b lines (read_to m x)
  to_way m x d = to_holds (DrawnWay b lines) m x d (turned_way x d)

  -- and two links that become one at a mark at which both have an end
  joined_way : (m : ℕ) (x y : Link) → EndAt m x → EndAt m y → DrawnWay b lines x → DrawnWay b lines y
      → DrawnWay b lines (joined (read_to m x) (read_from m y))
  joined_way m x y p q c d = record {
    drawn = joined_drawn (read_to m x) (read_from m y) (to_way m x c).drawn (from_way m y d).drawn;
    walks = walk_append (to_way m x c).walks
        (subst (λ (k : ℕ). Walk lines (read_from m y).last k (read_from m y).way) (reads_from m y q ∙ sym (reads_to m x p))
        (from_way m y d).walks);
  }

-- ---- the sketch at a stage

-- ---- at the start

-- links of one line each have as many lines
own_lines : (lines : List Line) → lines_in (map own_link lines) ≡ length lines
unfolding lines_in
own_lines [] = refl
own_lines (l ∷ ls) = omega (arith, own_lines ls)

-- and rise by lowest line, since the lines rise
own_rise : {lines : List Line} → Rising lines → Pairwise ByLowest (map own_link lines)
unfolding lowest_line
own_rise none_left = no_pair
own_rise (then {l = l} {ls = ls} above r) = pairs later (own_rise r)
  where
    later : (x : Link) → Memᴰ x (map own_link ls) → ByLowest (own_link l) x
    later x i = let k = Memᴰ.of_map own_link ls i in omega (arith, above k.0 k.1, ap (λ (y : Link). lowest_line y.way) k.2)

-- every line is a link of its own
pub stage_start : {b : ℕ} {lines : List Line} → Sound b lines → Stage b lines (start_of lines)
unfolding start_of
stage_start {b = b} {lines = lines} sound = record {
  rises = own_rise sound.rising;
  link_way = λ x i. let k = Memᴰ.of_map own_link lines i in subst (DrawnWay b lines) k.2 (own_way sound k.0 k.1);
  spur_way = λ x i. absurd (Memᴰ.not-nil i);
  loop_drawn = λ x i. absurd (Memᴰ.not-nil i);
  times_are = λ n. ap (times_in n) all_own;
  lines_are = ap lines_in all_own ∙ own_lines lines;
}
  where
    all_own : in_all (sketch (map own_link lines) [] []) ≡ map own_link lines
    all_own = append-nil (map own_link lines ++ []) ∙ append-nil (map own_link lines)

-- ---- one step further

-- a step runs each line as often
next_times : {b : ℕ} {s s' : Sketch} (n : ℕ) → Next b s s' → times_in n (in_all s') ≡ times_in n (in_all s)
next_times {s = s} {s' = s'} n x =
    times_total n (in_all s') ∙ next_keeps (λ (y : Link). times_run n y.way) (times_add n) x ∙ sym (times_total n (in_all s))

-- and as many in all
next_lines : {b : ℕ} {s s' : Sketch} → Next b s s' → lines_in (in_all s') ≡ lines_in (in_all s)
next_lines {s = s} {s' = s'} x =
    lines_total (in_all s') ∙ next_keeps (λ (y : Link). length y.way) lines_add x ∙ sym (lines_total (in_all s))

-- what holds of each of some links and of one more holds of each of all
one_more : (P : Link → Type 0) (xs : List Link) (y : Link) → ((x : Link) → Memᴰ x xs → P x) → P y
    → (x : Link) → Memᴰ x (xs ++ y ∷ []) → P x
one_more P xs y f p = all_both P xs (y ∷ []) f (λ x i. subst P (sym (Memᴰ.eq_of_singleton i)) p)

module _ {b : ℕ} {lines : List Line} {s : Sketch} (t : Stage b lines s) where
  -- of the links, one of which is singled out
  module _ (before : List Link) (x : Link) (after : List Link) (links_are : s.links ≡ before ++ x ∷ after) where
    -- each is drawn from mark to mark
    way_among : (y : Link) → Memᴰ y (before ++ x ∷ after) → DrawnWay b lines y
    way_among y i = t.link_way y (subst (Memᴰ y) (sym links_are) i)

    -- that one is drawn
    its_way : DrawnWay b lines x
    its_way = way_among x (it_is_in before x after)

    -- the others are, and rise
    other_ways : (y : Link) → Memᴰ y (before ++ after) → DrawnWay b lines y
    other_ways = all_without (DrawnWay b lines) before x after way_among

    others_rise : Pairwise ByLowest (before ++ after)
    others_rise = pairwise_without before x after (subst (Pairwise ByLowest) links_are t.rises)

  -- once a spur is off
  stage_spur : {s' : Sketch} → Spur b s s' → Stage b lines s'
  stage_spur x = subst (Stage b lines) (sym x.then) (record {
    rises = others_rise x.before x.its x.after x.links_are;
    link_way = other_ways x.before x.its x.after x.links_are;
    spur_way = one_more (DrawnWay b lines) s.spurs (read_from x.mark x.its) t.spur_way
        (from_way x.mark x.its (its_way x.before x.its x.after x.links_are));
    loop_drawn = t.loop_drawn;
    times_are = λ n. ap (λ (u : Sketch). times_in n (in_all u)) (sym x.then) ∙ next_times n (by_spur x) ∙ t.times_are n;
    lines_are = ap (λ (u : Sketch). lines_in (in_all u)) (sym x.then) ∙ next_lines (by_spur x) ∙ t.lines_are;
  })

  -- once a self-closing loop is off
  stage_loop : {s' : Sketch} → LoopOff b s s' → Stage b lines s'
  stage_loop x = subst (Stage b lines) (sym x.then) (record {
    rises = others_rise x.before x.its x.after x.links_are;
    link_way = other_ways x.before x.its x.after x.links_are;
    spur_way = t.spur_way;
    loop_drawn = one_more (Drawn b lines) s.loops (begun x.its) t.loop_drawn
        (begun_drawn x.its (its_way x.before x.its x.after x.links_are).drawn);
    times_are = λ n. ap (λ (u : Sketch). times_in n (in_all u)) (sym x.then) ∙ next_times n (by_loop x) ∙ t.times_are n;
    lines_are = ap (λ (u : Sketch). lines_in (in_all u)) (sym x.then) ∙ next_lines (by_loop x) ∙ t.lines_are;
  })

  -- once two links have become one
  stage_merge : {s' : Sketch} → Merge b s s' → Stage b lines s'
  stage_merge x = subst (Stage b lines) (sym x.then) (record {
    rises = subst (Pairwise ByLowest) (sym (append_assoc x.before (made ∷ x.between) x.after))
        (pairwise_instead x.before x.one made (x.between ++ x.after)
        (subst (Pairwise ByLowest) (append_assoc x.before (x.one ∷ x.between) x.after)
        (others_rise front x.other x.after x.links_are))
        (λ y l. omega (arith, l, same_lowest)) (λ y l. omega (arith, l, same_lowest)));
    link_way = all_both (DrawnWay b lines) (x.before ++ made ∷ x.between) x.after
        (all_instead (DrawnWay b lines) x.before x.one made x.between
        (λ y i. way_among front x.other x.after x.links_are y (Memᴰ.append_left (x.other ∷ x.after) i))
        (joined_way x.mark x.one x.other x.one_there x.other_there one_way other_way))
        (λ y i. other_ways front x.other x.after x.links_are y (Memᴰ.append_right front i));
    spur_way = t.spur_way;
    loop_drawn = t.loop_drawn;
    times_are = λ n. ap (λ (u : Sketch). times_in n (in_all u)) (sym x.then) ∙ next_times n (by_merge x) ∙ t.times_are n;
    lines_are = ap (λ (u : Sketch). lines_in (in_all u)) (sym x.then) ∙ next_lines (by_merge x) ∙ t.lines_are;
  })
    where
      made : Link
      made = joined (read_to x.mark x.one) (read_from x.mark x.other)

      -- the links before the second of the two
      front : List Link
      front = x.before ++ x.one ∷ x.between

      one_in_front : Memᴰ x.one front
      one_in_front = it_is_in x.before x.one x.between

      one_way : DrawnWay b lines x.one
      one_way = way_among front x.other x.after x.links_are x.one (Memᴰ.append_left (x.other ∷ x.after) one_in_front)

      other_way : DrawnWay b lines x.other
      other_way = its_way front x.other x.after x.links_are

      -- the link that is made has the lowest line of the first, in whose place it stands
      same_lowest : lowest_line made.way ≡ lowest_line x.one.way
      same_lowest =
          joined_lowest x.mark x.one x.other one_way.drawn.some_line other_way.drawn.some_line
          (omega (
            arith,
            pairwise_before front x.other x.after (subst (Pairwise ByLowest) x.links_are t.rises) x.one
                one_in_front,
          ))

  -- a step of the rule leads from stage to stage
  pub stage_next : {s' : Sketch} → Next b s s' → Stage b lines s'
  stage_next (by_spur x) = stage_spur x
  stage_next (by_loop x) = stage_loop x
  stage_next (by_merge x) = stage_merge x

  -- and so does the step that is made
  pub stage_step : Stage b lines (step b s)
  stage_step = go (step_is b s t.rises)
    where
      go : Next b s (step b s) ⊎ NoneLeft b s → Stage b lines (step b s)
      go (inl x) = stage_next x
      go (inr x) = subst (Stage b lines) (sym (none_made b s x)) t

-- after any number of steps
stage_steps : {b : ℕ} {lines : List Line} (k : ℕ) {s : Sketch} → Stage b lines s → Stage b lines (steps b k s)
unfolding steps
stage_steps zero t = t
stage_steps (suc k) t = stage_steps k (stage_step t)

-- so it is at every stage of the sketch of sound lines
pub stage_of : {b : ℕ} {lines : List Line} → Sound b lines → (k : ℕ) → Stage b lines (steps b k (start_of lines))
stage_of sound k = stage_steps k (stage_start sound)
