-- What links, spurs and loops are, and that no step is left at the end. Assumes nothing.
use Prim.Native.Nat.{ℕ, zero, suc, ◌+◌, ◌≤◌, ◌<◌}
use native.Mathlib.Omega.{arith}
use mathlib.Core.Path.{◌≡◌, refl, sym, ◌∙◌, ap, subst}
use mathlib.Core.Logic.{◌⊎◌, inl, inr}
use mathlib.Core.Bool.{false}
use mathlib.Core.List.Memᴰ
use mathlib.Core.List.{List, [], ◌∷◌, ◌++◌, map}
use mathlib.Core.List.{Memᴰ}
use lib.Dec.{leb}
use lib.ListN.{length}
use borrow.Author.Tests.{leb-true, leb-false}
use Rattle.laws.proofs.Tests.{cond_ind}
use Rattle.network.specs.Standing.{Line}
use Rattle.network.specs.Sound.{Sound}
use Rattle.network.specs.Walk.{Pass}
use Rattle.links.specs.Link.{Link, turned, lower_first, begun}
use Rattle.links.specs.Ends.{ends_of, ends_at, has_end}
use Rattle.links.specs.Sketch.{Sketch, step, steps, start_of, finished, sketch_of, in_all}
use Rattle.links.specs.Shape.{IsWay, IsLink, IsLoop, lines_in}
use Rattle.links.specs.Steps.{EndAt, NoneLeft}
use Rattle.links.proofs.Among.{it_is_in, all_both}
use Rattle.links.proofs.Ends.{end_there, ends_of_none, FirstOf, first_or_none}
use Rattle.links.proofs.OneStep.{Next, by_spur, by_loop, by_merge, step_is, none_made}
use Rattle.links.specs.Stage.{Drawn, DrawnWay, Stage}
use Rattle.links.proofs.Stages.{turned_way, stage_step, stage_start, stage_of}
use Rattle.links.proofs.Kept.{lines_total, total_all}
use Rattle.links.proofs.EachLine.{times_at_most, as_many}
use Rattle.links.proofs.OneSketch.{steps_end, rule_leads_there}
use Rattle.links.proofs.Rings.{begun_loop}

-- no more links than lines, where each has one
pub some_lines : (w : List Pass) → (w ≡ [] → ⊥) → 0 < length w
some_lines [] h = absurd (h refl)
some_lines (p ∷ ps) h = omega arith

pub few_links : (xs : List Link) → ((x : Link) → Memᴰ x xs → x.way ≡ [] → ⊥) → length xs ≤ lines_in xs
unfolding lines_in
few_links [] h = omega arith
few_links (x ∷ xs) h =
    omega (arith, some_lines x.way (h x (Memᴰ.head refl)), few_links xs (λ y i. h y (Memᴰ.tail i)))

-- ---- at every stage

-- what is drawn from mark to mark is a way
drawn_is_way : {b : ℕ} {lines : List Line} {x : Link} → DrawnWay b lines x → IsWay lines x
drawn_is_way d = record { is_walk = d.walks; some_line = d.drawn.some_line }

-- each self-closing loop that came off is a loop
abbrev pub Loops : List Line → Sketch → Type 0
Loops lines s = (x : Link) → Memᴰ x s.loops → IsLoop lines x

module _ {b : ℕ} {lines : List Line} (sound : Sound b lines) where
  -- the loop that comes off is one more
  loops_next : {s s' : Sketch} → Stage b lines s → Next b s s' → Loops lines s → Loops lines s'
  loops_next {s = s} t (by_spur x) f = subst (Loops lines) (sym x.then) f
  loops_next {s = s} t (by_merge x) f = subst (Loops lines) (sym x.then) f
  loops_next {s = s} t (by_loop x) f = subst (Loops lines) (sym x.then)
      (all_both (IsLoop lines) s.loops (begun x.its ∷ []) f
      (λ y i. subst (IsLoop lines) (sym (Memᴰ.eq_of_singleton i)) (begun_loop x.its (t.link_way x.its its_in) x.closes
      (times_at_most sound t x.its (Memᴰ.append_left s.loops (Memᴰ.append_left s.spurs its_in))))))
    where
      its_in : Memᴰ x.its s.links
      its_in = subst (Memᴰ x.its) (sym x.links_are) (it_is_in x.before x.its x.after)

  -- so it is after a step
  loops_step : {s : Sketch} → Stage b lines s → Loops lines s → Loops lines (step b s)
  loops_step {s = s} t f = go (step_is b s t.rises)
    where
      go : Next b s (step b s) ⊎ NoneLeft b s → Loops lines (step b s)
      go (inl x) = loops_next t x f
      go (inr x) = subst (Loops lines) (sym (none_made b s x)) f

  -- and after any number of steps
  loops_steps : (k : ℕ) {s : Sketch} → Stage b lines s → Loops lines s → Loops lines (steps b k s)
  unfolding steps
  loops_steps zero t f = f
  loops_steps (suc k) t f = loops_steps k (stage_step t) (loops_step t f)

  -- so it is at every stage
  loops_at : (k : ℕ) → Loops lines (steps b k (start_of lines))
  unfolding start_of
  loops_at k = loops_steps k (stage_start sound) (λ x i. absurd (Memᴰ.not-nil i))

-- ---- every link from its lower junction

-- is a way
lower_way : {b : ℕ} {lines : List Line} (x : Link) → DrawnWay b lines x → DrawnWay b lines (lower_first x)
lower_way {b = b} {lines = lines} x d =
    cond_ind (DrawnWay b lines) (leb x.first x.last) x (turned x) (λ e. d) (λ e. turned_way x d)

-- whose first mark is the lower, where it does not close on itself
lower_first_lem : (x : Link) → (x.first ≡ x.last → ⊥) → (lower_first x).first < (lower_first x).last
lower_first_lem x f = cond_ind (λ (y : Link). y.first < y.last) (leb x.first x.last) x (turned x)
    (λ e. let below = leb-true x.first x.last e in omega arith)
    (λ e. leb-false x.first x.last e)

-- with the same two ends
lower_ends : (m : ℕ) (x : Link) → ends_of m (lower_first x) ≡ ends_of m x
lower_ends m x =
    cond_ind (λ (y : Link). ends_of m y ≡ ends_of m x) (leb x.first x.last) x (turned x) (λ e. refl) (λ e. omega arith)

-- so every mark has as many link ends
lower_all_ends : (m : ℕ) (xs : List Link) → ends_at m (map lower_first xs) ≡ ends_at m xs
unfolding ends_at
lower_all_ends m [] = refl
lower_all_ends m (x ∷ xs) = omega (arith, lower_ends m x, lower_all_ends m xs)

-- so where no step is left none is left then
finished_none_left : (b : ℕ) (s : Sketch) → NoneLeft b s → NoneLeft b (finished s)
unfolding finished
finished_none_left b s x = record {
  no_spur = λ m low high e. x.no_spur m low high (sym (lower_all_ends m s.links) ∙ e);
  no_loop = λ y i e.
      let k = Memᴰ.of_map lower_first s.links i in
      let less = lower_first_lem k.0 (x.no_loop k.0 k.1) in
      omega (arith, e, ap (λ (z : Link). z.first) k.2, ap (λ (z : Link). z.last) k.2);
  no_merge = λ m low high e. x.no_merge m low high (sym (lower_all_ends m s.links) ∙ e);
}

-- ---- the theorems

module _ (b : ℕ) (lines : List Line) (sound : Sound b lines) where
  -- the last stage
  last_stage : Stage b lines (steps b (length lines) (start_of lines))
  last_stage = stage_of sound (length lines)

  -- at which no step is left
  all_taken : NoneLeft b (steps b (length lines) (start_of lines))
  all_taken = steps_end (rule_leads_there b lines sound)

  -- at the end no mark has one or two link ends, and no link closes on itself
  pub none_left : NoneLeft b (sketch_of b lines)
  unfolding sketch_of
  none_left = finished_none_left b (steps b (length lines) (start_of lines)) all_taken

  -- every link, spur and loop is between marks of the book and runs over standing lines, one at least
  pub link_drawn_way : (x : Link) → Memᴰ x (sketch_of b lines).links → DrawnWay b lines x
  unfolding sketch_of
  link_drawn_way x i =
      let k = Memᴰ.of_map lower_first (steps b (length lines) (start_of lines)).links i in
      subst (DrawnWay b lines) k.2 (lower_way k.0 (last_stage.link_way k.0 k.1))

  pub spur_drawn_way : (x : Link) → Memᴰ x (sketch_of b lines).spurs → DrawnWay b lines x
  unfolding sketch_of
  spur_drawn_way x i = last_stage.spur_way x i

  pub loop_drawn : (x : Link) → Memᴰ x (sketch_of b lines).loops → Drawn b lines x
  unfolding sketch_of
  loop_drawn x i = last_stage.loop_drawn x i

  -- and has a line, so that there are no more of them than lines
  pub no_more_than_lines :
      length (sketch_of b lines).links + length (sketch_of b lines).spurs + length (sketch_of b lines).loops ≤ length lines
  no_more_than_lines =
      omega (
        arith,
        as_many b lines sound,
        lines_total (in_all (sketch_of b lines)),
        total_all (λ (x : Link). length x.way) (sketch_of b lines),
        lines_total (sketch_of b lines).links,
        lines_total (sketch_of b lines).spurs,
        lines_total (sketch_of b lines).loops,
        few_links (sketch_of b lines).links (λ x i. (link_drawn_way x i).drawn.some_line),
        few_links (sketch_of b lines).spurs (λ x i. (spur_drawn_way x i).drawn.some_line),
        few_links (sketch_of b lines).loops (λ x i. (loop_drawn x i).some_line),
      )

  -- every link, spur and loop runs over standing lines alone
  pub all_over : (x : Link) → Memᴰ x (in_all (sketch_of b lines)) → (p : Pass) → Memᴰ p x.way → Memᴰ p.line lines
  all_over x i = by (Memᴰ.append_cases ((sketch_of b lines).links ++ (sketch_of b lines).spurs) i)
    where
      off : Memᴰ x (sketch_of b lines).links ⊎ Memᴰ x (sketch_of b lines).spurs
          → (p : Pass) → Memᴰ p x.way → Memᴰ p.line lines
      off (inl j) = (link_drawn_way x j).drawn.over_lines
      off (inr j) = (spur_drawn_way x j).drawn.over_lines

      by : Memᴰ x ((sketch_of b lines).links ++ (sketch_of b lines).spurs) ⊎ Memᴰ x (sketch_of b lines).loops
          → (p : Pass) → Memᴰ p x.way → Memᴰ p.line lines
      by (inl j) = off (Memᴰ.append_cases (sketch_of b lines).links j)
      by (inr j) = (loop_drawn x j).over_lines

  -- so a mark at which links end is a junction, with three link ends at least
  pub junctions : (m : ℕ) → 0 < ends_at m (sketch_of b lines).links → 3 ≤ ends_at m (sketch_of b lines).links
  junctions m some = go (first_or_none (has_end m) links)
    where
      links : List Link
      links = (sketch_of b lines).links

      three : 0 < m → m ≤ b → 3 ≤ ends_at m links
      three low high =
          let not_one : ends_at m links ≡ 1 → ⊥ = none_left.no_spur m low high in
          let not_two : ends_at m links ≡ 2 → ⊥ = none_left.no_merge m low high in
          omega arith

      go : FirstOf (has_end m) links ⊎ ((x : Link) → Memᴰ x links → has_end m x ≡ false) → 3 ≤ ends_at m links
      go (inr f) = absurd (omega (arith, ends_of_none m links f))
      go (inl w) = at (link_drawn_way w.its its_in).drawn (end_there m w.its w.holds)
        where
          its_in : Memᴰ w.its links
          its_in = subst (Memᴰ w.its) (sym w.links_are) (it_is_in w.before w.its w.after)

          at : Drawn b lines w.its → EndAt m w.its → 3 ≤ ends_at m links
          at d (inl e) = three (omega (arith, d.first_low, e)) (omega (arith, d.first_high, e))
          at d (inr e) = three (omega (arith, d.last_low, e)) (omega (arith, d.last_high, e))

  -- each link is a walk from its first to its last mark, the first the lower
  pub links_are : (x : Link) → Memᴰ x (sketch_of b lines).links → IsLink lines x
  unfolding sketch_of
  links_are x i = record {
    is_way = drawn_is_way (link_drawn_way x i);
    lower =
        let k = Memᴰ.of_map lower_first (steps b (length lines) (start_of lines)).links i in
        subst (λ (y : Link). y.first < y.last) k.2 (lower_first_lem k.0 (all_taken.no_loop k.0 k.1));
  }

  -- each spur is a walk from its mark
  pub spurs_are : (x : Link) → Memᴰ x (sketch_of b lines).spurs → IsWay lines x
  spurs_are x i = drawn_is_way (spur_drawn_way x i)

  -- each loop is a closed walk that uses no line twice, its first line forward and the lowest, and hangs at a mark on it
  pub loops_are : (x : Link) → Memᴰ x (sketch_of b lines).loops → IsLoop lines x
  unfolding sketch_of
  loops_are x i = loops_at sound (length lines) x i
