-- What every step keeps: sums over all links, spurs and loops of what is the same read either way and begun with any line, and adds up
-- where two links become one. Assumes nothing.
use Prim.Native.Nat.{ℕ, zero, ◌+◌}
use native.Mathlib.Omega.{arith}
use mathlib.Core.Path.{◌≡◌, refl, ◌∙◌, ap, ap₂}
use mathlib.Core.Logic.{◌⊎◌, inl, inr}
use mathlib.Core.List.{List, [], ◌∷◌, ◌++◌, map}
use lib.Dec.{leb}
use lib.ListN.{length}
use Rattle.laws.proofs.Tests.{cond_ind}
use Rattle.network.specs.Walk.{way_length}
use Rattle.links.specs.Link.{Link, turned, read_from, read_to, joined, lower_first, lowest_line, begun}
use Rattle.links.specs.Sketch.{Sketch, sketch, step, finished, in_all}
use Rattle.links.specs.Shape.{times_run, times_in, lines_in}
use Rattle.links.specs.Steps.{NoneLeft}
use Rattle.links.proofs.Turning.{turned_count, turned_length, turned_times, from_count, from_length, from_times}
use Rattle.links.proofs.Turning.{joined_count, joined_length, joined_times}
use Rattle.links.proofs.Begun.{begun_count, begun_length, begun_times}
use Rattle.links.specs.Stage.{Rises}
use Rattle.links.proofs.OneStep.{Next, by_spur, by_loop, by_merge, step_is, none_made}

-- the sum of f over links
abbrev pub total_of : (Link → ℕ) → List Link → ℕ
total_of f [] = zero
total_of f (x ∷ xs) = f x + total_of f xs

-- what no reading of a link changes, and what adds up where two links become one
pub record Adds (f : Link → ℕ) : Type 0 where
  pub either_way : (x : Link) → f (turned x) ≡ f x
  pub from_mark : (m : ℕ) (x : Link) → f (read_from m x) ≡ f x
  begun_so : (x : Link) → f (begun x) ≡ f x
  made_one : (m : ℕ) (x y : Link) → f (joined (read_to m x) (read_from m y)) ≡ f x + f y

-- how often line n is run is so
pub times_add : (n : ℕ) → Adds (λ x. times_run n x.way)
unfolding times_run
times_add n = record {
  either_way = λ x. turned_times n x.way;
  from_mark = from_times n;
  begun_so = λ x. omega (arith, begun_times n (lowest_line x.way) [] x.way);
  made_one = joined_times n;
}

-- and the count of lines
pub lines_add : Adds (λ x. length x.way)
lines_add = record {
  either_way = λ x. turned_count x.way;
  from_mark = from_count;
  begun_so = λ x. omega (arith, begun_count (lowest_line x.way) [] x.way);
  made_one = joined_count;
}

-- and the length
pub lengths_add : Adds (λ x. way_length x.way)
unfolding way_length
lengths_add = record {
  either_way = λ x. turned_length x.way;
  from_mark = from_length;
  begun_so = λ x. omega (arith, begun_length (lowest_line x.way) [] x.way);
  made_one = joined_length;
}

-- the definitions are such sums
pub times_total : (n : ℕ) (xs : List Link) → times_in n xs ≡ total_of (λ x. times_run n x.way) xs
unfolding times_in
times_total n [] = refl
times_total n (x ∷ xs) = ap (λ (k : ℕ). times_run n x.way + k) (times_total n xs)

-- and so is the count of lines
pub lines_total : (xs : List Link) → lines_in xs ≡ total_of (λ x. length x.way) xs
unfolding lines_in
lines_total [] = refl
lines_total (x ∷ xs) = ap (λ (k : ℕ). length x.way + k) (lines_total xs)

module _ (f : Link → ℕ) where
  -- of links and links after them, the sum of both
  total_both : (xs ys : List Link) → total_of f (xs ++ ys) ≡ total_of f xs + total_of f ys
  total_both [] ys = omega arith
  total_both (x ∷ xs) ys = omega (arith, total_both xs ys)

  -- of all links, spurs and loops
  pub total_all : (s : Sketch) → total_of f (in_all s) ≡ total_of f s.links + total_of f s.spurs + total_of f s.loops
  total_all s = omega (arith, total_both (s.links ++ s.spurs) s.loops, total_both s.links s.spurs)

  module _ (adds : Adds f) where
    -- a step keeps it
    pub next_keeps : {b : ℕ} {s s' : Sketch} → Next b s s' → total_of f (in_all s') ≡ total_of f (in_all s)
    next_keeps {s = s} {s' = s'} (by_spur x) =
        let off = read_from x.mark x.its in
        ap (λ (u : Sketch). total_of f (in_all u)) x.then ∙ omega (
          arith,
          total_all s,
          total_all (sketch (x.before ++ x.after) (s.spurs ++ off ∷ []) s.loops),
          total_both x.before x.after,
          total_both s.spurs (off ∷ []),
          ap (total_of f) x.links_are,
          total_both x.before (x.its ∷ x.after),
          adds.from_mark x.mark x.its,
        )
    next_keeps {s = s} {s' = s'} (by_loop x) =
        ap (λ (u : Sketch). total_of f (in_all u)) x.then ∙ omega (
          arith,
          total_all s,
          total_all (sketch (x.before ++ x.after) s.spurs (s.loops ++ begun x.its ∷ [])),
          total_both x.before x.after,
          total_both s.loops (begun x.its ∷ []),
          ap (total_of f) x.links_are,
          total_both x.before (x.its ∷ x.after),
          adds.begun_so x.its,
        )
    next_keeps {s = s} {s' = s'} (by_merge x) =
        let made = joined (read_to x.mark x.one) (read_from x.mark x.other) in
        ap (λ (u : Sketch). total_of f (in_all u)) x.then ∙ omega (
          arith,
          total_all s,
          total_all (sketch (x.before ++ made ∷ x.between ++ x.after) s.spurs s.loops),
          total_both (x.before ++ made ∷ x.between) x.after,
          total_both x.before (made ∷ x.between),
          ap (total_of f) x.links_are,
          total_both (x.before ++ x.one ∷ x.between) (x.other ∷ x.after),
          total_both x.before (x.one ∷ x.between),
          adds.made_one x.mark x.one x.other,
        )

    -- so it is with each step that is made
    pub step_keeps : (b : ℕ) (s : Sketch) → Rises s → total_of f (in_all (step b s)) ≡ total_of f (in_all s)
    step_keeps b s rises = go (step_is b s rises)
      where
        go : Next b s (step b s) ⊎ NoneLeft b s → total_of f (in_all (step b s)) ≡ total_of f (in_all s)
        go (inl x) = next_keeps x
        go (inr x) = ap (λ (u : Sketch). total_of f (in_all u)) (none_made b s x)

    -- and every link from its lower junction
    lower_keeps : (xs : List Link) → total_of f (map lower_first xs) ≡ total_of f xs
    lower_keeps [] = refl
    lower_keeps (x ∷ xs) =
        ap₂ (λ (a b : ℕ). a + b)
        (cond_ind (λ (y : Link). f y ≡ f x) (leb x.first x.last) x (turned x) (λ e. refl) (λ e. adds.either_way x))
        (lower_keeps xs)

    -- so the sketch that is reported has the same sums
    pub finished_keeps : (s : Sketch) → total_of f (in_all (finished s)) ≡ total_of f (in_all s)
    unfolding finished
    finished_keeps s = omega (arith, total_all s, total_all (finished s), lower_keeps s.links)
