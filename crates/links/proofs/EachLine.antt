-- Every standing line is in exactly one link, spur or loop, once, and no other line is in any. Assumes nothing.
use Prim.Native.Nat.{ℕ, zero, suc, ◌+◌, ◌≤◌, ◌<◌}
use native.Mathlib.Omega.{arith}
use mathlib.Core.Path.{◌≡◌, refl, sym, ◌∙◌, ap}
use mathlib.Core.Bool.{Bool, true, false}
use mathlib.Core.List.{List, [], ◌∷◌, ◌++◌, map, append-nil, Memᴰ}
use lib.Dec.{eqb}
use lib.ListN.{length}
use borrow.Author.Tests.{eqb-true, eq-eqb, ne_eqb}
use Rattle.network.specs.Standing.{Line}
use Rattle.network.specs.Sound.{Sound, Rising, none_left, then}
use Rattle.network.specs.Piece.{bit}
use Rattle.network.specs.Pairwise.{no_pair, pairs}
use Rattle.network.specs.Walk.{Pass, way_length, OnlyOnce}
use Rattle.loops.specs.LinesInAll.{lines_in_all}
use Rattle.loops.specs.Row.{total}
use Rattle.loops.proofs.Listings.{listings_length}
use Rattle.links.specs.Link.{Link, own_link}
use Rattle.links.specs.Sketch.{Sketch, steps, start_of, finished, sketch_of, in_all, run_of}
use Rattle.links.specs.Shape.{times_run, times_in, lines_in}
use Rattle.links.specs.Stage.{Stage}
use Rattle.links.proofs.Kept.{Adds, total_of, times_add, lines_add, lengths_add, times_total, lines_total, step_keeps, finished_keeps}
use Rattle.links.proofs.Stages.{stage_start, stage_step, stage_of}

-- ---- as links of their own

-- a number that is no line's is run by none
own_none : (n : ℕ) (lines : List Line) → ((l : Line) → Memᴰ l lines → l.number ≡ n → ⊥) → times_in n (map own_link lines) ≡ 0
unfolding times_in
own_none n [] f = refl
own_none n (l ∷ ls) f =
    rw (ne_eqb l.number n (f l (Memᴰ.head refl))) (omega (arith, own_none n ls (λ k i. f k (Memᴰ.tail i))))

-- each line by its own, once
own_once : {lines : List Line} → Rising lines → (l : Line) → Memᴰ l lines → times_in l.number (map own_link lines) ≡ 1
unfolding times_in
own_once none_left l m = elim m [ ]
own_once (then {l = k} {ls = ls} above r) l (Memᴰ.head e) =
    let same : k.number ≡ l.number = ap (λ (x : Line). x.number) (sym e) in
    rw (eq-eqb k.number l.number same)
    (omega (arith, own_none l.number ls (λ j i z. omega (arith, above j i, same, z))))
own_once (then {l = k} {ls = ls} above r) l (Memᴰ.tail i) =
    rw (ne_eqb k.number l.number (λ z. omega (arith, above l i, z))) (omega (arith, own_once r l i))

-- and no number more than once
own_no_more : {lines : List Line} → Rising lines → (n : ℕ) → times_in n (map own_link lines) ≤ 1
unfolding times_in
own_no_more none_left n = omega arith
own_no_more (then {l = k} {ls = ls} above r) n = go (eqb k.number n) refl (own_no_more r n)
  where
    go : (t : Bool) → eqb k.number n ≡ t → times_in n (map own_link ls) ≤ 1 → (bit t + 0) + times_in n (map own_link ls) ≤ 1
    go true e ih =
        let same : k.number ≡ n = eqb-true k.number n e in
        omega (arith, own_none n ls (λ j i z. omega (arith, above j i, same, z)))
    go false e ih = omega arith

-- ---- a step keeps what is run

-- and with every link from its lower junction
finished_times : (n : ℕ) (s : Sketch) → times_in n (in_all (finished s)) ≡ times_in n (in_all s)
finished_times n s =
    times_total n (in_all (finished s)) ∙ finished_keeps (λ (x : Link). times_run n x.way) (times_add n) s
    ∙ sym (times_total n (in_all s))

-- and as many in all
finished_lines : (s : Sketch) → lines_in (in_all (finished s)) ≡ lines_in (in_all s)
finished_lines s =
    lines_total (in_all (finished s)) ∙ finished_keeps (λ (x : Link). length x.way) lines_add s ∙ sym (lines_total (in_all s))

-- ---- at any stage a link, spur or loop runs no line twice

-- a link's times are no more than those in all
times_within : (n : ℕ) (xs : List Link) (x : Link) → Memᴰ x xs → times_run n x.way ≤ times_in n xs
unfolding times_in
times_within n [] x m = elim m [ ]
times_within n (y ∷ ys) x (Memᴰ.head e) = omega (arith, ap (λ (z : Link). times_run n z.way) e)
times_within n (y ∷ ys) x (Memᴰ.tail i) = omega (arith, times_within n ys x i)

-- a way with a pass over line n runs it
runs_it : (n : ℕ) (w : List Pass) (p : Pass) → Memᴰ p w → p.line.number ≡ n → 0 < times_run n w
unfolding times_run
runs_it n [] p m h = elim m [ ]
runs_it n (q ∷ qs) p (Memᴰ.head e) h =
    rw (eq-eqb q.line.number n (ap (λ (o : Pass). o.line.number) (sym e) ∙ h)) (omega arith)
runs_it n (q ∷ qs) p (Memᴰ.tail i) h = omega (arith, runs_it n qs p i h)

-- a way that runs each line at most once has no two passes over one line
pub only_once : (w : List Pass) → ((n : ℕ) → times_run n w ≤ 1) → OnlyOnce w
unfolding times_run
only_once [] f = no_pair
only_once (p ∷ ps) f = pairs new (only_once ps (λ n. omega (arith, f n)))
  where
    new : (q : Pass) → Memᴰ q ps → p.line.number ≡ q.line.number → ⊥
    new q i e =
        let here : bit (eqb p.line.number q.line.number) ≡ 1 = ap bit (eq-eqb p.line.number q.line.number e) in
        omega (arith, f q.line.number, runs_it q.line.number ps q i refl)

-- so it is with each link, spur and loop
pub times_at_most : {b : ℕ} {lines : List Line} → Sound b lines → {s : Sketch} → Stage b lines s → (x : Link) → Memᴰ x (in_all s)
    → (n : ℕ) → times_run n x.way ≤ 1
times_at_most sound {s = s} t x i n =
    omega (arith, times_within n (in_all s) x i, t.times_are n, own_no_more sound.rising n)

-- so none runs a line twice
pub no_line_twice_lem : {b : ℕ} {lines : List Line} → Sound b lines → {s : Sketch} → Stage b lines s → (x : Link) → Memᴰ x (in_all s)
    → OnlyOnce x.way
no_line_twice_lem sound t x i = only_once x.way (times_at_most sound t x i)

-- ---- how many numbers are listed

-- the lines of all links, one after the other, are as many as they have in all
ways_in_all : (xs : List Link) → lines_in_all (map (λ (x : Link). x.way) xs) ≡ lines_in xs
unfolding lines_in_all lines_in
ways_in_all [] = refl
ways_in_all (x ∷ xs) = ap (λ (n : ℕ). length x.way + n) (ways_in_all xs)

-- as many signed lines are listed
pub run_count : (s : Sketch) → length (run_of s) ≡ lines_in (in_all s)
unfolding run_of
run_count s = listings_length (map (λ (x : Link). x.way) (in_all s)) ∙ ways_in_all (in_all s)

-- ---- how long

-- steps keep every such sum
steps_keep : (f : Link → ℕ) → Adds f → {b : ℕ} {lines : List Line} (k : ℕ) {s : Sketch} → Stage b lines s
    → total_of f (in_all (steps b k s)) ≡ total_of f (in_all s)
unfolding steps
steps_keep f adds zero t = refl
steps_keep f adds {b = b} (suc k) {s = s} t = steps_keep f adds k (stage_step t) ∙ step_keeps f adds b s t.rises

-- links of one line each are as long as the lines
own_lengths : (lines : List Line) → total_of (λ x. way_length x.way) (map own_link lines) ≡ total (map (λ (l : Line). l.length) lines)
unfolding way_length total
own_lengths [] = refl
own_lengths (l ∷ ls) = omega (arith, own_lengths ls)

-- ---- the theorems

module _ (b : ℕ) (lines : List Line) (sound : Sound b lines) where
  -- the sketch runs each line as often as the lines on their own
  sketch_times : (n : ℕ) → times_in n (in_all (sketch_of b lines)) ≡ times_in n (map own_link lines)
  unfolding sketch_of
  sketch_times n =
      finished_times n (steps b (length lines) (start_of lines)) ∙ (stage_of sound (length lines)).times_are n

  -- every standing line is in exactly one link, spur or loop, once
  pub each_line_once : (l : Line) → Memᴰ l lines → times_in l.number (in_all (sketch_of b lines)) ≡ 1
  each_line_once l i = sketch_times l.number ∙ own_once sound.rising l i

  -- a withdrawn one, or any other, is in none
  pub no_other_line : (n : ℕ) → ((l : Line) → Memᴰ l lines → l.number ≡ n → ⊥) → times_in n (in_all (sketch_of b lines)) ≡ 0
  no_other_line n f = sketch_times n ∙ own_none n lines f

  -- as many lines are in them all as stand
  pub as_many : lines_in (in_all (sketch_of b lines)) ≡ length lines
  unfolding sketch_of
  as_many = finished_lines (steps b (length lines) (start_of lines)) ∙ (stage_of sound (length lines)).lines_are

  -- so the signed lines that are listed are exactly as many as lines stand
  pub run_is_as_many : length (run_of (sketch_of b lines)) ≡ length lines
  run_is_as_many = run_count (sketch_of b lines) ∙ as_many

  -- links, spurs and loops are as long in all as the lines
  pub as_long : total_of (λ x. way_length x.way) (in_all (sketch_of b lines)) ≡ total (map (λ (l : Line). l.length) lines)
  unfolding sketch_of start_of
  as_long =
      finished_keeps (λ (x : Link). way_length x.way) lengths_add (steps b (length lines) (start_of lines))
      ∙ steps_keep (λ (x : Link). way_length x.way) lengths_add (length lines) (stage_start sound)
      ∙ ap (total_of (λ (x : Link). way_length x.way)) (append-nil (map own_link lines ++ []) ∙ append-nil (map own_link lines))
      ∙ own_lengths lines
