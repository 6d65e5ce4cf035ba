-- Re-run: with other differences the sketch has the same links, spurs and loops, of the same marks, lines and lengths, in the same order.
-- Assumes nothing.
use Prim.Native.Nat.{ℕ, zero, suc, ◌+◌}
use mathlib.Core.Path.{◌≡◌, refl, sym, ◌∙◌, ap, ap₂, fun_ext}
use mathlib.Core.Bool.{Bool, true, false, cond}
use mathlib.Core.List.{List, [], ◌∷◌, ◌++◌, map, map-map, map-append}
use mathlib.Core.Option
use mathlib.Core.Option.{Option, none, some}
use lib.Dec.{eqb, leb, ltb}
use lib.IntN.{ℤ}
use lib.ListN.{length, length-map}
use Rattle.laws.specs.Scan.{first_bad}
use Rattle.network.specs.Standing.{Line}
use Rattle.network.specs.Walk.{Pass, flip}
use Rattle.network.specs.Redone.{Measure, measured, new_difference, redone, measured_pass}
use Rattle.loops.specs.Row.{listed, listings}
use Rattle.links.specs.Link.{Link, link, own_link, turned_way, turned, read_from, read_to, joined, lower_first, closes_on_itself}
use Rattle.links.specs.Link.{lowest_from, lowest_line, positive, begun_with, begun}
use Rattle.links.specs.Ends.{ends_of, ends_at, has_end, lowest_with, some_if, first_that, but_first}
use Rattle.links.specs.Sketch.{Sketch, sketch, if_found, spur_off, loop_off, merged_at, step, steps, start_of, finished, sketch_of}
use Rattle.links.specs.Sketch.{in_all, run_of}

module _ (g : Line → Measure) where
  -- a way, a link and a sketch over lines measured again: the marks, the lines and their senses stay
  abbrev measured_way : List Pass → List Pass
  measured_way w = map (measured_pass g) w

  abbrev measured_link : Link → Link
  measured_link x = link x.first x.last (measured_way x.way)

  abbrev measured_sketch : Sketch → Sketch
  measured_sketch s = sketch (map measured_link s.links) (map measured_link s.spurs) (map measured_link s.loops)

  -- ---- ways and links

  -- a way is run back over the same lines
  turned_same : (w : List Pass) → turned_way (measured_way w) ≡ measured_way (turned_way w)
  unfolding turned_way
  turned_same [] = refl
  turned_same (p ∷ ps) =
      ap (λ (v : List Pass). v ++ (flip (measured_pass g p) ∷ [])) (turned_same ps)
      ∙ sym (map-append (measured_pass g) (turned_way ps) (flip p ∷ []))

  -- a link is read the other way over the same lines
  turned_link_same : (x : Link) → turned (measured_link x) ≡ measured_link (turned x)
  turned_link_same x = ap (link x.last x.first) (turned_same x.way)

  -- a link or its other reading, as a test says
  reading_same : (t : Bool) (x : Link)
      → cond t (measured_link x) (turned (measured_link x)) ≡ measured_link (cond t x (turned x))
  reading_same true x = refl
  reading_same false x = turned_link_same x

  -- from a mark it is read the same way
  from_same : (m : ℕ) (x : Link) → read_from m (measured_link x) ≡ measured_link (read_from m x)
  from_same m x = reading_same (eqb x.first m) x

  -- and to a mark
  to_same : (m : ℕ) (x : Link) → read_to m (measured_link x) ≡ measured_link (read_to m x)
  to_same m x = reading_same (eqb x.last m) x

  -- two links become one of the same lines
  joined_same : (x y : Link) → joined (measured_link x) (measured_link y) ≡ measured_link (joined x y)
  joined_same x y = ap (link x.first y.last) (sym (map-append (measured_pass g) x.way y.way))

  -- at a mark too
  made_same : (m : ℕ) (x y : Link)
      → joined (read_to m (measured_link x)) (read_from m (measured_link y)) ≡ measured_link (joined (read_to m x) (read_from m y))
  made_same m x y = ap₂ joined (to_same m x) (from_same m y) ∙ joined_same (read_to m x) (read_from m y)

  -- of a number and the lines of a way the lowest is the same
  lowest_from_same : (n : ℕ) (w : List Pass) → lowest_from n (measured_way w) ≡ lowest_from n w
  unfolding lowest_from
  lowest_from_same n [] = refl
  lowest_from_same n (p ∷ ps) = lowest_from_same (cond (leb n p.line.number) n p.line.number) ps

  -- the lowest line is the same
  pub lowest_same : (w : List Pass) → lowest_line (measured_way w) ≡ lowest_line w
  unfolding lowest_line
  lowest_same [] = refl
  lowest_same (p ∷ ps) = lowest_from_same p.line.number ps

  -- begun with a pass, a closed way runs the same lines
  positive_same : (p : Pass) (w : List Pass) → positive (measured_pass g p) (measured_way w) ≡ measured_way (positive p w)
  positive_same p w = go p.forward
    where
      go : (t : Bool) → cond t (measured_pass g p ∷ measured_way w) (flip (measured_pass g p) ∷ turned_way (measured_way w))
          ≡ measured_way (cond t (p ∷ w) (flip p ∷ turned_way w))
      go true = refl
      go false = ap (λ (v : List Pass). flip (measured_pass g p) ∷ v) (turned_same w)

  -- begun with line n
  begun_with_same : (n : ℕ) (before w : List Pass)
      → begun_with n (measured_way before) (measured_way w) ≡ measured_way (begun_with n before w)
  unfolding begun_with
  begun_with_same n before [] = refl
  begun_with_same n before (p ∷ ps) = go (eqb p.line.number n)
      (ap (λ (v : List Pass). begun_with n v (measured_way ps)) (sym (map-append (measured_pass g) before (p ∷ [])))
      ∙ begun_with_same n (before ++ (p ∷ [])) ps)
    where
      go : (t : Bool)
          → begun_with n (measured_way before ++ (measured_pass g p ∷ [])) (measured_way ps)
          ≡ measured_way (begun_with n (before ++ (p ∷ [])) ps)
          → cond t (positive (measured_pass g p) (measured_way ps ++ measured_way before))
          (begun_with n (measured_way before ++ (measured_pass g p ∷ [])) (measured_way ps))
          ≡ measured_way (cond t (positive p (ps ++ before)) (begun_with n (before ++ (p ∷ [])) ps))
      go true ih =
          ap (positive (measured_pass g p)) (sym (map-append (measured_pass g) ps before)) ∙ positive_same p (ps ++ before)
      go false ih = ih

  -- and begun with its lowest line
  begun_same : (x : Link) → begun (measured_link x) ≡ measured_link (begun x)
  begun_same x = ap (link x.first x.last)
      (ap (λ (n : ℕ). begun_with n [] (measured_way x.way)) (lowest_same x.way) ∙ begun_with_same (lowest_line x.way) [] x.way)

  -- ---- the links at a mark

  -- a mark has as many link ends
  ends_same : (m : ℕ) (xs : List Link) → ends_at m (map measured_link xs) ≡ ends_at m xs
  unfolding ends_at
  ends_same m [] = refl
  ends_same m (x ∷ xs) = ap (λ (n : ℕ). ends_of m x + n) (ends_same m xs)

  -- so the lowest mark with exactly k is the same
  lowest_with_same : (b k : ℕ) (xs : List Link) → lowest_with b k (map measured_link xs) ≡ lowest_with b k xs
  unfolding lowest_with
  lowest_with_same b k xs =
      ap (λ (bad : ℕ → Bool). first_bad bad b) (fun_ext (λ (i : ℕ). ap (λ (n : ℕ). eqb n k) (ends_same (suc i) xs)))

  module _ (test : Link → Bool) (same : (x : Link) → test (measured_link x) ≡ test x) where
    -- a test that reads no difference holds of the same link first
    first_same : (xs : List Link) → first_that test (map measured_link xs) ≡ Option.map measured_link (first_that test xs)
    unfolding first_that
    first_same [] = refl
    first_same (x ∷ xs) = rw (same x, first_same xs) (go (test x) (first_that test xs))
      where
        go : (t : Bool) (o : Option Link)
            → some_if t (measured_link x) (Option.map measured_link o) ≡ Option.map measured_link (some_if t x o)
        go true o = refl
        go false o = refl

    -- and leaves the same links
    but_same : (xs : List Link) → but_first test (map measured_link xs) ≡ map measured_link (but_first test xs)
    unfolding but_first
    but_same [] = refl
    but_same (x ∷ xs) = rw (same x, but_same xs) (go (test x))
      where
        go : (t : Bool)
            → cond t (map measured_link xs) (measured_link x ∷ map measured_link (but_first test xs))
            ≡ map measured_link (cond t xs (x ∷ but_first test xs))
        go true = refl
        go false = refl

  -- the same two links become one
  merged_same : (m : ℕ) (xs : List Link) → merged_at m (map measured_link xs) ≡ map measured_link (merged_at m xs)
  unfolding merged_at
  merged_same m [] = refl
  merged_same m (x ∷ xs) =
      rw (first_same (has_end m) (λ y. refl) xs, but_same (has_end m) (λ y. refl) xs, merged_same m xs)
      (go (has_end m x) (first_that (has_end m) xs))
    where
      go : (t : Bool) (o : Option Link)
          → cond t
          (if_found (Option.map measured_link o)
          (λ y. joined (read_to m (measured_link x)) (read_from m y) ∷ map measured_link (but_first (has_end m) xs))
          (map measured_link (x ∷ xs)))
          (measured_link x ∷ map measured_link (merged_at m xs))
          ≡ map measured_link (cond t (if_found o (λ y. joined (read_to m x) (read_from m y) ∷ but_first (has_end m) xs) (x ∷ xs))
          (x ∷ merged_at m xs))
      go true none = refl
      go true (some y) = ap (λ (z : Link). z ∷ map measured_link (but_first (has_end m) xs)) (made_same m x y)
      go false o = refl

  -- ---- the steps

  -- one link more at the end of a list
  end_same : (xs : List Link) (x y : Link) → y ≡ measured_link x → map measured_link xs ++ y ∷ [] ≡ map measured_link (xs ++ x ∷ [])
  end_same xs x y e = ap (λ (z : Link). map measured_link xs ++ z ∷ []) e ∙ sym (map-append measured_link xs (x ∷ []))

  -- the same spur comes off
  spur_same : (m : ℕ) (s : Sketch) → spur_off m (measured_sketch s) ≡ measured_sketch (spur_off m s)
  unfolding spur_off
  spur_same m s =
      rw (first_same (has_end m) (λ y. refl) s.links, but_same (has_end m) (λ y. refl) s.links)
      (go (first_that (has_end m) s.links))
    where
      rest : List Link
      rest = but_first (has_end m) s.links

      go : (o : Option Link)
          → if_found (Option.map measured_link o)
          (λ x. sketch (map measured_link rest) (map measured_link s.spurs ++ read_from m x ∷ []) (map measured_link s.loops))
          (measured_sketch s)
          ≡ measured_sketch (if_found o (λ x. sketch rest (s.spurs ++ read_from m x ∷ []) s.loops) s)
      go none = refl
      go (some x) =
          ap (λ (l : List Link). sketch (map measured_link rest) l (map measured_link s.loops))
          (end_same s.spurs (read_from m x) (read_from m (measured_link x)) (from_same m x))

  -- the same loop comes off
  loop_same : (x : Link) (s : Sketch) → loop_off (measured_link x) (measured_sketch s) ≡ measured_sketch (loop_off x s)
  unfolding loop_off
  loop_same x s =
      ap₂ (λ (l k : List Link). sketch l (map measured_link s.spurs) k) (but_same closes_on_itself (λ y. refl) s.links)
      (end_same s.loops (begun x) (begun (measured_link x)) (begun_same x))

  -- so the same step is made
  step_same : (b : ℕ) (s : Sketch) → step b (measured_sketch s) ≡ measured_sketch (step b s)
  unfolding step
  step_same b s =
      rw (
        lowest_with_same b 1 s.links,
        lowest_with_same b 2 s.links,
        first_same closes_on_itself (λ y. refl) s.links,
        spur_same (lowest_with b 1 s.links) s,
        merged_same (lowest_with b 2 s.links) s.links,
      )
      (go (ltb 0 (lowest_with b 1 s.links)) (first_that closes_on_itself s.links) (ltb 0 (lowest_with b 2 s.links)))
    where
      off : Sketch
      off = spur_off (lowest_with b 1 s.links) s

      merged : List Link
      merged = merged_at (lowest_with b 2 s.links) s.links

      go : (t : Bool) (o : Option Link) (u : Bool)
          → cond t (measured_sketch off)
          (if_found (Option.map measured_link o) (λ x. loop_off x (measured_sketch s))
          (cond u (sketch (map measured_link merged) (map measured_link s.spurs) (map measured_link s.loops)) (measured_sketch s)))
          ≡ measured_sketch (cond t off (if_found o (λ x. loop_off x s) (cond u (sketch merged s.spurs s.loops) s)))
      go true o u = refl
      go false (some x) u = loop_same x s
      go false none true = refl
      go false none false = refl

  -- and the same steps
  steps_same : (b k : ℕ) (s : Sketch) → steps b k (measured_sketch s) ≡ measured_sketch (steps b k s)
  unfolding steps
  steps_same b zero s = refl
  steps_same b (suc k) s = ap (steps b k) (step_same b s) ∙ steps_same b k (step b s)

  -- from the same links
  start_same : (lines : List Line) → start_of (map (measured g) lines) ≡ measured_sketch (start_of lines)
  unfolding start_of
  start_same lines =
      ap (λ (l : List Link). sketch l [] []) (map-map own_link (measured g) lines ∙ sym (map-map measured_link own_link lines))

  -- each link has the same lower junction
  lower_same : (xs : List Link) → map lower_first (map measured_link xs) ≡ map measured_link (map lower_first xs)
  lower_same [] = refl
  lower_same (x ∷ xs) = ap₂ ◌∷◌ (reading_same (leb x.first x.last) x) (lower_same xs)

  -- so they end alike
  finished_same : (s : Sketch) → finished (measured_sketch s) ≡ measured_sketch (finished s)
  unfolding finished
  finished_same s =
      ap (λ (l : List Link). sketch l (map measured_link s.spurs) (map measured_link s.loops)) (lower_same s.links)

  -- with other differences the sketch has the same links, spurs and loops, of the same marks, lines and senses, in the same order
  sketch_same : (b : ℕ) (lines : List Line) → sketch_of b (map (measured g) lines) ≡ measured_sketch (sketch_of b lines)
  unfolding sketch_of
  sketch_same b lines =
      ap finished (ap₂ (steps b) (length-map lines (measured g)) (start_same lines) ∙ steps_same b (length lines) (start_of lines))
      ∙ finished_same (steps b (length lines) (start_of lines))

  -- ---- what is reported of it

  -- the signed lines of links stay
  listings_same : (xs : List Link) → listings (map (λ (x : Link). x.way) (map measured_link xs)) ≡ listings (map (λ (x : Link). x.way) xs)
  unfolding listings
  listings_same [] = refl
  listings_same (x ∷ xs) = ap₂ (λ (a c : List ℤ). a ++ c) (map-map listed (measured_pass g) x.way) (listings_same xs)

  -- of all links, spurs and loops
  all_same : (s : Sketch) → in_all (measured_sketch s) ≡ map measured_link (in_all s)
  all_same s =
      ap (λ (l : List Link). l ++ map measured_link s.loops) (sym (map-append measured_link s.links s.spurs))
      ∙ sym (map-append measured_link (s.links ++ s.spurs) s.loops)

  -- the signed lines of all of them stay
  run_same : (b : ℕ) (lines : List Line) → run_of (sketch_of b (map (measured g) lines)) ≡ run_of (sketch_of b lines)
  unfolding run_of
  run_same b lines =
      ap (λ (s : Sketch). listings (map (λ (x : Link). x.way) (in_all s))) (sketch_same b lines)
      ∙ ap (λ (l : List Link). listings (map (λ (x : Link). x.way) l)) (all_same (sketch_of b lines))
      ∙ listings_same (in_all (sketch_of b lines))

-- ---- a re-run of line n

module _ (n : ℕ) (d : ℤ) where
  -- a sketch with the difference d for line n
  abbrev redone_sketch : Sketch → Sketch
  redone_sketch s = measured_sketch (new_difference n d) s

  -- "A re-run changes differences only": every link, spur and loop is the same passes, but for the difference of line n
  pub rerun_keeps_sketch : (b : ℕ) (lines : List Line) → sketch_of b (redone n d lines) ≡ redone_sketch (sketch_of b lines)
  rerun_keeps_sketch b lines = sketch_same (new_difference n d) b lines

  -- the signed lines of all of them stay
  pub rerun_keeps_run : (b : ℕ) (lines : List Line) → run_of (sketch_of b (redone n d lines)) ≡ run_of (sketch_of b lines)
  rerun_keeps_run b lines = run_same (new_difference n d) b lines
