-- Request 01, the junction sketch: "marks with two lines are merged into links, spurs come off, self-closing loops are listed, until none
-- is left". Which steps these are, as a plain statement: Steps.antt. That there are no others: proofs/OneSketch.antt.
-- Assumes nothing.
use Rattle.std.specs.Prelude.{ℕ, zero, suc, cond, List, [], ◌∷◌, ◌++◌, map, ltb, ℤ, pos, length}
use Rattle.std.proofs.Math.Option.{Option, none, some}
use Rattle.network.specs.Standing.{Line}
use Rattle.network.specs.Path.{way_length}
use Rattle.loops.specs.Row.{misclosure, listings}
use Rattle.links.specs.Link.{Link, own_link, read_from, read_to, joined, lower_first, closes_on_itself, begun}
use Rattle.links.specs.Link.{turned_way, lowest_line, begun_with}
use Rattle.links.specs.Ends.{has_end, lowest_with, first_that, but_first}

-- The links that are left, in the order of their lowest lines; the spurs and the self-closing loops that came off, as they went
pub record Sketch : Type 0 where
  pub links : List Link
  pub spurs : List Link
  pub loops : List Link

abbrev pub sketch : List Link → List Link → List Link → Sketch
sketch links spurs loops = record { links = links; spurs = spurs; loops = loops }

abbrev pub if_found : {A : Type 0} → Option Link → (Link → A) → A → A
if_found none go otherwise = otherwise
if_found (some x) go otherwise = go x

-- 1. the spur at mark m: "its link comes off, read from that mark"
unfoldable pub spur_off : ℕ → Sketch → Sketch
unfolding first_that but_first turned_way
spur_off m s =
    if_found (first_that (has_end m) s.links)
    (λ x. sketch (but_first (has_end m) s.links) (s.spurs ++ read_from m x ∷ []) s.loops)
    s

-- 2. the self-closing loop x, the first there is: "it comes off, begun with its lowest line, positive"
unfoldable pub loop_off : Link → Sketch → Sketch
unfolding but_first lowest_line begun_with
loop_off x s = sketch (but_first closes_on_itself s.links) s.spurs (s.loops ++ begun x ∷ [])

-- 3. the two links with an end at mark m become one, in the place of the first of them
unfoldable pub merged_at : ℕ → List Link → List Link
unfolding first_that but_first turned_way
merged_at m [] = []
merged_at m (x ∷ xs) =
    cond (has_end m x)
    (if_found (first_that (has_end m) xs) (λ y. joined (read_to m x) (read_from m y) ∷ but_first (has_end m) xs) (x ∷ xs))
    (x ∷ merged_at m xs)

-- "each step takes the first there is, the spur of lowest mark, else the self-closing loop of lowest line, else the merge at the lowest
-- mark". Where no link closes on itself, the two ends at a mark are those of two links
unfoldable pub step : ℕ → Sketch → Sketch
unfolding lowest_with first_that spur_off loop_off merged_at
step b s =
    let spur = lowest_with b 1 s.links in
    let merge = lowest_with b 2 s.links in
    cond (ltb 0 spur) (spur_off spur s)
    (if_found (first_that closes_on_itself s.links) (λ x. loop_off x s)
    (cond (ltb 0 merge) (sketch (merged_at merge s.links) s.spurs s.loops)
    s))

-- k steps, fewer where none is left
unfoldable pub steps : ℕ → ℕ → Sketch → Sketch
unfolding step
steps b zero s = s
steps b (suc k) s = steps b k (step b s)

-- "Every standing line begins as a link of its own"
unfoldable pub start_of : List Line → Sketch
start_of lines = sketch (map own_link lines) [] []

-- every link from its lower junction
unfoldable pub finished : Sketch → Sketch
unfolding turned_way
finished s = sketch (map lower_first s.links) s.spurs s.loops

-- the junction sketch of lines among b marks: each step takes one link away, so that there are no more steps than lines
unfoldable pub sketch_of : ℕ → List Line → Sketch
unfolding steps start_of finished
sketch_of b lines = finished (steps b (length lines) (start_of lines))

-- ---- what is reported of it

-- numbers to an entry
abbrev pub entry_words : ℕ
entry_words = 5

-- which of them is which
abbrev pub entry_first : ℕ
entry_first = 0

abbrev pub entry_last : ℕ
entry_last = 1

abbrev pub entry_count : ℕ
entry_count = 2

abbrev pub entry_length : ℕ
entry_length = 3

abbrev pub entry_difference : ℕ
entry_difference = 4

-- "Each link gives its two junctions, lower first, .. length and summed difference": first mark, last mark, count of lines, length,
-- difference
unfoldable pub entry : Link → List ℤ
unfolding way_length misclosure
entry x = pos x.first ∷ pos x.last ∷ pos (length x.way) ∷ pos (way_length x.way) ∷ misclosure x.way ∷ []

unfoldable pub entries : List Link → List ℤ
unfolding entry
entries [] = []
entries (x ∷ xs) = entry x ++ entries xs

-- all links, then all spurs, then all loops
abbrev pub in_all : Sketch → List Link
in_all s = s.links ++ s.spurs ++ s.loops

-- "its signed lines in that sense", of all of them
unfoldable pub run_of : Sketch → List ℤ
unfolding listings
run_of s = listings (map (λ (x : Link). x.way) (in_all s))
