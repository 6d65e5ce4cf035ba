-- The four outputs are those of the sketch. Assumes nothing.
use Prim.Native.Nat.{ℕ, ◌+◌, ◌-◌, ◌≤◌}
use native.Mathlib.Omega.{arith}
use mathlib.Core.Path.{◌≡◌, refl, sym, ◌∙◌, ap, ap₂, subst}
use mathlib.Core.Bool.{Bool, true, false, true≢false, ◌||◌}
use mathlib.Core.List.{List, [], ◌∷◌, ◌++◌, map, append_assoc}
use mathlib.Core.List.Memᴰ
use mathlib.Core.List.{Memᴰ}
use lib.IntN.{ℤ}
use lib.ListN.{length, take, drop, length-append, length-map, length-drop}
use lib.Seq.{length-take-le, take_at, drop_at, take_all}
use borrow.Author.Tests.{ltb-false}
use borrow.Rule.Slice.PartMut.{mid_of}
use Rattle.book.specs.Limits.{most_lines}
use Rattle.book.specs.Test.{refusal}
use Rattle.book.specs.Good.{GoodLines}
use Rattle.book.specs.declared.Book.{Book}
use Rattle.network.specs.Standing.{standing}
use Rattle.network.specs.Codes.{codes}
use Rattle.network.proofs.Standing.{few_standing}
use Rattle.book.proofs.Places.{count_of_lem}
use Rattle.loops.specs.Row.{listings}
use Rattle.loops.proofs.Sounding.{lines_sound, line_limits}
use Rattle.links.specs.Link.{Link}
use Rattle.links.specs.Sketch.{Sketch, in_all, run_of, sketch_of}
use Rattle.links.specs.Shape.{lines_in}
use Rattle.links.proofs.EachLine.{as_many}
use Rattle.links.proofs.Shapes.{all_over}
use Rattle.lists.specs.Run.{listed_by, Coded}
use Rattle.lists.proofs.Runs.{codes_listed, map-append, codes_small, append_coded}
use Rattle.joins.specs.Row.{link_row, row_lines}
use Rattle.joins.specs.Code.{codes_in}
use Rattle.joins.specs.Step.{Tabled}
use Rattle.joins.specs.declared.Counts.{Counts}
use Rattle.joins.proofs.Codes.{codes_in_append, codes_length}
use Rattle.joins.proofs.Rows.{lines_of}
use Rattle.joins.proofs.Parts.{mid_at}
use Rattle.joins.proofs.Tables.{rows_of, rows_append}
use Rattle.junctions.specs.Call.{Lists, lists, drawing, refused_with, lists_of, any_short, all_in_first_places, drawn_into}
use Rattle.junctions.specs.Entries.{OverLines, ListIn, SomeIn, Wrote, SketchOver, SomeSketch, short_by, Roomy}
use Rattle.junctions.proofs.Writing.{entries_length}

-- ---- the run of a whole sketch

codes_in_listed : (xs : List Link) → map listed_by (codes_in xs) ≡ listings (map (λ (x : Link). x.way) xs)
unfolding codes_in listings
codes_in_listed [] = refl
codes_in_listed (x ∷ xs) =
    map-append (codes x.way) (codes_in xs) ∙ ap₂ (λ (a b : List ℤ). a ++ b) (codes_listed x.way) (codes_in_listed xs)

pub run_listed : (s : Sketch) → map listed_by (codes_in (in_all s)) ≡ run_of s
unfolding run_of
run_listed s = codes_in_listed (in_all s)

pub run_length : (s : Sketch) → length (codes_in (in_all s)) ≡ length (run_of s)
run_length s = sym (length-map (codes_in (in_all s)) listed_by) ∙ ap length (run_listed s)

-- every code is small
coded : (ls : List ℤ) (xs : List Link) → ((x : Link) → Memᴰ x xs → OverLines ls x) → Coded (codes_in xs)
unfolding codes_in
coded ls [] f = λ i h. absurd (omega arith)
coded ls (x ∷ xs) f =
    append_coded (codes x.way) (codes_in xs) (codes_small x.way (f x (Memᴰ.head refl)).numbered)
    (coded ls xs (λ y m. f y (Memᴰ.tail m)))

-- ---- the tables, list by list

module _ {ls : List ℤ} {s : Sketch} {rows runs : List ℕ} {c : Counts} (o : SketchOver ls s rows runs c) where
  abbrev t : Tabled s rows runs c
  t = o.tabled

  rows_four : rows ≡ rows_of s.links ++ (rows_of s.spurs ++ (rows_of s.loops ++ t.held.rows_behind))
  rows_four =
      t.held.rows_are ∙ rw (rows_append (s.links ++ s.spurs) s.loops, rows_append s.links s.spurs) (simp append_assoc)

  runs_four : runs ≡ codes_in s.links ++ (codes_in s.spurs ++ (codes_in s.loops ++ t.held.runs_behind))
  runs_four =
      t.held.runs_are ∙ rw (codes_in_append (s.links ++ s.spurs) s.loops, codes_in_append s.links s.spurs) (simp append_assoc)

  pub links_count : length (rows_of s.links) ≡ c.links
  links_count = length-map s.links link_row ∙ sym t.links_are

  pub spurs_count : length (rows_of s.spurs) ≡ c.spurs
  spurs_count = length-map s.spurs link_row ∙ sym t.spurs_are

  pub loops_count : length (rows_of s.loops) ≡ c.loops
  loops_count = length-map s.loops link_row ∙ sym t.loops_are

  -- all have their rows
  pub enough : c.links + c.spurs + c.loops ≤ length rows
  enough =
      omega (
        arith,
        links_count,
        spurs_count,
        loops_count,
        ap length rows_four,
        length-append (rows_of s.links) (rows_of s.spurs ++ (rows_of s.loops ++ t.held.rows_behind)),
        length-append (rows_of s.spurs) (rows_of s.loops ++ t.held.rows_behind),
        length-append (rows_of s.loops) t.held.rows_behind,
      )

  all_rows : take (c.links + c.spurs + c.loops) rows ≡ rows_of (in_all s)
  all_rows =
      ap (take (c.links + c.spurs + c.loops)) t.held.rows_are
      ∙ take_at (rows_of (in_all s)) t.held.rows_behind (c.links + c.spurs + c.loops)
      (ap length
      (rows_append (s.links ++ s.spurs) s.loops ∙ ap (λ (l : List ℕ). l ++ rows_of s.loops) (rows_append s.links s.spurs))
      ∙ length-append (rows_of s.links ++ rows_of s.spurs) (rows_of s.loops)
      ∙ omega (arith, links_count, spurs_count, loops_count, length-append (rows_of s.links) (rows_of s.spurs)))

  -- how many lines there are
  pub lines_all : row_lines (take (c.links + c.spurs + c.loops) rows) ≡ length (codes_in (in_all s))
  lines_all = ap row_lines all_rows ∙ lines_of (in_all s) (λ x i. (o.over x i).small)

  codes_three : length (codes_in (in_all s)) ≡ length (codes_in s.links) + length (codes_in s.spurs) + length (codes_in s.loops)
  codes_three =
      ap length (codes_in_append (s.links ++ s.spurs) s.loops) ∙ length-append (codes_in (s.links ++ s.spurs)) (codes_in s.loops)
      ∙ omega (arith, ap length (codes_in_append s.links s.spurs), length-append (codes_in s.links) (codes_in s.spurs))

  runs_long : length runs
      ≡ length (codes_in s.links) + (length (codes_in s.spurs) + (length (codes_in s.loops) + length t.held.runs_behind))
  runs_long =
      ap length runs_four ∙ simp length-append

  pub run_fits : length (codes_in (in_all s)) ≤ length runs
  run_fits = omega (arith, codes_three, runs_long)

  -- the links
  pub links_in : ListIn ls s.links (take c.links rows) runs
  links_in = record {
    each = λ x i. o.over x (Memᴰ.append_left s.loops (Memᴰ.append_left s.spurs i));
    rows_are = ap (take c.links) rows_four
        ∙ take_at (rows_of s.links) (rows_of s.spurs ++ (rows_of s.loops ++ t.held.rows_behind)) c.links links_count;
    runs_behind = codes_in s.spurs ++ (codes_in s.loops ++ t.held.runs_behind);
    runs_are = runs_four;
  }

  -- the spurs, behind the runs of the links
  module _ (a : ℕ) (is_a : a ≡ length (codes_in s.links)) where
    pub links_end : a ≤ length runs
    links_end = omega (arith, runs_long)

    pub spurs_in : ListIn ls s.spurs (mid_of c.links (c.links + c.spurs - c.links) rows) (mid_of a (length runs - a) runs)
    spurs_in = record {
      each = λ x i. o.over x (Memᴰ.append_left s.loops (Memᴰ.append_right s.links i));
      rows_are = mid_at (rows_of s.links) (rows_of s.spurs) (rows_of s.loops ++ t.held.rows_behind) rows rows_four c.links
          (c.links + c.spurs - c.links) links_count (spurs_count ∙ omega arith);
      runs_behind = codes_in s.loops ++ t.held.runs_behind;
      runs_are = take_all (length runs - a) (drop a runs) (omega (arith, length-drop a runs)) ∙ ap (drop a) runs_four
          ∙ drop_at (codes_in s.links) (codes_in s.spurs ++ (codes_in s.loops ++ t.held.runs_behind)) a (sym is_a);
    }

    -- the loops, behind those of the spurs
    module _ (b : ℕ) (is_b : b ≡ length (codes_in s.spurs)) where
      pub spurs_end : a + b ≤ length runs
      spurs_end = omega (arith, runs_long)

      pub loops_in : ListIn ls s.loops (mid_of (c.links + c.spurs) (c.links + c.spurs + c.loops - (c.links + c.spurs)) rows)
          (mid_of (a + b) (length runs - (a + b)) runs)
      loops_in = record {
        each = λ x i. o.over x (Memᴰ.append_right (s.links ++ s.spurs) i);
        rows_are = mid_at (rows_of s.links ++ rows_of s.spurs) (rows_of s.loops) t.held.rows_behind rows
            (rows_four ∙ sym (append_assoc (rows_of s.links) (rows_of s.spurs) (rows_of s.loops ++ t.held.rows_behind)))
            (c.links + c.spurs) (c.links + c.spurs + c.loops - (c.links + c.spurs))
            (length-append (rows_of s.links) (rows_of s.spurs) ∙ omega (arith, links_count, spurs_count)) (loops_count ∙ omega arith);
        runs_behind = t.held.runs_behind;
        runs_are = take_all (length runs - (a + b)) (drop (a + b) runs) (omega (arith, length-drop (a + b) runs))
            ∙ ap (drop (a + b)) (runs_four
            ∙ sym (append_assoc (codes_in s.links) (codes_in s.spurs) (codes_in s.loops ++ t.held.runs_behind)))
            ∙ drop_at (codes_in s.links ++ codes_in s.spurs) (codes_in s.loops ++ t.held.runs_behind) (a + b)
            (length-append (codes_in s.links) (codes_in s.spurs) ∙ omega arith);
      }

  -- the run of all
  run_all : (n : ℕ) → n ≡ row_lines (take (c.links + c.spurs + c.loops) rows) → take n runs ≡ codes_in (in_all s)
  run_all n e =
      ap (take n) t.held.runs_are ∙ take_at (codes_in (in_all s)) t.held.runs_behind n (sym (e ∙ lines_all))

  pub run_coded : (n : ℕ) → n ≡ row_lines (take (c.links + c.spurs + c.loops) rows) → Coded (take n runs)
  run_coded n e = subst Coded (sym (run_all n e)) (coded ls (in_all s) o.over)

  -- ---- whether an output is too short, and what is then answered

  module _ (n : ℕ) (is_n : n ≡ row_lines (take (c.links + c.spurs + c.loops) rows)) (out : Lists) where
    n_is : n ≡ length (run_of s)
    n_is = is_n ∙ lines_all ∙ run_length s

    pub short_is : short_by c n out ≡ any_short (lists_of s) out
    unfolding short_by
    short_is =
        rw (
          entries_length s.links,
          entries_length s.spurs,
          entries_length s.loops,
          ← t.links_are,
          ← t.spurs_are,
          ← t.loops_are,
          ← n_is,
        )

    pub ten_is : short_by c n out ≡ true → drawing (refused_with (refusal 10 0)) out ≡ drawn_into s out
    unfolding drawn_into
    ten_is e = rw (← short_is, e)

    -- the lists, written over the outputs
    pub written_is : (links spurs loops run : List ℤ) (a b d : ℕ) → Wrote s.links out.links links a
        → Wrote s.spurs out.spurs spurs b → Wrote s.loops out.loops loops d
        → run ≡ map listed_by (take n runs) ++ drop (length (take n runs)) out.run
        → lists links spurs loops run ≡ all_in_first_places (lists_of s) out
    written_is links spurs loops run a b d wl ws wo wr =
        rw (wl.written, ws.written, wo.written, its_run, entries_length s.links, entries_length s.spurs, entries_length s.loops)
      where
        its_run : run ≡ run_of s ++ drop (length (run_of s)) out.run
        its_run =
            wr ∙ ap₂ (λ (l : List ℤ) (m : ℕ). l ++ drop m out.run) (ap (map listed_by) (run_all n is_n) ∙ run_listed s)
            (ap length (run_all n is_n) ∙ run_length s)

    pub drawn_is : short_by c n out ≡ false → (now : Lists) → now ≡ all_in_first_places (lists_of s) out
        → drawing (record { refusal = refusal 0 0; links = c.links; spurs = c.spurs; loops = c.loops; run = n }) now ≡ drawn_into s out
    unfolding drawn_into
    drawn_is e now w = rw (← short_is, e, t.links_are, t.spurs_are, t.loops_are, n_is, w)

-- ---- what is asked for each list

module _ {ls : List ℤ} {rows runs : List ℕ} {c : Counts} (e : SomeSketch ls rows runs c) where
  pub links_asked : SomeIn ls (take c.links rows) runs
  links_asked = record {
    few = omega (arith, ap length (links_in e.held).rows_are, links_count e.held, enough e.held, e.rows_few);
    links = e.sketch.links;
    listed = links_in e.held;
  }

  -- the links are written, and their runs end before place a
  module _ (out out' : List ℤ) (a : ℕ) (links_wrote : (xs : List Link) → ListIn ls xs (take c.links rows) runs → Wrote xs out out' a) where
    is_a : a ≡ length (codes_in e.sketch.links)
    is_a = (links_wrote e.sketch.links (links_in e.held)).after_is

    pub links_stop : a ≤ length runs
    links_stop = links_end e.held a is_a

    pub spurs_asked : SomeIn ls (mid_of c.links (c.links + c.spurs - c.links) rows) (mid_of a (length runs - a) runs)
    spurs_asked = record {
      few = omega (arith, ap length (spurs_in e.held a is_a).rows_are, spurs_count e.held, enough e.held, e.rows_few);
      links = e.sketch.spurs;
      listed = spurs_in e.held a is_a;
    }

    -- and so are the spurs
    module _ (out₁ out₁' : List ℤ) (b : ℕ)
        (spurs_wrote : (xs : List Link)
        → ListIn ls xs (mid_of c.links (c.links + c.spurs - c.links) rows) (mid_of a (length runs - a) runs) → Wrote xs out₁ out₁' b) where
      is_b : b ≡ length (codes_in e.sketch.spurs)
      is_b = (spurs_wrote e.sketch.spurs (spurs_in e.held a is_a)).after_is

      pub spurs_stop : a + b ≤ length runs
      spurs_stop = spurs_end e.held a is_a b is_b

      pub loops_asked : SomeIn ls (mid_of (c.links + c.spurs) (c.links + c.spurs + c.loops - (c.links + c.spurs)) rows)
          (mid_of (a + b) (length runs - (a + b)) runs)
      loops_asked = record {
        few = omega (arith, ap length (loops_in e.held a is_a b is_b).rows_are, loops_count e.held, enough e.held, e.rows_few);
        links = e.sketch.loops;
        listed = loops_in e.held a is_a b is_b;
      }

  -- the runs have so many lines
  pub run_there : (n : ℕ) → n ≡ row_lines (take (c.links + c.spurs + c.loops) rows) → n ≡ length (take n runs)
  run_there n is_n = sym (length-take-le n runs (omega (arith, is_n, lines_all e.held, run_fits e.held)))

-- ---- room, where no output is too short

or-false : (a b : Bool) → (a || b) ≡ false → (a ≡ false) × (b ≡ false)
or-false true b e = absurd (true≢false e)
or-false false b e = (refl, e)

pub roomy : (c : Counts) (n : ℕ) (out : Lists) → short_by c n out ≡ false → Roomy c n out
unfolding short_by
roomy c n out e =
    let x = or-false _ _ e in
    let y = or-false _ _ x.0 in
    let z = or-false _ _ y.0 in
    record {
      links = ltb-false _ _ z.0;
      spurs = ltb-false _ _ z.1;
      loops = ltb-false _ _ y.1;
      run = ltb-false _ _ x.1;
    }

-- ---- a tested book

module _ (k : Book) (ls : List ℤ) (g : GoodLines k ls) {rows runs : List ℕ} {c : Counts}
    (t : Tabled (sketch_of k.marks (standing ls)) rows runs c) where
  abbrev its : Sketch
  its = sketch_of k.marks (standing ls)

  lines_few : length (standing ls) ≤ most_lines
  lines_few = omega (arith, few_standing ls, count_of_lem ls k.lines g.good.whole, g.good.few)

  codes_lines : (xs : List Link) → length (codes_in xs) ≡ lines_in xs
  unfolding codes_in lines_in
  codes_lines [] = refl
  codes_lines (x ∷ xs) = length-append (codes x.way) (codes_in xs) ∙ ap₂ (λ (a b : ℕ). a + b) (codes_length x.way) (codes_lines xs)

  all_few : length (codes_in (in_all its)) ≤ most_lines
  all_few = omega (arith, codes_lines (in_all its), as_many k.marks (standing ls) (lines_sound k ls g), lines_few)

  -- no link has more lines than all together
  one_few : (xs : List Link) (x : Link) → Memᴰ x xs → length x.way ≤ length (codes_in xs)
  unfolding codes_in
  one_few [] x m = elim m [ ]
  one_few (y ∷ ys) x (Memᴰ.head e) =
      omega (arith, ap (λ (z : Link). length z.way) e, length-append (codes y.way) (codes_in ys), codes_length y.way)
  one_few (y ∷ ys) x (Memᴰ.tail i) = omega (arith, one_few ys x i, length-append (codes y.way) (codes_in ys))

  pub sketch_over : SketchOver ls its rows runs c
  sketch_over = record { tabled = t; over = over_lines; few = all_few }
    where
      over_lines : (x : Link) → Memᴰ x (in_all its) → OverLines ls x
      over_lines x i =
          let stand = all_over k.marks (standing ls) (lines_sound k ls g) x i in
          record {
            small = t.held.small x i;
            few = omega (arith, one_few (in_all its) x i, all_few);
            stand = stand;
            numbered = λ p m. (line_limits k ls g p.line (stand p m)).number;
          }

  pub some_sketch : length rows ≤ most_lines → SomeSketch ls rows runs c
  some_sketch few = record { rows_few = few; sketch = its; held = sketch_over }
