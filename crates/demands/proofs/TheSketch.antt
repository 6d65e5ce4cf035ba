-- Request 01, the junction sketch: of a lent book that passes the test, sentence by sentence. Assumes nothing.
use mathlib.Core.Path.{◌≡◌, refl, ap}
use mathlib.Core.Logic.{◌↔◌}
use mathlib.Core.Bool.{false}
use mathlib.Core.List.{List, [], ◌∷◌, ◌++◌, map, append_assoc, Memᴰ}
use Prim.Native.Nat.{ℕ, suc, ◌+◌, ◌*◌, ◌≤◌, ◌<◌}
use native.Mathlib.Omega.{arith}
use lib.IntN.{ℤ}
use lib.ListN.{length, take, drop, length-map}
use lib.Seq.{take_at, drop-append-add, drop-append_seam}
use Rattle.book.specs.Lent.{Lent}
use Rattle.book.specs.Test.{test_of}
use Rattle.book.specs.declared.Book.{Book}
use Rattle.book.specs.Test.{Good}
use Rattle.book.proofs.Goods.{tested_good}
use Rattle.network.specs.Standing.{Line, standing}
use Rattle.network.specs.Sound.{Sound}
use Rattle.network.specs.Pairwise.{Pairwise}
use Rattle.network.specs.Redone.{redone_pass}
use Rattle.network.specs.Walk.{Pass}
use Rattle.loops.specs.Row.{listed, listings}
use Rattle.loops.proofs.Rerun.{rerun_keeps_listing, rerun_keeps_length}
use Rattle.loops.proofs.Sounding.{good_sound}
use Rattle.links.specs.Link.{Link}
use Rattle.links.specs.Ends.{ends_at}
use Rattle.links.specs.Sketch.{Sketch, sketch_of, in_all, entry_words, entry, entries, run_of}
use Rattle.links.specs.Steps.{NoneLeft, IsSketch}
use Rattle.links.specs.Shape.{IsWay, IsLink, IsLoop, times_in, lines_in, ByLowest, Along, Combined}
use Rattle.links.proofs.EachLine as each_line
use Rattle.links.proofs.OneSketch.{is_sketch, only_sketch}
use Rattle.links.proofs.Order as order
use Rattle.links.proofs.Shapes as shapes
use Rattle.links.proofs.Again.{rerun_keeps_sketch, rerun_keeps_run}
use Rattle.links.proofs.Combined.{loop_combined, circuit_combined}
use Rattle.junctions.specs.Call as junctions
use Rattle.junctions.specs.Call.{Lists, Drawing, drawing, any_short, in_first_places}
use Rattle.junctions.specs.Call.{sketch_in, drawn_into, sketch_good, sketch_call}
use Rattle.junctions.proofs.Writing.{entries_append, entries_length}
use Rattle.survey.specs.Correction.{rerun_lines}
use Rattle.demands.specs.Rules.{LowestGiven, rule}
use Rattle.demands.specs.Tables.{sketch_lists, sketch_rules}
use Rattle.demands.specs.Calls.{sketch_done, SketchKeepsToTable}
use Rattle.demands.specs.Corrections.{Stands}
use Rattle.demands.specs.TheSketch.{AllSame, none_left, each, DifferencesOnly}
use Rattle.demands.proofs.Rules.{by_rules, keeps_to_table, lowest_is_given}
use Rattle.demands.proofs.BookRules.{own_rules, none_in, none_and, first_of_lem, rest_of, passes_if, passes_only_if, by_the_test}
use Rattle.demands.proofs.CorrectedBook.{rerun_is_redone}

-- ---- the call

module _ (book : Lent) (out : Lists) where
  -- it keeps to its table: 3, 4, 6, 7, 10
  pub sketch_keeps_to_table : SketchKeepsToTable book out (sketch_call book out)
  unfolding sketch_call sketch_good drawn_into sketch_rules by_rules
  sketch_keeps_to_table =
      keeps_to_table (λ r. refl) refl refl
      (by_the_test book (λ k. sketch_good k book.lines out) (rule 10 (any_short (sketch_lists book) out) 0 ∷ [])
      (λ r. drawing (junctions.refused_with r) out) (sketch_done book out) refl)

  pub sketch_gives_the_lowest : LowestGiven (sketch_rules book out) (sketch_call book out).answer.refusal
  unfolding sketch_rules
  sketch_gives_the_lowest = lowest_is_given refl sketch_keeps_to_table.table

  -- a refused sketch: no counts, and the four outputs as they were
  pub refused_sketch_changes_nothing : let d = sketch_call book out in (d.answer.refusal.number ≡ 0 → ⊥)
      → (d.answer.links ≡ 0) × (d.answer.spurs ≡ 0) × (d.answer.loops ≡ 0) × (d.answer.run ≡ 0) × (d.out ≡ out)
  refused_sketch_changes_nothing h = let e = sketch_keeps_to_table.refused h in (
    ap (λ (d : Drawing). d.answer.links) e,
    ap (λ (d : Drawing). d.answer.spurs) e,
    ap (λ (d : Drawing). d.answer.loops) e,
    ap (λ (d : Drawing). d.answer.run) e,
    ap (λ (d : Drawing). d.out) e,
  )

  -- it is done exactly if the book passes the test and no output is too short
  pub sketch_done_exactly_if : ((sketch_call book out).answer.refusal.number ≡ 0)
      ↔ ((k : Book) × (test_of book ≡ Good k) × (any_short (sketch_lists book) out ≡ false))
  unfolding sketch_rules
  sketch_done_exactly_if =
      let w = sketch_keeps_to_table.table.done_exactly_if in (
        λ z. let h = w.0 z in (_, passes_if book h, first_of_lem (own_rules h)),
        λ p. w.1 (passes_only_if book p.0 p.1 (none_and p.2 none_in)),
      )

  -- its counts, and its lists in the first places of the outputs; "Places past the answers stay"
  pub sketch_in_first_places : (sketch_call book out).answer.refusal.number ≡ 0 → sketch_call book out ≡ sketch_done book out
  sketch_in_first_places done = sketch_keeps_to_table.finished done

-- ---- what the outputs then hold

entry_after_those : (before after : List Link) (x : Link) (rest : List ℤ)
    → take entry_words (drop (length before * entry_words) (entries (before ++ x ∷ after) ++ rest)) ≡ entry x
unfolding entries entry
entry_after_those before after x rest =
    rw (← entries_length before, entries_append before (x ∷ after), append_assoc (entries before) (entries (x ∷ after)) rest)
    (ap (take entry_words) (drop-append_seam (entries before) (entries (x ∷ after) ++ rest)))

-- the entry of a link stands after those of the links before it: marks, count of lines, and "length and difference are its sums"
pub entry_in_its_place : (before after : List Link) (x : Link) (out : List ℤ)
    → take entry_words (drop (length before * entry_words) (in_first_places (entries (before ++ x ∷ after)) out)) ≡ entry x
entry_in_its_place before after x out = entry_after_those before after x _

-- "`run` has the signed line numbers of all links, then all spurs, then all loops, in the order of the lists"
listed_after_those : (before after : List Link) (x : Link) (rest : List ℤ)
    → take (length x.way) (drop (lines_in before) (listings (map (λ (y : Link). y.way) (before ++ x ∷ after)) ++ rest))
    ≡ map listed x.way
unfolding lines_in listings
listed_after_those [] after x rest =
    rw (append_assoc (map listed x.way) (listings (map (λ (y : Link). y.way) after)) rest)
    (take_at (map listed x.way) _ (length x.way) (length-map x.way listed))
listed_after_those (b ∷ before) after x rest =
    let behind = listings (map (λ (y : Link). y.way) (before ++ x ∷ after)) in
    let n : length b.way + lines_in before ≡ length (map listed b.way) + lines_in before = omega (arith, length-map b.way listed) in
    rw (n, append_assoc (map listed b.way) behind rest, drop-append-add (map listed b.way) (behind ++ rest) (lines_in before))
    (listed_after_those before after x rest)

pub run_in_its_place : (s : Sketch) (before after : List Link) (x : Link) (out : List ℤ) → in_all s ≡ before ++ x ∷ after
    → take (length x.way) (drop (lines_in before) (in_first_places (run_of s) out)) ≡ map listed x.way
unfolding run_of
run_in_its_place s before after x out e = rw e (listed_after_those before after x _)

-- ---- the sketch of a book that passes

module _ (book : Lent) (k : Book) (passes : test_of book ≡ Good k) where
  abbrev its : Sketch
  its = sketch_of k.marks (standing book.lines)

  sound : Sound k.marks (standing book.lines)
  sound = good_sound k book (tested_good book k passes)

  -- "Each step is the first there is, and there is no other sequence of steps"
  pub sketch_is_by_the_rule : IsSketch k.marks (standing book.lines) its
  sketch_is_by_the_rule = is_sketch k.marks (standing book.lines) sound

  pub no_other_sketch : (s : Sketch) → IsSketch k.marks (standing book.lines) s → s ≡ its
  no_other_sketch = only_sketch k.marks (standing book.lines) sound

  -- "Every standing line is in exactly one link, spur or loop, once; a withdrawn one in none"
  pub each_standing_line_once : (l : Line) → Memᴰ l (standing book.lines) → times_in l.number (in_all its) ≡ 1
  each_standing_line_once = each_line.each_line_once k.marks (standing book.lines) sound

  pub no_withdrawn_line : (n : ℕ) → ((l : Line) → Memᴰ l (standing book.lines) → l.number ≡ n → ⊥) → times_in n (in_all its) ≡ 0
  no_withdrawn_line = each_line.no_other_line k.marks (standing book.lines) sound

  -- "exactly as many as lines stand"
  pub run_has_each_line : length (run_of its) ≡ length (standing book.lines)
  run_has_each_line = each_line.run_is_as_many k.marks (standing book.lines) sound

  pub no_more_entries_than_lines : length its.links + length its.spurs + length its.loops ≤ length (standing book.lines)
  no_more_entries_than_lines = shapes.no_more_than_lines k.marks (standing book.lines) sound

  -- "At the end no mark has one or two link ends and no link closes on itself": a junction has three or more
  pub no_step_is_left : NoneLeft k.marks its
  no_step_is_left = shapes.none_left k.marks (standing book.lines) sound

  pub junction_has_three_ends : (m : ℕ) → 0 < ends_at m its.links → 3 ≤ ends_at m its.links
  junction_has_three_ends = shapes.junctions k.marks (standing book.lines) sound

  -- "Each link is a walk from its first to its last mark, first < last .. each loop a closed walk that uses no line twice, its first line
  -- forward and the lowest; each spur a walk from its mark"
  pub each_link_is_so : (x : Link) → Memᴰ x its.links → IsLink (standing book.lines) x
  each_link_is_so = shapes.links_are k.marks (standing book.lines) sound

  pub each_spur_is_so : (x : Link) → Memᴰ x its.spurs → IsWay (standing book.lines) x
  each_spur_is_so = shapes.spurs_are k.marks (standing book.lines) sound

  pub each_self_closing_loop_is_so : (x : Link) → Memᴰ x its.loops → IsLoop (standing book.lines) x
  each_self_closing_loop_is_so = shapes.loops_are k.marks (standing book.lines) sound

  -- "Links rise by lowest line"
  pub links_rise_by_lowest_line : Pairwise ByLowest its.links
  links_rise_by_lowest_line = order.links_rise k.marks (standing book.lines) sound

  -- "Misclosure of a loop here, and of any circuit made of links, is a whole combination of the reported loops"
  pub self_closing_loop_is_combined : (x : Link) → Memᴰ x its.loops → Combined k.marks (standing book.lines) x.way
  self_closing_loop_is_combined = loop_combined k.marks (standing book.lines) sound

  pub circuit_of_links_is_combined : (r : ℕ) (w : List Pass) → Along its.links r r w → Combined k.marks (standing book.lines) w
  circuit_of_links_is_combined = circuit_combined k.marks (standing book.lines) sound

-- ---- "A re-run changes differences only: marks, lines, lengths and order of all three lists stay"

module _ (n : ℕ) (d : ℤ) where
  redone_same : (xs : List Link)
      → AllSame xs (map (λ (x : Link). record { first = x.first; last = x.last; way = map (redone_pass n d) x.way }) xs)
  redone_same [] = none_left
  redone_same (x ∷ xs) = each (record {
    first = refl;
    last = refl;
    lines_and_sense = rerun_keeps_listing n d x.way;
    long = rerun_keeps_length n d x.way;
  }) (redone_same xs)

module _ (lines : List ℤ) (number : ℤ) (i : ℕ) (stands : Stands lines number i) (b : ℕ) (d : ℤ) where
  pub rerun_changes_differences_only : DifferencesOnly (sketch_in b lines) (sketch_in b (rerun_lines lines number d))
  unfolding sketch_in
  rerun_changes_differences_only =
      rw (rerun_is_redone lines number i stands d, rerun_keeps_sketch (suc i) d b (standing lines)) (record {
        links = redone_same (suc i) d (sketch_of b (standing lines)).links;
        spurs = redone_same (suc i) d (sketch_of b (standing lines)).spurs;
        loops = redone_same (suc i) d (sketch_of b (standing lines)).loops;
      })

  pub rerun_keeps_the_run : run_of (sketch_in b (rerun_lines lines number d)) ≡ run_of (sketch_in b lines)
  unfolding sketch_in
  rerun_keeps_the_run = rw (rerun_is_redone lines number i stands d) (rerun_keeps_run (suc i) d b (standing lines))
