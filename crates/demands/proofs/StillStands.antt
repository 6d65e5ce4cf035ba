-- Demand 3: "When a line is re-run, or a closing line is withdrawn, each remaining loop that doesn't hold that line keeps its lines,
-- sense, misclosure, verdict and order among the rest." Assumes nothing.
use mathlib.Core.Path.{◌≡◌, refl, sym, ◌∙◌, ap}
use mathlib.Core.List.{List, [], ◌∷◌, map, Memᴰ}
use Prim.Native.Nat.{ℕ, zero, suc, ◌-◌, ◌<◌, ◌≤◌}
use native.Mathlib.Omega.{arith}
use lib.ListN.{length}
use lib.IntN.{ℤ, pos, nat_abs, ◌+ℤ◌, ◌-ℤ◌, ◌*ℤ◌}
use Rattle.book.specs.Lent.{Lent}
use Rattle.book.specs.Line.{difference_at}
use Rattle.book.specs.Test.{test_of}
use Rattle.book.specs.declared.Book.{Book}
use Rattle.book.specs.Test.{Good}
use Rattle.book.proofs.Goods.{tested_good, good_lines}
use Rattle.network.specs.Standing.{Line, standing}
use Rattle.network.specs.Field.{line_at}
use Rattle.network.specs.Sound.{Sound}
use Rattle.network.specs.Tree.{pieces}
use Rattle.network.specs.Redone.{redone_pass}
use Rattle.network.specs.Without.{without}
use Rattle.network.specs.Walk.{Pass}
use Rattle.network.proofs.Count.{unique}
use Rattle.network.proofs.ShortestPath.{pass_line}
use Rattle.network.proofs.Withdrawn.{withdrawal_keeps_tree}
use Rattle.loops.specs.Loops.{Loop, loop_at}
use Rattle.loops.specs.Row.{misclosure}
use Rattle.loops.specs.Passes.{passes}
use Rattle.loops.specs.Withdrawn as withdrawn
use Rattle.loops.specs.Withdrawn.{Withdrawn}
use Rattle.loops.proofs.Basis.{all_closed}
use Rattle.loops.proofs.Rerun.{rerun_keeps_tree, rerun_keeps_closing_lines, rerun_keeps_pieces, rerun_keeps_listing}
use Rattle.loops.proofs.Rerun.{rerun_keeps_closing_line, rerun_keeps_count, rerun_keeps_length, rerun_keeps_other_loops}
use Rattle.loops.proofs.Rerun.{rerun_moves_misclosure}
use Rattle.loops.proofs.Withdrawal.{withdrawal_keeps_loops, one_loop_goes, loops_never_grow, at_most_one_loop_fewer}
use Rattle.loops.specs.Report.{loops_of, pieces_of}
use Rattle.survey.specs.Correction.{rerun_lines, withdraw_lines, rerun_of, withdraw_of}
use Rattle.loops.proofs.Sounding.{good_sound}
use Rattle.survey.proofs.Corrected.{its_line}
use Rattle.loops.proofs.Places.{loop_at_is}
use Rattle.demands.specs.TheLoops.{closing_lines_of}
use Rattle.demands.specs.Corrections.{Stands, Acceptable}
use Rattle.demands.specs.StillStands.{SameLoop, StillStand, none_left, gone, stays, SameWay, AfterRerun, AfterClosingLine}
use Rattle.demands.proofs.Refusals.{rerun_keeps_to_table, withdrawal_keeps_to_table}
use Rattle.demands.proofs.Done.{rerun_done_exactly_if, withdrawal_done_exactly_if}
use Rattle.demands.proofs.CorrectedBook.{rerun_is_redone, withdrawal_is_without, rerun_loops, rerun_keeps_rows}

-- the same loop in the same place
same_loop : (t : ℕ) {before after : Loop} → after ≡ before → SameLoop t before after
same_loop t e = record { lines_and_sense = rw e; whole_row = rw e }

-- ---- re-run

module _ (t n : ℕ) (d : ℤ) where
  all_stand : (ls : List Loop) → StillStand t n ls (map (map (redone_pass n d)) ls)
  all_stand [] = none_left
  all_stand (l ∷ ls) = stays (rerun_keeps_closing_line n d l) (λ h. same_loop t (rerun_keeps_other_loops n d l h)) (all_stand ls)

loop_at_map : (f : Loop → Loop) → f [] ≡ [] → (ls : List Loop) (i : ℕ) → loop_at (map f ls) i ≡ f (loop_at ls i)
unfolding loop_at
loop_at_map f e [] i = sym e
loop_at_map f e (l ∷ ls) zero = refl
loop_at_map f e (l ∷ ls) (suc i) = loop_at_map f e ls i

module _ (lines : List ℤ) (number : ℤ) (i : ℕ) (stands : Stands lines number i) (b t : ℕ) (d : ℤ) where
  after_rerun : AfterRerun b t (suc i) lines (rerun_lines lines number d)
  unfolding pieces_of
  after_rerun = record {
    tree_kept = rw (rerun_is_redone lines number i stands d) (rerun_keeps_tree (suc i) d b (standing lines));
    closing_lines_kept = rw (rerun_is_redone lines number i stands d) (rerun_keeps_closing_lines (suc i) d b (standing lines));
    pieces_kept = rw (rerun_is_redone lines number i stands d) (rerun_keeps_pieces (suc i) d b (standing lines));
    rows_kept = rerun_keeps_rows lines number i stands b d;
    each_loop = λ j. rw (rerun_loops lines number i stands b d, loop_at_map (map (redone_pass (suc i) d)) refl (loops_of b lines) j)
        (same_way (loop_at (loops_of b lines) j));
    other_loops = rw (rerun_loops lines number i stands b d) (all_stand t (suc i) d (loops_of b lines));
  }
    where
      same_way : (lp : Loop) → SameWay lp (map (redone_pass (suc i) d) lp)
      same_way lp = record {
        lines_and_sense = rerun_keeps_listing (suc i) d lp;
        closing_line = rerun_keeps_closing_line (suc i) d lp;
        count = rerun_keeps_count (suc i) d lp;
        long = rerun_keeps_length (suc i) d lp;
      }

-- ---- withdrawal of a closing line

others_stand : (t n : ℕ) {old new : List Loop} → Withdrawn n old new → StillStand t n old new
others_stand t n withdrawn.none_left = none_left
others_stand t n (withdrawn.goes e w) = gone e (others_stand t n w)
others_stand t n (withdrawn.stays d e f w) = stays e (λ h. same_loop t (f h)) (others_stand t n w)

module _ (book : Lent) (report : List ℤ) where
  sound_book : (k : Book) → test_of book ≡ Good k → Sound (nat_abs book.b) (standing book.lines)
  sound_book k e = let good = tested_good book k e in rw (ap nat_abs good.marks) (good_sound k book good)

  -- a loop runs standing lines
  run_stands : (k : Book) → test_of book ≡ Good k → (i : ℕ) → i < length (loops_of (nat_abs book.b) book.lines) → (p : Pass)
      → Memᴰ p (loop_at (loops_of (nat_abs book.b) book.lines) i) → Memᴰ p.line (standing book.lines)
  unfolding loops_of
  run_stands k e i h p m =
      pass_line (all_closed (nat_abs book.b) (standing book.lines) (sound_book k e)
      (loop_at (loops_of (nat_abs book.b) book.lines) i) (loop_at_is (loops_of (nat_abs book.b) book.lines) i h)).1 p m

  -- a line is re-run: what still stands
  pub rerun_what_still_stands : (number difference : ℤ) → (rerun_of book report number difference).answer.refusal.number ≡ 0
      → AfterRerun (nat_abs book.b) (nat_abs book.t) (nat_abs number) book.lines (rerun_of book report number difference).lines
  rerun_what_still_stands number difference z =
      let a = ((rerun_done_exactly_if book report number difference).0 z).1 in
      rw ((rerun_keeps_to_table book report number difference).finished z, ap nat_abs a.stands.its_number)
      (after_rerun book.lines number a.line a.stands (nat_abs book.b) (nat_abs book.t) difference)

  -- the misclosure of a loop moves by the change of the difference, as often as the loop runs the line and in its sense
  pub rerun_moves_misclosures : (number difference : ℤ) → (rerun_of book report number difference).answer.refusal.number ≡ 0
      → (i : ℕ) → i < length (loops_of (nat_abs book.b) book.lines)
      → let before = loop_at (loops_of (nat_abs book.b) book.lines) i in
      misclosure (loop_at (loops_of (nat_abs book.b) (rerun_of book report number difference).lines) i)
      ≡ misclosure before +ℤ (difference -ℤ difference_at book.lines (nat_abs number - 1)) *ℤ passes before (nat_abs number)
  rerun_moves_misclosures number difference z i h =
      let a = ((rerun_done_exactly_if book report number difference).0 z).1 in
      let same : nat_abs number ≡ suc a.line = ap nat_abs a.stands.its_number in
      let at : suc a.line - 1 ≡ a.line = omega arith in
      rw (
        (rerun_keeps_to_table book report number difference).finished z,
        same,
        at,
        rerun_loops book.lines number a.line
            a.stands (nat_abs book.b) difference,
        loop_at_map (map (redone_pass (suc a.line) difference)) refl
            (loops_of (nat_abs book.b) book.lines) i,
      )
      (rerun_moves_misclosure (suc a.line) difference (line_at (suc a.line) book.lines a.line)
      (loop_at (loops_of (nat_abs book.b) book.lines) i) (λ p m e. own a p (run_stands a.counts a.passes i h p m) e))
    where
      own : (a : Acceptable book report number) (p : Pass) → Memᴰ p.line (standing book.lines)
          → p.line.number ≡ suc a.line → p.line ≡ line_at (suc a.line) book.lines a.line
      own a p m e =
          unique (standing book.lines) (sound_book a.counts a.passes).rising p.line
          (line_at (suc a.line) book.lines a.line) m
          (its_line a.counts book.lines (good_lines a.counts book (tested_good book a.counts a.passes)) number a.line
          a.stands) e

  -- a closing line is withdrawn: what still stands
  pub withdrawal_what_still_stands : (c : Line) → Memᴰ c (closing_lines_of (nat_abs book.b) book.lines)
      → (withdraw_of book report (pos c.number)).answer.refusal.number ≡ 0
      → AfterClosingLine (nat_abs book.b) (nat_abs book.t) c.number book.lines (withdraw_of book report (pos c.number)).lines
  unfolding loops_of pieces_of
  withdrawal_what_still_stands c closes z =
      let a = (withdrawal_done_exactly_if book report (pos c.number)).0 z in
      let sound = sound_book a.counts a.passes in
      let same : c.number ≡ suc a.line = ap nat_abs a.stands.its_number in
      let now : standing (withdraw_lines book.lines (pos c.number)) ≡ without c.number (standing book.lines) =
      withdrawal_is_without book.lines (pos c.number) a.line a.stands
      ∙ ap (λ (n : ℕ). without n (standing book.lines)) (sym same) in
      rw ((withdrawal_keeps_to_table book report (pos c.number)).finished z) (record {
        tree_kept = rw now (withdrawal_keeps_tree (nat_abs book.b) (standing book.lines) sound c closes);
        pieces_kept = rw now (ap pieces (withdrawal_keeps_tree (nat_abs book.b) (standing book.lines) sound c closes));
        one_loop_goes = rw now (one_loop_goes (nat_abs book.b) (standing book.lines) sound c closes);
        other_loops = rw now (others_stand (nat_abs book.t) c.number
            (withdrawal_keeps_loops (nat_abs book.b) (standing book.lines) sound c closes));
      })

  -- any line is withdrawn: the rows are as many, or one fewer
  pub withdrawal_rows : (number : ℤ) → (withdraw_of book report number).answer.refusal.number ≡ 0
      → (length (loops_of (nat_abs book.b) (withdraw_of book report number).lines) ≤ length (loops_of (nat_abs book.b) book.lines))
      × (length (loops_of (nat_abs book.b) book.lines) ≤ suc
      (length (loops_of (nat_abs book.b) (withdraw_of book report number).lines)))
  unfolding loops_of
  withdrawal_rows number z =
      let a = (withdrawal_done_exactly_if book report number).0 z in
      let good = tested_good book a.counts a.passes in
      let line = line_at (suc a.line) book.lines a.line in
      let stands = its_line a.counts book.lines (good_lines a.counts book good) number a.line a.stands in
      let sound = good_sound a.counts book good in
      rw (
        (withdrawal_keeps_to_table book report number).finished z,
        withdrawal_is_without book.lines number a.line a.stands,
        ap nat_abs good.marks,
      ) (
        loops_never_grow a.counts.marks (standing book.lines) sound line stands,
        at_most_one_loop_fewer a.counts.marks
            (standing book.lines) sound line stands,
      )
