-- The adjustment and the correction rate, sentence by sentence: refusals, what is given, and what the settled heights are worth.
-- Assumes nothing.
use mathlib.Core.Path.{◌≡◌, refl, sym, ◌∙◌, ap}
use mathlib.Core.Logic.{◌↔◌}
use mathlib.Core.Bool.{Bool, true, false, not, cond, true≢false}
use mathlib.Core.List.{List}
use mathlib.Core.Option.{some}
use Prim.Native.Nat.{ℕ, zero, suc, ◌-◌, ◌≤◌, ◌<◌}
use native.Mathlib.Omega.{arith}
use lib.Dec.{ltb}
use lib.ListN.{length, take, drop}
use lib.Seq.{take_at, drop_at}
use lib.IntN.{ℤ, pos, negsuc, nat_abs, ◌-ℤ◌}
use lib.Ieee.{fin, binary64, of_int, div}
use borrow.Author.Tests.{ltb-false, lt-ltb, le-ltb}
use Rattle.book.specs.Good.{Lines}
use Rattle.laws.specs.Tests.{eq_z}
use Rattle.laws.specs.Range.{Between}
use Rattle.laws.proofs.Size.{between, size_sub}
use Rattle.book.specs.Lent.{Lent}
use Rattle.book.specs.Line.{from_at, to_at, difference_at, length_at, standing_at, line_count}
use Rattle.book.specs.Test.{counts_of, test_of, if_good, refusal, no_refusal}
use Rattle.book.specs.declared.Book.{Book}
use Rattle.book.specs.Test.{Good}
use Rattle.network.specs.Standing.{standing}
use Rattle.fields.specs.Heights.{height, Working}
use Rattle.fields.proofs.Stands.{lines_of}
use Rattle.fields.proofs.Fair.{fair_lines}
use Rattle.sights.specs.Sights.{sights_of}
use Rattle.sweeps.specs.Sweeps.{Settled, settled, unsettled, sweep}
use Rattle.sweeps.specs.Squares.{squares, move_mark}
use Rattle.sweeps.specs.Kept.{Kept}
use Rattle.sweeps.proofs.Best.{fairs_sound, sweep_not_worse}
use Rattle.start.specs.Start.{held_height, is_held, start_heights}
use Rattle.rates.specs.Rates as rates
use Rattle.rates.specs.Rates.{correction_at, correction_of, quotient, line_rate, good_rate, heights_out, rate_answer, first_high}
use Rattle.rates.proofs.Exact.{there_and_back}
use Rattle.rates.proofs.Rating.{marks_of, working_lent}
use Rattle.rates.specs.declared.Rate.TheVariants.{PerKm, Withdrawn}
use Rattle.rates.specs.Rates.{RateAnswer}
use Rattle.adjust.specs.Answers as adjust
use Rattle.adjust.specs.Adjusted.{done, unless_unheld, ended, adjustment}
use Rattle.adjust.specs.Call.{Given, adjusted, given_by, adjust_good, adjust_of}
use Rattle.adjust.proofs.Promises.{as_many, never_worse, best_at_every_mark, held_marks_keep}
use Rattle.demands.specs.Rules.{LowestGiven}
use Rattle.demands.specs.Heights.{sweeps_of, unheld_mark, still_moves, went_outside, outside_mark, count_of, heights_of, sweep_rules}
use Rattle.demands.specs.Heights.{adjust_rules, adjust_done, AdjustmentKeepsToTable, marks_heights, height_rules, rate_rules, ExactFloat}
use Rattle.demands.specs.Heights.{rate_done, RateKeepsToTable}
use Rattle.demands.proofs.Rules.{by_rules, keeps_to_table, lowest_is_given}
use Rattle.demands.proofs.BookRules.{None, none_in, none_and, first_of_lem, rest_of, own_rules, none_beside, passes_if, passes_only_if}
use Rattle.demands.proofs.BookRules.{by_the_test, by_the_test_beside}

-- ---- refusals

-- a place that is none
no_mark : (u : ℕ) → ltb 0 u ≡ false → u ≡ 0
no_mark u h = let l : u ≤ 0 = ltb-false 0 u h in omega arith

-- a line that there is has an answer with no refusal
line_answered : (heights lines : List ℤ) (line i : ℕ) → (line_rate heights lines line i).refusal ≡ no_refusal
unfolding line_rate
line_answered heights lines line i = go (eq_z (standing_at lines i) (pos 0))
  where
    x : RateAnswer
    x = record { refusal = no_refusal; line = line; correction = pos 0; rate = Withdrawn }

    y : RateAnswer
    y =
        record {
          refusal = no_refusal;
          line = line;
          correction = correction_at heights lines i;
          rate = PerKm
              (quotient (correction_at heights lines i) (length_at lines i));
        }

    go : (t : Bool) → (cond t x y).refusal ≡ no_refusal
    go true = refl
    go false = refl

module _ (book : Lent) where
  -- the adjustment keeps to its table: 3, 4, 6, 7, 10, 11, then 12 or 13
  pub adjustment_keeps_to_table : (out : List ℤ) → AdjustmentKeepsToTable book out (adjust_of book out)
  unfolding adjust_of adjust_rules sweeps_of unheld_mark by_rules
  adjustment_keeps_to_table out =
      keeps_to_table (λ r. refl) refl refl
      (by_the_test book (λ k. adjust_good k book.held book.lines out) (sweep_rules book out)
      (λ r. adjusted (adjust.refused_with r) out) (adjust_done (sweeps_of (nat_abs book.b) book.held book.lines) out)
      (go (ltb (length out) (nat_abs book.b)) (unheld_mark (nat_abs book.b) book.held book.lines)
      (sweeps_of (nat_abs book.b) book.held book.lines)))
    where
      go : (x : Bool) (u : ℕ) (s : Settled)
          → cond x (adjusted (adjust.refused_with (refusal 10 0)) out) (given_by out (unless_unheld u (λ _. ended s)))
          ≡ cond x (adjusted (adjust.refused_with (refusal 10 0)) out)
          (cond (ltb 0 u) (adjusted (adjust.refused_with (refusal 11 u)) out)
          (cond (still_moves s) (adjusted (adjust.refused_with (refusal 12 0)) out)
          (cond (went_outside s) (adjusted (adjust.refused_with (refusal 13 (outside_mark s))) out) (adjust_done s out))))
      go true u s = refl
      go false zero (settled n hs) = refl
      go false zero (Settled.outside m) = refl
      go false zero unsettled = refl
      go false (suc u) s = rw (lt-ltb 0 (suc u) (omega arith))

  -- the rate keeps to its table: 3, 4, 6, 7, 8, 13
  pub rate_keeps_to_table : (heights : List ℤ) (line : ℤ) → RateKeepsToTable book heights line (rate_answer book heights line)
  unfolding rate_answer rate_rules rates.refused_with good_rate by_rules
  rate_keeps_to_table heights line =
      keeps_to_table (λ r. refl) (line_answered heights book.lines (nat_abs line) (nat_abs line - 1)) refl
      (by_the_test_beside (heights_out book heights) book (λ k. good_rate heights book.lines k line) (height_rules book heights line)
      rates.refused_with (rate_done book heights line) refl)

  -- "Where several apply, the lowest number is given": the numbers of both tables rise
  pub adjustment_gives_the_lowest : (out : List ℤ) → LowestGiven (adjust_rules book out) (adjust_of book out).answer.refusal
  unfolding adjust_rules
  adjustment_gives_the_lowest out = lowest_is_given refl (adjustment_keeps_to_table out).table

  pub rate_gives_the_lowest : (heights : List ℤ) (line : ℤ)
      → LowestGiven (rate_rules book heights line) (rate_answer book heights line).refusal
  unfolding rate_rules
  rate_gives_the_lowest heights line = lowest_is_given refl (rate_keeps_to_table heights line).table

  -- a refused adjustment: no sweeps, and the heights as they were
  pub refused_adjustment_changes_nothing : (out : List ℤ) → let g = adjust_of book out in (g.answer.refusal.number ≡ 0 → ⊥)
      → (g.answer.sweeps ≡ 0) × (g.heights ≡ out)
  refused_adjustment_changes_nothing out h = let e = (adjustment_keeps_to_table out).refused h in
      (ap (λ (g : Given). g.answer.sweeps) e, ap (λ (g : Given). g.heights) e)

  -- "Of a refused call, line, correction and rate are 0"
  pub refused_rate_is_zero : (heights : List ℤ) (line : ℤ) → let r = rate_answer book heights line in (r.refusal.number ≡ 0 → ⊥)
      → (r.line ≡ 0) × (r.correction ≡ pos 0) × (r.rate ≡ PerKm (fin false 0 (pos 0)))
  unfolding rates.refused_with
  refused_rate_is_zero heights line h = let e = (rate_keeps_to_table heights line).refused h in
      (ap (λ (r : RateAnswer). r.line) e, ap (λ (r : RateAnswer). r.correction) e, ap (λ (r : RateAnswer). r.rate) e)

  -- ---- the rate of a call that is done

  module _ (heights : List ℤ) (line : ℤ) (given : (rate_answer book heights line).refusal.number ≡ 0) where
    abbrev at : ℕ
    at = nat_abs line - 1

    none_applies : None (rate_rules book heights line)
    none_applies = (rate_keeps_to_table heights line).table.done_exactly_if.0 given

    passed : test_of book ≡ Good (counts_of book)
    unfolding rate_rules
    passed =
        passes_if book {more = height_rules book heights line} (none_beside (heights_out book heights) book none_applies).1

    there : Between 1 (line_count book.lines) line
    unfolding rate_rules
    there = between 1 (line_count book.lines) line (first_of_lem (own_rules none_applies))

    inside : Working heights (nat_abs book.b)
    unfolding rate_rules
    inside =
        let many = (none_beside (heights_out book heights) book none_applies).0 in
        working_lent heights (nat_abs book.b) (marks_of book (counts_of book) passed heights many)
        (no_mark (first_high heights) (first_of_lem (rest_of (own_rules none_applies))))

    -- "Both numbers are exact as 64-bit floats"
    pub both_numbers_are_exact : ExactFloat (correction_at heights book.lines at) × ExactFloat (length_at book.lines at)
    unfolding correction_at correction_of
    both_numbers_are_exact =
        let g = (lines_of book (counts_of book) passed).each at (omega (arith, there.low, there.high)) in
        let x = height heights (nat_abs (to_at book.lines at)) in
        let y = height heights (nat_abs (from_at book.lines at)) in (
          there_and_back (x -ℤ y -ℤ difference_at book.lines at)
              (omega (
                arith,
                size_sub (x -ℤ y) (difference_at book.lines at),
                size_sub x y,
                inside.inside
                    (nat_abs (to_at book.lines at) - 1),
                inside.inside (nat_abs (from_at book.lines at) - 1),
                g.difference,
              )),
          there_and_back (length_at book.lines at) (omega (arith, g.long.high)),
        )

    -- of a standing line: "adjusted minus observed difference", and the one rounded quotient of two whole numbers
    pub rate_is_one_quotient : standing_at book.lines at ≡ pos 1
        → let c = height heights (nat_abs (to_at book.lines at)) -ℤ height heights (nat_abs (from_at book.lines at)) -ℤ difference_at
        book.lines at in
        rate_answer book heights line
        ≡ record {
          refusal = no_refusal;
          line = nat_abs line;
          correction = c;
          rate = PerKm
              (div binary64 (of_int binary64 c) (of_int binary64 (length_at book.lines at)));
        }
    unfolding line_rate correction_at correction_of quotient eq_z
    rate_is_one_quotient stands = (rate_keeps_to_table heights line).finished given ∙ rw stands

    -- "or that the line is withdrawn"; its correction is 0
    pub withdrawn_line_has_no_rate : standing_at book.lines at ≡ pos 0
        → rate_answer book heights line ≡ record { refusal = no_refusal; line = nat_abs line; correction = pos 0; rate = Withdrawn }
    unfolding line_rate eq_z
    withdrawn_line_has_no_rate stands = (rate_keeps_to_table heights line).finished given ∙ rw stands

  -- ---- the adjustment, when it is done

  -- sweeps that neither went outside nor still move a mark have settled
  have_settled : (s : Settled) → still_moves s ≡ false → went_outside s ≡ false → s ≡ settled (count_of s) (heights_of s)
  have_settled (settled n hs) x y = refl
  have_settled (Settled.outside m) x y = absurd (true≢false y)
  have_settled unsettled x y = absurd (true≢false x)

  -- an adjustment is done exactly if the book passes the test, there is room for its heights, each piece has a held mark, and the sweeps
  -- settle
  pub adjustment_done_exactly_if : (out : List ℤ) → ((adjust_of book out).answer.refusal.number ≡ 0)
      ↔ ((k : Book) × (test_of book ≡ Good k) × (nat_abs book.b ≤ length out)
      × (unheld_mark (nat_abs book.b) book.held book.lines ≡ 0) × (n : ℕ) × (hs : List ℤ)
      × (sweeps_of (nat_abs book.b) book.held book.lines ≡ settled n hs))
  unfolding adjust_rules
  adjustment_done_exactly_if out =
      let w = (adjustment_keeps_to_table out).table.done_exactly_if in (
        λ z.
            let h = w.0 z in
            let own = own_rules h in
            let ends = rest_of (rest_of own) in (
              _,
              passes_if book h,
              ltb-false (length out) (nat_abs book.b) (first_of_lem own),
              no_mark (unheld_mark (nat_abs book.b) book.held book.lines) (first_of_lem (rest_of own)),
              _,
              _,
              have_settled (sweeps_of (nat_abs book.b) book.held book.lines) (first_of_lem ends) (first_of_lem (rest_of ends)),
            ),
        λ p. w.1 (passes_only_if book p.0 p.1 (none_and (le-ltb (length out) (nat_abs book.b) p.2)
            (none_and (ap (ltb 0) p.3) (none_and (ap still_moves p.6) (none_and (ap went_outside p.6) none_in))))),
      )

  module _ (out : List ℤ) (is_done : (adjust_of book out).answer.refusal.number ≡ 0) where
    abbrev given : Given
    given = adjust_of book out

    passes : test_of book ≡ Good (counts_of book)
    unfolding adjust_rules
    passes = passes_if book ((adjustment_keeps_to_table out).table.done_exactly_if.0 is_done)

    good : Lines book.lines (nat_abs book.b) (line_count book.lines)
    good = lines_of book (counts_of book) passes

    sweeps_are : sweeps_of (nat_abs book.b) book.held book.lines
        ≡ settled (count_of (sweeps_of (nat_abs book.b) book.held book.lines))
        (heights_of (sweeps_of (nat_abs book.b) book.held book.lines))
    unfolding adjust_rules
    sweeps_are =
        let ends = rest_of (rest_of (own_rules ((adjustment_keeps_to_table out).table.done_exactly_if.0 is_done))) in
        have_settled (sweeps_of (nat_abs book.b) book.held book.lines) (first_of_lem ends) (first_of_lem (rest_of ends))

    outcome : adjustment (nat_abs book.b) book.held book.lines
        ≡ done (count_of (sweeps_of (nat_abs book.b) book.held book.lines))
        (heights_of (sweeps_of (nat_abs book.b) book.held book.lines))
    unfolding adjustment sweeps_of unheld_mark
    outcome = rw ((adjustment_done_exactly_if out).0 is_done).3 (ap ended sweeps_are)

    long : length (heights_of (sweeps_of (nat_abs book.b) book.held book.lines)) ≡ nat_abs book.b
    long = as_many (nat_abs book.b) (line_count book.lines) book.held book.lines good _ _ outcome

    finished : given ≡ adjust_done (sweeps_of (nat_abs book.b) book.held book.lines) out
    finished = (adjustment_keeps_to_table out).finished is_done

    heights_are : marks_heights book given ≡ heights_of (sweeps_of (nat_abs book.b) book.held book.lines)
    heights_are = ap (λ (g : Given). take (nat_abs book.b) g.heights) finished
        ∙ take_at (heights_of (sweeps_of (nat_abs book.b) book.held book.lines))
        (drop (length (heights_of (sweeps_of (nat_abs book.b) book.held book.lines))) out) (nat_abs book.b) long

    -- "Adjusted heights are those of document 01's sweeps", and so is their number
    pub heights_are_of_the_sweeps : sweeps_of (nat_abs book.b) book.held book.lines
        ≡ settled given.answer.sweeps (marks_heights book given)
    heights_are_of_the_sweeps =
        sweeps_are ∙ ap (λ (n : ℕ). settled n (heights_of (sweeps_of (nat_abs book.b) book.held book.lines)))
        (sym (ap (λ (g : Given). g.answer.sweeps) finished))
        ∙ ap (settled given.answer.sweeps) (sym heights_are)

    -- one height to each mark, and "Output places past the answer stay unchanged"
    pub places_past_the_heights_stay : drop (nat_abs book.b) given.heights ≡ drop (nat_abs book.b) out
    places_past_the_heights_stay =
        ap (λ (g : Given). drop (nat_abs book.b) g.heights) finished
        ∙ drop_at (heights_of (sweeps_of (nat_abs book.b) book.held book.lines))
        (drop (length (heights_of (sweeps_of (nat_abs book.b) book.held book.lines))) out) (nat_abs book.b) long
        ∙ ap (λ (n : ℕ). drop n out) long

    its_outcome : adjustment (nat_abs book.b) book.held book.lines
        ≡ done (count_of (sweeps_of (nat_abs book.b) book.held book.lines)) (marks_heights book given)
    its_outcome = outcome ∙ ap (done (count_of (sweeps_of (nat_abs book.b) book.held book.lines))) (sym heights_are)

    -- held marks keep their heights
    pub held_marks_keep_their_heights : (m : ℕ) (z : ℤ) → 0 < m → m ≤ nat_abs book.b → held_height book.held m ≡ some z
        → height (marks_heights book given) m ≡ z
    held_marks_keep_their_heights =
        held_marks_keep (nat_abs book.b) (line_count book.lines) book.held book.lines good _ (marks_heights book given)
        its_outcome

    -- "Then no free mark can be moved by one micrometre, either way, so that the weighted sum of squared residuals falls"
    pub settled_is_best_at_every_mark : (m : ℕ) → 0 < m → m ≤ nat_abs book.b → is_held book.held m ≡ false
        → let hs = marks_heights book given in
        (squares (standing book.lines) hs ≤ squares (standing book.lines) (move_mark hs m (pos 1)))
        × (squares (standing book.lines) hs ≤ squares (standing book.lines) (move_mark hs m (negsuc 0)))
    settled_is_best_at_every_mark =
        best_at_every_mark (nat_abs book.b) (line_count book.lines) book.held book.lines good _ (marks_heights book given)
        its_outcome

    -- "and the sum is no greater than at the start"
    pub never_worse_than_the_start : squares (standing book.lines) (marks_heights book given) ≤ squares (standing book.lines)
        (start_heights (nat_abs book.b) book.held book.lines)
    never_worse_than_the_start =
        never_worse (nat_abs book.b) (line_count book.lines) book.held book.lines good _ (marks_heights book given) its_outcome

  -- no sweep raises it, from whatever heights it begins
  pub no_sweep_raises_the_sum : (k : Book) → test_of book ≡ Good k → (hs : List ℤ) → length hs ≡ k.marks
      → Kept (λ gs. (length gs ≡ k.marks) × (squares (standing book.lines) gs ≤ squares (standing book.lines) hs))
      (sweep (sights_of (standing book.lines)) (is_held book.held) hs k.marks)
  no_sweep_raises_the_sum k e hs l =
      let g = lines_of book k e in
      sweep_not_worse k.marks (standing book.lines) (fairs_sound (fair_lines book.lines k.marks k.lines g))
      (is_held book.held) hs l
