-- Request 06, "Can I trust loops I did not list?": the report covers every closed walk along standing lines. Assumes nothing.
use Prim.Native.Nat.{ℕ, zero, suc, ◌+◌, ◌-◌, ◌<◌}
use native.Mathlib.Omega.{arith}
use mathlib.Core.Path.{◌≡◌, refl, sym, ◌∙◌, ap, ap₂, subst}
use mathlib.Core.Bool.{Bool, true, false}
use mathlib.Core.List.{List, [], ◌∷◌, ◌++◌, map, Memᴰ}
use lib.Dec.{eqb}
use lib.ListN.{length, take, drop, replicate}
use lib.Seq.{drop-append_seam}
use lib.IntN.{ℤ, pos, negsuc, neg_ℤ, nat_abs, ◌+ℤ◌}
use borrow.Author.Tests.{ne_eqb}
use Rattle.laws.specs.Tests.{out_z, out_n, eq_z}
use Rattle.laws.specs.Scan.{first_from, first_bad, any_below}
use Rattle.book.specs.Lent.{Lent, lent}
use Rattle.book.specs.Line.{standing_at}
use Rattle.book.specs.Test.{test_of}
use Rattle.book.specs.declared.Book.{Book}
use Rattle.book.specs.Test.{Good}
use Rattle.book.proofs.Goods.{tested_good}
use Rattle.network.specs.Standing.{Line, standing}
use Rattle.network.specs.Field.{HasLine, line_at}
use Rattle.network.specs.Sound.{Sound}
use Rattle.network.specs.Walk.{Pass, pass, Walk, here, step}
use Rattle.network.proofs.Standing.{of_standing, in_standing}
use Rattle.network.proofs.Walks.{walk_append}
use Rattle.loops.specs.Loops.{Loop, loop_at}
use Rattle.loops.specs.Row.{signed, listed, misclosure, row_misclosure}
use Rattle.loops.specs.Circuit.{Circuit}
use Rattle.loops.specs.Passes.{sense, pass_if, once, passes, sum_of, combine_misclosures, SumOf, multiples_of, NoPasses}
use Rattle.loops.specs.Report.{loops_of}
use Rattle.loops.proofs.Passes.{sum_of_zeros, misclosures_are_sum}
use Rattle.loops.proofs.Basis.{sum_of_its_multiples, only_multiples, one_multiple_each}
use Rattle.loops.proofs.Misclosure.{misclosure_is_sum}
use Rattle.loops.proofs.EachLine.{NoLine, sum_over_each_number, no_passes_if_no_line, no_passes_if_no_circuit}
use Rattle.loops.proofs.Sounding.{good_sound}
use Rattle.links.specs.Link.{turned_way}
use Rattle.links.proofs.Turning.{walk_turned}
use Rattle.survey.specs.Report.{counted}
use Rattle.survey.specs.Survey.{Surveyed, survey_of}
use Rattle.lists.specs.Listing.{listing_of}
use Rattle.worked.specs.Network as worked
use Rattle.demands.specs.Calls.{afresh}
use Rattle.demands.specs.Corrections.{Step, Accepted, book_after, report_after, KeptTrue}
use Rattle.demands.specs.TheLoops.{in_row}
use Rattle.demands.specs.AnyWalk.{loops_in, Closed, Multiples, misclosures_from, Covers, listed_once, listed_passes}
use Rattle.demands.proofs.Refusals.{survey_keeps_to_table}
use Rattle.demands.proofs.Done.{survey_done_exactly_if}
use Rattle.demands.proofs.Reported.{report_row, listing_is_the_loop}
use Rattle.demands.proofs.Corrections.{kept_report_stays_true, kept_report_stays_true_after_any_tries}

-- ---- the fourth numbers of the rows

-- where the rows after the first i have the loops' misclosures, their fourth numbers are those
fourths_are : (report : List ℤ) (ls : List Loop) (i : ℕ)
    → ((j : ℕ) → j < length ls → in_row row_misclosure report (j + i) ≡ misclosure (loop_at ls j))
    → misclosures_from i (length ls) report ≡ map misclosure ls
unfolding misclosures_from loop_at
fourths_are report [] i h = refl
fourths_are report (l ∷ ls) i h =
    let first : 0 + i ≡ i = omega arith in
    ap₂ ◌∷◌ (rw first at (h 0 (omega arith))) (fourths_are report ls (suc i) (λ j g.
    let next : j + suc i ≡ suc j + i = omega arith in rw next (h (suc j) (omega arith))))

-- a number among the fourths is that of one of the rows
fourth_of : (report : List ℤ) (i n : ℕ) (z : ℤ) → Memᴰ z (misclosures_from i n report)
    → (j : ℕ) × (j < i + n) × (z ≡ in_row row_misclosure report j)
unfolding misclosures_from
fourth_of report i zero z m = elim m [ ]
fourth_of report i (suc n) z (Memᴰ.head e) = (i, omega arith, e)
fourth_of report i (suc n) z (Memᴰ.tail m) = let w = fourth_of report (suc i) n z m in (w.0, omega (arith, w.1), w.2)

-- ---- passes counted in what is listed

listed_once_lem : (k : ℕ) (forward : Bool) (n : ℕ) → 0 < n → listed_once (signed forward (pos k)) n ≡ pass_if (eqb k n) (sense forward)
listed_once_lem k true n h = refl
listed_once_lem zero false n h = rw (ne_eqb 0 n (λ e. omega (arith, e)))
listed_once_lem (suc k) false n h = refl

-- how a walk passes a line can be counted in its signed line numbers
pub passes_as_listed : (w : List Pass) (n : ℕ) → 0 < n → listed_passes (map listed w) n ≡ passes w n
unfolding listed_passes passes once
passes_as_listed [] n h = refl
passes_as_listed (p ∷ ps) n h = ap₂ ◌+ℤ◌ (listed_once_lem p.line.number p.forward n h) (passes_as_listed ps n h)

-- ---- a report that begins with the rows of a book that passes

module _ (book : Lent) (k : Book) (passed : test_of book ≡ Good k) where
  abbrev b : ℕ
  b = nat_abs book.b

  abbrev lines : List Line
  lines = standing book.lines

  abbrev rows : ℕ
  rows = length (loops_in book)

  sound : Sound b lines
  sound = let good = tested_good book k passed in rw (ap nat_abs good.marks) (good_sound k book good)

  -- the numbers of the standing lines are among 1 to n
  over_standing : {w : List Pass} {ks : List ℤ} → Multiples book rows w ks → SumOf lines (loops_in book) w ks
  over_standing s = record {
    one_each = s.one_to_each_row;
    passes_are = λ l m.
        let i = of_standing book.lines l m in
        let number = ap (λ (x : Line). x.number) i.1.its in
        s.same_passes l.number (omega (arith, number)) (omega (arith, number, i.1.is_there));
  }

  its_multiples : (m : ℕ) {w : List Pass} → Closed book m w → Multiples book rows w (multiples_of w (loops_in book))
  unfolding loops_of
  its_multiples m {w = w} x = record {
    one_to_each_row = one_multiple_each w (loops_in book);
    same_passes = λ n low high. sum_over_each_number b lines sound x (multiples_of w (loops_in book))
        (sum_of_its_multiples b lines sound m x) n;
  }

  the_only_ones : {w : List Pass} (ks js : List ℤ) → Multiples book rows w ks → Multiples book rows w js → ks ≡ js
  unfolding loops_of
  the_only_ones ks js s z = only_multiples b lines sound ks js (over_standing s) (over_standing z)

  sum_of_loops : (m : ℕ) {w : List Pass} → Closed book m w → (ks : List ℤ) → Multiples book rows w ks
      → misclosure w ≡ sum_of ks (map misclosure (loops_in book))
  unfolding loops_of combine_misclosures
  sum_of_loops m x ks s = misclosure_is_sum b lines sound m x ks (over_standing s) ∙ misclosures_are_sum ks (loops_in book)

  module _ (report : List ℤ) (its_report : report ≡ afresh book ++ drop (length (afresh book)) report) where
    row_misclosure_lem : (i : ℕ) → i < rows → in_row row_misclosure report i ≡ misclosure (loop_at (loops_in book) i)
    row_misclosure_lem i h =
        subst (λ (x : List ℤ). in_row row_misclosure x i ≡ misclosure (loop_at (loops_in book) i)) (sym its_report)
        (report_row b (nat_abs book.t) book.lines (drop (length (afresh book)) report) i h).its_misclosure

    fourths : misclosures_from 0 rows report ≡ map misclosure (loops_in book)
    fourths = fourths_are report (loops_in book) 0 (λ i h. let same : i + 0 ≡ i = omega arith in rw same (row_misclosure_lem i h))

    -- every closed walk is covered by a report that begins with the rows of its book
    pub report_covers_any_walk : (m : ℕ) {w : List Pass} → Closed book m w → Covers book rows report w
    report_covers_any_walk m {w = w} x =
        let ks = multiples_of w (loops_in book) in
        let same : (ks : List ℤ) → Multiples book rows w ks → misclosure w ≡ sum_of ks (misclosures_from 0 rows report) =
        λ ks s. rw fourths (sum_of_loops m x ks s) in
        record {
          there_are = its_multiples m x;
          only_ones = the_only_ones;
          same_sum = same;
          closes_if_all_do = λ h.
              same ks (its_multiples m x) ∙ sum_of_zeros ks (misclosures_from 0 rows report) (λ z i.
              let f = fourth_of report 0 rows z i in f.2 ∙ h f.0 (omega (arith, f.1)));
        }

  -- ---- lines without passes

  -- a withdrawn line, of any number 1 to n, has none
  pub withdrawn_line_has_no_passes : (i : ℕ) → standing_at book.lines i ≡ pos 0 → (m : ℕ) {w : List Pass} → Closed book m w
      → NoPasses (loops_in book) w (suc i)
  unfolding loops_of
  withdrawn_line_has_no_passes i gone m x = no_passes_if_no_line b lines sound (suc i) not_standing x
    where
      not_standing : NoLine lines (suc i)
      not_standing l stands number =
          let w = of_standing book.lines l stands in
          let same : w.0 ≡ i = omega (arith, ap (λ (y : Line). y.number) w.1.its, number) in
          let z : ◌≡◌ {A = ℕ} (suc w.1.beyond) 0 = ap nat_abs (sym w.1.stands ∙ ap (standing_at book.lines) same ∙ gone) in
          omega arith

  -- and so has a standing line that no circuit passes: a closed walk runs it as often one way as the other
  pub line_on_no_circuit_has_no_passes : (l : Line) → Memᴰ l (standing book.lines)
      → (Circuit (standing book.lines) l.number → ⊥) → (m : ℕ) {w : List Pass} → Closed book m w
      → NoPasses (loops_in book) w l.number
  unfolding loops_of
  line_on_no_circuit_has_no_passes l stands none m x = no_passes_if_no_circuit b lines sound l stands none x

  -- ---- the loops as they are listed

  -- how the loop of row i passes line n can be counted in its listing, which is asked for by the number i + 1
  pub loop_passes_as_listed : (i : ℕ) (out : List ℤ) → let given = listing_of book (pos (suc i)) out in given.answer.refusal.number ≡ 0
      → (n : ℕ) → 0 < n → listed_passes (take given.answer.entries given.out) n ≡ passes (loop_at (loops_in book) i) n
  loop_passes_as_listed i out done n h =
      let w = (listing_is_the_loop book k passed i out done).1 in
      rw (w.entries, w.first_places, ap nat_abs (tested_good book k passed).marks)
      (passes_as_listed (loop_at (loops_of k.marks book.lines) i) n h)

-- ---- the report that a survey wrote

module _ (book : Lent) (out : List ℤ) (done : (survey_of book out).answer.refusal.number ≡ 0) where
  -- covered by the rows in the lent space after the survey
  abbrev Covered : List Pass → Type 0
  Covered w = Covers book (survey_of book out).answer.rows (survey_of book out).rows w

  -- "For every closed walk along standing lines .."
  pub survey_covers_any_walk : (m : ℕ) {w : List Pass} → Closed book m w → Covered w
  unfolding counted
  survey_covers_any_walk m {w = w} x =
      let d = (survey_done_exactly_if book out).0 done in
      subst (λ (s : Surveyed). Covers book s.answer.rows s.rows w) (sym ((survey_keeps_to_table book out).finished done))
      (report_covers_any_walk book d.0 d.1 (afresh book ++ drop (length (afresh book)) out)
      (ap (λ (rest : List ℤ). afresh book ++ rest) (sym (drop-append_seam (afresh book) (drop (length (afresh book)) out)))) m x)

  -- a way run to and fro, whatever way it is
  pub way_and_back_is_covered : {u r : ℕ} {v : List Pass} → Walk (standing book.lines) r u v → Covered (v ++ turned_way v)
  way_and_back_is_covered {u = u} x = survey_covers_any_walk u (walk_append x (walk_turned x))

  -- lines run again: one closed walk after another, which may be the same
  pub walk_after_walk_is_covered : {m : ℕ} {v w : List Pass} → Closed book m v → Closed book m w → Covered (v ++ w)
  walk_after_walk_is_covered {m = m} x y = survey_covers_any_walk m (walk_append x y)

  -- and no line at all
  pub empty_walk_is_covered : Covered []
  empty_walk_is_covered = survey_covers_any_walk 0 (here refl)

  -- ---- the kept report

  kept_covers : {book' : Lent} {report' : List ℤ} → KeptTrue book out book' report' → (m : ℕ) {w : List Pass} → Closed book' m w
      → Covers book' (length (loops_in book')) report' w
  kept_covers {book' = book'} {report' = report'} t m x =
      let d = (survey_done_exactly_if book out).0 done in
      report_covers_any_walk book' d.0 (t.still_good ∙ d.1) report' t.its_report_still m x

  -- after any sequence of accepted corrections the kept report covers every closed walk along the standing lines of the corrected book. Its
  -- rows are as many as the last correction answered, by `accepted_counts_are_of_the_new_book`
  pub kept_report_covers_any_walk : {steps : List Step} {book' : Lent} {report' : List ℤ}
      → Accepted book (survey_of book out).rows steps book' report'
      → (m : ℕ) {w : List Pass} → Closed book' m w → Covers book' (length (loops_in book')) report' w
  kept_report_covers_any_walk chain m x = kept_covers (kept_report_stays_true book out done chain) m x

  -- and after any sequence of tries, those that are refused among them
  pub kept_report_covers_any_walk_after_any_tries : (steps : List Step) (m : ℕ) {w : List Pass}
      → let book' = book_after book (survey_of book out).rows steps in
      Closed book' m w → Covers book' (length (loops_in book')) (report_after book (survey_of book out).rows steps) w
  kept_report_covers_any_walk_after_any_tries steps m x = kept_covers (kept_report_stays_true_after_any_tries book out done steps) m x

-- ---- the worked network, by computation

-- document 01's worked network, and its line n as it is run
abbrev worked_book : Lent
worked_book = lent (pos 1) (pos 5) (pos 120) worked.held worked.lines

abbrev along : ℕ → Pass
along n = pass (line_at n worked.lines (n - 1)) true

abbrev back : ℕ → Pass
back n = pass (line_at n worked.lines (n - 1)) false

-- each of its lines stands
stands : (i : ℕ) → HasLine worked.lines i → standing_at worked.lines i ≡ pos 1
    → Memᴰ (line_at (suc i) worked.lines i) (standing worked.lines)
stands i there s = in_standing worked.lines i _ (record { is_there = there; beyond = 0; stands = s; its = refl })

-- the outer walk 1 -2 -3 4, from mark 1 by 3, 2 and 5
abbrev outer : List Pass
outer = along 1 ∷ back 2 ∷ back 3 ∷ along 4 ∷ []

pub outer_walk_is_closed : Closed worked_book 1 outer
unfolding worked.lines
outer_walk_is_closed =
    step refl (stands 0 (omega arith) refl)
    (step refl (stands 1 (omega arith) refl)
    (step refl (stands 2 (omega arith) refl)
    (step refl (stands 3 (omega arith) refl)
    (here refl))))

-- it is -1 times loop 1, which is 6 -1 5, once loop 2, 4 5 -7, and -1 times loop 3, 3 2 -6 -7
pub outer_walk_multiples : multiples_of outer (loops_in worked_book) ≡ negsuc 0 ∷ pos 1 ∷ negsuc 0 ∷ []
unfolding worked.lines multiples_of loops_of once
outer_walk_multiples = refl

-- its misclosure is -30,000
pub outer_walk_misclosure : misclosure outer ≡ neg_ℤ (pos 30000)
unfolding worked.lines misclosure
outer_walk_misclosure = refl

-- and so are -1 times -40,000, once -5,000 and -1 times 65,000, the fourth numbers of the rows that the survey writes
pub outer_walk_of_the_rows :
    sum_of (negsuc 0 ∷ pos 1 ∷ negsuc 0 ∷ []) (misclosures_from 0 3 (survey_of worked_book (replicate 15 (pos 0))).rows) ≡ neg_ℤ (pos 30000)
unfolding worked.lines worked.held sum_of misclosures_from survey_of out_z out_n eq_z first_from first_bad any_below
outer_walk_of_the_rows = refl

-- the empty walk, line 1 to and fro, and loop 1 twice
pub other_walks_multiples :
    map (λ w. multiples_of w (loops_in worked_book))
    ([] ∷ (along 1 ∷ back 1 ∷ []) ∷ (along 6 ∷ back 1 ∷ along 5 ∷ along 6 ∷ back 1 ∷ along 5 ∷ []) ∷ [])
    ≡ (pos 0 ∷ pos 0 ∷ pos 0 ∷ []) ∷ (pos 0 ∷ pos 0 ∷ pos 0 ∷ []) ∷ (pos 2 ∷ pos 0 ∷ pos 0 ∷ []) ∷ []
unfolding worked.lines multiples_of loops_of once
other_walks_multiples = refl
