-- The report of a tested book: written, compared with a lent one, and brought up to date.
-- Assumes nothing.
use Prim.Native.Nat.{ℕ, zero, suc, ◌+◌, ◌*◌, ◌-◌, ◌≤◌, ◌<◌}
use native.Mathlib.Omega.{arith}
use mathlib.Core.Path.{◌≡◌, refl, sym, ◌∙◌, ap, subst}
use mathlib.Core.Bool.{Bool, true, false, cond}
use mathlib.Core.List.{List, [], ◌++◌, append-nil}
use lib.IntN.{ℤ, pos}
use lib.ListN.{length, take, drop, replicate}
use lib.Seq.{take_at, drop_at, drop-drop}
use borrow.Author.Tests.{lt-ltb, le-ltb}
use Rattle.book.specs.Limits.{most_lines}
use Rattle.book.specs.Good.{GoodLines}
use Rattle.book.specs.declared.Book.{Book}
use Rattle.loops.specs.Row.{row_words}
use Rattle.loops.specs.Loops.{Loop}
use Rattle.loops.specs.Report.{loops_of, report_of}
use Rattle.loops.specs.Table.{Table}
use Rattle.loops.proofs.Sounding.{few_loops, report_length}
use Rattle.table.specs.Filled.{found_in}
use Rattle.table.specs.declared.Found.{Found}
use Rattle.kept.proofs.SameNumbers.{long_enough}
use Rattle.book.specs.Test.{refusal}
use Rattle.book.specs.Refusals.{Told}
use Rattle.std.specs.Prelude.{Err}
use Rattle.book.specs.declared.refusal.Refusal.{Refusal}
use Rattle.book.proofs.Refusals.{told_from_1}
use Rattle.survey.specs.Report.{refused_with, count_of, counted, answer_of}
use Rattle.survey.specs.Survey.{Surveyed, surveyed, survey_good}
use Rattle.survey.specs.Correction.{no_line, other_report, updated, corrected, correct_good}
use Rattle.survey.specs.Kept.{kept_of, OwnTable, Refresh, Refreshed}
use Rattle.survey.specs.Report.{Answer}
use Rattle.survey.specs.Kept.{Kept}
use Rattle.survey.specs.Kept.{Own, Refused}

-- what was made of the two tests tells of them
told_own : (s t : Bool) (p q : Told) (f h : Found) → cond s (Refused p) (cond t (Refused q) (Own f)) ≡ Own h
    → (s ≡ false) × (t ≡ false) × (h ≡ f)
told_own true t p q f h e = let z : ◌≡◌ {A = ℕ} 0 1 = cc in absurd (omega arith)
told_own false true p q f h e = let z : ◌≡◌ {A = ℕ} 0 1 = cc in absurd (omega arith)
told_own false false p q f h e = (refl, refl, cc)

-- and of what is refused
told_refused : {A : Type 0} (s t : Bool) (p q : Told) (f : Found) (r : Told) (give : Told → A) (go : A)
    → cond s (Refused p) (cond t (Refused q) (Own f)) ≡ Refused r → give r ≡ cond s (give p) (cond t (give q) go)
told_refused true t p q f r give go e = ap give (cc)
told_refused false true p q f r give go e = ap give (cc)
told_refused false false p q f r give go e = let z : ◌≡◌ {A = ℕ} 0 1 = cc in absurd (omega arith)

pub no_table : {r : Told} {ls : List Loop} {starts runs : List ℕ} → OwnTable (Refused r) ls starts runs
no_table found e = let z : ◌≡◌ {A = ℕ} 0 1 = cc in absurd (omega arith)

pub own_table : {ls : List Loop} {starts runs : List ℕ} {f : Found} → Table ls starts runs f.count → OwnTable (Own f) ls starts runs
own_table {ls = ls} {starts = starts} {runs = runs} {f = f} t found e =
    let same : f ≡ found = cc in
    subst (λ (x : Found). Table ls starts runs x.count) same t

module _ (k : Book) (ls : List ℤ) (g : GoodLines k ls) where
  abbrev pub fresh : List ℤ
  fresh = report_of k.marks k.tolerance ls

  pub words_are : {f : Found} → f ≡ found_in k.marks ls → f.count * row_words ≡ length fresh
  words_are e = ap (λ (x : Found). x.count * row_words) e ∙ sym (report_length k ls g)

  pub few_words : {f : Found} → f ≡ found_in k.marks ls → f.count * row_words ≤ most_lines * row_words
  few_words e = omega (arith, ap (λ (x : Found). x.count) e, few_loops k ls g, g.good.few)

  pub counts_are : {f : Found} → f ≡ found_in k.marks ls → count_of f ≡ counted k.marks ls
  unfolding counted
  counts_are e = ap count_of e

  -- the rows are put in front
  pub front_is : {f : Found} → f ≡ found_in k.marks ls → (out out' : List ℤ) → out' ≡ fresh ++ drop (f.count * row_words) out
      → take (f.count * row_words) out' ≡ fresh
  front_is {f = f} e out out' p =
      ap (take (f.count * row_words)) p ∙ take_at fresh (drop (f.count * row_words) out) (f.count * row_words) (sym (words_are e))

  -- ---- the survey

  pub ten_is : {f : Found} → f ≡ found_in k.marks ls → (out : List ℤ) → length out < f.count * row_words
      → surveyed (refused_with (refusal 10 0)) out ≡ survey_good k ls out
  unfolding survey_good
  ten_is e out h = rw (lt-ltb (length out) (length fresh) (omega (arith, words_are e)))

  pub survey_is : {f : Found} → f ≡ found_in k.marks ls → (out out' : List ℤ) → f.count * row_words ≤ length out
      → out' ≡ fresh ++ drop (f.count * row_words) out
      → surveyed (count_of f) out' ≡ survey_good k ls out
  unfolding survey_good counted
  survey_is {f = f} e out out' h p = rw (le-ltb (length out) (length fresh) (omega (arith, words_are e)), p, words_are e, e)

  -- a survey into room enough is not refused
  module _ (out out' : List ℤ) (a : Answer) (room : length fresh ≤ length out) (e : surveyed a out' ≡ survey_good k ls out) where
    whole : surveyed a out' ≡ surveyed (counted k.marks ls) (fresh ++ drop (length fresh) out)
    unfolding survey_good
    whole = rw (le-ltb (length out) (length fresh) room) at e

    pub answer_is : a ≡ counted k.marks ls
    answer_is = ap (λ (s : Surveyed). s.answer) whole

    pub rows_are : out' ≡ fresh ++ drop (length fresh) out
    rows_are = ap (λ (s : Surveyed). s.rows) whole

    pub answer_words : a.rows * row_words ≡ length fresh
    unfolding counted
    answer_words = ap (λ (x : Answer). x.rows * row_words) answer_is ∙ sym (report_length k ls g)

  -- and gives counts, no refusal
  pub no_ten : (out out' : List ℤ) (r : Refusal) → length fresh ≤ length out
      → surveyed (answer_of (Err r)) out' ≡ survey_good k ls out → ⊥
  unfolding counted
  no_ten out out' r room e =
      told_from_1 r (ap (λ (a : Answer). a.refusal.number) (answer_is out out' (answer_of (Err r)) room e))

  -- ---- the comparison

  module _ (report : List ℤ) (number : ℤ) where
    pub kept_none : no_line ls number ≡ true → Refused (refusal 8 0) ≡ kept_of k ls report number
    unfolding kept_of
    kept_none s = rw s

    pub kept_other : no_line ls number ≡ false → other_report report fresh ≡ true → Refused (refusal 9 0) ≡ kept_of k ls report number
    unfolding kept_of
    kept_other s t = rw (s, t)

    pub kept_own : {f : Found} → no_line ls number ≡ false → other_report report fresh ≡ false → f ≡ found_in k.marks ls
        → Own f ≡ kept_of k ls report number
    unfolding kept_of
    kept_own s t e = rw (s, t, e)

  module _ (report : List ℤ) (number : ℤ) {m : Kept} (e : m ≡ kept_of k ls report number) where
    pub is_own : {f : Found} → m ≡ Own f → (no_line ls number ≡ false) × (other_report report fresh ≡ false) × (f ≡ found_in k.marks ls)
    unfolding kept_of
    is_own {f = f} h = told_own (no_line ls number) (other_report report fresh) _ _ (found_in k.marks ls) f (sym e ∙ h)

    pub is_refused : {r : Told} (new : List ℤ) → m ≡ Refused r
        → corrected (refused_with r) ls report ≡ correct_good k ls report number new
    unfolding kept_of correct_good
    is_refused {r = r} new h =
        told_refused (no_line ls number) (other_report report fresh) _ _ (found_in k.marks ls) r
        (λ (r : Told). corrected (refused_with r) ls report) _ (sym e ∙ h)

  -- the book's own report is as long as its rows
  pub own_places : (report : List ℤ) → other_report report fresh ≡ false → length fresh ≤ length report
  own_places report o = long_enough report fresh o

  -- ---- the report brought up to date

  module _ (report : List ℤ) (before : ℕ) where
    -- as many rows as before: no row is vacated
    pub refreshed_same : (report' : List ℤ) (a : Answer) → length fresh ≡ before * row_words → a ≡ counted k.marks ls
        → report' ≡ fresh ++ drop (before * row_words) report
        → Refreshed k ls report report' before a
    refreshed_same report' a n e p = record {
      answer = e;
      report_is = p ∙ ap (λ (r : List ℤ). r ++ drop (before * row_words) report)
          (sym (ap (λ (z : List ℤ). fresh ++ z) (no_zeros (before * row_words - length fresh) (omega (arith, n))) ∙ append-nil fresh));
    }
      where
        no_zeros : (m : ℕ) → m ≡ 0 → replicate m (pos 0) ≡ []
        no_zeros zero z = refl
        no_zeros (suc m) z = absurd (omega arith)

    -- the rows are put, then the vacated places become zeros
    pub refreshed_fewer : (put vacated : List ℤ) (a : Answer) (words : ℕ) → Refresh k ls report before → words ≡ length fresh
        → a ≡ counted k.marks ls
        → put ≡ fresh ++ drop (length fresh) report
        → vacated ≡ take words put ++ replicate (before * row_words - words) (pos 0) ++ drop (before * row_words) put
        → Refreshed k ls report vacated before a
    refreshed_fewer put vacated a words r w e p v = record {
      answer = e;
      report_is = v ∙ rw (p, w, take_at fresh (drop (length fresh) report) (length fresh) refl, past);
    }
      where
        past : drop (before * row_words) (fresh ++ drop (length fresh) report) ≡ drop (before * row_words) report
        past =
            let more = before * row_words - length fresh in
            let n : before * row_words ≡ length fresh + more = omega (arith, r.fewer) in
            rw n (sym (drop-drop more (length fresh) (fresh ++ drop (length fresh) report))
            ∙ ap (drop more) (drop_at fresh (drop (length fresh) report) (length fresh) refl)
            ∙ drop-drop more (length fresh) report)

-- a correction that is not refused: the new lines, and the report brought up to date
pub corrected_is : (k : Book) (ls new report report' : List ℤ) (number : ℤ) (a : Answer) {f : Found} → GoodLines k ls
    → no_line ls number ≡ false
    → other_report report (report_of k.marks k.tolerance ls) ≡ false → f ≡ found_in k.marks ls
    → Refreshed k new report report' f.count a
    → corrected a new report' ≡ correct_good k ls report number new
unfolding correct_good updated
corrected_is k ls new report report' number a g n o e r = rw (n, o, r.answer, r.report_is, ← (words_are k ls g e))

-- what was kept before is room enough for what is there now
pub refresh_of : (k : Book) (ls new report : List ℤ) {f : Found} → GoodLines k ls → GoodLines k new
    → length (loops_of k.marks new) ≤ length (loops_of k.marks ls)
    → other_report report (report_of k.marks k.tolerance ls) ≡ false → f ≡ found_in k.marks ls → Refresh k new report f.count
refresh_of k ls new report g h fewer o e = record {
  fewer = omega (arith, report_length k new h, fewer, ap (λ (x : Found). x.count) e);
  places = omega (arith, words_are k ls g e, own_places k ls g report o);
}
