-- The lines of the loops, one after the other, from the table of loops. Assumes nothing.
use Prim.Native.Nat.{ℕ, suc, ◌+◌, ◌-◌, ◌≤◌, ◌<◌}
use native.Mathlib.Omega.{arith}
use native.Mathlib.Numerals.{add-one}
use mathlib.Core.Path.{◌≡◌, sym, ◌∙◌, ap, ap₂, subst}
use mathlib.Core.List.{List, [], ◌∷◌, ◌++◌, map, append_assoc, append-nil}
use lib.IntN.{ℤ, pos}
use lib.ListN.{length, get_or, take, drop, length-map}
use lib.Seq.{take-suc, take_all, take_at, length-take-le}
use Rattle.book.specs.Good.{GoodLines}
use Rattle.book.specs.declared.Book.{Book}
use Rattle.network.specs.Codes.{codes}
use Rattle.loops.specs.Loops.{Loop, loop_at}
use Rattle.loops.specs.Row.{row}
use Rattle.loops.specs.Report.{loops_of}
use Rattle.loops.specs.Table.{Table}
use Rattle.loops.proofs.Places.{loop_at_is, loop_is}
use Rattle.loops.proofs.Table.{run_is}
use Rattle.rows.specs.Sums.{row_of, Measured, RunIn}
use Rattle.rows.proofs.Passes.{loop_row}
use Rattle.lists.specs.Run.{listed_by, Coded}
use Rattle.lists.proofs.Runs.{codes_listed}
use Rattle.text.specs.Report.{loop_text}
use Rattle.text.specs.Put.{Put}
use Rattle.text.proofs.Puts.{nothing_put, ◌then◌}
use Rattle.page.specs.Page.{loop_line, loop_lines}
use Rattle.page.specs.Run.{run_line}

-- the line of a loop's run is the line of the loop
line_is : (k : Book) (ls : List ℤ) → GoodLines k ls → (t number : ℕ) (i : ℕ) → i < length (loops_of k.marks ls)
    → run_line t number ls (codes (loop_at (loops_of k.marks ls) i)) ≡ loop_line t number (loop_at (loops_of k.marks ls) i)
unfolding run_line loop_line row
line_is k ls g t number i lt =
    let lp = loop_at (loops_of k.marks ls) i in
    ap₂ (λ (r : List ℤ) (l : List ℤ). loop_text number (get_or r 2 (pos 0)) (get_or r 3 (pos 0)) (get_or r 4 (pos 0)) l)
    (loop_row k ls g lp (loop_at_is (loops_of k.marks ls) i lt) t) (codes_listed lp)

-- every code of a run in a book is small
pub run_coded : {ls : List ℤ} {run : List ℕ} → Measured ls → RunIn ls run → Coded run
run_coded m r i h = omega (arith, m.few_lines, (r.each i h).high)

-- a run's lines, listed in front
pub list_front : (run : List ℕ) (list list' : List ℤ) → list' ≡ map listed_by run ++ drop (length run) list
    → take (length run) list' ≡ map listed_by run
list_front run list list' e =
    ap (take (length run)) e ∙ take_at (map listed_by run) (drop (length run) list) (length run) (length-map run listed_by)

-- the line of a run, from its row and its list
pub line_put : (t number : ℕ) (ls : List ℤ) (run : List ℕ) {at after : ℕ} {vs list : List ℤ} {out out' : List ℕ} → vs ≡ row_of t ls run
    → list ≡ map listed_by run
    → Put out out' at after (loop_text number (get_or vs 2 (pos 0)) (get_or vs 3 (pos 0)) (get_or vs 4 (pos 0)) list)
    → Put out out' at after (run_line t number ls run)
unfolding run_line
line_put t number ls run {at = at} {after = after} {out = out} {out' = out'} v l p =
    subst (λ (text : List ℕ). Put out out' at after text)
    (ap₂ (λ (r : List ℤ) (l : List ℤ). loop_text number (get_or r 2 (pos 0)) (get_or r 3 (pos 0)) (get_or r 4 (pos 0)) l) v l) p

lines_more : (t number : ℕ) (done : List Loop) (lp : Loop)
    → loop_lines t number (done ++ (lp ∷ [])) ≡ loop_lines t number done ++ loop_line t (number + length done) lp
unfolding loop_lines
lines_more t number [] lp = append-nil (loop_line t number lp) ∙ ap (λ (k : ℕ). loop_line t k lp) (omega arith)
lines_more t number (l ∷ done) lp =
    let e : suc number + length done ≡ number + suc (length done) = omega arith in
    ap (λ (r : List ℕ). loop_line t number l ++ r) (lines_more t (suc number) done lp
    ∙ ap (λ (k : ℕ). loop_lines t (suc number) done ++ loop_line t k lp) e)
    ∙ sym (append_assoc (loop_line t number l) (loop_lines t (suc number) done) (loop_line t (number + suc (length done)) lp))

-- the lines of the first i loops are put
abbrev pub LinesPut : ℕ → List Loop → List ℕ → ℕ → List ℕ → ℕ → ℕ → Type 0
LinesPut t ls out₀ at out after i = Put out₀ out at after (loop_lines t 1 (take i ls))

pub lines_put_start : (t : ℕ) (ls : List Loop) (out₀ : List ℕ) (at : ℕ) → LinesPut t ls out₀ at out₀ at 0
unfolding loop_lines
lines_put_start t ls out₀ at = nothing_put out₀ at

-- the line of loop i of a good book, whose run is read off the table
pub lines_put_next : (t : ℕ) {k : Book} {lines : List ℤ} {starts runs : List ℕ} {count : ℕ} {out₀ out out' : List ℕ} {at after after' i : ℕ}
    → GoodLines k lines → Table (loops_of k.marks lines) starts runs count → i < count
    → LinesPut t (loops_of k.marks lines) out₀ at out after i
    → Put out out' after after' (run_line t (i + 1) lines
    (take (get_or starts (i + 1) 0 - get_or starts i 0) (drop (get_or starts i 0) runs)))
    → LinesPut t (loops_of k.marks lines) out₀ at out' after' (i + 1)
lines_put_next t {k} {lines} {out₀ = out₀} {out = out} {out' = out'} {at = at} {after = after} {after' = after'} {i = i} good tb lt w p =
    let ls = loops_of k.marks lines in
    let left : i < length (loops_of k.marks lines) = omega (arith, tb.counted) in
    let more : take (i + 1) ls ≡ take i ls ++ (loop_at ls i ∷ []) = rw (add-one i, loop_is ls i left) (take-suc ls i [] left) in
    let numbered : i + 1 ≡ 1 + length (take i ls) = omega (arith, length-take-le i ls (omega arith)) in
    let line =
    ap (run_line t (i + 1) lines) (run_is tb i left) ∙ line_is k lines good t (i + 1) i left
    ∙ ap (λ (m : ℕ). loop_line t m (loop_at ls i)) numbered in
    subst (λ (text : List ℕ). Put out₀ out' at after' text) (sym (ap (loop_lines t 1) more ∙ lines_more t 1 (take i ls) (loop_at ls i)))
    (w then subst (λ (text : List ℕ). Put out out' after after' text) line p)

pub lines_put_end : (t : ℕ) (ls : List Loop) {out₀ out : List ℕ} {at after i : ℕ} → length ls ≤ i → LinesPut t ls out₀ at out after i
    → Put out₀ out at after (loop_lines t 1 ls)
lines_put_end t ls {out₀} {out} {at} {after} {i} e w =
    subst (λ (l : List Loop). Put out₀ out at after (loop_lines t 1 l)) (take_all i ls e) w
