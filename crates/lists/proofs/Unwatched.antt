-- The not-checked list of a good book: the steps of the work give the definition's list. Assumes nothing.
use Prim.Native.Nat.{ℕ, zero, suc, ◌+◌, ◌≤◌, ◌<◌}
use native.Mathlib.Omega.{arith}
use mathlib.Core.Path.{◌≡◌, refl, sym, ◌∙◌, ap, ap₂, subst}
use mathlib.Core.Bool.{Bool, true, false, cond}
use mathlib.Core.List.{List, [], ◌∷◌, map, Memᴰ}
use lib.IntN.{ℤ, pos, nat_abs}
use lib.ListN.{length, take, drop, get_or, length-map, get_or-map}
use lib.Seq.{length-sets, sets-eq, take_at}
use Rattle.book.specs.Limits.{most_lines}
use Rattle.book.specs.Good.{GoodLines}
use Rattle.book.specs.declared.Book.{Book}
use Rattle.network.specs.Standing.{Line, standing}
use Rattle.loops.specs.Loops.{Loop, loops}
use Rattle.loops.specs.Checked.{checked, not_checked}
use Rattle.loops.specs.Report.{loops_of}
use Rattle.network.proofs.Standing.{few_standing}
use Rattle.loops.proofs.Sounding.{line_limits}
use Rattle.chains.specs.Chains.{number_limit}
use Rattle.unchecked.specs.Book.{BookListed}
use Rattle.lists.specs.NotChecked.{unchecked_of}
use Rattle.lists.specs.Numbers.{Numbers}

few_unchecked : (lps : List Loop) (lines : List Line) → length (not_checked lps lines) ≤ length lines
unfolding not_checked
few_unchecked lps [] = omega arith
few_unchecked lps (l ∷ rest) = go (checked l.number lps) (few_unchecked lps rest)
  where
    go : (t : Bool) → length (not_checked lps rest) ≤ length rest
        → length (cond t (not_checked lps rest) (l.number ∷ not_checked lps rest)) ≤ suc (length rest)
    go true h = omega arith
    go false h = omega arith

-- every entry is below q
abbrev Low : ℕ → List ℕ → Type 0
Low q xs = (i : ℕ) → i < length xs → get_or xs i 0 < q

low_unchecked : (q : ℕ) (lps : List Loop) (lines : List Line) → ((l : Line) → Memᴰ l lines → l.number < q)
    → Low q (not_checked lps lines)
unfolding not_checked
low_unchecked q lps [] f = λ i h. absurd (omega arith)
low_unchecked q lps (l ∷ rest) f = go (checked l.number lps) (low_unchecked q lps rest (λ j m. f j (Memᴰ.tail m)))
  where
    go : (t : Bool) → Low q (not_checked lps rest) → Low q (cond t (not_checked lps rest) (l.number ∷ not_checked lps rest))
    go true w i h = w i h
    go false w zero h = f l (Memᴰ.head refl)
    go false w (suc i) h = w i (omega arith)

module _ (k : Book) (ls : List ℤ) (g : GoodLines k ls) where
  numbers_low : (l : Line) → Memᴰ l (standing ls) → l.number < number_limit
  numbers_low l m = omega (arith, (line_limits k ls g l m).number)

  pub few_listed : length (unchecked_of k.marks ls) ≤ most_lines
  unfolding unchecked_of
  few_listed =
      let open_lines = not_checked (loops_of k.marks ls) (standing ls) in
      omega (
        arith,
        length-map open_lines pos,
        few_unchecked (loops_of k.marks ls) (standing ls),
        few_standing ls,
        g.good.whole,
        g.good.few,
      )

  -- each entry is the number of a line
  pub listed_numbers : (i : ℕ) → i < length (unchecked_of k.marks ls) → nat_abs (get_or (unchecked_of k.marks ls) i (pos 0)) ≤ most_lines
  unfolding unchecked_of
  listed_numbers i h =
      let open_lines = not_checked (loops_of k.marks ls) (standing ls) in
      let low =
      low_unchecked (suc most_lines) (loops_of k.marks ls) (standing ls) (λ l m. omega (arith, (line_limits k ls g l m).number)) in
      rw (get_or-map pos open_lines i 0) (omega (arith, low i (omega (arith, length-map open_lines pos))))

  module _ {list list' : List ℕ} {a : ℕ} (room : most_lines ≤ length list) (put : BookListed k.marks ls list list' a) where
    abbrev open_lines : List ℕ
    open_lines = not_checked (loops k.marks (standing ls)) (standing ls)

    few_open : length (not_checked (loops k.marks (standing ls)) (standing ls)) ≤ most_lines
    few_open = omega (arith, few_unchecked (loops k.marks (standing ls)) (standing ls), few_standing ls, g.good.whole, g.good.few)

    pub list_fits : a ≤ length list'
    list_fits = omega (arith, put.count, few_open, ap length put.places, length-sets list 0 open_lines)

    pub list_taken : take a list' ≡ not_checked (loops k.marks (standing ls)) (standing ls)
    list_taken =
        ap₂ take put.count put.places
        ∙ ap (take (length open_lines)) (sets-eq open_lines list 0 (omega (arith, few_open)))
        ∙ take_at open_lines (drop (0 + length open_lines) list) (length open_lines) refl

    pub list_numbers : Numbers (take a list')
    list_numbers = subst Numbers (sym list_taken) (low_unchecked number_limit (loops k.marks (standing ls)) (standing ls) numbers_low)

    pub list_is : map pos (take a list') ≡ unchecked_of k.marks ls
    unfolding unchecked_of loops_of
    list_is = ap (map pos) list_taken
