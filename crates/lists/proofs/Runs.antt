-- A run is listed as the definition lists its passes, and the listings are read off the table. Assumes nothing.
use Prim.Native.Nat.{ℕ, zero, suc, ◌+◌, ◌*◌, ◌-◌, ◌/◌, ◌%◌, ◌≤◌, ◌<◌}
use native.Mathlib.Omega.{arith}
use mathlib.Core.Path.{◌≡◌, refl, ◌∙◌, ap, ap₂}
use mathlib.Core.Bool.{Bool, true, false}
use mathlib.Core.List.{List, [], ◌∷◌, ◌++◌, map, Memᴰ}
use lib.IntN.{ℤ, pos, nat_abs}
use lib.ListN.{length, get_or, take, drop}
use borrow.Author.Tests.{eq-eqb, ne_eqb}
use Rattle.book.specs.Test.{refusal}
use Rattle.laws.specs.Tests.{out_z}
use Rattle.laws.proofs.Size.{between}
use Rattle.book.specs.Limits.{most_lines}
use Rattle.book.specs.Good.{GoodLines}
use Rattle.book.specs.declared.Book.{Book}
use Rattle.network.specs.Standing.{standing}
use Rattle.network.specs.Walk.{Pass}
use Rattle.network.specs.Codes.{code_of, codes}
use Rattle.loops.specs.Loops.{Loop, loop_at}
use Rattle.loops.specs.Row.{signed, listed, listings}
use Rattle.loops.specs.Report.{loops_of}
use Rattle.loops.specs.Table.{runs_of, Table}
use Rattle.loops.proofs.EachLoop.{loop_runs_lines}
use Rattle.loops.proofs.Places.{loop_at_is}
use Rattle.loops.proofs.Sounding.{lines_sound, line_limits}
use Rattle.loops.proofs.Table.{run_is, all_runs, last_end}
use Rattle.lists.specs.Listing.{listing, refused_with, list_of, listing_good, listings_good}
use Rattle.lists.specs.Run.{code_limit, listed_by, Coded}

code_listed : (forward : Bool) (n : ℕ) → listed_by (code_of forward n) ≡ signed forward (pos n)
unfolding listed_by
code_listed true n = let z : 2 * n / 2 ≡ n = omega arith in rw (eq-eqb (2 * n % 2) 0 (omega arith), z)
code_listed false n = let z : (2 * n + 1) / 2 ≡ n = omega arith in rw (ne_eqb ((2 * n + 1) % 2) 0 (λ e. omega arith), z)

pub codes_listed : (ps : List Pass) → map listed_by (codes ps) ≡ map listed ps
unfolding codes
codes_listed [] = refl
codes_listed (p ∷ ps) = ap₂ (λ (x : ℤ) (xs : List ℤ). x ∷ xs) (code_listed p.forward p.line.number) (codes_listed ps)

pub map-append : (xs ys : List ℕ) → map listed_by (xs ++ ys) ≡ map listed_by xs ++ map listed_by ys
map-append [] ys = refl
map-append (x ∷ xs) ys = ap (λ (r : List ℤ). listed_by x ∷ r) (map-append xs ys)

runs_listed : (ls : List Loop) → map listed_by (runs_of ls) ≡ listings ls
unfolding runs_of listings
runs_listed [] = refl
runs_listed (lp ∷ ls) = map-append (codes lp) (runs_of ls) ∙ ap₂ (λ (a b : List ℤ). a ++ b) (codes_listed lp) (runs_listed ls)

-- ---- every code is small

pub append_coded : (xs ys : List ℕ) → Coded xs → Coded ys → Coded (xs ++ ys)
append_coded [] ys p q i h = q i h
append_coded (x ∷ xs) ys p q zero h = p zero (omega arith)
append_coded (x ∷ xs) ys p q (suc i) h = append_coded xs ys (λ j l. p (suc j) (omega arith)) q i (omega arith)

pub codes_small : (lp : Loop) → ((p : Pass) → Memᴰ p lp → p.line.number ≤ most_lines) → Coded (codes lp)
unfolding codes
codes_small [] f i h = absurd (omega arith)
codes_small (p ∷ ps) f zero h = go p.forward
  where
    go : (forward : Bool) → code_of forward p.line.number < code_limit
    go true = omega (arith, f p (Memᴰ.head refl))
    go false = omega (arith, f p (Memᴰ.head refl))
codes_small (p ∷ ps) f (suc i) h = codes_small ps (λ q m. f q (Memᴰ.tail m)) i (omega arith)

runs_small : (ls : List Loop) → ((lp : Loop) → Memᴰ lp ls → Coded (codes lp)) → Coded (runs_of ls)
unfolding runs_of
runs_small [] f = λ i h. absurd (omega arith)
runs_small (lp ∷ ls) f = append_coded (codes lp) (runs_of ls) (f lp (Memᴰ.head refl)) (runs_small ls (λ x m. f x (Memᴰ.tail m)))

module _ (k : Book) (lines : List ℤ) (good : GoodLines k lines) where
  pub loop_coded : (lp : Loop) → Memᴰ lp (loops_of k.marks lines) → Coded (codes lp)
  unfolding loops_of
  loop_coded lp m =
      codes_small lp (λ p i. (line_limits k lines good p.line
      (loop_runs_lines k.marks (standing lines) (lines_sound k lines good) lp m p i)).number)

  -- ---- what is read off the table

  module _ {starts runs : List ℕ} {count : ℕ} (tb : Table (loops_of k.marks lines) starts runs count) where
    abbrev ls : List Loop
    ls = loops_of k.marks lines

    -- there is no such loop
    pub eight_is : (number : ℤ) (out : List ℤ) → out_z (pos 1) (pos count) number ≡ true
        → listing (refused_with (refusal 8 0)) out ≡ listing_good k lines number out
    unfolding listing_good
    eight_is number out e = rw (← tb.counted, e)

    -- the loop's place
    pub place_of_lem : (number : ℤ) → out_z (pos 1) (pos count) number ≡ false
        → (0 < nat_abs number) × (nat_abs number - 1 < length (loops_of k.marks lines))
    place_of_lem number e = let b = between 1 count number e in (omega (arith, b.low), omega (arith, b.low, b.high, tb.counted))

    module _ (i : ℕ) (lt : i < length (loops_of k.marks lines)) where
      abbrev run : List ℕ
      run = take (get_or starts (i + 1) 0 - get_or starts i 0) (drop (get_or starts i 0) runs)

      pub run_coded : Coded run
      run_coded = rw (run_is tb i lt) (loop_coded (loop_at ls i) (loop_at_is ls i lt))

      pub run_listed : (number : ℤ) (out : List ℤ) → out_z (pos 1) (pos count) number ≡ false → i ≡ nat_abs number - 1
          → list_of (map listed_by run) out ≡ listing_good k lines number out
      unfolding listing_good
      run_listed number out e z = rw (run_is tb i lt, codes_listed (loop_at ls i), z, ← tb.counted, e)

    -- all of them
    pub all_coded : Coded (take (get_or starts count 0) runs)
    all_coded = rw (last_end tb, all_runs tb) (runs_small ls loop_coded)

    pub all_listed : (out : List ℤ) → list_of (map listed_by (take (get_or starts count 0) runs)) out ≡ listings_good k lines out
    unfolding listings_good
    all_listed out = rw (last_end tb, all_runs tb, runs_listed ls)
