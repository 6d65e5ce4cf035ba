-- The lines of all loops, one loop after the other: how many there are, and where each loop's stand. Assumes nothing.
use Prim.Native.Nat.{ℕ, zero, suc, ◌+◌, ◌≤◌, ◌<◌}
use native.Mathlib.Omega.{arith}
use mathlib.Core.Path.{◌≡◌, refl, ◌∙◌, ap, ap₂}
use mathlib.Core.List.{List, [], ◌∷◌, ◌++◌, map, append_assoc}
use lib.IntN.{ℤ}
use lib.ListN.{length, take, drop, length-append, length-map}
use lib.Seq.{take_at, drop-append-add}
use Rattle.loops.specs.Loops.{Loop, loop_at}
use Rattle.loops.specs.Row.{listed, listings}
use Rattle.loops.specs.LinesInAll.{lines_in_all}

pub listings_length : (ls : List Loop) → length (listings ls) ≡ lines_in_all ls
unfolding listings lines_in_all
listings_length [] = refl
listings_length (lp ∷ ls) =
    length-append (map listed lp) (listings ls) ∙ ap₂ (λ (a b : ℕ). a + b) (length-map lp listed) (listings_length ls)

-- one loop more
pub lines_more : (ls : List Loop) (i : ℕ) → i < length ls
    → lines_in_all (take (suc i) ls) ≡ lines_in_all (take i ls) + length (loop_at ls i)
unfolding lines_in_all loop_at
lines_more [] i h = absurd (omega arith)
lines_more (l ∷ ls) zero h = omega arith
lines_more (l ∷ ls) (suc i) h = omega (arith, lines_more ls i (omega arith))

pub lines_no_more : (ls : List Loop) (i : ℕ) → lines_in_all (take i ls) ≤ lines_in_all ls
unfolding lines_in_all
lines_no_more ls zero = omega arith
lines_no_more [] (suc i) = omega arith
lines_no_more (l ∷ ls) (suc i) = omega (arith, lines_no_more ls i)

-- a loop's lines stand after those of the loops before it, with anything behind the last
pub listed_after : (ls : List Loop) (i : ℕ) → i < length ls → (rest : List ℤ)
    → take (length (loop_at ls i)) (drop (lines_in_all (take i ls)) (listings ls ++ rest)) ≡ map listed (loop_at ls i)
unfolding listings lines_in_all loop_at
listed_after [] i h rest = absurd (omega arith)
listed_after (l ∷ ls) zero h rest =
    ap (take (length l)) (append_assoc (map listed l) (listings ls) rest)
    ∙ take_at (map listed l) (listings ls ++ rest) (length l) (length-map l listed)
listed_after (l ∷ ls) (suc i) h rest =
    let n : length l + lines_in_all (take i ls) ≡ length (map listed l) + lines_in_all (take i ls) = omega (arith, length-map l listed) in
    ap (λ (xs : List ℤ). take (length (loop_at ls i)) xs)
    (ap₂ drop n (append_assoc (map listed l) (listings ls) rest)
    ∙ drop-append-add (map listed l) (listings ls ++ rest) (lines_in_all (take i ls)))
    ∙ listed_after ls i (omega arith) rest
