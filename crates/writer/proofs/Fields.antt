-- A run of numbers, one after the other, each in so many bytes: any one of them read, and all of them written.
-- Assumes nothing.
use mathlib.Core.Path.{◌≡◌, refl, sym, ◌∙◌}
use mathlib.Core.List.{List, [], ◌∷◌, ◌++◌}
use Prim.Native.Nat.{ℕ, ◌+◌, ◌^◌, ◌≤◌, ◌<◌}
use native.Mathlib.Omega.{arith}
use lib.ListN.{length, take, length-append}
use lib.Seq.{take-add}
use Rattle.file.specs.Wire.{Bytes, be}
use Rattle.writer.specs.Bytes.{bytes_of}
use Rattle.writer.proofs.Numbers.{bytes_length}
use Rattle.writer.proofs.BothWays.{be_front, be_last, bytes_back}

-- the bytes of each number after p: for each the count of its bytes, and the number
abbrev pub run : List ℕ → List (ℕ × ℕ) → List ℕ
run p [] = p
run p (f ∷ fs) = run (p ++ bytes_of f.0 f.1) fs

-- how many bytes they are
abbrev pub widths : List (ℕ × ℕ) → ℕ
widths [] = 0
widths (f ∷ fs) = f.0 + widths fs

run_length : (p : List ℕ) (fs : List (ℕ × ℕ)) → length (run p fs) ≡ length p + widths fs
run_length p [] = omega arith
run_length p (f ∷ fs) =
    run_length (p ++ bytes_of f.0 f.1) fs
    ∙ omega (arith, length-append p (bytes_of f.0 f.1), bytes_length f.0 f.1)

run_join : (p : List ℕ) (fs gs : List (ℕ × ℕ)) → run p (fs ++ gs) ≡ run (run p fs) gs
run_join p [] gs = refl
run_join p (f ∷ fs) gs = run_join (p ++ bytes_of f.0 f.1) fs gs

-- what stands before the run is read as before
run_front : (p : List ℕ) (fs : List (ℕ × ℕ)) (k a : ℕ) → a + k ≤ length p → be k (run p fs) a ≡ be k p a
run_front p [] k a h = refl
run_front p (f ∷ fs) k a h =
    run_front (p ++ bytes_of f.0 f.1) fs k a (omega (arith, length-append p (bytes_of f.0 f.1)))
    ∙ be_front k p (bytes_of f.0 f.1) a h

-- the number x between others, which fits into its k bytes
pub field_read : (before after : List (ℕ × ℕ)) (k x : ℕ) → x < 256 ^ k → be k (run [] (before ++ (k, x) ∷ after)) (widths before) ≡ x
field_read before after k x l =
    let front = run [] before in
    let long : length front ≡ widths before = omega (arith, run_length [] before) in
    let all : length (front ++ bytes_of k x) ≡ length front + k = length-append front (bytes_of k x) ∙ omega (arith, bytes_length k x) in
    rw (run_join [] before ((k, x) ∷ after))
    (run_front (front ++ bytes_of k x) after k (widths before) (omega arith) ∙ be_last k x front (widths before) long l)

-- the next k bytes of a list of bytes, by the number that they are
pub field_back : (s p : List ℕ) (a k x : ℕ) → Bytes s → a + k ≤ length s → p ≡ take a s → bytes_of k x ≡ bytes_of k (be k s a)
    → p ++ bytes_of k x ≡ take (a + k) s
field_back s p a k x b h e f = rw (e, f, bytes_back k s a b h) (sym (take-add a k s))
