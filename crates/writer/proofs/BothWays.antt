-- Numbers and their bytes, both ways: what is read of the bytes of a number, and the bytes of a number that was read; once for every count
-- of bytes, unsigned and signed.
-- Assumes nothing.
use mathlib.Core.Path.{◌≡◌, refl, ◌∙◌, ap}
use mathlib.Core.Bool.{Bool, true, false}
use mathlib.Core.List.{List, [], ◌∷◌, ◌++◌, append_assoc}
use Prim.Native.Nat.{ℕ, zero, suc, ◌+◌, ◌*◌, ◌-◌, ◌/◌, ◌%◌, ◌^◌, ◌≤◌, ◌<◌}
use native.Mathlib.Nat.{pow-suc, div-add-mod', div-lt_iff_lt-mul}
use native.Mathlib.Omega.{arith}
use lib.Dec.{ltb}
use lib.ListN.{length, get_or, take, drop, length-append, length-drop, get_or-append}
use lib.Seq.{get_or_at, get_or-drop, take-suc}
use lib.IntN.{ℤ, pos, negsuc, nat_abs}
use borrow.Author.Tests.{ltb-true, ltb-false}
use mir.Syntax.{w32, w64}
use mir.Val.{to_z, of_z}
use mir.Facts.{of_z-to_z}
use Rattle.file.specs.Wire.{Bytes, be}
use Rattle.writer.specs.Bytes.{bytes_of, in_bytes}
use Rattle.writer.proofs.Numbers.{bytes_length}

-- ---- reading what was written

-- what stands behind is not looked at
pub be_front : (k : ℕ) (s rest : List ℕ) (a : ℕ) → a + k ≤ length s → be k (s ++ rest) a ≡ be k s a
unfolding be
be_front zero s rest a h = refl
be_front (suc k) s rest a h = rw (be_front k s rest a (omega arith), get_or-append s rest 0 (a + k) (omega arith))

-- the last number of a list
pub be_last : (k x : ℕ) (front : List ℕ) (a : ℕ) → length front ≡ a → x < 256 ^ k → be k (front ++ bytes_of k x) a ≡ x
unfolding be bytes_of
be_last zero x front a h l = omega arith
be_last (suc k) x front a h l =
    let high = front ++ bytes_of k (x / 256) in
    let long : length high ≡ a + k = length-append front (bytes_of k (x / 256)) ∙ omega (arith, bytes_length k (x / 256)) in
    let small : x / 256 < 256 ^ k = (div-lt_iff_lt-mul {k = 256} (omega arith)).1 (rw (pow-suc 256 k) at l) in
    rw (
      ← (append_assoc front (bytes_of k (x / 256)) (x % 256 ∷ [])),
      be_front k high (x % 256 ∷ []) a (omega arith),
      be_last k (x / 256) front a h small,
      get_or_at high (x % 256) [] 0 (a + k) long,
    ) (div-add-mod' x 256)

-- ---- writing what was read

pub be_below : (k : ℕ) (s : List ℕ) (a : ℕ) → Bytes s → be k s a < 256 ^ k
unfolding be
be_below zero s a b = omega arith
be_below (suc k) s a b = rw (pow-suc 256 k) (omega (arith, be_below k s a b, b (a + k)))

pub bytes_back : (k : ℕ) (s : List ℕ) (a : ℕ) → Bytes s → a + k ≤ length s → bytes_of k (be k s a) ≡ take k (drop a s)
unfolding be bytes_of
bytes_back zero s a b h = refl
bytes_back (suc k) s a b h =
    let high : (be k s a * 256 + get_or s (a + k) 0) / 256 ≡ be k s a = omega (arith, b (a + k)) in
    let low : (be k s a * 256 + get_or s (a + k) 0) % 256 ≡ get_or s (a + k) 0 = omega (arith, b (a + k)) in
    rw (
      high,
      low,
      bytes_back k s a b (omega arith),
      take-suc (drop a s) k 0 (omega (arith, length-drop a s)),
      get_or-drop a s k 0,
    )

-- ---- signed numbers: of the 64 bits of a number that fits into fewer, the higher ones are left out

pub high_left_out : (k x m : ℕ) → bytes_of k (x + m * 256 ^ k) ≡ bytes_of k x
unfolding bytes_of
high_left_out zero x m = refl
high_left_out (suc k) x m =
    let all : x + m * 256 ^ suc k ≡ x + (m * 256 ^ k) * 256 = rw (pow-suc 256 k) (omega arith) in
    let high : (x + (m * 256 ^ k) * 256) / 256 ≡ x / 256 + m * 256 ^ k = omega arith in
    let low : (x + (m * 256 ^ k) * 256) % 256 ≡ x % 256 = omega arith in
    rw (all, high, low, high_left_out k (x / 256) m)

pub in_four : (z : ℤ) → nat_abs z ≤ 2147483648 → in_bytes 4 z ≡ bytes_of 4 (of_z w32 z)
in_four (pos n) h = refl
in_four (negsuc n) h =
    let split : 18446744073709551616 - suc n ≡ 4294967296 - suc n + 4294967295 * 256 ^ 4 = omega arith in
    ap (bytes_of 4) split ∙ high_left_out 4 (4294967296 - suc n) 4294967295

-- four bytes, signed, as they were read
pub four_back : (x : ℕ) → x < 4294967296 → in_bytes 4 (to_z w32 x) ≡ bytes_of 4 x
four_back x h =
    in_four (to_z w32 x) (fits (ltb x 2147483648) refl) ∙ ap (bytes_of 4) (of_z-to_z {w = w32} (record { fits = h }))
  where
    fits : (t : Bool) → ltb x 2147483648 ≡ t → nat_abs (to_z w32 x) ≤ 2147483648
    fits true e = rw e (omega (arith, ltb-true x 2147483648 e))
    fits false e = rw e (omega (arith, ltb-false x 2147483648 e))

-- eight
pub eight_back : (x : ℕ) → x < 18446744073709551616 → in_bytes 8 (to_z w64 x) ≡ bytes_of 8 x
eight_back x h = ap (bytes_of 8) (of_z-to_z {w = w64} (record { fits = h }))
