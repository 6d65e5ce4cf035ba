-- Laws on the bytes of a number, and on how they are put.
-- Assumes nothing.
use mathlib.Core.Path.{◌≡◌, refl, sym, ◌∙◌, ap}
use mathlib.Core.List.{[], ◌∷◌, ◌++◌}
use Prim.Native.Nat.{ℕ, zero, suc, ◌-◌, ◌/◌, ◌%◌, ◌^◌, ◌*◌, ◌≤◌}
use native.Mathlib.Nat.{div-div-eq-div-mul, pow-suc}
use native.Mathlib.Omega.{arith}
use lib.ListN.{length, take, drop, length-append}
use lib.Seq.{take_all}
use mir.Syntax.{w64}
use Rattle.std.specs.Int.{bytes_high_first, byte_at, to_be_bytes}
use Rattle.writer.specs.Bytes.{bytes_of}

pub bytes_length : (k x : ℕ) → length (bytes_of k x) ≡ k
unfolding bytes_of
bytes_length zero x = refl
bytes_length (suc k) x = length-append (bytes_of k (x / 256)) (x % 256 ∷ []) ∙ omega (arith, bytes_length k (x / 256))

-- the library has a number's bytes from the highest on, the definition from the lowest: a byte of x is the one before of x / 256
byte_before : (k x : ℕ) → byte_at (suc k) x ≡ byte_at k (x / 256)
byte_before zero x = refl
byte_before (suc k) x =
    let whole : 256 ^ suc (suc k) ≡ 256 * 256 ^ suc k = rw (pow-suc 256 (suc k)) (omega arith) in
    ap (λ n. n % 256) (rw whole (sym (div-div-eq-div-mul x 256 (256 ^ suc k))))

lowest_last : (k x : ℕ) → bytes_high_first (suc k) x ≡ bytes_high_first k (x / 256) ++ (x % 256 ∷ [])
lowest_last zero x = refl
lowest_last (suc k) x =
    ap (λ r. byte_at (suc k) x ∷ r) (lowest_last k x)
    ∙ ap (λ b. b ∷ bytes_high_first k (x / 256) ++ (x % 256 ∷ [])) (byte_before k x)

high_first : (k x : ℕ) → bytes_high_first k x ≡ bytes_of k x
unfolding bytes_of
high_first zero x = refl
high_first (suc k) x = lowest_last k x ∙ ap (λ r. r ++ (x % 256 ∷ [])) (high_first k (x / 256))

last_of : (all most x : ℕ) → most ≤ all → drop most (bytes_high_first all x) ≡ bytes_high_first (all - most) x
last_of zero zero x h = refl
last_of zero (suc j) x h = absurd (omega arith)
last_of (suc t) zero x h = let none : suc t - 0 ≡ suc t = omega arith in rw none refl
last_of (suc t) (suc j) x h = let less : suc t - suc j ≡ t - j = omega arith in rw less (last_of t j x (omega arith))

-- of the eight bytes of x the last k
pub last_bytes : (k x : ℕ) → k ≤ 8 → take (8 - (8 - k)) (drop (8 - k) (to_be_bytes w64 x)) ≡ bytes_of k x
last_bytes k x h =
    let its : 8 - (8 - k) ≡ k = omega arith in
    let last = last_of 8 (8 - k) x (omega arith) in
    rw (last, its, high_first k x) (take_all k (bytes_of k x) (omega (arith, bytes_length k x)))
