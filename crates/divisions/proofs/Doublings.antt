-- A divisor doubled so many times: with each bit of the quotient a doubling is taken back. Assumes nothing.
use Rattle.std.proofs.Common.{◌≡◌, ℕ, suc, ◌-◌, ◌*◌, ◌%◌, ◌^◌, ◌<◌, ◌≤◌, arith, refl, sym, ◌∙◌, ap}
use Rattle.std.proofs.Math.Pow.{pow_mono}
use Rattle.std.proofs.Math.Nat.{mul_comm, mul_assoc, mul-pos, mod-eq_of_lt, mul-le-mul_right, mul-le-mul_left, mul-one, pow-succ'}
use Rattle.std.proofs.Math.Decide.{dec_lt}
use Rattle.std.proofs.lemmas.Nat.{pow_pos}
use Rattle.divisions.specs.Quotient.{Quotient, Coarse, whole_of}

pub one_back : (j d : ℕ) → 2 ^ suc j * d ≡ 2 * (2 ^ j * d)
one_back j d = ap (λ (p : ℕ). p * d) (pow-succ' 2 j) ∙ mul_assoc 2 (2 ^ j) d

module _ (b j d : ℕ) (l : j < b) (h : 2 ^ b * d < 2 ^ 65) where
  fits : 2 ^ j * d < 2 ^ 64
  fits =
      let p : 2 ^ suc j ≤ 2 ^ b = pow_mono l in
      let m : 2 ^ suc j * d ≤ 2 ^ b * d = mul-le-mul_right d p in
      omega (arith, one_back j d, m, h)

  -- a shift by so many places is one that there is
  pub few : 0 < d → j < 64
  few s = elim (dec_lt j 64) [
    | yes t ↦ t
    | no t ↦
        let g : 64 ≤ j = omega arith in
        let p : 2 ^ 64 ≤ 2 ^ j = pow_mono g in
        let m : 2 ^ j ≤ 2 ^ j * d = rw (mul-one (2 ^ j)) at (mul-le-mul_left {m = 1} {n = d} (2 ^ j) s) in
        absurd (omega (arith, fits, m, p))
  ]

  -- and loses no bit
  pub shifted : d * 2 ^ j % 2 ^ 64 ≡ 2 ^ j * d
  shifted = rw (mul_comm d (2 ^ j)) (mod-eq_of_lt fits)

-- the division by d doubled k times, and a bit that is got by x, which is d with a doubling taken back
module _ (k d q r x : ℕ) (some : 0 < k) (e : x ≡ 2 ^ (k - 1) * d) (c : Coarse (2 ^ k) d q r) where
  twice : 2 ^ k * d ≡ 2 * x
  twice =
      let f : suc (k - 1) ≡ k = omega arith in
      rw e (ap (λ (n : ℕ). 2 ^ n * d) (sym f) ∙ one_back (k - 1) d)

  pub bit_next : Coarse 2 x q r
  bit_next = record {
    some = rw e (mul-pos (pow_pos (k - 1)) c.some);
    less = rw (← twice) c.less;
    fits = rw twice at c.fits;
  }

  pub bit_taken : (p s : ℕ) → Quotient (whole_of 2 x q r) x p s → Coarse (2 ^ (k - 1)) d p s
  bit_taken p s b = record {
    some = c.some;
    less = rw (← e) b.less;
    fits = rw (← e) (rw (← b.whole, ← twice) c.fits);
  }

  pub same_taken : (p s : ℕ) → Quotient (whole_of 2 x q r) x p s → whole_of (2 ^ (k - 1)) d p s ≡ whole_of (2 ^ k) d q r
  same_taken p s b = rw (← e, ← b.whole, twice) refl
