-- Arrays of zeros, before anything is known of the marks. Assumes nothing.
use Prim.Native.Nat.{ℕ, zero, suc, ◌≤◌}
use native.Mathlib.Omega.{arith}
use mathlib.Core.Path.{◌≡◌, refl}
use mathlib.Core.Bool.{false}
use lib.ListN.{length, get_or, take, replicate, length-replicate, length-take}
use lib.IntN.{pos}
use Rattle.start.specs.Along.{Blank, Bare}

-- k of w equal things
at_any : {A : Type 0} (d : A) (k w j : ℕ) → get_or (take k (replicate w d)) j d ≡ d
at_any d zero w j = refl
at_any d (suc k) zero j = refl
at_any d (suc k) (suc w) zero = refl
at_any d (suc k) (suc w) (suc j) = at_any d k w j

pub so_many : {A : Type 0} (d : A) (k w : ℕ) → k ≤ w → length (take k (replicate w d)) ≡ k
so_many d k w h = simp (length-take, length-replicate) (omega arith)

pub blank : (b w : ℕ) → b ≤ w → Blank (take b (replicate w false)) (take b (replicate w (pos 0))) b
blank b w h =
    record {
      flagged = so_many false b w h;
      heighted = so_many (pos 0) b w h;
      none = λ v. at_any false b w v;
      zero = λ v. at_any (pos 0)
          b w v;
    }

pub bare : (b w : ℕ) → b ≤ w → Bare (take b (replicate w 0)) (take b (replicate w (pos 0))) b
bare b w h = record { roots = so_many 0 b w h; overs = so_many (pos 0) b w h; zero = λ v. at_any (pos 0) b w v }
