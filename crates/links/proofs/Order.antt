-- The links that remain rise by lowest line. Assumes nothing.
use Prim.Native.Nat.{ℕ}
use native.Mathlib.Omega.{arith}
use mathlib.Core.Path.{◌≡◌, refl, ap}
use mathlib.Core.List.Memᴰ
use mathlib.Core.List.{List, map, Memᴰ}
use lib.Dec.{leb}
use lib.ListN.{length}
use Rattle.laws.proofs.Tests.{cond_ind}
use Rattle.network.specs.Standing.{Line}
use Rattle.network.specs.Sound.{Sound}
use Rattle.network.specs.Pairwise.{Pairwise, no_pair, pairs}
use Rattle.links.specs.Link.{Link, turned, lower_first, lowest_line}
use Rattle.links.specs.Sketch.{sketch_of}
use Rattle.links.specs.Shape.{ByLowest}
use Rattle.links.proofs.Lowest.{turned_lowest}
use Rattle.links.proofs.Stages.{stage_of}

-- from its lower junction a link has the same lowest line
lower_lowest : (x : Link) → lowest_line (lower_first x).way ≡ lowest_line x.way
lower_lowest x =
    cond_ind (λ (y : Link). lowest_line y.way ≡ lowest_line x.way) (leb x.first x.last) x (turned x) (λ e. refl)
    (λ e. turned_lowest x.way)

-- so links that rise by lowest line rise, each from its lower junction
lower_rise : {xs : List Link} → Pairwise ByLowest xs → Pairwise ByLowest (map lower_first xs)
lower_rise no_pair = no_pair
lower_rise (pairs {a = x} {rest = xs} f p) = pairs later (lower_rise p)
  where
    later : (y : Link) → Memᴰ y (map lower_first xs) → ByLowest (lower_first x) y
    later y i =
        let k = Memᴰ.of_map lower_first xs i in
        omega (arith, f k.0 k.1, lower_lowest x, lower_lowest k.0, ap (λ (z : Link). lowest_line z.way) k.2)

-- "Links rise by lowest line"
pub links_rise : (b : ℕ) (lines : List Line) → Sound b lines → Pairwise ByLowest (sketch_of b lines).links
unfolding sketch_of
links_rise b lines sound = lower_rise (stage_of sound (length lines)).rises
