-- The misclosure of a self-closing loop of the sketch, and of any circuit made of links, is a whole combination of those of the reported
-- loops. Assumes nothing.
use Prim.Native.Nat.{ℕ}
use mathlib.Core.Path.{subst}
use mathlib.Core.List.{List, Memᴰ}
use Rattle.network.specs.Standing.{Line}
use Rattle.network.specs.Sound.{Sound}
use Rattle.network.specs.Walk.{Pass, Walk, here}
use Rattle.network.proofs.Walks.{walk_append}
use Rattle.loops.specs.Loops.{loops}
use Rattle.loops.proofs.Basis.{basis}
use Rattle.loops.proofs.Misclosure.{misclosure_is_sum}
use Rattle.links.specs.Link.{Link, turned}
use Rattle.links.specs.Sketch.{sketch_of}
use Rattle.links.specs.Shape.{IsWay, Along, arrived, onward, back, Combined}
use Rattle.links.proofs.Turning.{walk_turned}
use Rattle.links.proofs.Shapes.{links_are, loops_are}

-- links one after the other, each in its own sense or turned, are a walk
along_walk : {lines : List Line} {xs : List Link} → ((x : Link) → Memᴰ x xs → IsWay lines x) → {r u : ℕ} {w : List Pass}
    → Along xs r u w → Walk lines r u w
along_walk f (arrived e) = here e
along_walk {lines = lines} f (onward {x = x} i e a) =
    walk_append (subst (λ (u : ℕ). Walk lines x.last u x.way) e (f x i).is_walk) (along_walk f a)
along_walk {lines = lines} f (back {x = x} i e a) =
    walk_append (subst (λ (u : ℕ). Walk lines x.first u (turned x).way) e (walk_turned (f x i).is_walk)) (along_walk f a)

module _ (b : ℕ) (lines : List Line) (sound : Sound b lines) where
  -- so it is with every closed walk
  closed_combined : (r : ℕ) {w : List Pass} → Walk lines r r w → Combined b lines w
  closed_combined r x = let s = basis b lines sound r x in (s.0, s.1, misclosure_is_sum b lines sound r x s.0 s.1)

  -- with each self-closing loop of the sketch
  pub loop_combined : (x : Link) → Memᴰ x (sketch_of b lines).loops → Combined b lines x.way
  loop_combined x i = let l = loops_are b lines sound x i in closed_combined l.lowest.from l.closed

  -- and with every circuit made of its links
  pub circuit_combined : (r : ℕ) (w : List Pass) → Along (sketch_of b lines).links r r w → Combined b lines w
  circuit_combined r w a = closed_combined r (along_walk (λ x i. (links_are b lines sound x i).is_way) a)
