-- What a re-run leaves of the junction sketch, as a plain statement. What the sketch is: crates/links/specs.
-- Assumes nothing.
use Rattle.std.specs.Prelude.{◌≡◌, List, [], ◌∷◌, map}
use Rattle.network.specs.Path.{way_length}
use Rattle.loops.specs.Row.{listed}
use Rattle.links.specs.Link.{Link}
use Rattle.links.specs.Sketch.{Sketch}

-- "marks, lines, lengths .. stay": the same marks, the same lines in the same sense, the same length
pub record SameButDifference (before after : Link) : Type 0 where
  pub first : after.first ≡ before.first
  pub last : after.last ≡ before.last
  pub lines_and_sense : map listed after.way ≡ map listed before.way
  pub long : way_length after.way ≡ way_length before.way

-- ".. and order": one to one, in the same places
pub data AllSame : List Link → List Link → Type 0 where
  none_left : AllSame [] []
  each : {x y : Link} {xs ys : List Link} → SameButDifference x y → AllSame xs ys → AllSame (x ∷ xs) (y ∷ ys)

pub record DifferencesOnly (before after : Sketch) : Type 0 where
  pub links : AllSame before.links after.links
  pub spurs : AllSame before.spurs after.spurs
  pub loops : AllSame before.loops after.loops
