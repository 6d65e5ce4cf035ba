-- What the sketch answers, with the numbers as int64, beside what the lent outputs then hold.
-- Assumes nothing.
use Rattle.std.specs.Prelude.{pos}
use Rattle.junctions.specs.Call as junctions
use Rattle.junctions.specs.Call.{Lists, Drawing}
use Rattle.level.specs.Signed.{Small, SmallRefusal, signed_refusal}
use Rattle.level.specs.declared.Sketched.{Sketched}

pub record SmallSketched (a : junctions.Sketched) : Type 0 where
  pub refusal : SmallRefusal a.refusal
  pub links : Small a.links
  pub spurs : Small a.spurs
  pub loops : Small a.loops
  pub run : Small a.run

unfoldable pub signed_sketched : junctions.Sketched → Sketched
signed_sketched a =
    let r = signed_refusal a.refusal in
    record {
      number = r.number;
      place = r.place;
      links = pos a.links;
      spurs = pos a.spurs;
      loops = pos a.loops;
      run = pos a.run;
    }

pub record SketchNow : Type 0 where
  pub answer : Sketched
  pub out : Lists

abbrev pub sketch_now : Sketched → Lists → SketchNow
sketch_now a out = record { answer = a; out = out }

abbrev pub of_sketch : Drawing → SketchNow
of_sketch d = sketch_now (signed_sketched d.answer) d.out
