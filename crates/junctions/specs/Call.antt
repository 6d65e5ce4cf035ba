-- What the sketch answers, and what the four lent outputs then hold: refusals 3, 4, 6, 7 and 10.
-- Assumes nothing.
use Rattle.std.specs.Prelude.{Bool, ◌||◌, cond, List, ◌++◌, ℕ, ltb, length, drop, ℤ, Result, Ok, Err}
use Rattle.book.specs.Lent.{Lent}
use Rattle.book.specs.Test.{refusal, no_refusal, test_of, if_good}
use Rattle.book.specs.Refusals.{Told, told_of}
use Rattle.book.specs.declared.refusal.Refusal.{Refusal}
use Rattle.book.specs.declared.Book.{Book}
use Rattle.network.specs.Standing.{standing}
use Rattle.links.specs.Sketch.{Sketch, sketch_of, entries, run_of}
use Rattle.junctions.specs.declared.Sizes.{Sizes}

-- "number, place, links, spurs, loops, run (how many numbers)"
pub record Sketched : Type 0 where
  pub refusal : Told
  pub links : ℕ
  pub spurs : ℕ
  pub loops : ℕ
  pub run : ℕ

-- "After a refusal the counts are 0"
abbrev pub refused_with : Told → Sketched
refused_with r = record { refusal = r; links = 0; spurs = 0; loops = 0; run = 0 }

abbrev pub answer_of : Result Sizes Refusal → Sketched
answer_of (Ok s) = record { refusal = no_refusal; links = s.links; spurs = s.spurs; loops = s.loops; run = s.run }
answer_of (Err r) = refused_with (told_of r)

abbrev pub drawn : Sketch → Sketched
drawn s =
    record {
      refusal = no_refusal;
      links = length s.links;
      spurs = length s.spurs;
      loops = length s.loops;
      run = length (run_of s);
    }

-- the lent outputs
pub record Lists : Type 0 where
  pub links : List ℤ
  pub spurs : List ℤ
  pub loops : List ℤ
  pub run : List ℤ

abbrev pub lists : List ℤ → List ℤ → List ℤ → List ℤ → Lists
lists links spurs loops run = record { links = links; spurs = spurs; loops = loops; run = run }

-- the answer, and the outputs after the call
pub record Drawing : Type 0 where
  pub answer : Sketched
  pub out : Lists

abbrev pub drawing : Sketched → Lists → Drawing
drawing a out = record { answer = a; out = out }

-- the lists of a sketch: "five numbers to an entry", and "the signed line numbers of all links, then all spurs, then all loops"
abbrev pub lists_of : Sketch → Lists
lists_of s = lists (entries s.links) (entries s.spurs) (entries s.loops) (run_of s)

-- "10 where any of the four is too short"
abbrev pub short : List ℤ → List ℤ → Bool
short list out = ltb (length out) (length list)

abbrev pub any_short : Lists → Lists → Bool
any_short l out =
    short l.links out.links || short l.spurs out.spurs || short l.loops out.loops || short l.run out.run

-- "Places past the answers stay"
abbrev pub in_first_places : List ℤ → List ℤ → List ℤ
in_first_places list out = list ++ drop (length list) out

abbrev pub all_in_first_places : Lists → Lists → Lists
all_in_first_places l out =
    lists (in_first_places l.links out.links) (in_first_places l.spurs out.spurs)
    (in_first_places l.loops out.loops) (in_first_places l.run out.run)

-- the junction sketch of a lent book of b marks
unfoldable pub sketch_in : ℕ → List ℤ → Sketch
unfolding sketch_of standing
sketch_in b lines = sketch_of b (standing lines)

-- the lists of a sketch, written into the outputs: 10, "then nothing is written"; or all four
unfoldable pub drawn_into : Sketch → Lists → Drawing
unfolding entries run_of
drawn_into s out =
    cond (any_short (lists_of s) out) (drawing (refused_with (refusal 10 0)) out)
    (drawing (drawn s) (all_in_first_places (lists_of s) out))

-- of a tested book
unfoldable pub sketch_good : Book → List ℤ → Lists → Drawing
unfolding sketch_in drawn_into
sketch_good k lines out = drawn_into (sketch_in k.marks lines) out

unfoldable pub sketch_call : Lent → Lists → Drawing
unfolding sketch_good test_of
sketch_call book out =
    if_good (test_of book) (λ r. drawing (refused_with r) out)
    (λ k. sketch_good k book.lines out)
