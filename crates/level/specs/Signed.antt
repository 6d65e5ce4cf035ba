-- The answers of the public calls with their numbers as int64, beside what the lent buffers then hold.
-- Assumes nothing.
use Rattle.std.specs.Prelude.{ℕ, ◌<◌, ◌^◌, List, ℤ, pos}
use Rattle.book.specs.Refusals.{Told}
use Rattle.file.specs.Read as file
use Rattle.level.specs.declared.ReadAnswer.{ReadAnswer}
use Rattle.level.specs.declared.SignedRefusal.{SignedRefusal}

-- n fits an int64
abbrev pub Small : ℕ → Type 0
Small n = n < 2 ^ 63

-- what C sees of a refusal: it is taken apart here, and nowhere else
pub record SmallRefusal (r : Told) : Type 0 where
  pub number : Small r.number
  pub place : Small r.place

abbrev pub signed_refusal : Told → SignedRefusal
signed_refusal r = record { number = pos r.number; place = pos r.place }

pub record SmallRead (a : file.ReadAnswer) : Type 0 where
  pub refusal : SmallRefusal a.refusal
  pub version : Small a.version
  pub b : Small a.b
  pub t : Small a.t
  pub h : Small a.h
  pub n : Small a.n

unfoldable pub signed_read : file.ReadAnswer → ReadAnswer
signed_read a =
    let r = signed_refusal a.refusal in
    record {
      number = r.number;
      place = r.place;
      version = pos a.version;
      b = pos a.b;
      t = pos a.t;
      h = pos a.h;
      n = pos a.n;
    }

pub record ReadNow : Type 0 where
  pub answer : ReadAnswer
  pub held : List ℤ
  pub lines : List ℤ

abbrev pub read_now : ReadAnswer → List ℤ → List ℤ → ReadNow
read_now a held lines = record { answer = a; held = held; lines = lines }

abbrev pub of_read : file.Outcome → ReadNow
of_read o = read_now (signed_read o.answer) o.held o.lines
