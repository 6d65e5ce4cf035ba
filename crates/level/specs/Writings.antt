-- What the writer answers, with the numbers as int64, beside what the lent file then holds.
-- Assumes nothing.
use Rattle.std.specs.Prelude.{List, ℕ, pos}
use Rattle.writer.specs.Write as writer
use Rattle.writer.specs.Write.{Writing}
use Rattle.level.specs.Signed.{Small, SmallRefusal, signed_refusal}
use Rattle.level.specs.declared.Written.{Written}

pub record SmallWritten (a : writer.Written) : Type 0 where
  pub refusal : SmallRefusal a.refusal
  pub bytes : Small a.bytes

unfoldable pub signed_written : writer.Written → Written
signed_written a =
    let r = signed_refusal a.refusal in
    record { number = r.number; place = r.place; bytes = pos a.bytes }

pub record WritingNow : Type 0 where
  pub answer : Written
  pub file : List ℕ

abbrev pub writing_now : Written → List ℕ → WritingNow
writing_now a file = record { answer = a; file = file }

abbrev pub of_writing : Writing → WritingNow
of_writing w = writing_now (signed_written w.answer) w.file
