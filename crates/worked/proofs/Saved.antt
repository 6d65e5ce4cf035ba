-- The worked network is written as its file, byte by byte, and refused where a place is missing or a line is withdrawn.
-- Assumes nothing.
use mathlib.Core.Path.{◌≡◌, refl}
use mathlib.Core.List.{List, ◌++◌}
use Prim.Native.Nat.{ℕ}
use lib.IntN.{ℤ, pos}
use lib.ListN.{replicate, set}
use Rattle.laws.specs.Tests.{out_z, out_n, eq_z}
use Rattle.laws.specs.Scan.{first_from, first_bad, any_below}
use Rattle.book.specs.Line.{place, standing_field}
use Rattle.book.specs.Lent.{Lent, lent}
use Rattle.book.specs.Test.{refusal, no_refusal}
use Rattle.writer.specs.Write.{writing, refused_with, write_of}
use Rattle.worked.specs.Network.{lines, held, file}

abbrev places : ℕ → List ℕ
places n = replicate n 7

abbrev book_with : List ℤ → Lent
book_with its_lines = lent (pos 1) (pos 5) (pos 120) held its_lines

pub book_written : write_of (book_with lines) (places 109) ≡ writing (record { refusal = no_refusal; bytes = 107 }) (file ++ places 2)
unfolding file held lines write_of out_z out_n eq_z first_from first_bad any_below
book_written = refl

pub a_byte_missing : write_of (book_with lines) (places 106) ≡ writing (refused_with (refusal 10 0)) (places 106)
unfolding held lines write_of out_z out_n eq_z first_from first_bad any_below
a_byte_missing = refl

-- line 3 withdrawn, with room and without
pub line_withdrawn : (n : ℕ) → write_of (book_with (set lines (place 2 standing_field) (pos 0))) (places n)
    ≡ writing (refused_with (refusal 16 0)) (places n)
unfolding held lines write_of out_z out_n eq_z first_from first_bad any_below
line_withdrawn n = refl
