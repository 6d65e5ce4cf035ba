-- The worked network's file is read as its table, and refused where a place is missing.
-- Assumes nothing.
use mathlib.Core.Path.{◌≡◌, refl}
use mathlib.Core.List.{List}
use Prim.Native.Nat.{ℕ}
use lib.IntN.{ℤ, pos}
use lib.ListN.{length, replicate}
use Rattle.book.specs.Test.{refusal, no_refusal}
use Rattle.laws.specs.Tests.{out_z, out_n, eq_z}
use Rattle.laws.specs.Scan.{first_from, first_bad, any_below}
use Rattle.file.specs.Read.{answered, refused_with, read_of}
use Rattle.worked.specs.Network.{lines, held, file}

abbrev places : ℕ → List ℤ
places n = replicate n (pos 7)

pub file_length_lem : length file ≡ 107
unfolding file
file_length_lem = refl

pub file_read : read_of file (places 2) (places 42)
    ≡ record { answer = record { refusal = no_refusal; version = 1; b = 5; t = 120; h = 1; n = 7 }; held = held; lines = lines }
unfolding file held lines read_of out_z out_n eq_z first_from first_bad any_below
file_read = refl

pub a_place_missing : read_of file (places 2) (places 41) ≡ answered (places 2) (places 41) (refused_with (refusal 10 0))
unfolding file read_of out_z out_n eq_z first_from first_bad any_below
a_place_missing = refl
