use lib.Ieee.{of_bits}
use mir.Facts.{to_z-of_z}
use Rattle.rates.specs.Rates.{row_of}
use borrow.Author.Rules.{rules}
use Rattle.rates.proofs.row_of.Statement.{statement}
use Rattle.rates.proofs.row_of.Tie as tie

returns : tie.Need-returns-in-PerKm
unfolding row_of
returns c =
    let s = c.before in
    rw (to_z-of_z s.ranges.correction, c.in-PerKm.is)

returns-2 : tie.Need-returns-in-Withdrawn
unfolding row_of of_bits
returns-2 c = rw c.in-Withdrawn.is

pub row_of_spec : {M : Type 1} → statement M
row_of_spec = tie.close (tie.spec (λ c. search rules) (λ c. search rules) returns returns-2)
