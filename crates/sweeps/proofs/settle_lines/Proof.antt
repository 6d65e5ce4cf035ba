use mathlib.Core.Path.{◌∙◌}
use native.Mathlib.Omega.{arith}
use Rattle.sights.proofs.Fresh.{range_zeros, room_zeros}
use Rattle.sweeps.proofs.States.{settle_same}
use borrow.Author.Rules.{rules}
use Rattle.sweeps.proofs.settle_lines.Statement.{statement}
use Rattle.sweeps.proofs.settle_lines.Tie as tie

write-rows-requires : tie.Need-write_rows-requires
write-rows-requires c κs =
    let s : tie.Start = search in
    let q = s.requires.1.1.0 in (
      s.requires.0,
      (
        s.requires.1.0,
        (
          range_zeros 1024 _ q.0,
          room_zeros _ _ _ 257 1024 256 s.requires.0 (omega (arith, q.1)) q.1
              (omega (arith, s.requires.0.few)),
        ),
      ),
    )

returns : tie.Need-returns
returns c =
    let after-write-rows : tie.After-write_rows = search in
    let s : tie.Start = search in
    let t = after-write-rows.write_rows in
    let e = c.settle.ensures in
    e ∙ settle_same _ _ _ _ t.ensures.1 _

pub settle_lines_spec : {M : Type 1} → statement M
settle_lines_spec =
    tie.close
    (tie.spec
    (λ c. search rules)  -- slice_bounds-write_rows-end
    (λ c. search rules)  -- slice_bounds-write_rows-end-2
    (λ c. search rules)  -- slice_bounds-write_rows-end-3
    (λ c. search rules)  -- slice_bounds-write_rows-end-4
    (λ c. search rules)  -- slice_bounds-write_rows-end-5
    write-rows-requires
    (λ c. search rules)  -- slice_bounds-settle-end
    (λ c. search rules)  -- slice_bounds-settle-end-2
    (λ c. search rules)  -- slice_bounds-settle-end-3
    (λ c. search rules)  -- slice_bounds-settle-end-4
    (λ c. search rules)  -- slice_bounds-settle-end-5
    (λ c κs. search rules)  -- settle-requires
    (λ c. search rules)  -- shape_of-h
    returns)
