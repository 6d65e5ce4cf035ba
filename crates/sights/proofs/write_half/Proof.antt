use mathlib.Core.Path.{◌∙◌, ap}
use Prim.Native.Nat.{ℕ}
use lib.IntN.{ℤ}
use Rattle.laws.proofs.Signed.{back}
use lib.ListN.{set}
use Rattle.sights.proofs.Halves.{range_set, half_weight}
use borrow.Author.Rules.{rules}
use Rattle.sights.proofs.write_half.Statement.{statement}
use Rattle.sights.proofs.write_half.Tie as tie

returns : tie.Need-returns
returns c =
    let s : tie.Start = search in
    let o = c.other_of in
    let r = c.rise_of in
    let w = half_weight _ _ _ _ _ s.requires.0 s.requires.1.0 in
    let e = back r.result r.type_inv in (
      record {
        others = ap (λ (x : ℕ). set s.args.other.now s.args.c x) o.ensures.0;
        rises = ap (λ (x : ℤ). set s.args.rise.now s.args.c x) (e ∙ r.ensures.0);
        weighed = ap (λ (x : ℕ). set s.args.weight.now s.args.c x) w.0;
      },
      range_set _ _ _ _ _ _ s.requires.1.1.1 o.ensures.1 (rw e r.ensures.1) w.1,
    )

pub write_half_spec : {M : Type 1} → statement M
write_half_spec =
    tie.close
    (tie.spec
    (λ c κs. search rules)  -- other_of-requires
    (λ c. search rules)  -- offset_bounds-other-c
    (λ c. search rules)  -- bounds-other-c
    (λ c κs. search rules)  -- rise_of-requires
    (λ c. search rules)  -- offset_bounds-rise-c
    (λ c. search rules)  -- bounds-rise-c
    (λ c. search rules)  -- overflow_sub-weight
    (λ c. search rules)  -- offset_bounds-weights-h
    (λ c. search rules)  -- bounds-weights-h
    (λ c. search rules)  -- offset_bounds-weight-c
    (λ c. search rules)  -- bounds-weight-c
    (λ c. search rules)  -- shape_of-other
    (λ c. search rules)  -- shape_of-rise
    (λ c. search rules)  -- shape_of-weight
    returns)
