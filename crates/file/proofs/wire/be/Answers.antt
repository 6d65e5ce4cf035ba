use Rattle.std.proofs.Common.{◌≡◌, ◌∙◌, refl, ap, arith}
use Rattle.file.specs.Wire.{be}
use Rattle.file.proofs.BigEndian.{part_length, room, Longer, longer}
use Rattle.file.proofs.wire.be.Goals as goal

pub loop-byte-init : goal.loop-byte-init
unfolding be
loop-byte-init g c = (refl, omega arith)

pub overflow_mul-number : goal.overflow_mul-number
overflow_mul-number g c =
    room g.row.W c.args.s.now c.args.a c.requires.few _ _ c.loop-byte-test.true c.loop-byte.invariant.0 c.loop-byte.invariant.1

-- the number with its next byte
next : (g : _) → (c : goal.After-from g) → (let l = c.loop-byte in
    Longer g.row.W c.args.s.now c.args.a c.requires.few
    l.number l.byte-index c.loop-byte-test.true l.invariant.0 l.invariant.1 c.from.result)
next g c = longer _ _ _ _ _ _ _ _ _ _ c.type_inv.s c.from.ensures

pub overflow_add-number : goal.overflow_add-number
overflow_add-number g c = (next g c).room

pub loop-byte-preserved : goal.loop-byte-preserved
loop-byte-preserved g c = ((next g c).value, (next g c).small)

-- all its bytes are read
all : (g : _) → (c : goal.After-loop-byte g) → c.loop-byte.byte-index ≡ g.row.W
all g c =
    let long = part_length g.row.W c.args.s.now c.args.a c.requires.few c.requires.whole in
    omega (arith, c.loop-byte.auto.byte-index-end, c.loop-byte-test.false)

pub returns-clause-value : goal.returns-clause-value
returns-clause-value g c = c.loop-byte.invariant.0 ∙ ap (λ k. be k c.args.s.now c.args.a) (all g c)

pub returns-clause-small : goal.returns-clause-small
returns-clause-small g c = rw (← (all g c)) c.loop-byte.invariant.1
