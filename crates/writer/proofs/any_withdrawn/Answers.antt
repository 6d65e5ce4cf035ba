use Rattle.std.proofs.Common.{rules, ◌∙◌, ap, arith}
use Rattle.laws.specs.Tests as tests
use Rattle.writer.proofs.Withdrawn.{any_answer}
use Rattle.writer.proofs.any_withdrawn.Goals as goal

pub returns : goal.returns
unfolding tests.eq_z
returns c =
    let told = c.any.ensures.runs in
    let p = told.0 in
    let size = ap (λ s. s.size) told.1 ∙ c.chunks_exact.ensures.size in
    let part = ap (λ s. s.rest.now) told.1 ∙ c.chunks_exact.ensures.rest in
    let chunks = rw (size, part) at (c.chunks_exact.ensures.runs p p.seen (omega (arith, size))) in
    any_answer _ _ c.args.lines.now c.args.n c.requires p chunks (λ a r q k. search rules) (λ e r k. search rules) c.any.result told.2
