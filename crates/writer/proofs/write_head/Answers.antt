use Rattle.std.proofs.Common.{refl, arith}
use Rattle.file.specs.Read.{length_of}
use Rattle.writer.specs.Write.{head_bytes}
use Rattle.writer.proofs.Parts.{none_poured, then_number, all_poured}
use Rattle.writer.proofs.write_head.Goals as goal

pub returns : goal.returns
unfolding head_bytes
returns c =
    let k = c.args.book in
    let whole = c.requires.part in
    let bytes = then_number (none_poured c.args.out.now) _ 4 (length_of k) (omega (arith, whole)) c.requires.size c.put.ensures in
    let version = then_number bytes _ 1 k.version (omega (arith, whole)) refl c.put-2.ensures in
    let tolerance = then_number version _ 2 k.tolerance (omega (arith, whole)) refl c.put-3.ensures in
    let marks = then_number tolerance _ 2 k.marks (omega (arith, whole)) refl c.put-4.ensures in
    let held = then_number marks _ 2 k.held (omega (arith, whole)) refl c.put-5.ensures in
    let lines = then_number held _ 2 k.lines (omega (arith, whole)) refl c.put-6.ensures in
    all_poured lines whole
