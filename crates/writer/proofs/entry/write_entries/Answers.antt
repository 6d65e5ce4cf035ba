use native.Mathlib.Nat.{zero-mul}
use Rattle.writer.specs.Entry.{written}
use Rattle.writer.proofs.Entries.{written_pour}
use Rattle.writer.proofs.entry.write_entries.Goals as goal

pub loop-i-init : goal.loop-i-init
unfolding written
loop-i-init c = rw zero-mul

pub loop-i-preserved : goal.loop-i-preserved
loop-i-preserved c =
    let l = c.loop-i in
    written_pour c.args.kind c.args.slice.now c.bytes-bytes.result c.words-words.result c.bytes-bytes.ensures c.words-words.ensures
    c.args.out.now l.out _ l.i l.invariant c.write_entry.ensures
