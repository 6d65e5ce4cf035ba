use native.Mathlib.Nat.{zero-mul}
use Rattle.file.specs.Entry.{entries}
use Rattle.file.proofs.Entries.{entries_pour}
use Rattle.file.proofs.entry.read_entries.Goals as goal

pub loop-i-init : goal.loop-i-init
unfolding entries
loop-i-init c = rw zero-mul

pub loop-i-preserved : goal.loop-i-preserved
loop-i-preserved c =
    let l = c.loop-i in
    entries_pour c.args.kind c.args.file.now c.args.a c.bytes-bytes.result c.words-words.result c.bytes-bytes.ensures c.words-words.ensures
    c.args.out.now l.out _ l.i l.invariant c.read_entry.ensures
