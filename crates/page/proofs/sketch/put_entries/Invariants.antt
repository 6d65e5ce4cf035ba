use Rattle.std.proofs.Common.{◌≡◌, ◌+◌, ◌*◌, List, length, drop}
use Rattle.std.specs.Iterator.Adapters.{take_source, take_count}
use Rattle.std.specs.Slice.Iter.{chunks_exact_rest, chunks_exact_size}
use Rattle.links.specs.Link.{Link}
use Rattle.links.specs.Sketch.{entry_words}
use Rattle.page.specs.Entries.{Entered}
use Rattle.page.proofs.Entries.{Left}
use Rattle.page.proofs.sketch.put_entries.Given as goal

-- the lines of the entries before this one are put, whatever links they are of; the others are still to come
abbrev pub invariant-loop-entry : goal.invariant-loop-entry
invariant-loop-entry l =
    let it = l.entry-iterator in
    let i = length l.yielded in
    (goal.iterator-loop-entry).can_next it
    × (goal.iterator-loop-entry).is_finite it
    × (chunks_exact_size (take_source it) ≡ entry_words)
    × (i + take_count it ≡ l.count)
    × (chunks_exact_rest (take_source it) ≡ drop (i * entry_words) l.numbers)
    × ((xs : List Link) → Entered xs l.numbers l.run l.count 0 l.initial.begin
    → Left l.kind xs l.numbers l.run l.count l.initial.out l.initial.after l.initial.begin l.out l.after l.begin i)
