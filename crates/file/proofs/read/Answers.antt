use Rattle.std.proofs.Common.{rules, ◌≡◌, ◌∙◌, sym, refl}
use Rattle.std.proofs.lemmas.Result.{err_from_is_err_and}
use Rattle.file.specs.Read.{body_of, after_head, read_of}
use Rattle.file.proofs.Heads.{head_states}
use Rattle.file.proofs.read.Goals as goal

pub returns-in_err-book : goal.returns-in_err-book
unfolding read_of after_head
returns-in_err-book c =
    let told = err_from_is_err_and c.from_residual.result c.from_residual.ensures.1 in
    rw (told.1, told.2, ← c.in_err-book.ensures.head, c.in_err-book.ensures.at)

pub test_entries-requires : goal.test_entries-requires
test_entries-requires c = head_states c.args.file.now c.in_ok-book.book (sym c.in_ok-book.ensures.head)

pub returns-in_err-test_entries : goal.returns-in_err-test_entries
unfolding read_of after_head body_of
returns-in_err-test_entries c =
    let told = err_from_is_err_and c.from_residual-in_err-test_entries.result c.from_residual-in_err-test_entries.ensures.1 in
    rw (told.1, told.2, ← c.in_ok-book.ensures.head, ← c.in_err-test_entries.ensures)

pub fill-requires : goal.fill-requires
fill-requires c = head_states c.args.file.now c.in_ok-book.book (sym c.in_ok-book.ensures.head)

pub returns : goal.returns
unfolding read_of after_head body_of
returns c = rw (← c.in_ok-book.ensures.head, ← c.in_ok-test_entries.ensures) c.fill.ensures
