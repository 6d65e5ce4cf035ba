use Rattle.std.proofs.Common.{rules, ◌≡◌, ◌∙◌, ap, refl, pos, ℕ}
use Rattle.std.proofs.lemmas.Result.{err_from_is_err_and}
use borrow.Author.Tests.{eq-eqb, ne_eqb, lt-ltb, le-ltb}
use Rattle.laws.proofs.Signed.{stored}
use Rattle.book.specs.Test.{book_of}
use Rattle.book.specs.Test as tested
use Rattle.book.proofs.Made.{book_made}
use Rattle.file.specs.Read.{stated_version, stated_t, stated_b, stated_h, stated_n, file_length, length_of, head_of}
use Rattle.file.proofs.Heads.{counts_state, book_refused, book_refused_place}
use Rattle.file.proofs.head_of.Goals as goal

pub returns-then-len-lt-HEAD_BYTES-clause-head : goal.returns-then-len-lt-HEAD_BYTES-clause-head
unfolding head_of
returns-then-len-lt-HEAD_BYTES-clause-head c = rw (lt-ltb _ _ c.if-len-lt-HEAD_BYTES.true)

pub returns-then-be-len-clause-head : goal.returns-then-be-len-clause-head
unfolding head_of
returns-then-be-len-clause-head c =
    rw (le-ltb _ _ c.if-len-lt-HEAD_BYTES.false, ← c.be.ensures.value, ne_eqb _ _ c.if-be-len.true)

pub returns-in_err-book-clause-head : goal.returns-in_err-book-clause-head
unfolding head_of
returns-in_err-book-clause-head c =
    let f = c.args.file.now in
    let version = stored c.plain-version.result c.plain-version.type_inv c.plain-version.ensures in
    let t = stored c.plain-t.result c.plain-t.type_inv c.plain-t.ensures in
    let b = stored c.plain-b.result c.plain-b.type_inv c.plain-b.ensures in
    let told = err_from_is_err_and c.from_residual.result c.from_residual.ensures.1 in
    let refused = rw (version, t, b, c.be-h.ensures.value, c.be-n.ensures.value) at c.in_err-book.ensures in
    rw (told.1, told.2, le-ltb _ _ c.if-len-lt-HEAD_BYTES.false, ← c.be.ensures.value, eq-eqb _ _ c.if-be-len.false)
    (book_refused _ _ _ _ _ _ refused _ refl _)

pub returns-in_err-book-clause-at : goal.returns-in_err-book-clause-at
returns-in_err-book-clause-at c =
    let told = err_from_is_err_and c.from_residual.result c.from_residual.ensures.1 in
    rw (told.1, told.2) (book_refused_place _ _ _ _ _ _ c.in_err-book.ensures _ refl)

pub length_of-requires : goal.length_of-requires
length_of-requires c =
    let f = c.args.file.now in
    let version = stored c.plain-version.result c.plain-version.type_inv c.plain-version.ensures in
    let t = stored c.plain-t.result c.plain-t.type_inv c.plain-t.ensures in
    let b = stored c.plain-b.result c.plain-b.type_inv c.plain-b.ensures in
    let made : tested.Good c.in_ok-book.book
    ≡ book_of (pos (stated_version f)) (pos (stated_b f)) (pos (stated_t f)) (stated_h f) (stated_n f)
    = rw (version, t, b, c.be-h.ensures.value, c.be-n.ensures.value) at c.in_ok-book.ensures in
    let good = book_made _ _ _ _ _ _ made _ refl in
    let s = counts_state _ _ _ _ _ good.0 good.1 in
    rw good.2 (s.known_version, s.few_held, s.few_lines)

pub returns-then-len-length_of-clause-head : goal.returns-then-len-length_of-clause-head
unfolding head_of
returns-then-len-length_of-clause-head c =
    let f = c.args.file.now in
    let version = stored c.plain-version.result c.plain-version.type_inv c.plain-version.ensures in
    let t = stored c.plain-t.result c.plain-t.type_inv c.plain-t.ensures in
    let b = stored c.plain-b.result c.plain-b.type_inv c.plain-b.ensures in
    let made : tested.Good c.in_ok-book.book
    ≡ book_of (pos (stated_version f)) (pos (stated_b f)) (pos (stated_t f)) (stated_h f) (stated_n f)
    = rw (version, t, b, c.be-h.ensures.value, c.be-n.ensures.value) at c.in_ok-book.ensures in
    let good = book_made _ _ _ _ _ _ made _ refl in
    let size : c.length_of.result ≡ file_length (stated_version f) (stated_h f) (stated_n f) = c.length_of.ensures ∙ ap length_of good.2 in
    rw (
      le-ltb _ _ c.if-len-lt-HEAD_BYTES.false,
      ← c.be.ensures.value,
      eq-eqb _ _ c.if-be-len.false,
      good.0,
      good.1,
      ← size,
      ne_eqb _ _ c.if-len-length_of.true,
    )

pub returns-clause-head : goal.returns-clause-head
unfolding head_of
returns-clause-head c =
    let f = c.args.file.now in
    let version = stored c.plain-version.result c.plain-version.type_inv c.plain-version.ensures in
    let t = stored c.plain-t.result c.plain-t.type_inv c.plain-t.ensures in
    let b = stored c.plain-b.result c.plain-b.type_inv c.plain-b.ensures in
    let made : tested.Good c.in_ok-book.book
    ≡ book_of (pos (stated_version f)) (pos (stated_b f)) (pos (stated_t f)) (stated_h f) (stated_n f)
    = rw (version, t, b, c.be-h.ensures.value, c.be-n.ensures.value) at c.in_ok-book.ensures in
    let good = book_made _ _ _ _ _ _ made _ refl in
    let size : c.length_of.result ≡ file_length (stated_version f) (stated_h f) (stated_n f) = c.length_of.ensures ∙ ap length_of good.2 in
    rw (
      le-ltb _ _ c.if-len-lt-HEAD_BYTES.false,
      ← c.be.ensures.value,
      eq-eqb _ _ c.if-be-len.false,
      good.0,
      good.1,
      ← good.2,
      ← size,
      eq-eqb _ _ c.if-len-length_of.false,
    )
