use native.Mathlib.Omega.{arith}
use lib.ListN.{length-take}
use Rattle.lists.proofs.Unwatched.{list_fits, list_numbers, list_is}
use borrow.Author.Rules.{rules}
use Rattle.lists.proofs.watch.not_checked_good.Statement.{statement}
use Rattle.lists.proofs.watch.not_checked_good.Tie as tie

list-book-requires : tie.Need-list_book-count-requires
list-book-requires c κs =
    let s : tie.Start = search in (
      s.requires,
      (
        record { by_half = (search rules, search rules); by_mark = (search rules, search rules, search rules); tournament = search rules },
        record { marks = search rules; outs = search rules },
      ),
    )

array-share-prefix-list : tie.Need-slice_bounds-list-end
array-share-prefix-list c =
    let after-list-book : tie.After-list_book-count = search in
    let s : tie.Start = search in
    list_fits s.args.book s.args.lines.now s.requires (search rules) after-list-book.list_book-count.ensures

slice-aggregate-write-list : tie.Need-slice_bounds-write_list-end
slice-aggregate-write-list c =
    let after-list-book : tie.After-list_book-count = search in
    let s : tie.Start = search in
    let f = list_fits s.args.book s.args.lines.now s.requires (search rules) after-list-book.list_book-count.ensures in
    simp length-take (omega (arith, f))

write-list-requires : tie.Need-write_list-requires
write-list-requires c κs =
    let after-list-book : tie.After-list_book-count = search in
    let s : tie.Start = search in
    list_numbers s.args.book s.args.lines.now s.requires (search rules) after-list-book.list_book-count.ensures

returns : tie.Need-returns
returns c =
    let after-list-book : tie.After-list_book-count = search in
    let s : tie.Start = search in
    rw (list_is s.args.book s.args.lines.now s.requires (search rules) after-list-book.list_book-count.ensures) at
    c.write_list.ensures

pub not_checked_good_spec : {M : Type 1} → statement M
not_checked_good_spec =
    tie.close
    (tie.spec
    (λ c. search rules)  -- slice_bounds-list_book-end
    (λ c. search rules)  -- slice_bounds-list_book-end-2
    (λ c. search rules)  -- slice_bounds-list_book-end-3
    (λ c. search rules)  -- slice_bounds-list_book-end-4
    (λ c. search rules)  -- slice_bounds-list_book-end-5
    list-book-requires
    array-share-prefix-list
    slice-aggregate-write-list
    write-list-requires
    (λ c. search rules)  -- shape_of-out
    returns)
