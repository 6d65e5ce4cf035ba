-- Document 01's table of refusals as it stands for each call: its rules in the order in which they are tried, each a number, its
-- condition and its place.
-- Assumes nothing.
use Rattle.std.specs.Prelude.{Bool, false, not, ◌||◌, List, [], ◌∷◌, map, ℕ, ◌*◌, ◌-◌, eqb, ltb, length, ℤ, pos, nat_abs}
use Rattle.laws.specs.Tests.{out_z}
use Rattle.book.specs.Lent.{Lent}
use Rattle.book.specs.Version.{version_out}
use Rattle.book.specs.Held.{held_words, held_count, first_bad_held}
use Rattle.book.specs.Line.{line_words, line_count, difference_out, first_bad_line}
use Rattle.book.specs.Test.{torn, book_out, counts_of}
use Rattle.file.specs.Read.{stated_length, stated_version, stated_t, stated_b, stated_h, stated_n}
use Rattle.file.specs.Read.{stated_counts, file_length, held_of, lines_of}
use Rattle.file.specs.Read.{book_in, length_of}
use Rattle.writer.specs.Write.{cannot_say}
use Rattle.loops.specs.Loops.{loop_at}
use Rattle.loops.specs.Row.{listed, listings}
use Rattle.loops.specs.Report.{loops_of, report_of}
use Rattle.lists.specs.NotChecked.{unchecked_of}
use Rattle.links.specs.Sketch.{entries, run_of}
use Rattle.junctions.specs.Call.{Lists, lists_of, any_short, sketch_in}
use Rattle.survey.specs.Correction.{no_line, other_report}
use Rattle.demands.specs.Rules.{Rule, rule}

-- 4: "b, t, h, n .. outside its limit; a lent book slice not whole entries"
unfoldable pub book_fault : Lent → Bool
unfolding torn book_out
book_fault book =
    book_out book.version book.b book.t (held_count book.held) (line_count book.lines)
    || torn held_words book.held || torn line_words book.lines

-- 3: "3 for versions other than 1 and 2"
abbrev pub version_rule : Lent → Rule
version_rule book = rule 3 (version_out book.version) 0

-- 6: a held entry is bad; "first such entry"
abbrev pub held_rule : Lent → Rule
held_rule book = rule 6 (ltb 0 (first_bad_held book.b book.held)) (first_bad_held book.b book.held)

-- 7: a line is faulty; "first such line"
abbrev pub line_rule : Lent → Rule
line_rule book = rule 7 (ltb 0 (first_bad_line book.version book.b book.lines)) (first_bad_line book.version book.b book.lines)

-- 10: "lent output too short for the whole answer"
abbrev pub room_rule : List ℤ → List ℤ → Rule
room_rule out answer = rule 10 (ltb (length out) (length answer)) 0

-- the lent book, where something else may be 4 as well, then what the call adds to the table
abbrev pub beside_rules : Bool → Lent → List Rule → List Rule
beside_rules outside book more = version_rule book ∷ rule 4 (outside || book_fault book) 0 ∷ held_rule book ∷ line_rule book ∷ more

-- the lent book alone, then what the call adds
abbrev pub book_rules : Lent → List Rule → List Rule
book_rules book more = beside_rules false book more

-- the report of a book, worked out afresh
abbrev pub afresh : Lent → List ℤ
afresh book = report_of (nat_abs book.b) (nat_abs book.t) book.lines

unfoldable pub survey_rules : Lent → List ℤ → List Rule
unfolding report_of
survey_rules book out = book_rules book (room_rule out (afresh book) ∷ [])

-- lines and sense of the loop of this number
unfoldable pub loop_listing : Lent → ℤ → List ℤ
unfolding loops_of loop_at
loop_listing book number = map listed (loop_at (loops_of (nat_abs book.b) book.lines) (nat_abs number - 1))

-- 8: "no such .. loop"
abbrev pub loop_rules : Lent → ℤ → List ℤ → List Rule
loop_rules book number out =
    rule 8 (out_z (pos 1) (pos (length (loops_of (nat_abs book.b) book.lines))) number) 0
    ∷ room_rule out (loop_listing book number) ∷ []

unfoldable pub listing_rules : Lent → ℤ → List ℤ → List Rule
unfolding loops_of loop_listing
listing_rules book number out = book_rules book (loop_rules book number out)

-- the lines of all loops
unfoldable pub listings_rules : Lent → List ℤ → List Rule
unfolding loops_of listings
listings_rules book out = book_rules book (room_rule out (listings (loops_of (nat_abs book.b) book.lines)) ∷ [])

unfoldable pub not_checked_rules : Lent → List ℤ → List Rule
unfolding unchecked_of
not_checked_rules book out = book_rules book (room_rule out (unchecked_of (nat_abs book.b) book.lines) ∷ [])

-- the junction sketch of a book, and 10, "where any of the four is too short"
abbrev pub sketch_lists : Lent → Lists
sketch_lists book = lists_of (sketch_in (nat_abs book.b) book.lines)

unfoldable pub sketch_rules : Lent → Lists → List Rule
unfolding sketch_in entries run_of
sketch_rules book out = book_rules book (rule 10 (any_short (sketch_lists book) out) 0 ∷ [])

-- 8: "no such line .. also a withdrawn line"; 9: "lent report is shorter than this book's rows, or differs from them in their places"
abbrev pub correction_rules : Lent → List ℤ → ℤ → List Rule
correction_rules book report number = rule 8 (no_line book.lines number) 0 ∷ rule 9 (other_report report (afresh book)) 0 ∷ []

unfoldable pub withdraw_rules : Lent → List ℤ → ℤ → List Rule
unfolding no_line other_report report_of
withdraw_rules book report number = book_rules book (correction_rules book report number)

-- 4 is also "a new difference outside its limit"
unfoldable pub rerun_rules : Lent → List ℤ → ℤ → ℤ → List Rule
unfolding difference_out book_fault no_line other_report report_of
rerun_rules book report number difference = beside_rules (difference_out difference) book (correction_rules book report number)

-- the writer: 16, "Version 1 cannot say that a line is withdrawn", "after 7 and before 10"; the file has room, or 10
abbrev pub saving_rules : Lent → List ℕ → List Rule
saving_rules book file =
    rule 16 (cannot_say (counts_of book) book.lines) 0 ∷ rule 10 (ltb (length file) (length_of (counts_of book))) 0 ∷ []

unfoldable pub write_rules : Lent → List ℕ → List Rule
unfolding cannot_say
write_rules book file = book_rules book (saving_rules book file)

-- 10, of the reader's two buffers
abbrev pub rooms_rule : List ℕ → List ℤ → List ℤ → Rule
rooms_rule file held lines = rule 10 (ltb (length held) (stated_h file * held_words) || ltb (length lines) (stated_n file * line_words)) 0

-- the file: 1 "file under 13 bytes", 2 "stated length is not the file's", 3 "for versions other than 1 and 2", 4 "b, t, h, n .. outside its
-- limit", 5 "length is not 13 + 10h + 12n", or 13 + 10h + 14n of version 2, 6 and 7 of its entries, 10
unfoldable pub file_rules : List ℕ → List ℤ → List ℤ → List Rule
unfolding version_out book_out held_of lines_of
file_rules file held lines =
    rule 1 (ltb (length file) 13) 0
    ∷ rule 2 (not (eqb (stated_length file) (length file))) 0
    ∷ rule 3 (version_out (pos (stated_version file))) 0
    ∷ rule 4 (book_out (pos (stated_version file)) (pos (stated_b file)) (pos (stated_t file)) (stated_h file) (stated_n file)) 0
    ∷ rule 5 (not (eqb (length file) (file_length (stated_version file) (stated_h file) (stated_n file)))) 0
    ∷ held_rule (book_in file (stated_counts file))
    ∷ line_rule (book_in file (stated_counts file))
    ∷ rooms_rule file held lines ∷ []
