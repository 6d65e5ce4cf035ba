-- Document 01, "Worked network": "The report program, given this book's file on standard input, prints exactly".
-- Assumes nothing.
use mathlib.Core.Path.{◌≡◌, refl}
use mathlib.Core.List.{[], ◌++◌}
use Rattle.laws.specs.Tests.{out_z, out_n, eq_z}
use Rattle.laws.specs.Scan.{first_from, first_bad, any_below}
use Rattle.text.specs.Bytes.{bytes}
use Rattle.text.specs.Number.{digits, decimal, signed_text}
use Rattle.text.specs.Report.{listed_text, verdict_text}
use Rattle.page.specs.Page.{page_of}
use Rattle.worked.specs.Network.{file}

pub file_printed : page_of file
    ≡ bytes "LEVEL BOOK 1\n"
    ++ bytes "MARKS 5 LINES 7 PIECES 1 LOOPS 3\n"
    ++ bytes "LOOP 1 LENGTH 4450 MISCLOSURE -40000 OVER: 6 -1 5\n"
    ++ bytes "LOOP 2 LENGTH 7600 MISCLOSURE -5000 WITHIN: 4 5 -7\n"
    ++ bytes "LOOP 3 LENGTH 6750 MISCLOSURE 65000 OVER: 3 2 -6 -7\n"
    ++ bytes "NOT CHECKED 0:\n"
unfolding file page_of bytes digits decimal signed_text listed_text verdict_text out_z out_n eq_z first_from first_bad any_below
file_printed = refl

-- an empty file: refusal 1, whose place is 0
pub nothing_printed : page_of [] ≡ bytes "REFUSED 1 AT 0\n"
unfolding page_of bytes digits decimal
nothing_printed = refl
