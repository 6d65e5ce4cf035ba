-- Document 01, "Worked network": what "the report program, given this book's file on standard input, prints exactly".
-- Assumes nothing.
use Rattle.std.specs.Prelude.{List, [], ◌∷◌, ◌++◌, map, ℕ, suc, pos, length}
use Rattle.network.specs.Path.{way_length}
use Rattle.loops.specs.Loops.{Loop}
use Rattle.loops.specs.Row.{listed, misclosure, verdict}
use Rattle.loops.specs.Report.{loops_of, pieces_of}
use Rattle.lists.specs.NotChecked.{unchecked_of}
use Rattle.text.specs.Report.{head_text, loop_text, not_checked_text}
use Rattle.page.specs.Filed.{BookText, file_text}

-- the line of one loop
unfoldable pub loop_line : ℕ → ℕ → Loop → List ℕ
unfolding loop_text way_length misclosure verdict
loop_line t number lp = loop_text number (pos (way_length lp)) (misclosure lp) (verdict t lp) (map listed lp)

-- the lines of the loops, which are numbered as they come
unfoldable pub loop_lines : ℕ → ℕ → List Loop → List ℕ
unfolding loop_line
loop_lines t number [] = []
loop_lines t number (lp ∷ rest) = loop_line t number lp ++ loop_lines t (suc number) rest

-- the report of a book up to its loops
unfoldable pub loops_page : BookText
unfolding head_text loop_lines loops_of pieces_of
loops_page k lines =
    let loops = loops_of k.marks lines in
    head_text k.version k.marks k.lines (pieces_of k.marks lines) (length loops) ++ loop_lines k.tolerance 1 loops

-- and with the lines that are not checked
unfoldable pub book_page : BookText
unfolding loops_page not_checked_text unchecked_of
book_page k lines = loops_page k lines ++ not_checked_text (unchecked_of k.marks lines)

-- of a file
unfoldable pub page_of : List ℕ → List ℕ
unfolding file_text book_page
page_of file = file_text book_page file
