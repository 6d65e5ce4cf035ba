-- The line of a loop, by its run. Assumes nothing.
use Rattle.std.specs.Prelude.{ℕ, List, map, ℤ, pos, get_or}
use Rattle.rows.specs.Sums.{row_of}
use Rattle.lists.specs.Run.{listed_by}
use Rattle.text.specs.Report.{loop_text}

-- length, misclosure and verdict stand in the row
unfoldable pub run_line : ℕ → ℕ → List ℤ → List ℕ → List ℕ
unfolding loop_text row_of
run_line t number ls run =
    let row = row_of t ls run in
    loop_text number (get_or row 2 (pos 0)) (get_or row 3 (pos 0)) (get_or row 4 (pos 0)) (map listed_by run)
