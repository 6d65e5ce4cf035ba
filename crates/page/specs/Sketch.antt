-- Request 01, "The program": the junction sketch of a file, as text.
-- Assumes nothing.
use Rattle.std.specs.Prelude.{List, [], ◌∷◌, ◌++◌, map, ℕ, pos, length}
use Rattle.network.specs.Path.{way_length}
use Rattle.loops.specs.Row.{listed, misclosure}
use Rattle.links.specs.Link.{Link}
use Rattle.links.specs.Sketch.{Sketch}
use Rattle.junctions.specs.Call.{sketch_in}
use Rattle.text.specs.Sketch.{sketch_head_text, link_text, spur_text, self_closing_text}
use Rattle.page.specs.Filed.{BookText, file_text}

-- the line of a link, of a spur and of a self-closing loop: its own marks, length, difference and signed lines
unfoldable pub link_line : Link → List ℕ
unfolding link_text way_length misclosure
link_line x = link_text (pos x.first) (pos x.last) (pos (way_length x.way)) (misclosure x.way) (map listed x.way)

unfoldable pub spur_line : Link → List ℕ
unfolding spur_text way_length misclosure
spur_line x = spur_text (pos x.first) (pos (way_length x.way)) (misclosure x.way) (map listed x.way)

unfoldable pub self_closing_line : Link → List ℕ
unfolding self_closing_text way_length misclosure
self_closing_line x = self_closing_text (pos x.first) (pos (way_length x.way)) (misclosure x.way) (map listed x.way)

-- the lines of a list, in its order
unfoldable pub lines_by : (Link → List ℕ) → List Link → List ℕ
lines_by line [] = []
lines_by line (x ∷ xs) = line x ++ lines_by line xs

-- the sketch of a book of b marks and n lines: the head, then all links, then all spurs, then all loops
unfoldable pub sketch_page : ℕ → ℕ → Sketch → List ℕ
unfolding sketch_head_text link_line spur_line self_closing_line lines_by
sketch_page b n s =
    sketch_head_text b n (length s.links) (length s.spurs) (length s.loops)
    ++ lines_by link_line s.links
    ++ lines_by spur_line s.spurs
    ++ lines_by self_closing_line s.loops

abbrev pub sketch_text : BookText
sketch_text k lines = sketch_page k.marks k.lines (sketch_in k.marks lines)

-- of a file
unfoldable pub sketch_page_of : List ℕ → List ℕ
unfolding file_text sketch_page sketch_in
sketch_page_of file = file_text sketch_text file
