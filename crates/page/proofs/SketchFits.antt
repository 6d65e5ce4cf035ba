-- No junction sketch is longer than the room that the sketch program lends. An entry has at most 57 bytes and 5 for each of its lines, of
-- which it has one at least: so 62 for each of 512 lines, with a head of 151, are 31,895.
-- Assumes nothing.
use Prim.Native.Nat.{ℕ, ◌+◌, ◌*◌, ◌≤◌}
use native.Mathlib.Nat.{le_trans}
use native.Mathlib.Omega.{arith}
use mathlib.Core.Path.{◌≡◌, refl}
use mathlib.Core.List.{List, [], ◌∷◌, ◌++◌, map, Memᴰ}
use lib.IntN.{ℤ, pos}
use lib.ListN.{length, take, length-append, length-map}
use Rattle.book.specs.Limits.{most_lines, most_length, most_difference}
use Rattle.book.specs.declared.Book.{Book}
use Rattle.book.specs.Good.{GoodLines}
use Rattle.network.specs.Standing.{standing}
use Rattle.network.specs.Walk.{Pass, way_length}
use Rattle.loops.specs.Row.{listed, misclosure}
use Rattle.loops.proofs.Sizes.{length_at_most, misclosure_at_most, listed_at_most}
use Rattle.loops.proofs.Sounding.{LineLimits, line_limits}
use Rattle.links.specs.Link.{Link}
use Rattle.links.specs.Shape.{lines_in}
use Rattle.links.specs.Stage.{Drawn}
use Rattle.text.specs.Put.{Put}
use Rattle.text.specs.Sketch.{sketch_head_text}
use Rattle.text.proofs.Puts.{put_whole}
use Rattle.text.proofs.Room.{LinkNumbers, sketch_head_room, link_room, spur_room, self_closing_room}
use Rattle.links.proofs.Shapes.{some_lines}
use Rattle.junctions.proofs.Few.{few}
use Rattle.page.specs.Sketch.{link_line, spur_line, self_closing_line, lines_by, sketch_page, sketch_text, sketch_page_of}
use Rattle.page.specs.Entries.{line_for}
use Rattle.page.specs.declared.sketch.Kind.{Kind}
use Rattle.page.specs.declared.sketch.Kind.TheVariants as kind
use Rattle.page.proofs.Fits.{file_fits}
use Rattle.page.proofs.Sketched.{its, links_drawn, spurs_drawn, loops_drawn, few_lines}

-- the bytes that the sketch program lends
abbrev sketch_room : ℕ
sketch_room = 32768

-- four texts, one after the other
together : (a b c d : List ℕ) {w x y z : ℕ} → length a ≤ w → length b ≤ x → length c ≤ y → length d ≤ z
    → length (a ++ b ++ c ++ d) ≤ w + x + y + z
together a b c d p q r s = simp length-append (omega arith)

module _ (k : Book) (ls : List ℤ) (g : GoodLines k ls) where
  -- a link runs over standing lines, and its marks are the book's
  link_numbers : (x : Link) → Drawn k.marks (standing ls) x → length x.way ≤ most_lines
      → LinkNumbers (pos x.first) (pos x.last) (pos (way_length x.way)) (misclosure x.way) (map listed x.way)
  link_numbers x d n = record {
    first_low = omega (arith, d.first_high, g.few_marks);
    last_low = omega (arith, d.last_high, g.few_marks);
    short = omega (arith, length_at_most most_length x.way (λ p j. (limits p j).length));
    small = omega (arith, misclosure_at_most most_difference x.way (λ p j. (limits p j).difference));
    lines = listed_at_most most_lines x.way (λ p j. (limits p j).number);
  }
    where
      limits : (p : Pass) → Memᴰ p x.way → LineLimits p.line
      limits p j = line_limits k ls g p.line (d.over_lines p j)

  line_room : (kind : Kind) (x : Link) → Drawn k.marks (standing ls) x → length x.way ≤ most_lines
      → length (line_for kind x) ≤ length x.way * 62
  unfolding link_line spur_line self_closing_line
  line_room kind.Link x d n =
      omega (arith, link_room (link_numbers x d n), length-map x.way listed, some_lines x.way d.some_line)
  line_room kind.Spur x d n =
      omega (arith, spur_room (link_numbers x d n), length-map x.way listed, some_lines x.way d.some_line)
  line_room kind.Loop x d n =
      omega (arith, self_closing_room (link_numbers x d n), length-map x.way listed, some_lines x.way d.some_line)

  lines_room : (kind : Kind) (xs : List Link) → ((x : Link) → Memᴰ x xs → Drawn k.marks (standing ls) x) → lines_in xs ≤ most_lines
      → length (lines_by (line_for kind) xs) ≤ lines_in xs * 62
  unfolding lines_by lines_in
  lines_room kind [] d n = omega arith
  lines_room kind (x ∷ xs) d n =
      let a = line_room kind x (d x (Memᴰ.head refl)) (omega arith) in
      let r = lines_room kind xs (λ y i. d y (Memᴰ.tail i)) (omega arith) in
      rw length-append (omega arith)

  book_fits : length (sketch_text k ls) ≤ sketch_room
  unfolding sketch_page
  book_fits =
      let s = its k ls g in
      let n = few_lines k ls g in
      let f = few k ls g in
      le_trans
      (together (sketch_head_text k.marks k.lines (length s.links) (length s.spurs) (length s.loops))
      (lines_by link_line s.links) (lines_by spur_line s.spurs) (lines_by self_closing_line s.loops)
      (sketch_head_room k.marks k.lines (length s.links) (length s.spurs) (length s.loops) (omega (arith, g.few_marks))
      (omega (arith, g.good.few)) (omega (arith, f.links)) (omega (arith, f.spurs)) (omega (arith, f.loops)))
      (lines_room kind.Link s.links (links_drawn k ls g) (omega arith))
      (lines_room kind.Spur s.spurs (spurs_drawn k ls g) (omega arith))
      (lines_room kind.Loop s.loops (loops_drawn k ls g) (omega arith)))
      (omega arith)

pub sketch_fits : (file : List ℕ) → length (sketch_page_of file) ≤ sketch_room
unfolding sketch_page_of
sketch_fits = file_fits sketch_text sketch_room (omega arith) book_fits

-- so that the program prints the whole sketch: what it hands on are the bytes up to the place after it
pub sketch_whole : (file out out' : List ℕ) (next : ℕ) → sketch_room ≤ length out → Put out out' 0 next (sketch_page_of file)
    → take next out' ≡ sketch_page_of file
sketch_whole file out out' next room p = put_whole p (omega (arith, sketch_fits file))
