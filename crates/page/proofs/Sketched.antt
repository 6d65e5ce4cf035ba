-- The lists of a good book's sketch, and their lines together. Assumes nothing.
use Prim.Native.Nat.{ℕ, ◌+◌, ◌*◌, ◌≤◌}
use native.Mathlib.Omega.{arith}
use mathlib.Core.Path.{◌≡◌, refl, sym, ◌∙◌, ap, subst}
use mathlib.Core.List.{List, [], ◌∷◌, ◌++◌, map, append_assoc, Memᴰ}
use lib.IntN.{ℤ}
use lib.ListN.{length, drop, length-append}
use borrow.Author.Tests.{le-ltb}
use Rattle.book.specs.Limits.{most_lines}
use Rattle.book.specs.declared.Book.{Book}
use Rattle.book.specs.Good.{GoodLines}
use Rattle.network.specs.Standing.{standing}
use Rattle.network.proofs.Standing.{few_standing}
use Rattle.loops.specs.Row.{listed, listings}
use Rattle.loops.proofs.Sounding.{lines_sound}
use Rattle.links.specs.Link.{Link}
use Rattle.links.specs.Shape.{lines_in}
use Rattle.links.specs.Stage.{Drawn}
use Rattle.links.specs.Sketch.{Sketch, entry_words, entries, in_all, run_of}
use Rattle.links.proofs.Kept.{lines_total, total_all}
use Rattle.links.proofs.EachLine.{as_many}
use Rattle.links.proofs.Shapes.{link_drawn_way, spur_drawn_way, loop_drawn}
use Rattle.junctions.specs.Call.{Lists, Drawing, lists_of, drawing, drawn, in_first_places, all_in_first_places, sketch_in, sketch_good}
use Rattle.junctions.specs.Call.{Sketched}
use Rattle.text.specs.Put.{Put}
use Rattle.text.specs.Sketch.{sketch_head_text}
use Rattle.text.proofs.Puts.{◌then◌}
use Rattle.junctions.proofs.Writing.{entries_length}
use Rattle.junctions.proofs.Few.{few}
use Rattle.page.specs.Sketch.{sketch_page, sketch_text}
use Rattle.page.specs.Entries.{LiesAt, run_by, Entered, EntriesPut}
use Rattle.page.specs.declared.sketch.Kind.TheVariants as kind
use Rattle.page.specs.declared.sketch.Place.{Place}
use Rattle.page.proofs.Entries.{first_lies, other_lies}

-- ---- how many numbers links have

run_both : (xs ys : List Link) → run_by (xs ++ ys) ≡ run_by xs ++ run_by ys
unfolding listings
run_both [] ys = refl
run_both (x ∷ xs) ys =
    ap (λ (l : List ℤ). map listed x.way ++ l) (run_both xs ys) ∙ sym (append_assoc (map listed x.way) (run_by xs) (run_by ys))

-- what is written over the front of a list lies there
written_lies : (list out : List ℤ) {out' : List ℤ} → out' ≡ in_first_places list out → LiesAt list out' 0
written_lies list out e = record { past = drop (length list) out; is = e; inside = omega arith }

-- where the first entry's line goes
abbrev pub after_head : ℕ → Place
after_head at = record { text = at; run = 0 }

-- ---- of a good book

module _ (k : Book) (ls : List ℤ) (g : GoodLines k ls) where
  abbrev pub its : Sketch
  its = sketch_in k.marks ls

  -- every link, spur and loop is between marks of the book and runs over standing lines, one at least
  pub links_drawn : (x : Link) → Memᴰ x its.links → Drawn k.marks (standing ls) x
  unfolding sketch_in
  links_drawn x i = (link_drawn_way k.marks (standing ls) (lines_sound k ls g) x i).drawn

  pub spurs_drawn : (x : Link) → Memᴰ x its.spurs → Drawn k.marks (standing ls) x
  unfolding sketch_in
  spurs_drawn x i = (spur_drawn_way k.marks (standing ls) (lines_sound k ls g) x i).drawn

  pub loops_drawn : (x : Link) → Memᴰ x its.loops → Drawn k.marks (standing ls) x
  unfolding sketch_in
  loops_drawn x i = loop_drawn k.marks (standing ls) (lines_sound k ls g) x i

  -- they have no more lines than a book
  lines_in_all : lines_in (in_all its) ≤ most_lines
  unfolding sketch_in
  lines_in_all =
      omega (arith, as_many k.marks (standing ls) (lines_sound k ls g), few_standing ls, g.good.whole, g.good.few)

  pub few_lines : lines_in its.links + lines_in its.spurs + lines_in its.loops ≤ most_lines
  few_lines =
      omega (
        arith,
        lines_in_all,
        lines_total (in_all its),
        total_all (λ (x : Link). length x.way) its,
        lines_total its.links,
        lines_total its.spurs,
        lines_total its.loops,
      )

  -- ---- the lists, in room for the most there can be

  module _ (out : Lists) {out' : Lists} {r : Sketched} (links_room : most_lines * entry_words ≤ length out.links)
      (spurs_room : most_lines * entry_words ≤ length out.spurs) (loops_room : most_lines * entry_words ≤ length out.loops)
      (run_room : most_lines ≤ length out.run) (e : drawing r out' ≡ sketch_good k ls out) where
    all_written : drawing r out' ≡ drawing (drawn its) (all_in_first_places (lists_of its) out)
    unfolding sketch_good
    all_written = e ∙ rw (
      le-ltb (length out.links) (length (entries its.links)) (omega (arith, (few k ls g).links, entries_length its.links)),
      le-ltb (length out.spurs) (length (entries its.spurs)) (omega (arith, (few k ls g).spurs, entries_length its.spurs)),
      le-ltb (length out.loops) (length (entries its.loops)) (omega (arith, (few k ls g).loops, entries_length its.loops)),
      le-ltb (length out.run) (length (run_of its)) (omega (arith, (few k ls g).lines)),
    )

    answer_is : r ≡ drawn its
    answer_is = ap (λ (d : Drawing). d.answer) all_written

    -- nothing is refused
    pub none_refused : r.refusal.number ≡ 0
    none_refused = ap (λ (a : Sketched). a.refusal.number) answer_is

    -- the signed lines of all links, then of all spurs, then of all loops
    run_lies : LiesAt ((run_by its.links ++ run_by its.spurs) ++ run_by its.loops) out'.run 0
    unfolding run_of
    run_lies =
        subst (λ (l : List ℤ). LiesAt l out'.run 0)
        (run_both (its.links ++ its.spurs) its.loops
        ∙ ap (λ (l : List ℤ). l ++ run_by its.loops) (run_both its.links its.spurs))
        (written_lies (run_of its) out.run (ap (λ (d : Drawing). d.out.run) all_written))

    off_lie : LiesAt (run_by its.links ++ run_by its.spurs) out'.run 0
    off_lie = first_lies (run_by its.links ++ run_by its.spurs) (run_by its.loops) run_lies

    -- where the entries and the signed lines of each list are, after what was put before it
    pub links_entered : Entered its.links out'.links out'.run r.links 0 0
    links_entered = record {
      counted = omega (arith, ap (λ (a : Sketched). a.links) answer_is);
      numbers_lie = written_lies (entries its.links) out.links (ap (λ (d : Drawing). d.out.links) all_written);
      lines_lie = first_lies (run_by its.links) (run_by its.spurs) off_lie;
    }

    module _ {at : ℕ} {after_links : Place} {t t₁ : List ℕ}
        (p : EntriesPut kind.Link out'.links out'.run r.links (after_head at) after_links t t₁) where
      pub spurs_entered : Entered its.spurs out'.spurs out'.run r.spurs 0 after_links.run
      spurs_entered = record {
        counted = omega (arith, ap (λ (a : Sketched). a.spurs) answer_is);
        numbers_lie = written_lies (entries its.spurs) out.spurs (ap (λ (d : Drawing). d.out.spurs) all_written);
        lines_lie = rw (p.run_is its.links links_entered) (other_lies (run_by its.links) (run_by its.spurs) off_lie);
      }

      module _ {after_spurs : Place} {t₂ : List ℕ}
          (q : EntriesPut kind.Spur out'.spurs out'.run r.spurs after_links after_spurs t₁ t₂) where
        off_end : after_spurs.run ≡ 0 + length (run_by its.links ++ run_by its.spurs)
        off_end =
            omega (
              arith,
              p.run_is its.links links_entered,
              q.run_is its.spurs spurs_entered,
              length-append (run_by its.links) (run_by its.spurs),
            )

        pub loops_entered : Entered its.loops out'.loops out'.run r.loops 0 after_spurs.run
        loops_entered = record {
          counted = omega (arith, ap (λ (a : Sketched). a.loops) answer_is);
          numbers_lie = written_lies (entries its.loops) out.loops (ap (λ (d : Drawing). d.out.loops) all_written);
          lines_lie = rw off_end (other_lies (run_by its.links ++ run_by its.spurs) (run_by its.loops) run_lies);
        }

        -- the head and the three lists
        pub sketch_put : {t₀ t₃ : List ℕ} {after_loops : Place}
            → Put t₀ t 0 at (sketch_head_text k.marks k.lines r.links r.spurs r.loops)
            → EntriesPut kind.Loop out'.loops out'.run r.loops after_spurs after_loops t₂ t₃
            → Put t₀ t₃ 0 after_loops.text (sketch_text k ls)
        unfolding sketch_page
        sketch_put h l =
            (rw answer_is at h) then p.lines_put its.links links_entered then q.lines_put its.spurs spurs_entered
            then l.lines_put its.loops loops_entered
