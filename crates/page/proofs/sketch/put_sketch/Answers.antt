use Rattle.std.proofs.Common.{rules}
use Rattle.book.proofs.Refusals.{told_from_1}
use Rattle.page.proofs.Sketched.{none_refused, links_entered, spurs_entered, loops_entered, sketch_put}
use Rattle.page.proofs.sketch.put_sketch.Goals as goal

-- there is room for the most entries that there can be
pub unreachable-requires : goal.unreachable-requires
unreachable-requires c =
    told_from_1 c.in_default.field-0
    (none_refused _ _ c.requires _ (search rules) (search rules) (search rules) (search rules) c.in_default.ensures)

pub put_entries-after_links-requires : goal.put_entries-after_links-requires
put_entries-after_links-requires c = record {
  links = _;
  entered = links_entered _ _ c.requires _ (search rules) (search rules) (search rules) (search rules) c.in-Ok.ensures;
}

pub put_entries-after_spurs-requires : goal.put_entries-after_spurs-requires
put_entries-after_spurs-requires c = record {
  links = _;
  entered = spurs_entered _ _ c.requires _ (search rules) (search rules) (search rules) (search rules) c.in-Ok.ensures
      c.put_entries-after_links.ensures;
}

pub put_entries-after_loops-requires : goal.put_entries-after_loops-requires
put_entries-after_loops-requires c = record {
  links = _;
  entered = loops_entered _ _ c.requires _ (search rules) (search rules) (search rules) (search rules) c.in-Ok.ensures
      c.put_entries-after_links.ensures c.put_entries-after_spurs.ensures;
}

pub returns : goal.returns
returns c =
    sketch_put _ _ c.requires _ (search rules) (search rules) (search rules) (search rules) c.in-Ok.ensures
    c.put_entries-after_links.ensures c.put_entries-after_spurs.ensures c.head_text-text.ensures c.put_entries-after_loops.ensures
