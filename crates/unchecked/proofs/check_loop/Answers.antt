-- `check_loop` marks the closing line itself and what `follow` marks from its two ends. Assumes nothing.
use Rattle.std.proofs.Common.{length-set}
use Rattle.unchecked.proofs.Marking.{from_mark, to_mark, loop_checked}
use Rattle.unchecked.proofs.check_loop.Goals as goal

pub follow-requires : goal.follow-requires
follow-requires c =
    let p = c.requires in record {
      marks = simp length-set p.marks;
      n = p.n;
      bests = p.bests;
      lines = p.lines;
      held = p.held;
      u_is = from_mark p.held p.c p.is_line p.its;
      v_is = to_mark p.held p.c p.is_line p.its;
    }

pub returns-clause-loop_checked : goal.returns-clause-loop_checked
returns-clause-loop_checked c = λ n lines t l i e. loop_checked t l i e _ c.follow.new.marked c.requires.marks c.follow.ensures.followed
