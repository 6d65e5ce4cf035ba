use native.Mathlib.Omega.{arith}
use Rattle.unchecked.proofs.Marking.{follows_turn, followed_met, distance_falls, follows_rest, followed_rest, followed_turn}
use Rattle.unchecked.proofs.+follow.Goals as goal

pub returns-then-key_u-key_v-clause-followed : goal.returns-then-key_u-key_v-clause-followed
returns-then-key_u-key_v-clause-followed t c = followed_met c.requires (omega arith)

pub follow-requires : goal.follow-requires
follow-requires t c =
    let p = follows_turn c.requires in
    let by = c.climb-nearer.ensures in
    (omega (arith, c.decreases, distance_falls p (omega arith) by), follows_rest p (omega arith) by)

pub follow-requires-else-key_u-key_v-2 : goal.follow-requires-else-key_u-key_v-2
follow-requires-else-key_u-key_v-2 t c =
    let p = c.requires in
    let by = c.climb-nearer-else-key_u-key_v-2.ensures in
    (omega (arith, c.decreases, distance_falls p (omega arith) by), follows_rest p (omega arith) by)

pub returns-then-key_u-key_v-2-clause-followed : goal.returns-then-key_u-key_v-2-clause-followed
returns-then-key_u-key_v-2-clause-followed t c =
    followed_turn (follows_turn c.requires) (omega arith) c.climb-nearer.ensures c.follow.new.marked c.follow.ensures.followed

pub returns-else-key_u-key_v-2-clause-followed : goal.returns-else-key_u-key_v-2-clause-followed
returns-else-key_u-key_v-2-clause-followed t c =
    let f = c.follow-else-key_u-key_v-2 in
    followed_rest c.requires (omega arith) c.climb-nearer-else-key_u-key_v-2.ensures f.new.marked f.ensures.followed
