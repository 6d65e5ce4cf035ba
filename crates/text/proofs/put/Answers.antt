use Rattle.std.proofs.Common.{refl}
use Rattle.text.proofs.Puts.{nothing_put, one_more, all_put}
use Rattle.text.proofs.put.Goals as goal

pub loop-byte-init : goal.loop-byte-init
loop-byte-init c = search nothing_put

pub loop-byte-preserved : goal.loop-byte-preserved
loop-byte-preserved c = search (one_more (λ s. s) (λ a b. refl))

pub returns : goal.returns
returns c = search (all_put (λ s. s) (λ a b. refl))
