use Rattle.bully_paint.proofs.TextLemmas.{keeps_none, keeps_refl, moved-next, moved-none, moved-zero, taken-less}
use Rattle.bully_paint.proofs.pieces.put.Goals as goal

pub loop-below-init : goal.loop-below-init
loop-below-init g c = keeps_refl _

pub loop-below-preserved : goal.loop-below-preserved
loop-below-preserved g c = moved-next _ _ _ c.loop-below.rest.now c.in-Ok.count c.loop-below.invariant c.in-Ok.ensures.bytes

pub loop-below-smaller : goal.loop-below-smaller
loop-below-smaller g c = taken-less c.loop-below.rest.now c.in-Ok.count c.in-Ok.count-test.1 c.in-Ok.ensures.bound

pub returns-in-Ok-eq0-clause-bytes : goal.returns-in-Ok-eq0-clause-bytes
returns-in-Ok-eq0-clause-bytes g c =
    moved-zero _ _ _ c.loop-below.rest.now c.in-Ok-eq0.field-0 c.in-Ok-eq0.field-0-test c.loop-below.invariant c.in-Ok-eq0.ensures.bytes

pub returns-in-Err-clause-bytes : goal.returns-in-Err-clause-bytes
returns-in-Err-clause-bytes g c = moved-none _ _ _ c.loop-below.rest.now c.loop-below.invariant (keeps_none _ _ c.in-Err.ensures.bytes)

pub returns-clause-bytes : goal.returns-clause-bytes
returns-clause-bytes g c = c.loop-below.invariant
