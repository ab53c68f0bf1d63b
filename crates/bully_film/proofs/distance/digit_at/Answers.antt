use Rattle.std.proofs.Common.{◌-◌, ◌<◌, length, refl, arith}
use Rattle.bully_film.proofs.DistanceLemmas.{digit-bounds, digit-within}
use Rattle.bully_film.proofs.distance.digit_at.Goals as goal

pub overflow_sub-result-else-place-zeros : goal.overflow_sub-result-else-place-zeros
overflow_sub-result-else-place-zeros c =
    let i = c.args.place - (c.args.places - length c.args.number.now) in
    let within : i < length c.args.number.now = omega (arith, c.requires.fits, c.requires.place, c.if-place-zeros.false) in
    (digit-bounds c.args.number.now i c.requires.number within).0

pub returns-else-place-zeros-clause-below : goal.returns-else-place-zeros-clause-below
returns-else-place-zeros-clause-below c =
    let i = c.args.place - (c.args.places - length c.args.number.now) in
    let within : i < length c.args.number.now = omega (arith, c.requires.fits, c.requires.place, c.if-place-zeros.false) in
    let bounds = digit-bounds c.args.number.now i c.requires.number within in
    omega (arith, bounds.0, bounds.1)

pub returns-else-place-zeros-clause-next : goal.returns-else-place-zeros-clause-next
returns-else-place-zeros-clause-next c = digit-within c.args.number.now c.args.places c.args.place _ c.requires.fits c.requires.place c.if-place-zeros.false refl
