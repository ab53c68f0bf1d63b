use Rattle.std.proofs.Common.{◌≢◌, ◌++◌, codes, refl, arith}
use Rattle.std.proofs.lemmas.Bool.Decides.{nat_tests}
use Rattle.bully_paint.proofs.TextLemmas.{painted-held, whole-more}
use Rattle.bully_paint.proofs.painted.Painted.holds_title.Goals as goal

pub invariant_of-self : goal.invariant_of-self
invariant_of-self g c =
    let other : c.args.byte ≢ 27 = grind (arith, nat_tests, c.if-byte-eq-ESCAPE.false) in
    record { whole = whole-more c.args.self.now.held.now (codes "the " ++ c.in-Some.title.now) c.args.byte other c.args.self.now.whole c.in-Some.ensures.title }

pub returns-in-Some-clause-held : goal.returns-in-Some-clause-held
returns-in-Some-clause-held g c = λ taken.
    let other : c.args.byte ≢ 27 = grind (arith, nat_tests, c.if-byte-eq-ESCAPE.false) in
    painted-held c.args.self.now.paints (g.W.Write.contents c.args.self.now.below) c.args.self.now.queue.now c.args.self.now.held.now (codes "the ") c.in-Some.title.now c.args.byte
    c.requires.paints c.requires.queue other c.args.self.now.whole refl c.in-Some.ensures.title
