use Rattle.std.proofs.Common.{◌≢◌, ◌++◌, ap, ◌∙◌, arith}
use Rattle.std.proofs.lemmas.Bool.Decides.{nat_tests}
use Rattle.bully_paint.specs.Marks.{is_whole}
use Rattle.bully_paint.proofs.TextLemmas.{painted-held, whole-more}
use Rattle.bully_paint.proofs.painted.Painted.holds.Goals as goal

pub invariant_of-self : goal.invariant_of-self
invariant_of-self g c =
    let other : c.args.byte ≢ 27 = grind (arith, nat_tests, c.if-byte-eq-ESCAPE.false) in
    record { whole = whole-more c.args.self.now.held.now c.in-Some.held.now c.args.byte other c.args.self.now.whole c.in-Some.ensures.longer }

pub returns-in-Some-clause-held : goal.returns-in-Some-clause-held
returns-in-Some-clause-held g c = λ taken.
    let other : c.args.byte ≢ 27 = grind (arith, nat_tests, c.if-byte-eq-ESCAPE.false) in
    let queue = c.args.self.now.queue.now in
    painted-held c.args.self.now.paints (g.W.Write.contents c.args.self.now.below) queue c.args.self.now.held.now queue c.in-Some.held.now c.args.byte c.requires.paints c.requires.queue other
    c.args.self.now.whole (ap is_whole c.requires.queue) (ap (λ l. l ++ c.in-Some.held.now) c.requires.queue ∙ c.in-Some.ensures.longer)
