use Rattle.std.proofs.Common.{◌≡◌, ◌≢◌, ◌∷◌, ◌≤◌, [], get_or, refl, sym, ap, ◌∙◌, length-take, arith}
use Rattle.std.proofs.lemmas.Bool.Decides.{nat_tests}
use Rattle.bully_paint.proofs.TextLemmas.{first-byte, front-text, front-whole, painted-queued, painted-sent}
use Rattle.bully_paint.proofs.painted.Painted.pass.Goals as goal

pub returns-then-byte-eq-ESCAPE-clause-bytes : goal.returns-then-byte-eq-ESCAPE-clause-bytes
returns-then-byte-eq-ESCAPE-clause-bytes g c =
    let bytes = c.args.bytes.now in
    let escape : get_or bytes 0 0 ≡ 27 = grind (arith, nat_tests, c.if-byte-eq-ESCAPE.true) in
    painted-queued c.args.self.now.paints (g.W.Write.contents c.args.self.now.below) c.args.self.now.queue.now c.args.self.now.held.now (27 ∷ 27 ∷ 91 ∷ 48 ∷ 109 ∷ []) _
    c.requires.paints c.requires.queue c.requires.held refl (sym (first-byte bytes c.requires.some ∙ ap (λ b. b ∷ []) escape))

pub returns-then-count-gt0-clause-bytes : goal.returns-then-count-gt0-clause-bytes
returns-then-count-gt0-clause-bytes g c =
    let bytes = c.args.bytes.now in
    let n = c.in_ok-count.count in
    let other : get_or bytes 0 0 ≢ 27 = grind (arith, nat_tests, c.if-byte-eq-ESCAPE.false) in
    let size = length-take 1 bytes in
    let fits = c.in_ok-count.ensures.bound in
    let most : n ≤ 1 = grind (arith, fits, size) in
    painted-sent c.args.self.now.paints _ _ c.args.self.now.queue.now c.args.self.now.held.now _ _ c.requires.paints c.requires.queue c.requires.held
    c.in_ok-count.ensures.bytes (front-whole bytes n c.requires.some other most) (front-text bytes n c.requires.some other most)

pub returns-then-count-gt0-clause-one : goal.returns-then-count-gt0-clause-one
returns-then-count-gt0-clause-one g c =
    let size = length-take 1 c.args.bytes.now in
    let fits = c.in_ok-count.ensures.bound in
    grind (arith, fits, size)
