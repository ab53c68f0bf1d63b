use Rattle.std.proofs.Common.{◌<◌, ◌∙◌, [], List, ℕ, ap, get_or, length, refl, subst, sym, arith}
use Rattle.std.proofs.lemmas.Bool.Decides.{nat_tests}
use Rattle.bully_paint.specs.Painted.{brush_of, out_of, text_in}
use Rattle.bully_paint.specs.Strokes.{goes_within}
use Rattle.bully_paint.proofs.StrokeLemmas.{Goes, goes-begun, goes-behind, goes-passed, ok-goes}
use Rattle.bully_paint.proofs.TextLemmas.{keeps_first, keeps_keeps, keeps_same, keeps_writes}
use Rattle.bully_paint.proofs.painted.Painted.paint.Goals as goal

pub returns-then-goes_on-clause-painted : goal.returns-then-goes_on-clause-painted
returns-then-goes_on-clause-painted g c = λ one.
    goes-behind (out_of c.args.self.now) (out_of c.drain.new.self) (out_of c.goes_on.new.self) (brush_of c.args.self.now) (brush_of c.drain.new.self) (brush_of c.goes_on.new.self)
    (get_or c.args.bytes.now 0 0) c.in_ok-drain.ensures.out c.in_ok-drain.ensures.brush (c.if-goes_on.ensures.painted refl)

pub returns-then-holds-clause-bytes : goal.returns-then-holds-clause-bytes
returns-then-holds-clause-bytes g c =
    let first = c.args.self.now in
    let some : 0 < length c.args.bytes.now = grind (arith, nat_tests, c.if-is_empty.false, c.is_empty.ensures) in
    let on = keeps_same text_in first c.drain.new.self c.goes_on.new.self c.in_ok-drain.ensures.text (c.if-goes_on.ensures.free refl) in
    let released = keeps_keeps _ _ _ on c.release.ensures.text in
    let drained = keeps_keeps _ _ _ released c.in_ok-drain-2.ensures.text in
    keeps_first _ _ _ c.args.bytes.now some drained (c.if-holds.ensures.held refl)

pub returns-then-holds-clause-painted : goal.returns-then-holds-clause-painted
returns-then-holds-clause-painted g c = λ one.
    let first = c.args.self.now in
    let b = get_or c.args.bytes.now 0 0 in
    let here = c.goes_on.new.self in
    let same = c.if-goes_on.ensures.free refl in
    let other = c.if-goes_on.ensures.other refl in
    goes-begun (out_of first) (out_of here) (out_of c.release.new.self) (out_of c.drain-2.new.self) (out_of c.holds.new.self)
    (brush_of first) (brush_of here) (brush_of c.release.new.self) (brush_of c.drain-2.new.self) (brush_of c.holds.new.self) b
    (keeps_same out_of first c.drain.new.self here c.in_ok-drain.ensures.out same) (ap brush_of same ∙ c.in_ok-drain.ensures.brush) other.0 other.1
    (subst (λ (out : List ℕ). Goes (out_of here) (out_of c.release.new.self) (brush_of c.release.new.self) (record { out = out; brush = record { held = []; within = goes_within here.within here.held.now } }))
    c.ending-out.ensures.out c.release.ensures.painted)
    c.in_ok-drain-2.ensures.out c.in_ok-drain-2.ensures.brush (sym c.if-holds.ensures.joins) (c.if-holds.ensures.painted refl)

pub returns-clause-bytes : goal.returns-clause-bytes
returns-clause-bytes g c =
    let first = c.args.self.now in
    let on = keeps_same text_in first c.drain.new.self c.goes_on.new.self c.in_ok-drain.ensures.text (c.if-goes_on.ensures.free refl) in
    let released = keeps_keeps _ _ _ on c.release.ensures.text in
    let drained = keeps_keeps _ _ _ released c.in_ok-drain-2.ensures.text in
    let passed = keeps_same text_in first c.drain-2.new.self c.holds.new.self drained (c.if-holds.ensures.free refl) in
    keeps_writes _ _ _ c.pass.result c.args.bytes.now passed c.pass.ensures.bytes

pub returns-clause-painted : goal.returns-clause-painted
returns-clause-painted g c =
    let first = c.args.self.now in
    let b = get_or c.args.bytes.now 0 0 in
    let here = c.goes_on.new.self in
    let same = c.if-goes_on.ensures.free refl in
    let other = c.if-goes_on.ensures.other refl in
    ok-goes c.pass.result _ _ (λ goes.
    goes-passed (out_of first) (out_of here) (out_of c.release.new.self) (out_of c.holds.new.self) (out_of c.pass.new.self)
    (brush_of first) (brush_of here) (brush_of c.release.new.self) (brush_of c.drain-2.new.self) (brush_of c.pass.new.self) b
    (keeps_same out_of first c.drain.new.self here c.in_ok-drain.ensures.out same) (ap brush_of same ∙ c.in_ok-drain.ensures.brush) other.0 other.1
    (subst (λ (out : List ℕ). Goes (out_of here) (out_of c.release.new.self) (brush_of c.release.new.self) (record { out = out; brush = record { held = []; within = goes_within here.within here.held.now } }))
    c.ending-out.ensures.out c.release.ensures.painted)
    (keeps_same out_of c.release.new.self c.drain-2.new.self c.holds.new.self c.in_ok-drain-2.ensures.out (c.if-holds.ensures.free refl))
    c.in_ok-drain-2.ensures.brush (sym c.if-holds.ensures.joins) goes)
    c.pass.ensures.painted
