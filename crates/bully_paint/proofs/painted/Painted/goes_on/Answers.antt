use Rattle.std.proofs.Common.{◌≡◌, ◌∙◌, false, ap, refl, sym}
use Rattle.bully_paint.specs.Painted.{brush_of, out_of}
use Rattle.bully_paint.specs.Strokes.{joins}
use Rattle.bully_paint.proofs.StrokeLemmas.{goes-behind, goes-held, goes-titled}
use Rattle.bully_paint.proofs.TextLemmas.{keeps_refl, keeps_same}
use Rattle.bully_paint.proofs.painted.Painted.goes_on.Goals as goal

pub returns-then-holds-clause-painted : goal.returns-then-holds-clause-painted
returns-then-holds-clause-painted g c = λ taken.
    goes-held (out_of c.args.self.now) (out_of c.holds.new.self) (brush_of c.args.self.now) (brush_of c.holds.new.self) c.args.byte (sym c.if-holds.ensures.joins) (c.if-holds.ensures.painted refl)

pub returns-clause-painted : goal.returns-clause-painted
returns-clause-painted g c = λ taken.
    let same = c.if-holds.ensures.free refl in
    let none : joins (brush_of c.holds.new.self) c.args.byte ≡ false = ap (λ p. joins (brush_of p) c.args.byte) same ∙ sym c.if-holds.ensures.joins in
    goes-behind (out_of c.args.self.now) (out_of c.holds.new.self) (out_of c.holds_title.new.self) (brush_of c.args.self.now) (brush_of c.holds.new.self) (brush_of c.holds_title.new.self) c.args.byte
    (keeps_same out_of c.args.self.now c.args.self.now c.holds.new.self (keeps_refl (out_of c.args.self.now)) same) (ap brush_of same)
    (goes-titled (out_of c.holds.new.self) (out_of c.holds_title.new.self) (brush_of c.holds.new.self) (brush_of c.holds_title.new.self) c.args.byte none
    (sym c.holds_title.ensures.joins ∙ taken) (c.holds_title.ensures.painted taken))
