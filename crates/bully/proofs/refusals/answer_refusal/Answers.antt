use Rattle.std.proofs.Common.{inl, sym, ap, subst}
use Rattle.bully.specs.Answer.{Tells}
use Rattle.bully.specs.RefusalText.{refusal_line, refusal_status}
use Rattle.bully.proofs.refusals.answer_refusal.Goals as goal

pub returns-in-Member : goal.returns-in-Member
returns-in-Member g c = inl (
  sym (ap refusal_status c.in-Member.is),
  subst (λ r. Tells (g.E.Write.contents c.args.errors.now) (g.E.Write.contents c.tell.new.errors) (refusal_line r)) (sym c.in-Member.is) c.tell.ensures,
)
