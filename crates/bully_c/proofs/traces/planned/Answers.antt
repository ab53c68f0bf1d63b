use Rattle.std.proofs.Common.{◌≡◌, arith, inl, inr, refl, subst}
use Rattle.bully_base.specs.Setup.{IsSetup, Setup}
use Rattle.bully_c.specs.Arguments.{AreGiven}
use Rattle.bully_c.proofs.SetLemmas.{nobody}
use Rattle.bully_c.proofs.traces.planned.Goals as goal

pub returns-in-Err-NoMember-clause-err : goal.returns-in-Err-NoMember-clause-err
returns-in-Err-NoMember-clause-err c =
    let is = c.in_ok-setup.ensures.ok in
    let within = subst IsSetup is c.in_ok-setup.ensures.within in
    let count : c.args.count ≡ c.in_ok-setup.setup.partitions = grind (arith, c.if-count-from.false, c.from.ensures, c.partitions.ensures.partitions) in
    let room = subst (λ (s : Setup). c.args.count ≡ s.partitions) is count in
    let old = subst (λ (s : Setup). AreGiven s c.args.old.now) is c.in_ok-old.ensures.owners in
    let none = c.in-Err-NoMember.ensures.no_member.0 c.in-Err-NoMember.field-0-is in
    inr (inr (inr (inr (inl (refl, within, room, old, nobody c.args.members.now _ c.in_ok-members.ensures.set none)))))
