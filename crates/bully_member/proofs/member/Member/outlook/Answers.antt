use Rattle.std.proofs.Common.{rules, ◌≡◌, ◌↔◌, ◌+◌, ℕ, Contains, subst, sym}
use Rattle.std.specs.Option.{option_copied}
use Rattle.bully_base.specs.NodeSet.{IsFallingBelow}
use Rattle.bully_member.proofs.LiveLemmas.{admitted_falls, live_falls}
use Rattle.bully_member.proofs.member.Member.outlook.Goals as goal
use Rattle.bully_member.specs.Member.{IsAffected, live_of, replica_of}

pub coming_table-requires : goal.coming_table-requires
coming_table-requires c =
    let m = c.args.self.now in
    let s = (replica_of m).world.setup in
    subst (IsFallingBelow (s.nodes + 1)) (sym c.admitted_among-group.ensures) (admitted_falls m c.args.now s c.args.leases.now c.requires)

pub returns-clause-foreseen : goal.returns-clause-foreseen
returns-clause-foreseen c =
    let m = c.args.self.now in
    let s = (replica_of m).world.setup in
    let leases = c.args.leases.now in
    record {
      falling = subst (IsFallingBelow (s.nodes + 1)) (sym c.admitted_among-group.ensures) (admitted_falls m c.args.now s leases c.requires);
      live = live_falls s leases c.requires;
      comes = search (rules);
      affects = λ i. subst (λ coming. Contains c.affected_by-affected.result i ↔ IsAffected m.terms.is_cooperative (replica_of m) leases coming i) (search (rules, c.as_ref.ensures)) (c.affected_by-affected.ensures leases c.live_of.ensures i);
    }
