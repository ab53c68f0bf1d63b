use Rattle.std.proofs.Common.{rules, ap, ◌∙◌}
use Rattle.bully_member.proofs.ReadLemmas.{read_lem}
use Rattle.bully_member.proofs.member.Member.snapshot_read.Goals as goal
use Rattle.bully_member.specs.Told.{with_arrivals}

pub returns-clause-read : goal.returns-clause-read
returns-clause-read c = read_lem c.note_here.result c.args.self.now c.note_arrivals.new.self c.note_here.new.self c.args.now c.args.epoch c.args.leases.items c.args.has_unknown c.args.has_request
    (search (rules)) (search (rules)) (c.note_arrivals.ensures ∙ ap (with_arrivals c.args.self.now c.args.now) c.deref.ensures.value) c.note_here.ensures.found
