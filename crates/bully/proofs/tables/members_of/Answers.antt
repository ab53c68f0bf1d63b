use Rattle.std.proofs.Common.{◌∙◌, ap, map}
use Rattle.bully.proofs.MemberLemmas.{named_onto, onto-none}
use Rattle.bully.proofs.tables.members_of.Goals as goal

pub loop-name-init : goal.loop-name-init
loop-name-init c =
    ap (named_onto c.args.config.now.names (map (λ s. s.now) c.args.names.now)) c.new-members.ensures
    ∙ onto-none c.args.config.now.names (map (λ s. s.now) c.args.names.now)
