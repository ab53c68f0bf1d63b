-- With the names that are left, the set so far comes to the set of all of them.
use Rattle.std.proofs.Common.{◌≡◌, drop, map}
use Rattle.bully.proofs.MemberLemmas.{named_onto}
use Rattle.bully.specs.Wanted.{members_named}
use Rattle.bully.proofs.tables.members_of.Given as goal

abbrev pub invariant-loop-name : goal.invariant-loop-name
invariant-loop-name l = named_onto l.config.names (map (λ s. s.now) (drop l.name-index l.names)) l.members ≡ members_named l.config.names (map (λ s. s.now) l.names)
