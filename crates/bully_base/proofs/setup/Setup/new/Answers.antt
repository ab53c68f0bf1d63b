use Rattle.std.proofs.Common.{◌≡◌, ℕ, ◌≤◌, take, replicate, ap, arith, ◌∙◌, sym}
use Rattle.bully_base.specs.declared.TheConstants.{NODES_MAX}
use Rattle.bully_base.specs.Setup.{Limits}
use Rattle.bully_base.proofs.SetupLemmas.{ones-within, even-written}
use Rattle.bully_base.proofs.setup.Setup.new.Goals as goal

pub of-requires : goal.of-requires
of-requires c =
    let same : c.from.result ≡ c.in_ok-limits.limits.nodes = c.from.ensures ∙ sym (ap (λ (l : Limits). l.nodes) c.in_ok-limits.ensures.numbers) in
    ones-within c.in_ok-limits.limits.nodes _ c.in_ok-limits.ensures.within.nodes.1 (ap (λ (k : ℕ). take k (replicate NODES_MAX 1)) same)

pub returns-clause-numbers : goal.returns-clause-numbers
returns-clause-numbers c =
    let same : c.in_ok-limits.limits.nodes ≡ c.args.nodes = ap (λ (l : Limits). l.nodes) c.in_ok-limits.ensures.numbers in
    let within : c.args.nodes ≤ NODES_MAX = omega (arith, same, c.in_ok-limits.ensures.within.nodes.1) in
    c.of.ensures.numbers ∙ even-written c.in_ok-limits.limits c.args.nodes c.args.partitions c.args.events_max _ c.in_ok-limits.ensures.numbers within (ap (λ (k : ℕ). take k (replicate NODES_MAX 1)) c.from.ensures)
