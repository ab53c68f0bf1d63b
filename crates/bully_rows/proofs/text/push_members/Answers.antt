use Rattle.std.proofs.Common.{◌≡◌, ◌+◌, sym, arith, rules, append-nil}
use Rattle.std.specs.String.{string_bytes}
use Rattle.bully_base.specs.declared.TheConstants.{NODES_MAX}
use Rattle.bully_rows.proofs.SetTextLemmas.{below-first, below-highest}
use Rattle.bully_rows.proofs.text.push_members.Goals as goal

pub loop-before-init : goal.loop-before-init
loop-before-init c = record {
  text = rw (below-first (NODES_MAX + 1) c.args.set.now c.requires.falling) (sym (append-nil (string_bytes c.args.text.now)));
  end = search rules;
}

pub returns : goal.returns
returns c =
    let end : c.loop-before.before ≡ c.args.highest = omega (arith, c.loop-before-test.false, c.loop-before.invariant.end, c.loop-before.auto.before-end) in
    let all = below-highest (NODES_MAX + 1) c.args.highest c.args.set.now c.requires.falling c.requires.highest in
    rw (end, all) at c.loop-before.invariant.text
