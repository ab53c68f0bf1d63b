use Rattle.std.proofs.Common.{sym}
use Rattle.clap.specs.Words.{found_of}
use Rattle.bully_cli.proofs.ActionLemmas.{value_is}
use Rattle.bully_cli.proofs.action.value.Goals as goal

pub returns : goal.returns
returns c = sym (value_is (found_of c.args.found.now) c.args.name.now c.get_str.result c.get_str.ensures)
