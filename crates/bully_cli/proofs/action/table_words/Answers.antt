use Rattle.clap.specs.Words.{found_of}
use Rattle.bully_cli.proofs.ActionLemmas.{no-config-found, no-member-found, words-found}
use Rattle.bully_cli.proofs.action.table_words.Goals as goal

pub returns-in_default : goal.returns-in_default
returns-in_default c = no-config-found (found_of c.args.found.now) c.value.result c.value.ensures c.in_default.is

pub returns-in_default-get_strs : goal.returns-in_default-get_strs
returns-in_default-get_strs c = no-member-found (found_of c.args.found.now) c.get_strs.result c.get_strs.ensures c.in_default-get_strs.is

pub returns : goal.returns
returns c =
    words-found (found_of c.args.found.now) c.value.result c.get_strs.result c.in-Some.config c.in-Some-get_strs.members _ c.value-2.result c.value-3.result
    c.value.ensures c.in-Some.is c.get_strs.ensures c.in-Some-get_strs.is c.in_ok-from_slice.ensures.items c.value-2.ensures c.value-3.ensures
