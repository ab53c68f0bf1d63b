-- The text is cut at its first comma.
use Rattle.bully_lines.proofs.LineLemmas.{first_part, last_part, no_part, whole_part}
use Rattle.bully_lines.proofs.fields.first_field.Goals as goal

pub returns-in-Some-clause-first : goal.returns-in-Some-clause-first
returns-in-Some-clause-first c = first_part c.args.text.now c.split_once.result c.split_once.ensures.cases c.in-Some.parts c.in-Some.is

pub returns-in-Some-clause-rest : goal.returns-in-Some-clause-rest
returns-in-Some-clause-rest c = last_part c.args.text.now c.split_once.result c.split_once.ensures.cases c.in-Some.parts c.in-Some.is

pub returns-in-None-clause-first : goal.returns-in-None-clause-first
returns-in-None-clause-first c = whole_part c.args.text.now c.split_once.result c.split_once.ensures.cases c.in-None.is

pub returns-in-None-clause-rest : goal.returns-in-None-clause-rest
returns-in-None-clause-rest c = no_part c.args.text.now c.split_once.result c.split_once.ensures.cases c.in-None.is
