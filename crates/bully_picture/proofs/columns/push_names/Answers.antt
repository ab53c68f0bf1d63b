use Rattle.std.proofs.Common.{◌≡◌, ap, arith}
use Rattle.bully_picture.specs.Told.{names_text}
use Rattle.bully_picture.proofs.ColumnLemmas.{names-more}
use Rattle.bully_picture.proofs.WrittenLemmas.{writes-as, writes-nothing, writes-then}
use Rattle.bully_picture.proofs.columns.push_names.Goals as goal

pub loop-before-init : goal.loop-before-init
loop-before-init c = writes-nothing c.args.lines.now

pub loop-before-preserved : goal.loop-before-preserved
loop-before-preserved c = writes-as (names-more c.args.form c.loop-before.before) (writes-then c.loop-before.invariant c.push_name.ensures)

pub returns : goal.returns
returns c = let all : c.loop-before.before ≡ c.args.nodes = omega arith in writes-as (ap (names_text c.args.form) all) c.loop-before.invariant
