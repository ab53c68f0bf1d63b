use Rattle.std.proofs.Common.{sym, arith}
use Rattle.csv.specs.Records.{fields_of}
use Rattle.csv.proofs.RecordFacts.{field-there}
use Rattle.bully_account.proofs.LineLemmas.{feeds-more}
use Rattle.bully_account.proofs.tail.before_feeds.Goals as goal
use Rattle.bully_account.proofs.tail.before_feeds.Goals.{in-Some, in-None}

pub loop-place-preserved : goal.loop-place-preserved
loop-place-preserved c =
    let fields = fields_of c.args.fields.now in
    elim c.match-get.branch [
      | in-Some w ↦ record {
        first = feeds-more c.args.line c.loop-place.first c.match-get.first c.loop-place.place fields w.in-Some.field.now
            (omega (arith, c.loop-place-test.true, c.loop-place.invariant.end)) (sym w.in-Some.ensures.value) c.loop-place.invariant.first
            (grind (arith, w.first-is, w.saturating_sub-first.ensures, w.feeds.ensures));
        end = c.loop-place.invariant.end;
      }
      | in-None w ↦ absurd (field-there fields c.loop-place.place (omega (arith, c.loop-place-test.true, c.loop-place.invariant.end)) (sym w.in-None.ensures.value))
    ]
