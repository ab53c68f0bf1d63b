use Rattle.std.proofs.Common.{◌≡◌, ◌-◌, length, take}
use Rattle.csv.specs.Records.{fields_of}
use Rattle.bully_account.specs.Tail.{feeds_within}
use Rattle.bully_account.proofs.tail.before_feeds.Given as goal

abbrev pub invariant-loop-place : goal.invariant-loop-place
invariant-loop-place l = record {
  first : l.first ≡ l.line - feeds_within (take l.place (fields_of l.fields));
  end : l.place-end ≡ length (fields_of l.fields);
}
