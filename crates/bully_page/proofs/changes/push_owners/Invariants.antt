use Rattle.std.proofs.Common.{◌≡◌, length, take}
use Rattle.bully_page.specs.Page.{owners_text}
use Rattle.bully_picture.specs.Written.{Writes}
use Rattle.bully_page.proofs.changes.push_owners.Given as goal

abbrev pub invariant-loop-place : goal.invariant-loop-place
invariant-loop-place l = record {
  owners : Writes l.initial.page l.page (owners_text (take l.place l.table));
  end : l.place-end ≡ length l.table;
}
