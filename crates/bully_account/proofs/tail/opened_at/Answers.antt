use Rattle.std.proofs.Common.{arith, sym}
use Rattle.csv.specs.Records.{fields_of}
use Rattle.bully_account.proofs.LineLemmas.{last-feeds, last-none}
use Rattle.bully_account.proofs.tail.opened_at.Goals as goal

pub returns-in-Some : goal.returns-in-Some
returns-in-Some c =
    let last = last-feeds (fields_of c.args.fields.now) c.saturating_sub.result c.in-Some.field.now (omega (arith, c.saturating_sub.ensures, c.len.ensures)) (sym c.in-Some.ensures.value) in
    grind (arith, c.saturating_sub-in-Some.ensures, c.feeds.ensures, last)

pub returns-in-None : goal.returns-in-None
returns-in-None c =
    let none = last-none (fields_of c.args.fields.now) c.saturating_sub.result (omega (arith, c.saturating_sub.ensures, c.len.ensures)) (sym c.in-None.ensures.value) in
    omega (arith, none)
