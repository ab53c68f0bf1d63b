use Rattle.std.proofs.Common.{◌≡◌, Some, rules}
use Rattle.bully_trace.specs.Details.{said_of}
use Rattle.bully_world.specs.State.{world_of}
use Rattle.bully_annotate.proofs.saying.push_said.Goals as goal

pub returns-in-Some : goal.returns-in-Some
returns-in-Some c =
    let is : said_of c.args.world.now.setup (world_of c.args.world.now) c.args.event.now ≡ Some c.in-Some.detailed = search rules in
    rw is c.push_detailed.ensures
