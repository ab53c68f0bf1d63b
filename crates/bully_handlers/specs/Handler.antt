-- What a call does at its callee, and what it is answered: the five calls of the 1982 paper.
use Rattle.std.specs.Prelude.{ℕ, List, Option, Some, ◌&&◌, if◌then◌else◌}
use Rattle.bully_base.specs.declared.node.Status.TheVariants.{Election, Reorganization, Normal}
use Rattle.bully_calls.specs.declared.call.Answer.{Answer}
use Rattle.bully_calls.specs.declared.call.Answer.TheVariants.{Yes, No}
use Rattle.bully_calls.specs.declared.call.CallKind.{CallKind}
use Rattle.bully_calls.specs.declared.call.CallKind.TheVariants.{AreYouUp, AreYouNormal, Halt, NewCoordinator, Ready}
use Rattle.bully_handlers.specs.Vector.{Vector, is_election, is_reorganization, is_normal, names}

-- the callee's vector after a call from node i, with the table that a Ready carries
abbrev pub callee_after : ℕ → CallKind → Option (List ℕ) → Vector → Vector
callee_after i AreYouUp table v = v
callee_after i AreYouNormal table v = v
callee_after i Halt table v = record v { status = Election; halter = Some i }
callee_after i NewCoordinator table v =
    if names v.halter i && is_election v.status then record v { status = Reorganization; coordinator = Some i } else v
callee_after i Ready table v =
    if names v.coordinator i && is_reorganization v.status then record v { status = Normal; task = table } else v

-- what the callee answers
abbrev pub reply : CallKind → Vector → Answer
reply AreYouUp v = Yes
reply AreYouNormal v = if is_normal v.status then Yes else No
reply Halt v = Yes
reply NewCoordinator v = Yes
reply Ready v = Yes
