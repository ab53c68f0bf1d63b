-- What the rows that were taken say of their worlds, and what a start leaves.
use Rattle.std.proofs.Common.{◌≡◌, ℕ, ◌+◌, List, [], Some, None, length, refl, sym, subst, IsSome, option_map}
use Rattle.std.specs.Prelude.{⊤}
use Rattle.bully_base.specs.Setup.{Setup}
use Rattle.bully_calls.specs.declared.call.Answer.{Answer}
use Rattle.bully_calls.specs.declared.event.Event.{Event}
use Rattle.bully_rows.specs.declared.trace.Row.{Row}
use Rattle.bully_trace.specs.Details.{call_at}
use Rattle.bully_trace.specs.Judging.{HasJudged, IsJudgedOn, JudgeState}
use Rattle.bully_trace.specs.Verdict.{events_of}
use Rattle.bully_trace.specs.declared.verdict.Verdict.{Verdict}
use Rattle.bully_trace.proofs.JudgeLemmas.{judged-all, judged_leads}
use Rattle.bully_world.specs.NodeInvariant.{WorldInvariant}
use Rattle.bully_world.specs.State.{world_of}
use Rattle.bully_world.specs.Step.{Step, sent}
use Rattle.bully_world.specs.World.{NodeState, World, first_world, node_state, vector}
use Rattle.bully_world.proofs.NodeInvariantLemmas.{first_fits, lead_fits}
use Rattle.bully_world.proofs.NodeStateLemmas.{node_of_up, node_state_here}
use Rattle.bully_account.specs.RowsOf.{IsBehind}

-- rows none of which decided lead to the judge's world
pub judge-behind : (setup : Setup) (rows : List Row) (judge : JudgeState) → judge.stopped ≡ None → HasJudged setup rows judge → IsBehind setup rows (world_of judge.world)
judge-behind setup rows judge going judged =
    let verdict = Verdict.Lawful judge.world.events in
    let on : IsJudgedOn judge.world judge.stopped (length rows + 2) [] verdict (world_of judge.world) = rw going (refl, refl) in
    (judge.world.events, judged-all setup rows judge verdict (world_of judge.world) on judged)

-- where what holds of each node does
pub behind-fits : (setup : Setup) (rows : List Row) (w : World) → IsBehind setup rows w → WorldInvariant setup w
behind-fits setup rows w (count, judged) =
    let all = judged_leads setup (first_world setup) 0 2 rows count w judged in
    lead_fits setup (first_world setup) (events_of rows) all.answers w all.leads (first_fits setup)

-- a start has left a call in the slot of its node
abbrev pub HasStarted : World → Event → Type 0
HasStarted w (Event.Start i) = IsSome (call_at w i)
HasStarted w e = ⊤

start-leaves : (setup : Setup) (v w : World) (i : ℕ) (a : Answer) → WorldInvariant setup v → Step setup v (Event.Start i) w a → HasStarted w (Event.Start i)
start-leaves setup v w i a fits (up, free, call, offered, leads, done) =
    let here = node_state_here setup v i (record (node_state v i) { pending = Some (sent call (vector v i)) }) fits (node_of_up setup v i fits up) in
    rw leads (subst (λ (m : NodeState). IsSome (option_map (λ c. c.call) m.pending)) (sym here) refl)

pub has-started : (setup : Setup) (v w : World) (e : Event) (a : Answer) → WorldInvariant setup v → Step setup v e w a → HasStarted w e
has-started setup v w (Event.Start i) a fits step = start-leaves setup v w i a fits step
has-started setup v w e a fits step = tt
