-- The scripts, and what a checked trace of each prints of its nodes in the end.
use Rattle.std.specs.Prelude.{ℕ, Bool, List, [], ◌∷◌, ◌++◌, Option, Some, None}
use Rattle.bully_base.specs.declared.node.Status.{Status}
use Rattle.bully_base.specs.declared.node.Status.TheVariants.{Down, Election, Reorganization, Normal}
use Rattle.bully_base.specs.Setup.{Setup, even_setup}
use Rattle.bully_calls.specs.declared.call.Call.{Call}
use Rattle.bully_calls.specs.declared.call.CallKind.{CallKind}
use Rattle.bully_calls.specs.declared.call.CallKind.TheVariants.{AreYouUp, Halt, NewCoordinator, Ready}
use Rattle.bully_steps.specs.declared.point.Point.{Point}
use Rattle.bully_steps.specs.declared.point.Point.TheVariants.{Idle, Asking, Halting, Announcing, Planning, Readying}
use Rattle.bully_steps.specs.declared.point.Point.TheVariants.{Inquiring}
use Rattle.bully_calls.specs.declared.event.Event.{Event}
use Rattle.bully_calls.specs.declared.event.Event.TheVariants.{Recover, Crash, Check, Timeout, Start, Run, Lose, Return}
use Rattle.bully_calls.specs.declared.event.Event.TheVariants.{Drop, Move, Plan}
use Rattle.bully_tests.specs.Claims.{PrintedNode}

-- the setup of a trace with so many nodes and partitions
abbrev pub trace_setup : ℕ → ℕ → Setup
trace_setup nodes partitions = even_setup nodes partitions 1000000

-- that of a trace whose header has the weights and says whether tasks are kept
abbrev pub weighted_setup : ℕ → ℕ → List ℕ → Bool → Setup
weighted_setup nodes partitions weights keeps =
    record (trace_setup nodes partitions) { weights = weights; keeps = keeps }

abbrev pub row : Status → Option ℕ → Option ℕ → Option (List ℕ) → PrintedNode
row status coordinator halter task = record { status = status; coordinator = coordinator; halter = halter; task = task }

abbrev pub down : PrintedNode
down = row Down None None None

abbrev pub normal : ℕ → List ℕ → PrintedNode
normal i table = row Normal (Some i) (Some i) (Some table)

-- node i's offered call is started, runs and returns
abbrev pub whole_call : ℕ → List Event
whole_call i = Start i ∷ Run i ∷ Return i ∷ []

-- node i's offered call is started, is lost and returns
abbrev pub lost_call : ℕ → List Event
lost_call i = Start i ∷ Lose i ∷ Return i ∷ []

-- one node elects itself
abbrev pub alone : List Event
alone = Recover 1 ∷ Move 1 ∷ Move 1 ∷ Move 1 ∷ Plan 1 (1 ∷ 1 ∷ []) ∷ Move 1 ∷ []

abbrev pub alone_shown : List PrintedNode
alone_shown = normal 1 (1 ∷ 1 ∷ []) ∷ []

-- then it crashes, and comes back
abbrev pub alone_crashed : List Event
alone_crashed = alone ++ (Crash 1 ∷ [])

abbrev pub alone_back : List Event
alone_back = alone ++ (Crash 1 ∷ Recover 1 ∷ [])

-- where tasks are kept
abbrev pub kept_shown : List PrintedNode
kept_shown = row Down None None (Some (1 ∷ 1 ∷ [])) ∷ []

abbrev pub kept_back_shown : List PrintedNode
kept_back_shown = row Election None None (Some (1 ∷ 1 ∷ [])) ∷ []

-- where they aren't
abbrev pub cleared_back_shown : List PrintedNode
cleared_back_shown = row Election None None None ∷ []

-- node 3 elects itself, 1 and 2 are down
abbrev pub others_down : List Event
others_down =
    Recover 3 ∷ Move 3 ∷ lost_call 3 ++ lost_call 3
    ++ (Move 3 ∷ Move 3 ∷ Plan 3 (3 ∷ 3 ∷ 3 ∷ []) ∷ Move 3 ∷ [])

abbrev pub node_3_alone : List PrintedNode
node_3_alone = down ∷ down ∷ normal 3 (3 ∷ 3 ∷ 3 ∷ []) ∷ []

-- where node 3 stands, after so many events
abbrev pub others_down_points : List (ℕ × Point)
others_down_points =
    (1, Asking 4) ∷ (2, Halting 2) ∷ (5, Halting 1) ∷ (8, Halting 0)
    ∷ (9, Announcing []) ∷ (10, Planning) ∷ (11, Readying []) ∷ (12, Idle) ∷ []

-- node 3 halts, announces itself to and readies nodes 2 and 1; it plans this table
abbrev pub all_up_with : List ℕ → List Event
all_up_with table =
    Recover 1 ∷ Recover 2 ∷ Recover 3 ∷ Move 3 ∷ whole_call 3 ++ whole_call 3
    ++ (Move 3 ∷ whole_call 3) ++ whole_call 3
    ++ (Move 3 ∷ Plan 3 table ∷ whole_call 3) ++ whole_call 3
    ++ (Move 3 ∷ [])

abbrev pub all_up : List Event
all_up = all_up_with (1 ∷ 2 ∷ 3 ∷ [])

abbrev pub all_normal : List PrintedNode
all_normal = normal 3 (1 ∷ 2 ∷ 3 ∷ []) ∷ normal 3 (1 ∷ 2 ∷ 3 ∷ []) ∷ normal 3 (1 ∷ 2 ∷ 3 ∷ []) ∷ []

-- a table by the weights 1, 2 and 1, and one by equal weights
abbrev pub by_weight : List ℕ
by_weight = 1 ∷ 1 ∷ 2 ∷ 2 ∷ 2 ∷ 2 ∷ 3 ∷ []

abbrev pub by_number : List ℕ
by_number = 1 ∷ 1 ∷ 2 ∷ 2 ∷ 3 ∷ 3 ∷ 3 ∷ []

abbrev pub by_weight_shown : List PrintedNode
by_weight_shown = normal 3 by_weight ∷ normal 3 by_weight ∷ normal 3 by_weight ∷ []

abbrev pub call_to : ℕ → CallKind → Option Call
call_to i kind = Some (record { callee = i; kind = kind })

-- the call in node 3's slot, after so many events
abbrev pub all_up_calls : List (ℕ × Option Call)
all_up_calls =
    (5, call_to 2 Halt) ∷ (8, call_to 1 Halt)
    ∷ (12, call_to 2 NewCoordinator) ∷ (15, call_to 1 NewCoordinator)
    ∷ (20, call_to 2 Ready) ∷ (23, call_to 1 Ready) ∷ []

-- the same, and then the coordinator crashes: node 1 asks for it, and finds node 2
abbrev pub coordinator_crashed : List Event
coordinator_crashed = all_up ++ (Crash 3 ∷ Timeout 1 ∷ lost_call 1) ++ whole_call 1

abbrev pub coordinator_crashed_shown : List PrintedNode
coordinator_crashed_shown = normal 3 (1 ∷ 2 ∷ 3 ∷ []) ∷ normal 3 (1 ∷ 2 ∷ 3 ∷ []) ∷ down ∷ []

-- where node 1 stands, after so many events
abbrev pub coordinator_crashed_points : List (ℕ × Point)
coordinator_crashed_points = (28, Inquiring) ∷ (31, Asking 2) ∷ (34, Idle) ∷ []

abbrev pub recovered_twice : List Event
recovered_twice = Recover 1 ∷ Recover 1 ∷ []

-- node 2 crashes after the Halt ran there, so the reply is lost; node 3 plans this table
abbrev pub reply_lost_with : List ℕ → List Event
reply_lost_with table =
    Recover 2 ∷ Recover 3 ∷ Move 3 ∷ Start 3 ∷ Run 3 ∷ Crash 2 ∷ Lose 3 ∷ Return 3 ∷ lost_call 3
    ++ (Move 3 ∷ Move 3 ∷ Plan 3 table ∷ Move 3 ∷ [])

abbrev pub reply_lost : List Event
reply_lost = reply_lost_with (3 ∷ 3 ∷ 3 ∷ [])

-- this table names node 2
abbrev pub reply_lost_unbalanced : List Event
reply_lost_unbalanced = reply_lost_with (2 ∷ 3 ∷ 3 ∷ [])

-- the Halt of node 2, which node 3 has halted, runs late at node 1
abbrev pub orphan_halt : List Event
orphan_halt =
    Recover 1 ∷ Recover 2 ∷ lost_call 2 ++ (Move 2 ∷ [])
    ++ (Start 2 ∷ [])
    ++ (Recover 3 ∷ Move 3 ∷ whole_call 3) ++ whole_call 3
    ++ (Run 2 ∷ Return 2 ∷ [])
    ++ (Move 3 ∷ whole_call 3) ++ whole_call 3
    ++ (Move 3 ∷ Plan 3 (1 ∷ 2 ∷ 3 ∷ []) ∷ whole_call 3) ++ whole_call 3
    ++ (Move 3 ∷ [])
    ++ (Check 3 ∷ whole_call 3) ++ (Move 3 ∷ [])

abbrev pub orphan_halt_shown : List PrintedNode
orphan_halt_shown =
    row Election None (Some 2) None
    ∷ normal 3 (1 ∷ 2 ∷ 3 ∷ [])
    ∷ row Election (Some 3) (Some 3) (Some (1 ∷ 2 ∷ 3 ∷ [])) ∷ []

-- what node 1 shows, after so many events: halted by 3, then by 2; the later calls of 3 change nothing
abbrev pub orphan_halt_late : List (ℕ × PrintedNode)
orphan_halt_late =
    (14, row Election None (Some 3) None) ∷ (16, row Election None (Some 2) None)
    ∷ (23, row Election None (Some 2) None) ∷ (31, row Election None (Some 2) None) ∷ []

-- where node 3 stands, after its call found node 1 not normal, and at the end
abbrev pub orphan_halt_points : List (ℕ × Point)
orphan_halt_points = (37, Asking 4) ∷ (38, Halting 2) ∷ []

-- node 2 is halted while its Ready is under way, and starts a new election
abbrev pub orphan_ready_begun : List Event
orphan_ready_begun =
    Recover 1 ∷ Recover 2 ∷ lost_call 2 ++ (Move 2 ∷ [])
    ++ whole_call 2 ++ (Move 2 ∷ [])
    ++ whole_call 2 ++ (Move 2 ∷ Plan 2 (1 ∷ 2 ∷ []) ∷ [])
    ++ (Start 2 ∷ [])
    ++ (Recover 3 ∷ Move 3 ∷ Start 3 ∷ Run 3 ∷ [])
    ++ (Crash 3 ∷ Timeout 2 ∷ [])

-- where node 2 stands, after so many events: readying node 1, stopped, asking
abbrev pub orphan_ready_points : List (ℕ × Point)
orphan_ready_points = (16, Readying (1 ∷ [])) ∷ (20, Idle) ∷ (22, Asking 3) ∷ []

-- its slot is still full
abbrev pub orphan_ready : List Event
orphan_ready = orphan_ready_begun ++ (Start 2 ∷ [])

-- the Ready runs and returns first
abbrev pub orphan_ready_returned : List Event
orphan_ready_returned = orphan_ready_begun ++ (Run 2 ∷ Return 2 ∷ Start 2 ∷ [])

abbrev pub orphan_ready_shown : List PrintedNode
orphan_ready_shown = normal 2 (1 ∷ 2 ∷ []) ∷ row Election (Some 2) (Some 3) (Some (1 ∷ 2 ∷ [])) ∷ down ∷ []

-- or it is dropped, and never runs
abbrev pub orphan_ready_dropped : List Event
orphan_ready_dropped = orphan_ready_begun ++ (Drop 2 ∷ Start 2 ∷ [])

-- the call in node 2's slot, after so many events: the orphan, none, and the call of the new election
abbrev pub orphan_ready_dropped_calls : List (ℕ × Option Call)
orphan_ready_dropped_calls = (22, call_to 1 Ready) ∷ (23, None) ∷ (24, call_to 3 AreYouUp) ∷ []

abbrev pub orphan_ready_dropped_shown : List PrintedNode
orphan_ready_dropped_shown =
    row Reorganization (Some 2) (Some 2) None ∷ row Election (Some 2) (Some 3) (Some (1 ∷ 2 ∷ [])) ∷ down ∷ []

-- a live call isn't dropped
abbrev pub dropped_live : List Event
dropped_live = Recover 1 ∷ Start 1 ∷ Drop 1 ∷ []

abbrev pub dropped_nothing : List Event
dropped_nothing = Recover 1 ∷ Drop 1 ∷ []

abbrev pub dropped_down : List Event
dropped_down = Drop 1 ∷ []

-- the failure of an orphan comes back late
abbrev pub late_failure : List Event
late_failure =
    Recover 2 ∷ Start 2 ∷ Lose 2 ∷ Recover 3 ∷ Move 3 ∷ whole_call 3
    ++ (Timeout 2 ∷ Return 2 ∷ Move 2 ∷ [])

-- where node 2 stands, after so many events: stopped, asking, and still asking after the return
abbrev pub late_failure_points : List (ℕ × Point)
late_failure_points = (3, Asking 3) ∷ (7, Idle) ∷ (9, Asking 3) ∷ (10, Asking 3) ∷ []

-- NewCoordinator runs after a newer Halt
abbrev pub announced_too_late : List Event
announced_too_late =
    Recover 1 ∷ Recover 2 ∷ lost_call 2 ++ (Move 2 ∷ [])
    ++ whole_call 2 ++ (Move 2 ∷ [])
    ++ (Start 2 ∷ [])
    ++ (Recover 3 ∷ Move 3 ∷ whole_call 3) ++ whole_call 3
    ++ (Run 2 ∷ Return 2 ∷ [])

abbrev pub announced_too_late_shown : List PrintedNode
announced_too_late_shown =
    row Election None (Some 3) None ∷ row Election (Some 2) (Some 3) None ∷ row Election None (Some 3) None ∷ []

-- what node 1 shows, after so many events: halted by 2, by 3, and the call of 2 changes nothing
abbrev pub announced_too_late_node : List (ℕ × PrintedNode)
announced_too_late_node =
    (11, row Election None (Some 2) None) ∷ (18, row Election None (Some 3) None)
    ∷ (20, row Election None (Some 3) None) ∷ []
