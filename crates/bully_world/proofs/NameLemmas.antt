-- Which nodes a world names: halters and owners are nodes of the setup. What each change of a node keeps of that.
use Rattle.std.proofs.Common.{◌≡◌, ◌≢◌, ◌⊎◌, ℕ, zero, suc, ◌+◌, ◌≤◌, Bool, true, false, List, [], ◌∷◌, length, Option, Some, None, All, arith, inl, inr, refl, sym, subst, Contains, IfSome, ◌&&◌, option_and_then, option_map, if◌then◌else◌}
use Rattle.std.proofs.lemmas.List.Elements.{All-cons, All-contains, All-nil, All-weaker}
use Rattle.bully_base.specs.declared.node.Status.TheVariants.{Down, Reorganization, Normal}
use Rattle.bully_base.specs.NodeSet.{IsFallingBelow, with_node}
use Rattle.bully_base.specs.Setup.{IsNode, Setup}
use Rattle.bully_base.proofs.NodeSetLemmas.{with_node-all}
use Rattle.bully_table.specs.Balance.{IsBalanced}
use Rattle.bully_calls.specs.declared.call.Answer.{Answer}
use Rattle.bully_calls.specs.declared.call.CallKind.{CallKind}
use Rattle.bully_calls.specs.declared.call.CallKind.TheVariants.{AreYouUp, AreYouNormal, Halt, NewCoordinator, Ready}
use Rattle.bully_calls.specs.declared.call.Outcome.{Outcome}
use Rattle.bully_calls.specs.declared.call.Outcome.TheVariants.{Moved, Yes}
use Rattle.bully_calls.specs.declared.call.Phase.{Phase}
use Rattle.bully_calls.specs.declared.event.Event.{Event}
use Rattle.bully_calls.specs.Events.{node_of}
use Rattle.bully_calls.specs.Pending.{Pending, orphan_of}
use Rattle.bully_handlers.specs.Handler.{callee_after, reply}
use Rattle.bully_handlers.specs.Vector.{Vector, is_election, is_reorganization, kept_task, names}
use Rattle.bully_steps.specs.declared.point.Point.{Point}
use Rattle.bully_steps.specs.declared.point.Point.TheVariants.{Idle, Asking, Halting, Planning, Readying}
use Rattle.bully_steps.specs.NextPoint.{next_vector}
use Rattle.bully_world.specs.NodeInvariant.{WorldInvariant}
use Rattle.bully_world.specs.Step.{Proceeds, Returns, called, carried, emptied, ran, stopped_by, with_phase}
use Rattle.bully_world.specs.World.{NodeState, World, node_state, pending, point, vector, with_node_state}
use Rattle.bully_world.proofs.CallInvariant.{with_phase_fits}
use Rattle.bully_world.proofs.NodeStateLemmas.{member_cases, node_of_pending}
use Rattle.bully_world.proofs.RunInvariant.{reply_suits}

-- the owners of a table, if there is one
abbrev pub OwnedByNodes : Setup → Option (List ℕ) → Type 0
OwnedByNodes setup task = IfSome task (All (IsNode setup))

-- the node's halter, and the owners of its task
abbrev pub VectorNamesNodes : Setup → Vector → Type 0
VectorNamesNodes setup v = IfSome v.halter (IsNode setup) × OwnedByNodes setup v.task

-- the table that a call carries
abbrev table_in : Option Pending → Option (List ℕ)
table_in q = option_and_then (λ (c : Pending). c.table) q

-- all of these are nodes of the setup
pub record NamesNodes (setup : Setup) (m : NodeState) : Type 0 where
  pub vector : VectorNamesNodes setup m.vector
  pub table : OwnedByNodes setup (table_in m.pending)

abbrev pub AllNameNodes : Setup → World → Type 0
AllNameNodes setup w = (i : ℕ) → NamesNodes setup (node_state w i)

-- what an event says: its node, and of a Plan an owner for each partition
abbrev pub IsEventOf : Setup → Event → Type 0
IsEventOf setup (Event.Plan i table) = IsNode setup i × (length table ≡ setup.partitions) × All (IsNode setup) table
IsEventOf setup e = IsNode setup (node_of e)

-- ---- tables

falling-nodes : (setup : Setup) (bound : ℕ) (members : List ℕ) → bound ≤ setup.nodes + 1 → IsFallingBelow bound members → All (IsNode setup) members
falling-nodes setup bound [] low falls = All-nil (IsNode setup)
falling-nodes setup bound (m ∷ ms) low falls =
    All-cons (IsNode setup) m ms (falls.0, omega (arith, falls.1)) (falling-nodes setup m ms (omega (arith, falls.1)) falls.2)

pub balanced-nodes : (setup : Setup) (table : List ℕ) (i : ℕ) (up : List ℕ) → IsNode setup i → IsFallingBelow i up → IsBalanced setup table (with_node i up)
    → All (IsNode setup) table
balanced-nodes setup table i up node falls balanced =
    let members = with_node-all (IsNode setup) i up node (falling-nodes setup i up (omega (arith, node.1)) falls) in
    All-weaker (Contains (with_node i up)) (IsNode setup) (λ owner within. All-contains (IsNode setup) (with_node i up) owner members within) table balanced.owned

pub kept-nodes : (setup : Setup) (v : Vector) → OwnedByNodes setup v.task → OwnedByNodes setup (kept_task setup.keeps v)
kept-nodes setup v owned = by_keeps setup.keeps
  where
    by_keeps : (b : Bool) → OwnedByNodes setup (if b then v.task else None)
    by_keeps true = owned
    by_keeps false = tt

pub carried-nodes : (setup : Setup) (kind : CallKind) (v : Vector) → OwnedByNodes setup v.task → OwnedByNodes setup (carried kind v)
carried-nodes setup AreYouUp v owned = tt
carried-nodes setup AreYouNormal v owned = tt
carried-nodes setup Halt v owned = tt
carried-nodes setup NewCoordinator v owned = tt
carried-nodes setup Ready v owned = owned

-- ---- vectors

next-names : (setup : Setup) (i : ℕ) (p : Point) (o : Outcome) (v : Vector) → IsNode setup i → VectorNamesNodes setup v → VectorNamesNodes setup (next_vector i p o v)
next-names setup i (Asking k) Moved v node named = (node, named.1)
next-names setup i (Halting zero) Moved v node named = named
next-names setup i (Halting (suc k)) Yes v node named = named
next-names setup i (Readying []) Moved v node named = named
next-names setup i p o v node named = named

callee-names : (setup : Setup) (i : ℕ) (kind : CallKind) (table : Option (List ℕ)) (v : Vector) → IsNode setup i → OwnedByNodes setup table → VectorNamesNodes setup v
    → VectorNamesNodes setup (callee_after i kind table v)
callee-names setup i AreYouUp table v node owned named = named
callee-names setup i AreYouNormal table v node owned named = named
callee-names setup i Halt table v node owned named = (node, named.1)
callee-names setup i NewCoordinator table v node owned named = by_test (names v.halter i && is_election v.status)
  where
    by_test : (b : Bool) → VectorNamesNodes setup (if b then record v { status = Reorganization; coordinator = Some i } else v)
    by_test true = named
    by_test false = named
callee-names setup i Ready table v node owned named = by_test (names v.coordinator i && is_reorganization v.status)
  where
    by_test : (b : Bool) → VectorNamesNodes setup (if b then record v { status = Normal; task = table } else v)
    by_test true = (named.0, owned)
    by_test false = named

-- ---- node states

orphan-table : (q : Option Pending) → table_in (option_map orphan_of q) ≡ table_in q
orphan-table None = refl
orphan-table (Some c) = refl

stopped-names : (setup : Setup) (kind : CallKind) (m : NodeState) → NamesNodes setup m → NamesNodes setup (stopped_by kind m)
stopped-names setup AreYouUp m named = named
stopped-names setup AreYouNormal m named = named
stopped-names setup Halt m named = record { vector = named.vector; table = subst (OwnedByNodes setup) (sym (orphan-table m.pending)) named.table }
stopped-names setup NewCoordinator m named = named
stopped-names setup Ready m named = named

called-names : (setup : Setup) (i : ℕ) (c : Pending) (m : NodeState) → IsNode setup i → OwnedByNodes setup c.table → NamesNodes setup m → NamesNodes setup (called i c m)
called-names setup i c m node owned named =
    let heard : NamesNodes setup (record m { vector = callee_after i c.call.kind c.table m.vector }) =
    record { vector = callee-names setup i c.call.kind c.table m.vector node owned named.vector; table = named.table } in
    stopped-names setup c.call.kind (record m { vector = callee_after i c.call.kind c.table m.vector }) heard

-- ---- worlds

pub written-names : (setup : Setup) (w : World) (i : ℕ) (m : NodeState) → WorldInvariant setup w → IsNode setup i → NamesNodes setup m → AllNameNodes setup w
    → AllNameNodes setup (with_node_state w i m)
written-names setup w i m fits node named all j = by_case (member_cases setup w i j m fits node)
  where
    by_case : ((j ≡ i) × (node_state (with_node_state w i m) j ≡ m)) ⊎ ((j ≢ i) × (node_state (with_node_state w i m) j ≡ node_state w j))
        → NamesNodes setup (node_state (with_node_state w i m) j)
    by_case (inl h) = subst (NamesNodes setup) (sym h.1) named
    by_case (inr h) = subst (NamesNodes setup) (sym h.1) (all j)

-- the table of a call that is there
table-there : (setup : Setup) (w : World) (i : ℕ) (c : Pending) → pending w i ≡ Some c → AllNameNodes setup w → OwnedByNodes setup c.table
table-there setup w i c is all = subst (λ q. OwnedByNodes setup (table_in q)) is (all i).table

pub phase-names : (setup : Setup) (w : World) (i : ℕ) (c : Pending) (f : Phase) → WorldInvariant setup w → pending w i ≡ Some c → AllNameNodes setup w
    → AllNameNodes setup (with_phase w i c f)
phase-names setup w i c f fits is all =
    written-names setup w i _ fits (node_of_pending setup w i c fits is).0 (record { vector = (all i).vector; table = table-there setup w i c is all }) all

pub ran-names : (setup : Setup) (w : World) (i : ℕ) (c : Pending) → WorldInvariant setup w → pending w i ≡ Some c → IsNode setup c.call.callee → AllNameNodes setup w
    → AllNameNodes setup (ran w i c)
ran-names setup w i c fits is there all =
    let f = Phase.Ran (reply c.call.kind (vector w c.call.callee)) in
    let answered = with_phase w i c f in
    let mid = phase-names setup w i c f fits is all in
    written-names setup answered c.call.callee (called i c (node_state answered c.call.callee))
    (with_phase_fits setup w i c f fits is (reply_suits c.call.kind (vector w c.call.callee))) there
    (called-names setup i c (node_state answered c.call.callee) (node_of_pending setup w i c fits is).0 (table-there setup w i c is all) (mid c.call.callee)) mid

pub emptied-names : (setup : Setup) (w : World) (i : ℕ) → WorldInvariant setup w → IsNode setup i → AllNameNodes setup w → AllNameNodes setup (emptied w i)
emptied-names setup w i fits node all = written-names setup w i _ fits node (record { vector = (all i).vector; table = tt }) all

pub proceeds-names : (setup : Setup) (w : World) (i : ℕ) (o : Outcome) (w' : World) → WorldInvariant setup w → IsNode setup i → Proceeds setup w i o w' → AllNameNodes setup w
    → AllNameNodes setup w'
proceeds-names setup w i o w' fits node (p, next, is) all =
    subst (AllNameNodes setup) (sym is)
    (written-names setup w i _ fits node (record { vector = next-names setup i (point w i) o (vector w i) node (all i).vector; table = tt }) all)

pub returns-names : (setup : Setup) (w : World) (i : ℕ) (live : Bool) (o : Outcome) (w' : World) (a : Answer) → WorldInvariant setup w → IsNode setup i → Returns setup w i live o w' a
    → AllNameNodes setup w → AllNameNodes setup w'
returns-names setup w i true o w' a fits node returns all = proceeds-names setup w i o w' fits node returns.0 all
returns-names setup w i false o w' a fits node returns all = subst (AllNameNodes setup) (sym returns.0) (emptied-names setup w i fits node all)

-- a node that plans isn't Down
pub planning-node : (setup : Setup) (w : World) (i : ℕ) → WorldInvariant setup w → point w i ≡ Planning → IsNode setup i
planning-node setup w i fits at = by_case (fits.fits i).a_node
  where
    by_case : ((vector w i).status ≡ Down) ⊎ IsNode setup i → IsNode setup i
    by_case (inl down) = let idle : point w i ≡ Idle = (fits.fits i).down_idle down in absurd (cc (at, idle))
    by_case (inr node) = node
