-- In a stable group each partition has a worker.
use Rattle.std.proofs.Common.{◌≡◌, ◌≢◌, ◌<◌, ℕ, List, [], ◌∷◌, Option, Some, None, All, Contains, length, get_or, arith, refl, ap, ◌∙◌}
use Rattle.std.proofs.lemmas.List.Elements.{All-contains}
use Rattle.std.proofs.lemmas.Option.{slice_get-get_or}
use Rattle.bully_agree.proofs.FenceLemmas.{last_plan_lem}
use Rattle.bully_agree.proofs.PlanLemmas.{one_last}
use Rattle.bully_agree.specs.Fencing.{Planned, IsLast, IsLastPlan}
use Rattle.bully_base.specs.Setup.{IsNode}
use Rattle.bully_base.specs.declared.node.Status.TheVariants.{Normal}
use Rattle.bully_calls.specs.declared.event.Event.{Event}
use Rattle.bully_rebalance.proofs.OwnLemmas.{owned_now}
use Rattle.bully_rebalance.specs.Owning.{owned_by, owned_in}
use Rattle.bully_rebalance.specs.Stable.{AllStable, IsStable, IsServed}
use Rattle.bully_replica.specs.Replica.{IsLogOf, ReplicaState, token_of}
use Rattle.bully_work.specs.Working.{GivesTo, WorksOn}
use Rattle.bully_world.proofs.NodeInvariantLemmas.{lawful_fits}
use Rattle.bully_world.specs.State.{world_of}
use Rattle.bully_world.specs.World.{vector}

-- a node that is Normal after the events goes by their last plan, whose table has the setup's partitions
by_last : (r : ReplicaState) (events : List Event) (p : Planned) (i : ℕ) → IsLogOf r events → IsLastPlan events p → (vector (world_of r.world) i).status ≡ Normal
    → ((vector (world_of r.world) i).task ≡ Some p.table) × (length p.table ≡ r.world.setup.partitions)
by_last r events p i log last normal =
    let by = last_plan_lem r.world.setup events log.answers (world_of r.world) i log.lawful normal in
    let same : by.0 ≡ p = one_last events by.0 p by.1 last in
    let task : (vector (world_of r.world) i).task ≡ Some p.table = by.2.task ∙ ap (λ (x : Planned). Some x.table) same in
    let all = lawful_fits r.world.setup events log.answers (world_of r.world) log.lawful in
    (task, (all.fits i).by_setup.task p.table task)

-- a member
some_member : (live : List ℕ) → live ≢ [] → (i : ℕ) × Contains live i
some_member [] some = absurd (some refl)
some_member (m ∷ ms) some = (m, (0, omega arith, refl))

served : (r : ReplicaState) (events : List Event) (live : List ℕ) (offset k : ℕ) (last : Option Planned) → r.last ≡ last → IsLogOf r events → IsLast events last → All (IsNode r.world.setup) live → live ≢ []
    → AllStable (world_of r.world) r.world.setup live → IsServed last live offset → k < r.world.setup.partitions → (i : ℕ) × Contains live i × WorksOn (world_of r.world) i k
served r events live offset k None is log found nodes some stable serves within = absurd serves
served r events live offset k (Some p) is log found nodes some stable serves within =
    let one = some_member live some in
    let normal = (stable one.0 (All-contains (IsNode r.world.setup) live one.0 nodes one.1)).normal one.1 in
    let size = (by_last r events p one.0 log found normal).1 in
    let inside : k < length p.table = omega (arith, size, within) in
    let gives : GivesTo p.table k (get_or p.table k 0) = slice_get-get_or p.table k 0 inside in
    let there = serves.1 k (get_or p.table k 0) gives in
    let works = (stable (get_or p.table k 0) (All-contains (IsNode r.world.setup) live (get_or p.table k 0) nodes there)).normal there in
    (get_or p.table k 0, there, record { normal = works; table = p.table; task = (by_last r events p (get_or p.table k 0) log found works).0; owned = gives })

pub stable_works_lem : (r : ReplicaState) (events : List Event) (live : List ℕ) (offset k : ℕ) → IsLogOf r events → All (IsNode r.world.setup) live → live ≢ [] → IsStable r live offset → k < r.world.setup.partitions
    → (i : ℕ) × Contains live i × WorksOn (world_of r.world) i k
stable_works_lem r events live offset k log nodes some stable within = served r events live offset k r.last refl log log.last nodes some stable.nodes (stable.plan some) within

-- in a stable group a live node owns what the last plan gives it
pub stable_owned_lem : (r : ReplicaState) (live : List ℕ) (offset i : ℕ) → IsStable r live offset → IsNode r.world.setup i → Contains live i → owned_by r i offset ≡ owned_in r.last i
stable_owned_lem r live offset i stable node has =
    owned_now (vector (world_of r.world) i).status r.last i offset ((stable.nodes i node).normal has) (served_behind r.last (stable.plan (some_of live has)))
  where
    served_behind : (last : Option Planned) → IsServed last live offset → offset < token_of last
    served_behind None served = absurd served
    served_behind (Some p) served = served.0

    some_of : (live : List ℕ) → Contains live i → live ≢ []
    some_of [] has none = absurd (omega (arith, has.1))
    some_of (m ∷ ms) has none = absurd (cc)
