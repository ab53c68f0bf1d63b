-- What rebalances a group leads its replica to a stable group.
use Rattle.std.proofs.Common.{◌≡◌, ◌≢◌, ◌≤◌, ◌+◌, ◌-◌, ◌*◌, ◌++◌, ℕ, List, [], ◌∷◌, Option, Some, None, IfSome, All, length, arith, sym, ap, subst, ◌∙◌}
use Rattle.bully_agree.proofs.PlanLemmas.{last_is, last_found}
use Rattle.bully_agree.specs.Fencing.{IsLast, Planned}
use Rattle.bully_base.specs.NodeSet.{IsFallingBelow, highest_of}
use Rattle.bully_base.specs.Setup.{IsNode, IsSetup, Setup}
use Rattle.bully_base.specs.declared.TheConstants.{EVENTS_MAX, NODES_MAX}
use Rattle.bully_calls.specs.declared.call.Answer.{Answer}
use Rattle.bully_calls.specs.declared.event.Event.{Event}
use Rattle.bully_replica.specs.Replica.{IsLogOf, ReplicaState}
use Rattle.bully_rebalance.proofs.Rebalanced.{becomes_stable_lem}
use Rattle.bully_rebalance.proofs.SizeLemmas.{rebalancing_size}
use Rattle.bully_rebalance.specs.Stable.{AllStable, IsStable, IsServed}
use Rattle.bully_rebalance.specs.Rebalancing.{Rebalances, preparing, rebalancing, rebalancing_of, table_before}
use Rattle.bully_table.proofs.BalanceSteps.{falling-nodes}
use Rattle.bully_work.proofs.AskedLemmas.{may_name_nobody}
use Rattle.bully_work.specs.Store.{MayAppend, Store, current, nobody, none_silent}
use Rattle.bully_world.proofs.LawfulLemmas.{lead_split}
use Rattle.bully_world.proofs.StepOfLemmas.{lawful_is_one}
use Rattle.bully_world.specs.Lawful.{LeadTo}
use Rattle.bully_world.specs.State.{IsReached, WorldState, world_of}
use Rattle.bully_world.specs.World.{World, first_world}

-- a plan's table has the setup's partitions
plan_sized : (setup : Setup) (mid : World) (i : ℕ) (table : List ℕ) (after : List Event) (answers : List Answer) (w : World) → LeadTo setup mid (Event.Plan i table ∷ after) answers w → length table ≡ setup.partitions
plan_sized setup mid i table after [] w leads = absurd leads
plan_sized setup mid i table after (a ∷ answers) w leads = leads.1.2

-- and so has the table before
before_sized : (r : ReplicaState) (old : Option (List ℕ)) (log : List Event) → IfSome old (λ t. length t ≡ r.world.setup.partitions) → IsLogOf r log → IfSome (table_before r.last old) (λ t. length t ≡ r.world.setup.partitions)
before_sized r old log sized is = by_last r.last is.last
  where
    by_last : (last : Option Planned) → IsLast log last → IfSome (table_before last old) (λ t. length t ≡ r.world.setup.partitions)
    by_last None l = sized
    by_last (Some p) l =
        let leads : LeadTo r.world.setup (first_world r.world.setup) (l.before ++ Event.Plan p.planner p.table ∷ l.after) is.answers (world_of r.world) =
        subst (λ events. LeadTo r.world.setup (first_world r.world.setup) events is.answers (world_of r.world)) l.parts is.lawful.leads in
        let parts = lead_split r.world.setup (first_world r.world.setup) l.before (Event.Plan p.planner p.table ∷ l.after) is.answers (world_of r.world) leads in
        plan_sized r.world.setup parts.2 p.planner p.table l.after parts.1 (world_of r.world) parts.5

-- a replica of a log and of what rebalances it is stable
pub stable_lem : (r : ReplicaState) (log more : List Event) (old : Option (List ℕ)) (live : List ℕ) (offset : ℕ) → Rebalances r.world.setup log old live more → IsLogOf r (log ++ more) → offset ≤ length log → IsStable r live offset
stable_lem r log more old live offset s is behind = record {
  nodes = subst (λ w. AllStable w r.world.setup live) (sym same) s.stable;
  plan = served;
}
  where
    same : world_of r.world ≡ s.world
    same = (lawful_is_one r.world.setup (log ++ more) s.answers is.answers s.world (world_of r.world) s.lawful is.lawful).0

    served : live ≢ [] → IsServed r.last live offset
    served some =
        let new = s.plan some in
        let last : r.last ≡ Some new.plan = sym (last_found (log ++ more) r.last is.last) ∙ last_is (log ++ more) new.plan new.last in
        let later = new.behind in
        subst (λ last. IsServed last live offset) (sym last) (omega (arith, behind, later), new.owners)

pub append_lem : (s : Store) (old : Option (List ℕ)) (live : List ℕ) (more : List Event) → Rebalances (current s).setup (current s).log old live more → MayAppend s s.epoch (length (current s).log) none_silent nobody more
append_lem s old live more is = may_name_nobody s s.epoch (length (current s).log) more (is.world, (is.answers, is.lawful))

-- what rebalances a replica's group
pub rebalanced_lem : (r : ReplicaState) (old : Option (List ℕ)) (live : List ℕ) (events : List Event) → All (λ m. m ≤ r.world.setup.nodes) live → IfSome old (λ t. length t ≡ r.world.setup.partitions) → IsSetup r.world.setup → IsFallingBelow (NODES_MAX + 1) live
    → r.world.events + length (rebalancing_of r old live) ≤ r.world.setup.events_max → events ≡ rebalancing_of r old live
    → (log : List Event) → IsLogOf r log → Rebalances r.world.setup log (table_before r.last old) live events
rebalanced_lem r old live events nodes sized setup falls room are log is =
    let counted = is.counted in
    subst (λ xs. Rebalances r.world.setup log (table_before r.last old) live xs) (sym are)
    (becomes_stable_lem r.world.setup log is.answers (world_of r.world) (table_before r.last old) live setup is.lawful (before_sized r old log sized is)
    (falling-nodes (NODES_MAX + 1) r.world.setup.nodes live falls nodes) (omega (arith, room, counted)))

-- the parts of what rebalances the live nodes
pub size_of_rebalancing : (setup : Setup) (w : World) (old : Option (List ℕ)) (live : List ℕ) (h prepared election : ℕ) → highest_of live ≡ Some h → All (λ m. m ≤ setup.nodes) live → IsFallingBelow (NODES_MAX + 1) live
    → prepared ≡ length (preparing w live h setup.nodes) → election ≡ 3 * setup.nodes + 6 * (length live - 1) + 2 → length (rebalancing setup w old live) ≡ prepared + election
size_of_rebalancing setup w old live h prepared election is nodes falls first stable =
    let size = rebalancing_size setup w old live h is (highest_node live is (falling-nodes (NODES_MAX + 1) setup.nodes live falls nodes)) in
    omega (arith, size, first, stable)
  where
    highest_node : (live : List ℕ) → highest_of live ≡ Some h → IsFallingBelow (setup.nodes + 1) live → IsNode setup h
    highest_node [] is falls = absurd (cc)
    highest_node (m ∷ ms) is falls = let same : h ≡ m = cc in let above = falls.0 in let within = falls.1 in (omega (arith, same, above), omega (arith, same, within))

-- no more events than the limit
pub events_within : (w v : WorldState) (setup : Setup) → v ≡ w → setup ≡ v.setup → IsReached v → IsSetup setup → w.events ≤ EVENTS_MAX
events_within w v setup same setups reached is =
    let counted = reached.counted in
    let bounded = reached.lawful.bounded in
    let events : v.events ≡ w.events = ap (λ (x : WorldState). x.events) same in
    let bound : setup.events_max ≡ v.setup.events_max = ap (λ (x : Setup). x.events_max) setups in
    let most = is.events.1 in
    omega (arith, counted, bounded, events, bound, most)

-- the same of a replica, whose world was read
pub size_told : (r : ReplicaState) (w : WorldState) (old : Option (List ℕ)) (live : List ℕ) (count : ℕ) → w ≡ r.world → ((old : Option (List ℕ)) → length (rebalancing w.setup (world_of w) old live) ≡ count) → length (rebalancing_of r old live) ≡ count
size_told r w old live count same told = subst (λ (v : WorldState). length (rebalancing v.setup (world_of v) (table_before r.last old) live) ≡ count) same (told (table_before r.last old))
