-- What a replica tells of a log that leads to it.
use Rattle.std.proofs.Common.{◌≡◌, ◌≢◌, ◌<◌, ◌↔◌, ◌&&◌, inl, if◌then◌else◌, ℕ, Bool, true, false, List, [], ◌∷◌, Option, Some, None, Contains, IfSome, IfNone, nat_lt, option_map, arith, refl, sym, ap, subst, ◌∙◌}
use Rattle.std.proofs.lemmas.Bool.Decides.{nat_tests}
use Rattle.bully_agree.proofs.FenceLemmas.{last_plan_lem}
use Rattle.bully_agree.proofs.PlanLemmas.{last_is, last_found}
use Rattle.bully_agree.specs.Fencing.{Planned, IsLastPlan}
use Rattle.bully_base.proofs.NodeSetLemmas.{Contains-from}
use Rattle.bully_base.specs.declared.node.Status.{Status}
use Rattle.bully_base.specs.declared.node.Status.TheVariants.{Down, Election, Reorganization, Normal}
use Rattle.bully_calls.specs.declared.event.Event.{Event}
use Rattle.bully_handlers.specs.Vector.{is_normal}
use Rattle.bully_replica.specs.LastPlan.{table_in}
use Rattle.bully_replica.specs.Replica.{IsLogOf, ReplicaState, token_of}
use Rattle.bully_rebalance.proofs.PartitionLemmas.{partitions_exact, partitions_rise, gives_some}
use Rattle.bully_rebalance.specs.Owning.{IsRisingFrom, OwnsBehind, OwnsExactly, OwnsNothingBehind, owned_by, owned_in, owned_with, partitions_of, token_in}
use Rattle.bully_rebalance.specs.declared.holding.Owned.{Owned}
use Rattle.bully_work.specs.Store.{IsOwner}
use Rattle.bully_work.specs.Working.{GivesTo}
use Rattle.bully_world.proofs.StepOfLemmas.{lawful_is_one}
use Rattle.bully_world.specs.State.{world_of}
use Rattle.bully_world.specs.World.{vector}

-- the replica's last plan is that of any log that leads to it
pub same_last : (r : ReplicaState) (events : List Event) (p : Planned) → IsLogOf r events → IsLastPlan events p → r.last ≡ Some p
same_last r events p log last = sym (last_found events r.last log.last) ∙ last_is events p last

normal_is : (status : Status) → is_normal status ≡ true → status ≡ Normal
normal_is Normal is = refl
normal_is Down is = absurd (cc)
normal_is Election is = absurd (cc)
normal_is Reorganization is = absurd (cc)

-- The table by which a node may work is the last plan's.

pub owned_is : (b : Bool) (last : Option Planned) (i token : ℕ) (table : List ℕ) → Some table ≡ (if b then option_map table_in last else None) → token ≡ token_of last → (if b then owned_in last i else None) ≡ owned_with token (partitions_of table i)
owned_is true (Some p) i token table is same =
    let tables : p.table ≡ table = cc in
    ap (λ n. owned_with n (partitions_of p.table i)) (sym same) ∙ ap (λ t. owned_with token (partitions_of t i)) tables
owned_is true None i token table is same = absurd (cc)
owned_is false last i token table is same = absurd (cc)

pub owned_none : (b : Bool) (last : Option Planned) (i : ℕ) (table : Option (List ℕ)) → table ≡ None → table ≡ (if b then option_map table_in last else None) → (if b then owned_in last i else None) ≡ None
owned_none true (Some p) i table none is = absurd (cc)
owned_none true None i table none is = refl
owned_none false last i table none is = refl

pub token_owned : (token : ℕ) (ks : List ℕ) → ks ≢ [] → Some token ≡ option_map token_in (owned_with token ks)
token_owned token [] some = absurd (some refl)
token_owned token (k ∷ ks) some = refl

pub none_owned : (token : ℕ) (ks : List ℕ) → (ks ≢ [] → ⊥) → owned_with token ks ≡ None
none_owned token [] none = refl
none_owned token (k ∷ ks) none = absurd (none (λ e. cc))

-- what is owned: by which plan
record Found (status : Status) (kept : Option Planned) (i offset : ℕ) (o : Owned) : Type 0 where
  pub normal : status ≡ Normal
  pub plan : Planned
  pub last : kept ≡ Some plan
  pub token : o.token ≡ plan.token
  pub behind : offset < plan.token
  pub partitions : o.partitions ≡ partitions_of plan.table i
  pub some : (k : ℕ) × Contains o.partitions k

found_with : (token : ℕ) (ks : List ℕ) (o : Owned) → owned_with token ks ≡ Some o → (o.token ≡ token) × (o.partitions ≡ ks) × ((k : ℕ) × Contains o.partitions k)
found_with token [] o is = absurd (cc)
found_with token (k ∷ ks) o is =
    let same : record { token = token; partitions = k ∷ ks } ≡ o = cc in
    (ap (λ (x : Owned). x.token) (sym same), ap (λ (x : Owned). x.partitions) (sym same), (k, subst (λ (x : Owned). Contains x.partitions k) same (Contains-from (k ∷ ks) k (inl refl))))

found : (status : Status) (last : Option Planned) (i offset : ℕ) (o : Owned) → (if is_normal status && nat_lt offset (token_of last) then owned_in last i else None) ≡ Some o → Found status last i offset o
found status last i offset o is = by_test (is_normal status) (nat_lt offset (token_of last)) refl refl is
  where
    by_last : (last : Option Planned) → owned_in last i ≡ Some o → status ≡ Normal → offset < token_of last → Found status last i offset o
    by_last None is normal behind = absurd (cc)
    by_last (Some p) is normal behind =
        let with = found_with p.token (partitions_of p.table i) o is in
        record { normal = normal; plan = p; last = refl; token = with.0; behind = behind; partitions = with.1; some = with.2 }

    by_test : (x y : Bool) → is_normal status ≡ x → nat_lt offset (token_of last) ≡ y → (if x && y then owned_in last i else None) ≡ Some o → Found status last i offset o
    by_test true true e f is = by_last last is (normal_is status e) (grind (arith, nat_tests, f))
    by_test true false e f is = absurd (cc)
    by_test false y e f is = absurd (cc)

found_by : (r : ReplicaState) (i offset : ℕ) (o : Owned) → owned_by r i offset ≡ Some o → Found (vector (world_of r.world) i).status r.last i offset o
found_by r i offset o is = found (vector (world_of r.world) i).status r.last i offset o is

one_plan : {x : Option Planned} (p q : Planned) → x ≡ Some p → x ≡ Some q → p ≡ q
one_plan p q e f = cc

pub owned_owns : (r : ReplicaState) (i offset : ℕ) (o : Owned) → owned_by r i offset ≡ Some o → OwnsBehind r i offset o.token
owned_owns r i offset o is events log =
    let f = found_by r i offset o is in
    let by = last_plan_lem r.world.setup events log.answers (world_of r.world) i log.lawful f.normal in
    let same : f.plan ≡ by.0 = one_plan f.plan by.0 f.last (same_last r events by.0 log by.1) in
    let some = f.some in
    record {
      plan = f.plan;
      owner = record { world = world_of r.world; learned = (log.answers, log.lawful); normal = f.normal; last = subst (IsLastPlan events) (sym same) by.1 };
      token = sym f.token;
      behind = subst (λ n. offset < n) (sym f.token) f.behind;
      some = (some.0, (partitions_exact f.plan.table i some.0).0 (subst (λ ks. Contains ks some.0) f.partitions some.1));
    }

pub owned_exactly : (r : ReplicaState) (i offset : ℕ) (o : Owned) → owned_by r i offset ≡ Some o → OwnsExactly r i o.partitions
owned_exactly r i offset o is events p log owner k =
    let f = found_by r i offset o is in
    let same : f.plan ≡ p = one_plan f.plan p f.last (same_last r events p log owner.last) in
    subst (λ ks. Contains ks k ↔ GivesTo p.table k i) (ap (λ (q : Planned). partitions_of q.table i) (sym same) ∙ sym f.partitions) (partitions_exact p.table i k)

pub owned_rises : (r : ReplicaState) (i offset : ℕ) (o : Owned) → owned_by r i offset ≡ Some o → IsRisingFrom 0 o.partitions
owned_rises r i offset o is = let f = found_by r i offset o is in subst (IsRisingFrom 0) (sym f.partitions) (partitions_rise f.plan.table i)

-- an owner is Normal in the replica's world
owner_is_normal : (r : ReplicaState) (i : ℕ) (events : List Event) (p : Planned) → IsLogOf r events → IsOwner r.world.setup events i p → (vector (world_of r.world) i).status ≡ Normal
owner_is_normal r i events p log owner =
    let one = lawful_is_one r.world.setup events owner.learned.0 log.answers owner.world (world_of r.world) owner.learned.1 log.lawful in
    subst (λ w. (vector w i).status ≡ Normal) (sym one.0) owner.normal

-- a Normal node owns what the last plan gives it, if the plan is at or after the offset
pub owned_now : (status : Status) (last : Option Planned) (i offset : ℕ) → status ≡ Normal → offset < token_of last → (if is_normal status && nat_lt offset (token_of last) then owned_in last i else None) ≡ owned_in last i
owned_now status last i offset normal behind =
    let later : nat_lt offset (token_of last) ≡ true = grind (arith, nat_tests, behind) in
    ap (λ s. if is_normal s && nat_lt offset (token_of last) then owned_in last i else None) normal ∙ ap (λ b. if b then owned_in last i else None) later

some_with : (token : ℕ) (ks : List ℕ) → owned_with token ks ≡ None → ks ≡ []
some_with token [] is = refl
some_with token (k ∷ ks) is = absurd (cc)

pub owned_nothing : (r : ReplicaState) (i offset : ℕ) → owned_by r i offset ≡ None → OwnsNothingBehind r i offset
owned_nothing r i offset none events p k log owner behind gives =
    let last : r.last ≡ Some p = same_last r events p log owner.last in
    let later : offset < token_of r.last = subst (λ x. offset < token_of x) (sym last) behind in
    let all : owned_in r.last i ≡ None = sym (owned_now (vector (world_of r.world) i).status r.last i offset (owner_is_normal r i events p log owner) later) ∙ none in
    let there : owned_in (Some p) i ≡ None = subst (λ x. owned_in x i ≡ None) last all in
    gives_some p.table k i gives (some_with p.token (partitions_of p.table i) there)

-- the same of what a function answers
pub answered_owns : (r : ReplicaState) (i offset : ℕ) (owned : Option Owned) → owned ≡ owned_by r i offset → IfSome owned (λ o. OwnsBehind r i offset o.token)
answered_owns r i offset None is = tt
answered_owns r i offset (Some o) is = owned_owns r i offset o (sym is)

pub answered_exactly : (r : ReplicaState) (i offset : ℕ) (owned : Option Owned) → owned ≡ owned_by r i offset → IfSome owned (λ o. OwnsExactly r i o.partitions)
answered_exactly r i offset None is = tt
answered_exactly r i offset (Some o) is = owned_exactly r i offset o (sym is)

pub answered_rises : (r : ReplicaState) (i offset : ℕ) (owned : Option Owned) → owned ≡ owned_by r i offset → IfSome owned (λ o. IsRisingFrom 0 o.partitions)
answered_rises r i offset None is = tt
answered_rises r i offset (Some o) is = owned_rises r i offset o (sym is)

pub answered_nothing : (r : ReplicaState) (i offset : ℕ) (owned : Option Owned) → owned ≡ owned_by r i offset → IfNone owned (OwnsNothingBehind r i offset)
answered_nothing r i offset None is = owned_nothing r i offset (sym is)
answered_nothing r i offset (Some o) is = tt

-- and of its token alone
pub token_owns : (r : ReplicaState) (i offset : ℕ) (token : Option ℕ) → token ≡ option_map token_in (owned_by r i offset) → IfSome token (OwnsBehind r i offset)
token_owns r i offset token is = by_owned (owned_by r i offset) refl is
  where
    by_owned : (owned : Option Owned) → owned_by r i offset ≡ owned → token ≡ option_map token_in owned → IfSome token (OwnsBehind r i offset)
    by_owned None e is = rw is tt
    by_owned (Some o) e is = rw is (owned_owns r i offset o e)
