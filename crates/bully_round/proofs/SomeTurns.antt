-- An eager group of two nodes, and what its members see, as long as they have learned nothing.
use Rattle.std.proofs.Common.{◌≡◌, ◌∷◌, [], ℕ, zero, suc, true, false, None, Contains, arith, refl, sym, ap, subst}
use Rattle.bully_base.specs.Setup.{Setup}
use Rattle.bully_member.specs.Activities.{works_at}
use Rattle.bully_member.specs.Member.{MemberState, SeesStable, replica_of}
use Rattle.bully_member.specs.declared.opening.Terms.{Terms}
use Rattle.bully_member.specs.declared.values.Activity.{Activity}
use Rattle.bully_member.specs.declared.values.Lease.{Lease}
use Rattle.bully_member.specs.declared.values.SessionId.{SessionId}
use Rattle.bully_member.specs.declared.values.Sight.{Sight}
use Rattle.bully_member.specs.declared.values.Step.{Step}
use Rattle.bully_base.specs.declared.node.Status.TheVariants.{Down}
use Rattle.bully_rebalance.specs.Stable.{IsStable}
use Rattle.bully_replica.specs.Replica.{IsReplica, ReplicaState, first_replica, token_of}
use Rattle.bully_rows.specs.declared.header.Header.{Header}
use Rattle.bully_rows.specs.declared.header.Version.{Version}
use Rattle.bully_run.proofs.CallLemmas.{nothing_learned}
use Rattle.bully_round.specs.Progress.{Turn}
use Rattle.bully_world.proofs.NodeInvariantLemmas.{first_node_state}
use Rattle.bully_world.proofs.WorldLemmas.{first_is}
use Rattle.bully_world.specs.State.{world_of}
use Rattle.bully_world.specs.World.{NodeState, World, vector}

-- a group of two nodes, with one partition
abbrev pub setup : Setup
setup = record { nodes = 2; partitions = 1; events_max = 100; keeps = false; weights = 1 ∷ 1 ∷ [] }

abbrev pub header : Header
header = record { version = Version.One; setup = setup }

abbrev pub terms : ℕ → Terms
terms node = record { epoch = 1; node = node; rows_max = 100; old = None; is_cooperative = false }

abbrev pub session : ℕ → SessionId
session node = record { process = node; number = 1 }

abbrev pub lease : (node epoch : ℕ) → Lease
lease node epoch = record { node = node; session = session node; promise = record { epoch = epoch; offset = 0 }; kept = []; is_leaving = false }

-- what holds of two values holds of each in the list of them
pub of_two : {A : Type 0} (P : A → Type 0) (a b : A) → P a → P b → (x : A) → Contains (a ∷ b ∷ []) x → P x
of_two P a b first second x (zero, low, at) = let same : a ≡ x = cc at in subst P same first
of_two P a b first second x (suc zero, low, at) = let same : b ≡ x = cc at in subst P same second
of_two P a b first second x (suc (suc i), low, at) = absurd (omega (arith, low))

-- What each member of it sees, as long as it has learned nothing.

pub learned : IsReplica (first_replica header)
learned = record { events = []; log = (nothing_learned header).log }

pub all_down : (r : ReplicaState) → r ≡ first_replica header → IsStable r [] 0
all_down r is = subst (λ x. IsStable x [] 0) (sym is) (record {
  nodes = λ i node. record { normal = λ has. absurd (none has); led = λ has. absurd (none has); down = λ apart. down i };
  plan = λ some. absurd (some refl);
})
  where
    none : {i : ℕ} → Contains [] i → ⊥
    none (k, low, is) = omega (arith, low)

    down : (i : ℕ) → (vector (world_of (first_replica header).world) i).status ≡ Down
    down i = subst (λ (w : World). (vector w i).status ≡ Down) (sym (first_is setup)) (ap (λ (x : NodeState). x.vector.status) (first_node_state setup i))

pub not_stable : (m : MemberState) → replica_of m ≡ first_replica header → SeesStable m → ⊥
not_stable m same stable =
    let none : token_of (replica_of m).last ≡ 0 = ap (λ (r : ReplicaState). token_of r.last) same in
    let low = stable.behind in
    omega (arith, low, none)

pub idle : (k : ℕ) → works_at (Activity.Idle ∷ []) k ≡ true → ⊥
idle zero is = absurd (cc is)
idle (suc k) is = absurd (cc is)

pub stopping : (k : ℕ) → works_at (Activity.Stopping ∷ []) k ≡ true → ⊥
stopping zero is = absurd (cc is)
stopping (suc k) is = absurd (cc is)

-- it works on nothing
abbrev pub free_sight : Sight
free_sight = record { is_stable = false; are_down = true; may_go_on = true; has_all = true }

-- it must stop
abbrev pub busy_sight : Sight
busy_sight = record { is_stable = false; are_down = true; may_go_on = false; has_all = true }

abbrev pub turn : Step → Turn
turn taken = record { now = 1; at = 1; step = taken }
