-- A setup in which each node weighs 1, and owners that are given.
use Rattle.std.proofs.Common.{◌≡◌, ℕ, zero, suc, ◌≤◌, List, [], ◌∷◌, Result, Ok, Err, IfErr, IfOk, ap, arith, refl, replicate, subst, take, IfSome, false, length, ◌==◌}
use Rattle.bully_base.specs.Setup.{IsSetup, Setup}
use Rattle.bully_base.specs.declared.TheConstants.{NODES_MAX}
use Rattle.bully_base.specs.declared.setup.SetupFault.{SetupFault}
use Rattle.bully_rows.specs.ReadBack.{AreOwners}
use Rattle.bully_c.specs.Arguments.{IsSetupRefusal, RefusesGiven, RefusesOwners, RefusesSetup, setup_given, setup_with, table_given}
use Rattle.bully_c.specs.declared.tables.CSetup.{CSetup}

-- the first of so many that are alike
take-replicate : (m n c : ℕ) → m ≤ n → take m (replicate n c) ≡ replicate m c
take-replicate zero n c l = refl
take-replicate (suc m) zero c l = absurd (omega arith)
take-replicate (suc m) (suc n) c l = ap (λ (cs : List ℕ). c ∷ cs) (take-replicate m n c (omega arith))

even : (s : CSetup) (weights : List ℕ) → weights ≡ take s.nodes (replicate NODES_MAX 1) → s.nodes ≤ NODES_MAX → setup_with s weights ≡ setup_given s []
even s weights is low = ap (λ (ws : List ℕ). setup_with s ws) (rw (is, take-replicate s.nodes NODES_MAX 1 low) refl)

pub ones-ok : (s : CSetup) (weights : List ℕ) (made : Result Setup ℕ) → weights ≡ take s.nodes (replicate NODES_MAX 1)
    → IfOk made (λ x. x ≡ setup_with s weights) → IfOk made IsSetup → IfOk made (λ x. x ≡ setup_given s [])
ones-ok s weights (Err status) is made within = tt
ones-ok s weights (Ok x) is made within =
    let low : s.nodes ≤ NODES_MAX = subst (λ (y : Setup). y.nodes ≤ NODES_MAX) made within.nodes.1 in rw (made, even s weights is low) refl

refused : (s : CSetup) (weights : List ℕ) (fault : SetupFault) → weights ≡ take s.nodes (replicate NODES_MAX 1) → RefusesSetup (setup_with s weights) fault → RefusesSetup (setup_given s []) fault
refused s weights SetupFault.BadNodes is why = why
refused s weights SetupFault.BadPartitions is why = why
refused s weights SetupFault.BadLimit is why = why
refused s weights SetupFault.BadWeights is why = subst (λ (y : Setup). RefusesSetup y SetupFault.BadWeights) (even s weights is why.0.1) why

pub ones-err : (s : CSetup) (weights : List ℕ) (made : Result Setup ℕ) → weights ≡ take s.nodes (replicate NODES_MAX 1)
    → IfErr made (IsSetupRefusal (setup_with s weights)) → IfErr made (IsSetupRefusal (setup_given s []))
ones-err s weights (Ok x) is why = tt
ones-err s weights (Err status) is why = (why.0, why.1, refused s weights why.0 is why.2)

pub owners-given : (s : Setup) (owners : List ℕ) → AreOwners s owners → IfSome (table_given owners) (AreOwners s)
owners-given s [] are = tt
owners-given s (owner ∷ owners) are = are

pub refused-given : (s : Setup) (owners : List ℕ) (status : ℕ) → (length owners == 0) ≡ false → RefusesOwners s owners status → RefusesGiven s owners status
refused-given s [] status some why = absurd (cc some)
refused-given s (owner ∷ owners) status some why = why
