-- The faults that a document tells are within the limits.
use Rattle.std.proofs.Common.{◌≡◌, ℕ, ℤ, pos, negsuc, suc, ◌+◌, ◌<◌, ◌≤◌, Bool, true, false, List, [], ◌∷◌, length, refl, ap, arith, Option, Some, None, option_map, option_and_then, not, if◌then◌else◌}
use Rattle.std.specs.List.{list_all, position_from, AllByRecursion}
use Rattle.std.proofs.lemmas.Grind.{common_steps}
use Rattle.toml.specs.Data.{Data, Members, as_integer, as_table}
use Rattle.std.specs.Str.{bytes_eq}
use Rattle.std.proofs.lemmas.Option.{same_Some, none-some}
use Rattle.bully_config.specs.declared.config.FaultKind.{FaultKind}
use Rattle.bully_base.specs.Setup.{Setup}
use Rattle.bully_config.specs.declared.config.Fault.{Fault}
use Rattle.bully_config.specs.declared.fault.Key.{Key}
use Rattle.bully_config.specs.declared.TheConstants.{PERIOD_MIN, PERIOD_MAX}
use Rattle.bully_config.specs.Configuration.{IsFaultOf, node_named}
use Rattle.std.specs.Option.{is_some, option_or}
use Rattle.std.proofs.lemmas.Bool.{false≢true, and_parts}
use Rattle.bully_config.specs.Refusals.{first_in, is_table, fault_out_of_range}
use Rattle.bully_config.specs.Document.{value_at, integer_at, string_at}
use Rattle.bully_config.specs.Values.{within, number_at, period_of, period_in, turn_in, node_in, kind_in, fault_in, faults_in}

pub position_within : {X : Type 0} (test : X → Bool) (i k : ℕ) (xs : List X) → position_from test i xs ≡ Some k → (i ≤ k) × (k < i + length xs)
position_within test i k [] e = grind (arith, e)
position_within test i k (x ∷ xs) e = by_test (test x) refl (position_within test (i + 1) k xs)
  where
    by_test : (b : Bool) → test x ≡ b → (position_from test (i + 1) xs ≡ Some k → (i + 1 ≤ k) × (k < i + 1 + length xs)) → (i ≤ k) × (k < i + length (x ∷ xs))
    by_test true t more = grind (arith, common_steps, e, t)
    by_test false t more =
        let rest : position_from test (i + 1) xs ≡ Some k = grind (arith, common_steps, e, t) in
        let (low, high) = more rest in
        (omega (arith, low), omega (arith, high))

pub within_range : (least most n : ℕ) (z : ℤ) → within least most z ≡ Some n → (least ≤ n) × (n ≤ most)
within_range least most n (pos m) h = grind (arith, common_steps, h)
within_range least most n (negsuc m) h = grind (arith, h)

pub number_within : (key : Key) (limit n : ℕ) (ms : Members) → number_at key limit ms ≡ Some n → (0 < n) × (n ≤ limit)
unfolding number_at
number_within key limit n ms e = by_value (integer_at key ms) e
  where
    by_value : (o : Option ℤ) → option_and_then (within 1 limit) o ≡ Some n → (0 < n) × (n ≤ limit)
    by_value None h = grind (arith, h)
    by_value (Some z) h =
        let (low, high) = within_range 1 limit n z h in
        (omega (arith, low), high)

pub period_within : (n : ℕ) (ms : Members) → period_in ms ≡ Some n → (PERIOD_MIN ≤ n) × (n ≤ PERIOD_MAX)
unfolding period_in
period_within n ms e = by_value (value_at Key.Period ms) e
  where
    by_integer : (o : Option ℤ) → option_and_then (within PERIOD_MIN PERIOD_MAX) o ≡ Some n → (PERIOD_MIN ≤ n) × (n ≤ PERIOD_MAX)
    by_integer None h = grind (arith, h)
    by_integer (Some z) h = within_range PERIOD_MIN PERIOD_MAX n z h

    by_value : (o : Option Data) → period_of o ≡ Some n → (PERIOD_MIN ≤ n) × (n ≤ PERIOD_MAX)
    by_value None h = grind (arith, h)
    by_value (Some d) h = by_integer (as_integer d) h

pub node_within : (names : List (List ℕ)) (n : ℕ) (ms : Members) → node_in names ms ≡ Some n → (0 < n) × (n ≤ length names)
node_within names n ms e = by_value (string_at Key.Node ms) e
  where
    by_value : (o : Option (List ℕ)) → option_and_then (node_named names) o ≡ Some n → (0 < n) × (n ≤ length names)
    by_value None h = grind (arith, h)
    by_value (Some name) h =
        let (low, high) = position_within (bytes_eq name) 1 n names h in
        (omega (arith, low), omega (arith, high))

fault_parts : (t : Option ℕ) (n : Option ℕ) (k : Option FaultKind) (f : Fault)
    → option_and_then (λ x. option_and_then (λ y. option_map (λ z. record { at = x; node = y; kind = z }) k) n) t ≡ Some f
    → (t ≡ Some f.at) × (n ≡ Some f.node)
fault_parts None n k f e = grind (arith, e)
fault_parts (Some x) None k f e = grind (arith, e)
fault_parts (Some x) (Some y) None f e = grind (arith, e)
fault_parts (Some x) (Some y) (Some z) f e =
    let same = same_Some _ _ e in
    (ap (λ g. Some g.at) same, ap (λ g. Some g.node) same)

pub fault_within : (setup : Setup) (turns : ℕ) (names : List (List ℕ)) (ms : Members) (f : Fault) → length names ≡ setup.nodes
    → fault_in turns names ms ≡ Some f → IsFaultOf setup turns f
fault_within setup turns names ms f same e =
    let (at, node) = fault_parts (turn_in turns ms) (node_in names ms) (kind_in ms) f e in
    let (first, last) = number_within Key.At turns f.at ms at in
    let (low, high) = node_within names f.node ms node in
    (first, last, (low, omega (arith, high, same)))

told_within : (setup : Setup) (turns : ℕ) (names : List (List ℕ)) (o : Option Members) (f : Fault) → length names ≡ setup.nodes
    → option_and_then (fault_in turns names) o ≡ Some f → IsFaultOf setup turns f
told_within setup turns names None f same e = absurd (none-some f e)
told_within setup turns names (Some ms) f same e = fault_within setup turns names ms f same e

-- one more, where there is one
all_with : (P : Fault → Type 0) (o : Option Fault) (more : List Fault) → ((f : Fault) → o ≡ Some f → P f) → AllByRecursion P more
    → AllByRecursion P (elim o [ None ↦ more | Some f ↦ f ∷ more ])
all_with P None more each h = h
all_with P (Some f) more each h = (each f refl, h)

pub faults_within : (setup : Setup) (turns : ℕ) (names : List (List ℕ)) (ds : List Data) → length names ≡ setup.nodes
    → AllByRecursion (IsFaultOf setup turns) (faults_in turns names ds)
faults_within setup turns names [] same = tt
faults_within setup turns names (d ∷ ds) same =
    all_with (IsFaultOf setup turns) (option_and_then (fault_in turns names) (as_table d)) (faults_in turns names ds)
    (λ f e. told_within setup turns names (as_table d) f same e) (faults_within setup turns names ds same)

faults_few_by : (o : Option Fault) (told more : List Fault) (n : ℕ) → elim o [ None ↦ more | Some f ↦ f ∷ more ] ≡ told → length more ≤ n → length told ≤ suc n
faults_few_by None told more n e h = omega (arith, h, ap length e)
faults_few_by (Some f) told more n e h = omega (arith, h, ap length e)

pub faults_few : (turns : ℕ) (names : List (List ℕ)) (ds : List Data) → length (faults_in turns names ds) ≤ length ds
faults_few turns names [] = omega arith
faults_few turns names (d ∷ ds) =
    faults_few_by (option_and_then (fault_in turns names) (as_table d)) (faults_in turns names (d ∷ ds)) (faults_in turns names ds) (length ds) refl (faults_few turns names ds)

-- a table without a key out of its range tells a fault
told_there : (t n : Option ℕ) (k : Option FaultKind)
    → (if not (is_some t) then Some Key.At else if not (is_some n) then Some Key.Node else if not (is_some k) then Some Key.Kind else None) ≡ None
    → is_some (option_and_then (λ x. option_and_then (λ y. option_map {T = FaultKind} {U = Fault} (λ z. record { at = x; node = y; kind = z }) k) n) t) ≡ true
told_there None n k e = grind (arith, e)
told_there (Some x) None k e = grind (arith, e)
told_there (Some x) (Some y) None e = grind (arith, e)
told_there (Some x) (Some y) (Some z) e = refl

none_of : (a b : Option Key) → option_or a b ≡ None → (a ≡ None) × (b ≡ None)
none_of None b e = (refl, e)
none_of (Some x) b e = grind (arith, e)

one_more : (o : Option Fault) (more : List Fault) (n : ℕ) → is_some o ≡ true → length more ≡ n → length {A = Fault} (elim o [ None ↦ more | Some f ↦ f ∷ more ]) ≡ suc n
one_more None more n there e = absurd (false≢true there)
one_more (Some f) more n there e = ap suc e

-- where none is out of its range, each table tells a fault
pub faults_all : (turns : ℕ) (names : List (List ℕ)) (ds : List Data) → list_all is_table ds ≡ true → first_in (fault_out_of_range turns names) ds ≡ None
    → length (faults_in turns names ds) ≡ length ds
faults_all turns names [] tables none = refl
faults_all turns names (d ∷ ds) tables none =
    let (here, later) = none_of (option_and_then (fault_out_of_range turns names) (as_table d)) (first_in (fault_out_of_range turns names) ds) none in
    let (table, others) = and_parts (is_table d) (list_all is_table ds) tables in
    one_more (option_and_then (fault_in turns names) (as_table d)) (faults_in turns names ds) (length ds) (by_table (as_table d) table here)
    (faults_all turns names ds others later)
  where
    by_table : (o : Option Members) → is_some o ≡ true → option_and_then (fault_out_of_range turns names) o ≡ None → is_some (option_and_then (fault_in turns names) o) ≡ true
    by_table None there e = absurd (false≢true there)
    by_table (Some ms) there e = told_there (turn_in turns ms) (node_in names ms) (kind_in ms) e
