-- What is known of a document that nothing refuses.
use Rattle.std.proofs.Common.{[], option_and_then, ◌≡◌, ◌≢◌, subst, ℕ, ◌<◌, ◌≤◌, Bool, true, false, List, length, refl, sym, ap, arith, ◌∙◌, Option, Some, None, option_map, if◌then◌else◌, map}
use Rattle.std.specs.Option.{option_or, is_some, unwrap_or}
use Rattle.std.specs.List.{list_all, list_any}
use Rattle.std.proofs.lemmas.Grind.{common_steps}
use Rattle.toml.specs.Data.{as_array, Items, Data, Members, no_members}
use Rattle.toml.specs.Errors.{IsBlank}
use Rattle.toml.specs.Parse.{parse_document, lines}
use Rattle.std.proofs.lemmas.Option.{same_Some}
use Rattle.bully_config.specs.declared.config.Fault.{Fault}
use Rattle.bully_config.specs.declared.fault.Key.{Key}
use Rattle.bully_config.specs.declared.fault.ConfigFault.{ConfigFault}
use Rattle.bully_config.specs.declared.TheConstants.{TURNS_MAX, PERIOD_MIN, PERIOD_MAX, FAULTS_MAX}
use Rattle.bully_config.specs.Answers.{refusal_of}
use Rattle.bully_config.specs.Configuration.{Configuration, has_double, is_empty, IsConfiguration}
use Rattle.bully_config.specs.Document.{list_of, value_at, items_at, text_of}
use Rattle.bully_config.specs.Refusals.{are_names, are_weights, first_in, fits, is_table, fault_out_of_range, out_of_range_in, missing_in, misfit_in, has_double_in, has_unlisted_in}
use Rattle.std.proofs.lemmas.List.{length-map}
use Rattle.toml.specs.declared.value.Value.{Value}
use Rattle.toml.specs.View.{view}
use Rattle.bully_base.specs.Setup.{Setup}
use Rattle.std.proofs.lemmas.Bool.{false≢true}
use Rattle.bully_base.specs.declared.TheConstants.{NODES_MAX, PARTITIONS_MAX, EVENTS_MAX}
use Rattle.bully_config.proofs.FaultLemmas.{faults_all, number_within, period_within, faults_within, faults_few}
use Rattle.bully_config.proofs.WeightLemmas.{weights-fit}
use Rattle.bully_config.specs.Values.{number_at, nodes_in, partitions_in, events_in, turns_in, period_in, or_zero, names_of, faults_in, values_of}

-- the parts of it that the values rest on
pub record Facts (ms : Members) : Type 0 where
  pub nodes : is_some (nodes_in ms) ≡ true
  pub partitions : is_some (partitions_in ms) ≡ true
  pub events : is_some (events_in ms) ≡ true
  pub turns : is_some (turns_in ms) ≡ true
  pub period : is_some (period_in ms) ≡ true
  pub names : length (names_of (items_at Key.Names ms)) ≡ or_zero (nodes_in ms)
  pub full : list_any is_empty (names_of (items_at Key.Names ms)) ≡ false
  pub few : length (items_at Key.Fault ms) ≤ FAULTS_MAX
  pub weights : are_weights (or_zero (nodes_in ms)) ms ≡ true
  pub distinct : has_double (names_of (items_at Key.Names ms)) ≡ false

ranged : (ms : Members) → out_of_range_in ms ≡ None → has_double_in ms ≡ false → Facts ms
ranged ms e d = record {
  nodes = grind (arith, common_steps, e);
  partitions = grind (arith, common_steps, e);
  events = grind (arith, common_steps, e);
  turns = grind (arith, common_steps, e);
  period = grind (arith, common_steps, e);
  names = grind (arith, common_steps, e);
  full = grind (arith, common_steps, e);
  few = grind (arith, common_steps, e);
  weights = grind (arith, common_steps, e);
  distinct = d;
}

chain : (a b c : Option Key) (x y : ConfigFault) (d u : Bool)
    → option_or (option_map ConfigFault.Missing a) (option_or (option_map ConfigFault.Kind b) (option_or (option_map ConfigFault.Range c)
    (if d then Some x else if u then Some y else None))) ≡ None
    → (c ≡ None) × (d ≡ false)
chain None None None x y false u e = (refl, refl)
chain None None None x y true u e = grind (arith, e)
chain None None (Some c) x y d u e = grind (arith, e)
chain None (Some b) c x y d u e = grind (arith, e)
chain (Some a) b c x y d u e = grind (arith, e)

pub facts : (ms : Members) → refusal_of ms ≡ None → Facts ms
facts ms e =
    let (ranges, double) = chain (missing_in ms) (misfit_in ms) (out_of_range_in ms) _ _ (has_double_in ms) (has_unlisted_in ms) e in
    ranged ms ranges double

-- a refusal of a document is of another kind than those that come without one
told_chain : (a b c : Option Key) (d u : Bool) (fault : ConfigFault)
    → option_or (option_map ConfigFault.Missing a) (option_or (option_map ConfigFault.Kind b) (option_or (option_map ConfigFault.Range c)
    (if d then Some ConfigFault.DoubleName else if u then Some ConfigFault.UnknownKey else None))) ≡ Some fault
    → (fault ≢ ConfigFault.Toml) × (fault ≢ ConfigFault.OutOfMemory)
told_chain (Some k) b c d u fault e = grind (arith, e)
told_chain None (Some k) c d u fault e = grind (arith, e)
told_chain None None (Some k) d u fault e = grind (arith, e)
told_chain None None None true u fault e = grind (arith, e)
told_chain None None None false true fault e = grind (arith, e)
told_chain None None None false false fault e = grind (arith, e)

pub told_of_document : (ms : Members) (fault : ConfigFault) → refusal_of ms ≡ Some fault → (fault ≢ ConfigFault.Toml) × (fault ≢ ConfigFault.OutOfMemory)
told_of_document ms fault e = told_chain (missing_in ms) (misfit_in ms) (out_of_range_in ms) (has_double_in ms) (has_unlisted_in ms) fault e

-- the number that a test finds there is the one that stands there
there : (o : Option ℕ) → is_some o ≡ true → o ≡ Some (or_zero o)
there None e = absurd (false≢true e)
there (Some n) e = refl

pub number_there : (key : Key) (limit : ℕ) (ms : Members) → is_some (number_at key limit ms) ≡ true
    → (0 < or_zero (number_at key limit ms)) × (or_zero (number_at key limit ms) ≤ limit)
number_there key limit ms e = number_within key limit (or_zero (number_at key limit ms)) ms (there (number_at key limit ms) e)

period_there : (ms : Members) → is_some (period_in ms) ≡ true → (PERIOD_MIN ≤ or_zero (period_in ms)) × (or_zero (period_in ms) ≤ PERIOD_MAX)
period_there ms e = period_within (or_zero (period_in ms)) ms (there (period_in ms) e)

-- the weights are those of so many nodes
pub weights_there : (n : ℕ) (ms : Members) → refusal_of ms ≡ None → nodes_in ms ≡ Some n → are_weights n ms ≡ true
weights_there n ms e told = subst (λ i. are_weights i ms ≡ true) (ap or_zero told) (facts ms e).weights

pub configured : (ms : Members) → refusal_of ms ≡ None → IsConfiguration (values_of ms)
configured ms e =
    let f = facts ms e in
    record {
      setup = record {
        nodes = number_there Key.Nodes NODES_MAX ms f.nodes;
        partitions = number_there Key.Partitions PARTITIONS_MAX ms f.partitions;
        events = number_there Key.Events EVENTS_MAX ms f.events;
        weights = weights-fit (or_zero (nodes_in ms)) ms f.weights;
      };
      turns = number_there Key.Turns TURNS_MAX ms f.turns;
      period = period_there ms f.period;
      names = f.names;
      distinct = f.distinct;
      full = f.full;
      few = omega (arith, f.few, faults_few (or_zero (turns_in ms)) (names_of (items_at Key.Names ms)) (items_at Key.Fault ms));
      faults = faults_within (values_of ms).setup (or_zero (turns_in ms)) (names_of (items_at Key.Names ms)) (items_at Key.Fault ms) f.names;
    }

pub configured_as : (ms : Members) (c : Configuration) → refusal_of ms ≡ None → c ≡ values_of ms → IsConfiguration c
configured_as ms c e same = rw same (configured ms e)

-- names that are as many as the nodes are few
pub names_short : (nodes : ℕ) (ms : Members) (vs : List Value) → number_at Key.Nodes NODES_MAX ms ≡ Some nodes → are_names nodes (names_of (map view vs)) ≡ true
    → length vs ≤ NODES_MAX
names_short nodes ms vs told names =
    let (low, high) = number_within Key.Nodes NODES_MAX nodes ms told in
    let same : length (names_of (map view vs)) ≡ nodes = grind (arith, common_steps, names) in
    let long : length (names_of (map view vs)) ≡ length vs = length-map (map view vs) text_of ∙ length-map vs view in
    omega (arith, high, same, long)

-- the parts that were read are the values
pub same_parts : (ms : Members) (s : Setup) (t p : ℕ) (names : List (List ℕ)) (faults : List Fault) (vs items : List Data)
    → s ≡ (values_of ms).setup → number_at Key.Turns TURNS_MAX ms ≡ Some t → period_in ms ≡ Some p → vs ≡ items_at Key.Names ms → items ≡ items_at Key.Fault ms
    → names ≡ names_of vs → faults ≡ faults_in t (names_of vs) items
    → record { setup = s; turns = t; period = p; names = names; faults = faults } ≡ values_of ms
same_parts ms s t p names faults vs items setup turns period names_there faults_there named told =
    let turn : t ≡ or_zero (turns_in ms) = sym (ap or_zero turns) in
    let every : p ≡ or_zero (period_in ms) = sym (ap or_zero period) in
    let name : names ≡ names_of (items_at Key.Names ms) = named ∙ ap names_of names_there in
    let fault : faults ≡ faults_in (or_zero (turns_in ms)) (names_of (items_at Key.Names ms)) (items_at Key.Fault ms) =
    told ∙ (λ j. faults_in (turn j) (names_of (names_there j)) (faults_there j)) in
    λ j. record { setup = setup j; turns = turn j; period = every j; names = name j; faults = fault j }

-- a text without any key is refused
no_keys : refusal_of no_members ≡ None → ⊥
unfolding value_at
no_keys e = grind (arith, e)

blank_document : (text : List ℕ) → IsBlank text → parse_document text ≡ Some no_members
unfolding parse_document lines
blank_document text blank = rw blank refl

pub not_blank : (text : List ℕ) (ms : Members) → parse_document text ≡ Some ms → refusal_of ms ≡ None → ¬ IsBlank text
not_blank text ms told none blank =
    let same : no_members ≡ ms = same_Some no_members ms (sym (blank_document text blank) ∙ told) in
    no_keys (subst (λ (m : Members). refusal_of m ≡ None) (sym same) none)

-- the faults of a document that nothing refuses are all told
items_fit : (o : Option Items) → (elim o [ None ↦ false | Some items ↦ list_all is_table (list_of items) ]) ≡ true
    → list_all is_table (unwrap_or (option_map list_of o) []) ≡ true
items_fit None h = absurd (false≢true h)
items_fit (Some items) h = h

value_fits : (o : Option Data) → fits Key.Fault o ≡ true → list_all is_table (unwrap_or (option_map list_of (option_and_then as_array o)) []) ≡ true
value_fits None h = refl
value_fits (Some d) h = items_fit (as_array d) h

-- the last of nine tests, where none fails
last_fits : (a b c d e f g h i : Bool) (rest : Option Key)
    → option_or (if a then if b then if c then if d then if e then if f then if g then if h then if i then None else Some Key.Fault else Some Key.Keep else Some Key.Weights else Some Key.Names else Some Key.Period else Some Key.Turns else Some Key.Events else Some Key.Partitions else Some Key.Nodes) rest ≡ None
    → i ≡ true
last_fits true true true true true true true true true rest none = refl
last_fits true true true true true true true true false rest none = grind (arith, none)
last_fits true true true true true true true false i rest none = grind (arith, none)
last_fits true true true true true true false h i rest none = grind (arith, none)
last_fits true true true true true false g h i rest none = grind (arith, none)
last_fits true true true true false f g h i rest none = grind (arith, none)
last_fits true true true false e f g h i rest none = grind (arith, none)
last_fits true true false d e f g h i rest none = grind (arith, none)
last_fits true false c d e f g h i rest none = grind (arith, none)
last_fits false b c d e f g h i rest none = grind (arith, none)

tables_there : (ms : Members) → misfit_in ms ≡ None → list_all is_table (items_at Key.Fault ms) ≡ true
unfolding items_at
tables_there ms e =
    value_fits (value_at Key.Fault ms)
    (last_fits (fits Key.Nodes (value_at Key.Nodes ms)) (fits Key.Partitions (value_at Key.Partitions ms)) (fits Key.Events (value_at Key.Events ms))
    (fits Key.Turns (value_at Key.Turns ms)) (fits Key.Period (value_at Key.Period ms)) (fits Key.Names (value_at Key.Names ms)) (fits Key.Weights (value_at Key.Weights ms))
    (fits Key.Keep (value_at Key.Keep ms)) (fits Key.Fault (value_at Key.Fault ms)) _ e)

inside : (ms : Members) → out_of_range_in ms ≡ None → first_in (fault_out_of_range (or_zero (turns_in ms)) (names_of (items_at Key.Names ms))) (items_at Key.Fault ms) ≡ None
inside ms e = grind (arith, common_steps, e)

passed : (a b c rest : Option ConfigFault) → option_or a (option_or b (option_or c rest)) ≡ None → (b ≡ None) × (c ≡ None)
passed None None None rest e = (refl, refl)
passed None None (Some x) rest e = grind (arith, e)
passed None (Some x) c rest e = grind (arith, e)
passed (Some x) b c rest e = grind (arith, e)

unmapped : (f : Key → ConfigFault) (o : Option Key) → option_map f o ≡ None → o ≡ None
unmapped f None e = refl
unmapped f (Some x) e = grind (arith, e)

pub all_told : (ms : Members) → refusal_of ms ≡ None → length (values_of ms).faults ≡ length (items_at Key.Fault ms)
all_told ms e =
    let (kinds, ranges) = passed _ (option_map ConfigFault.Kind (misfit_in ms)) (option_map ConfigFault.Range (out_of_range_in ms)) _ e in
    faults_all (or_zero (turns_in ms)) (names_of (items_at Key.Names ms)) (items_at Key.Fault ms) (tables_there ms (unmapped ConfigFault.Kind (misfit_in ms) kinds))
    (inside ms (unmapped ConfigFault.Range (out_of_range_in ms) ranges))
