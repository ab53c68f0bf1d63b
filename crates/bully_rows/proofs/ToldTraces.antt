-- A trace that is read is one that a text can tell, and so is the upgraded one.
use Rattle.std.proofs.Common.{◌≡◌, ◌∙◌, ℕ, ◌+◌, ◌<◌, ◌≤◌, Bool, true, false, List, [], ◌∷◌, length, Option, Some, None, Result, Ok, Err, IfSome, All, arith, refl, sym, subst, inl, inr, ◌&&◌, codes, nat_lt, option_and_then, option_map, if◌then◌else◌}
use Rattle.std.specs.Str.{bytes_eq}
use Rattle.std.proofs.lemmas.Bool.{cases_Bool}
use Rattle.std.proofs.lemmas.Bool.Decides.{nat_tests}
use Rattle.std.proofs.lemmas.List.{length-replicate}
use Rattle.std.proofs.lemmas.List.Elements.{All-cons, All-nil, All-replicate, All-weaker}
use Rattle.bully_base.specs.declared.TheConstants.{EVENTS_MAX, NODES_MAX, PARTITIONS_MAX}
use Rattle.bully_base.specs.NodeSet.{IsFallingBelow}
use Rattle.bully_base.specs.Setup.{IsSetup, IsWeight, Setup, even_setup}
use Rattle.bully_table.specs.Numeral.{number_of}
use Rattle.bully_calls.specs.declared.event.Event.{Event}
use Rattle.bully_calls.specs.Events.{node_of}
use Rattle.bully_rows.specs.declared.TheConstants.{FIRST_NODES_MAX, FIRST_PARTITIONS_MAX, ROWS_MAX}
use Rattle.bully_rows.specs.declared.detail.Detail.{Detail}
use Rattle.bully_rows.specs.declared.header.Header.{Header}
use Rattle.bully_rows.specs.declared.header.Version.{Version}
use Rattle.bully_rows.specs.declared.trace.Claim.{Claim}
use Rattle.bully_rows.specs.declared.trace.Row.{Row}
use Rattle.bully_rows.specs.declared.trace.TraceFault.{TraceFault}
use Rattle.bully_rows.specs.Headers.{Record, header_of, header_with, later_header, later_version, node_in, nodes_max, partitions_in, setup_in, weighted_in, weights_in}
use Rattle.bully_rows.specs.ReadBack.{IsClaimTold, IsDetailTold, IsEventTold, IsNamed, IsRowTold, IsTold, ReadsTold}
use Rattle.bully_rows.specs.Rows.{read_as, row_of, rows_from, trace_of}
use Rattle.bully_rows.specs.Trace.{AreRowsFor, Trace, are_short, headed, upgraded, version_with}
use Rattle.bully_rows.specs.Words.{keeps_named}
use Rattle.bully_rows.proofs.HeaderLemmas.{header-fits, told-within, two_fits_rows, weights-within}
use Rattle.bully_rows.proofs.RowForms.{row-short}
use Rattle.bully_rows.proofs.RowsLemmas.{bad-first, good-first, late-first, read-under}
use Rattle.bully_rows.proofs.TraceLemmas.{header-first}
use Rattle.bully_rows.proofs.ToldRows.{found, made, row-told, tested}

-- ---- headers

-- a setup as a header tells it
record IsHeaded (setup : Setup) : Type 0 where
  within : IsSetup setup
  most : setup.events_max ≡ EVENTS_MAX

even-headed : (n p : ℕ) → (0 < n) × (n ≤ FIRST_NODES_MAX) → (0 < p) × (p ≤ FIRST_PARTITIONS_MAX) → IsHeaded (even_setup n p EVENTS_MAX)
even-headed n p node partition = record {
  within = record {
    nodes = (node.0, omega arith);
    partitions = (partition.0, omega arith);
    events = (omega arith, omega arith);
    weights = (length-replicate n 1, All-replicate IsWeight n 1 (omega arith, omega arith));
  };
  most = refl;
}

first-headed : (nodes partitions : List ℕ) (setup : Setup) → setup_in nodes partitions ≡ Some setup → IsHeaded setup
first-headed nodes partitions setup e =
    let (n, at_n, next) = found (λ n. option_map (λ p. even_setup n p EVENTS_MAX) (partitions_in Version.One partitions)) (node_in Version.One nodes) setup e in
    let (p, at_p, is) = made (λ p. even_setup n p EVENTS_MAX) (partitions_in Version.One partitions) setup next in
    subst IsHeaded is (even-headed n p (told-within FIRST_NODES_MAX (number_of nodes) n at_n) (told-within FIRST_PARTITIONS_MAX (number_of partitions) p at_p))

abbrev setup-with : ℕ → ℕ → List ℕ → Bool → Setup
setup-with n p weights keeps = record { nodes = n; partitions = p; events_max = EVENTS_MAX; keeps = keeps; weights = weights }

weighted-headed : (n p : ℕ) (text ws : List ℕ) (k : Bool) → (0 < n) × (n ≤ NODES_MAX) → (0 < p) × (p ≤ PARTITIONS_MAX) → weights_in n text ≡ Some ws
    → IsHeaded (setup-with n p ws k)
weighted-headed n p text ws k node partition weights = record {
  within = record {
    nodes = node;
    partitions = partition;
    events = (omega arith, omega arith);
    weights = weights-within n text ws weights;
  };
  most = refl;
}

weighted-as : (n p : ℕ) (text ws : List ℕ) (k : Bool) (setup : Setup) → (0 < n) × (n ≤ NODES_MAX) → (0 < p) × (p ≤ PARTITIONS_MAX) → weights_in n text ≡ Some ws
    → setup-with n p ws k ≡ setup → IsHeaded setup
weighted-as n p text ws k setup node partition weights is = subst IsHeaded is (weighted-headed n p text ws k node partition weights)

later-headed : (nodes partitions weights keeps : List ℕ) (setup : Setup) → weighted_in nodes partitions weights keeps ≡ Some setup → IsHeaded setup
later-headed nodes partitions weights keeps setup e =
    let (n, at_n, one) = found (λ n. option_and_then (λ p. option_and_then (λ each. option_map (setup-with n p each) (keeps_named keeps)) (weights_in n weights)) (partitions_in Version.Two partitions)) (node_in Version.Two nodes) setup e in
    let (p, at_p, two) = found (λ p. option_and_then (λ each. option_map (setup-with n p each) (keeps_named keeps)) (weights_in n weights)) (partitions_in Version.Two partitions) setup one in
    let (ws, at_w, three) = found (λ each. option_map (setup-with n p each) (keeps_named keeps)) (weights_in n weights) setup two in
    let (k, at_k, is) = made (setup-with n p ws) (keeps_named keeps) setup three in
    weighted-as n p weights ws k setup (told-within NODES_MAX (number_of nodes) n at_n) (told-within PARTITIONS_MAX (number_of partitions) p at_p) at_w is

-- what a first record tells
header-told : (fields : Record) (header : Header) → header_of fields ≡ Some header → IsHeaded header.setup
header-told [] header e = absurd (cc e)
header-told (a ∷ []) header e = absurd (cc e)
header-told (a ∷ b ∷ []) header e = absurd (cc e)
header-told (a ∷ b ∷ c ∷ []) header e = absurd (cc e)
header-told (word ∷ version ∷ nodes ∷ partitions ∷ []) header e =
    let (test, more) = tested (bytes_eq word (codes "bully") && bytes_eq version (codes "1")) (option_map (header_with Version.One) (setup_in nodes partitions)) header e in
    let (setup, at, is) = made (header_with Version.One) (setup_in nodes partitions) header more in
    subst (λ (h : Header). IsHeaded h.setup) is (first-headed nodes partitions setup at)
header-told (a ∷ b ∷ c ∷ d ∷ x ∷ []) header e = absurd (cc e)
header-told (word ∷ version ∷ nodes ∷ partitions ∷ weights ∷ keeps ∷ []) header e =
    let (test, more) = tested (bytes_eq word (codes "bully")) (later_header version nodes partitions weights keeps) header e in
    let (v, at_v, next) = found (λ v. option_map (header_with v) (weighted_in nodes partitions weights keeps)) (later_version version) header more in
    let (setup, at, is) = made (header_with v) (weighted_in nodes partitions weights keeps) header next in
    subst (λ (h : Header). IsHeaded h.setup) is (later-headed nodes partitions weights keeps setup at)
header-told (a ∷ b ∷ c ∷ d ∷ x ∷ y ∷ z ∷ rest) header e = absurd (cc e)

-- ---- rows

-- rows that are read behind this header, from this number on
record AreRead (header : Header) (number : ℕ) (rows : List Row) : Type 0 where
  forms : AreRowsFor header.version rows
  count : number + length rows ≤ ROWS_MAX + 2
  each : All (IsRowTold header.version header.setup) rows

none-read : (header : Header) (number : ℕ) → number ≤ ROWS_MAX + 2 → AreRead header number []
none-read header number low = record { forms = λ less. refl; count = omega arith; each = All-nil (IsRowTold header.version header.setup) }

one-read : (header : Header) (number : ℕ) (fields : Record) (row : Row) (rows : List Row) → row_of header.version header.setup fields ≡ Some row → AreRead header (number + 1) rows
    → AreRead header number (row ∷ rows)
one-read header number fields row rows is more = record {
  forms = λ less. rw (row-short header.version header.setup fields row less is, more.forms less) refl;
  count = (let few = more.count in omega arith);
  each = All-cons (IsRowTold header.version header.setup) row rows (row-told header.version header.setup fields row is) more.each;
}

rows-told : (header : Header) (number : ℕ) (records : List Record) (rows : List Row) → number ≤ ROWS_MAX + 2 → rows_from header number records ≡ Ok rows → AreRead header number rows
rows-told header number [] rows low e = subst (AreRead header number) (cc e) (none-read header number low)
rows-told header number (first ∷ rest) rows low e = elim (cases_Bool (nat_lt (ROWS_MAX + 1) number)) [
  | inl late ↦ absurd (cc (late-first header number first rest (grind (arith, nat_tests, late)), e))
  | inr few ↦ by_row (row_of header.version header.setup first) refl (grind (arith, nat_tests, few)) (rows-told header (number + 1) rest)
]
  where
    by_row : (o : Option Row) → row_of header.version header.setup first ≡ o → number ≤ ROWS_MAX + 1
        → ((behind : List Row) → number + 1 ≤ ROWS_MAX + 2 → rows_from header (number + 1) rest ≡ Ok behind → AreRead header (number + 1) behind)
        → AreRead header number rows
    by_row None told few more = absurd (cc (bad-first header number first rest few told, e))
    by_row (Some row) told few more =
        let (behind, ok, all) = read-under row rows (rows_from header (number + 1) rest) (sym (good-first header number first rest row few told) ∙ e) in
        subst (AreRead header number) all (one-read header number first row behind told (more behind (omega arith) ok))

-- ---- traces

trace-told : (header : Header) (first : Record) (rows : List Row) → header_of first ≡ Some header → AreRead header 2 rows → IsTold (headed header rows)
trace-told header first rows told read =
    let setup = header-told first header told in
    record {
      setup = setup.within;
      events = setup.most;
      version = header-fits first header told;
      forms = read.forms;
      count = (let few = read.count in omega arith);
      rows = read.each;
    }

made-ok : {A B : Type 0} (f : A → B) (r : Result A TraceFault) (y : B) → read_as f r ≡ Ok y → (x : A) × (r ≡ Ok x) × (f x ≡ y)
made-ok f (Ok x) y e = (x, refl, cc e)
made-ok f (Err why) y e = absurd (cc e)

pub read-told : (records : List Record) (trace : Trace) → trace_of records ≡ Ok trace → IsTold trace
read-told [] trace e = absurd (cc e)
read-told (first ∷ rest) trace e = by_header (header_of first) refl e
  where
    by_header : (o : Option Header) → header_of first ≡ o → trace_of (first ∷ rest) ≡ Ok trace → IsTold trace
    by_header None told e = absurd (cc (rw (told, trace_of) at e))
    by_header (Some header) told e =
        let (rows, ok, is) = made-ok (headed header) (rows_from header 2 rest) trace (sym (header-first header first rest told) ∙ e) in
        subst IsTold is (trace-told header first rows told (rows-told header 2 rest rows (omega arith) ok))

-- ---- upgraded traces

-- in a version that names as many nodes, as much can be told
module _ (old new : Version) (roomier : nodes_max old ≤ nodes_max new) where
  named-more : (i : ℕ) → IsNamed old i → IsNamed new i
  named-more i named = (named.0, omega arith)

  node-more : (o : Option ℕ) → IfSome o (IsNamed old) → IfSome o (IsNamed new)
  node-more None named = tt
  node-more (Some i) named = named-more i named

  event-more : (setup : Setup) (e : Event) → IsEventTold old setup e → IsEventTold new setup e
  event-more setup (Event.Plan i table) told = (named-more i told.0, told.1)
  event-more setup e told = named-more (node_of e) told

  detail-more : (detail : Detail) → IsDetailTold old detail → IsDetailTold new detail
  detail-more detail told = (named-more detail.call.callee told.0, told.1)

  claim-more : (claim : Claim) → IsClaimTold old claim → IsClaimTold new claim
  claim-more claim told = (named-more claim.node told.0, node-more claim.coordinator told.1)

  set-more : (set : List ℕ) → IsFallingBelow (nodes_max old + 1) set → IsFallingBelow (nodes_max new + 1) set
  set-more [] falls = tt
  set-more (i ∷ set) falls = (falls.0, omega (arith, falls.1), falls.2)

  row-more : (setup : Setup) (row : Row) → IsRowTold old setup row → IsRowTold new setup row
  row-more setup (Row.Event e) told = event-more setup e told
  row-more setup (Row.Detailed e) told = (named-more e.node told.0, detail-more e.detail told.1)
  row-more setup (Row.Claim claim) told = claim-more claim told
  row-more setup (Row.Whole whole) told = record {
    claim = claim-more whole.claim told.claim;
    halter = node-more whole.halter told.halter;
    up = set-more whole.up told.up;
    task = told.task;
  }

upgraded-roomier : (version : Version) (short : Bool) → nodes_max version ≤ nodes_max (if short then Version.Two else Version.Three)
upgraded-roomier Version.One true = omega arith
upgraded-roomier Version.One false = omega arith
upgraded-roomier Version.Two true = omega arith
upgraded-roomier Version.Two false = omega arith
upgraded-roomier Version.Three true = omega arith
upgraded-roomier Version.Three false = omega arith

pub upgraded-told : (trace : Trace) → IsTold trace → IsTold (upgraded trace)
upgraded-told trace told =
    let version = version_with Version.Two trace.rows in
    let fits = two_fits_rows trace.setup trace.rows in
    record {
      setup = told.setup;
      events = told.events;
      version = fits.0;
      forms = fits.1;
      count = told.count;
      rows = All-weaker (IsRowTold trace.version trace.setup) (IsRowTold version trace.setup)
          (row-more trace.version version (upgraded-roomier trace.version (are_short trace.rows)) trace.setup) trace.rows told.rows;
    }

pub reads-told : ReadsTold
reads-told records trace read = let told = read-told records trace read in (told, upgraded-told trace told)
