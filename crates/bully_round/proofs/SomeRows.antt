-- The rows of a lawful log can be read: what is written of its events is followed from the first replica on, to each
-- replica of that log.
use Rattle.std.proofs.Common.{◌≡◌, ◌≤◌, ◌+◌, ◌++◌, ◌∷◌, [], ℕ, suc, List, Option, Some, None, All, length, length-append, append_assoc, append-nil, map, arith, refl, sym, ap, subst, ◌∙◌}
use Rattle.std.proofs.lemmas.List.{length-map, nil_from_length}
use Rattle.std.proofs.lemmas.List.Elements.{All-head, All-tail, All-weaker}
use Rattle.bully_base.specs.Setup.{IsSetup, Setup}
use Rattle.bully_calls.specs.declared.call.Answer.{Answer}
use Rattle.bully_calls.specs.declared.event.Event.{Event}
use Rattle.bully_replica.specs.Replica.{HasLearned, IsLogOf, ReplicaState, first_replica}
use Rattle.bully_replica.specs.RowReplica.{FollowsUpTo, row_in}
use Rattle.bully_rows.proofs.RowTexts.{row-read}
use Rattle.bully_rows.proofs.SetupTold.{event-told}
use Rattle.bully_rows.specs.Headers.{IsVersionFor, Record}
use Rattle.bully_rows.specs.ReadBack.{AreOwners, IsEventTold}
use Rattle.bully_rows.specs.TraceText.{row_fields}
use Rattle.bully_rows.specs.declared.header.Version.{Version}
use Rattle.bully_rows.specs.declared.trace.Row.{Row}
use Rattle.bully_trace.proofs.JudgeLemmas.{events-append}
use Rattle.bully_trace.specs.Verdict.{IsJudged, events_of}
use Rattle.bully_trace.specs.declared.verdict.Verdict.{Verdict}
use Rattle.bully_world.proofs.CauseLemmas.{no_cause_if_step}
use Rattle.bully_world.proofs.NamedLemmas.{IsEventOf, lawful-events}
use Rattle.bully_world.proofs.NodeInvariantLemmas.{first_fits, step_fits}
use Rattle.bully_world.proofs.WorldLemmas.{first_is}
use Rattle.bully_world.specs.Cause.{cause}
use Rattle.bully_world.specs.Lawful.{LeadTo}
use Rattle.bully_world.specs.NodeInvariant.{WorldInvariant}
use Rattle.bully_world.specs.State.{world_of}
use Rattle.bully_world.specs.World.{World, first_world}

abbrev rows_of : List Event → List Row
rows_of events = map Row.Event events

-- the fields that are written of these events
abbrev pub written : List Event → List Record
written events = map row_fields (rows_of events)

-- They are read back.

one_told : (version : Version) (setup : Setup) (e : Event) → IsSetup setup → IsVersionFor version setup → IsEventOf setup e → IsEventTold version setup e
one_told version setup (Event.Plan i table) within fits of = event-told version setup (Event.Plan i table) within fits of.0 (λ j owners is. by_table j owners is)
  where
    by_table : (j : ℕ) (owners : List ℕ) → Event.Plan i table ≡ Event.Plan j owners → AreOwners setup owners
    by_table j owners is = let same : table ≡ owners = cc is in subst (AreOwners setup) same (of.1, of.2)
one_told version setup e within fits of = event-told version setup e within fits of (λ i table is. absurd (cc is))

read_back : (r : ReplicaState) (events : List Event) → IsSetup r.world.setup → All (IsEventTold r.version r.world.setup) events → map (row_in r) (written events) ≡ map Some (rows_of events)
read_back r [] within told = refl
read_back r (e ∷ events) within told =
    let P = IsEventTold r.version r.world.setup in
    let first : row_in r (row_fields (Row.Event e)) ≡ Some (Row.Event e) = row-read r.version r.world.setup (Row.Event e) within (λ less. refl) (All-head P e events told) in
    ap (λ (row : Option Row). row ∷ map (row_in r) (written events)) first ∙ ap (λ (rows : List (Option Row)). Some (Row.Event e) ∷ rows) (read_back r events within (All-tail P e events told))

events_back : (events : List Event) → events_of (rows_of events) ≡ events
events_back [] = refl
events_back (e ∷ events) = ap (λ xs. e ∷ xs) (events_back events)

-- They are judged as lawful.

judged_on : (setup : Setup) (w : World) (count number : ℕ) (events : List Event) (answers : List Answer) (w' : World) (more : List Row) (verdict : Verdict) (v : World)
    → WorldInvariant setup w → count + length events ≤ setup.events_max → LeadTo setup w events answers w'
    → IsJudged setup w' (count + length events) (number + length events) more verdict v → IsJudged setup w count number (rows_of events ++ more) verdict v
judged_on setup w count number [] [] w' more verdict v fits room l on =
    subst (λ (x : World). IsJudged setup x count number more verdict v) l (
    subst (λ n. IsJudged setup w' count n more verdict v) (omega arith) (subst (λ n. IsJudged setup w' n (number + 0) more verdict v) (omega arith) on))
judged_on setup w count number [] (a ∷ answers) w' more verdict v fits room l on = elim l [ ]
judged_on setup w count number (e ∷ events) [] w' more verdict v fits room l on = elim l [ ]
judged_on setup w count number (e ∷ events) (a ∷ answers) w' more verdict v fits room (mid, step, l) on =
    let none : cause setup w count e ≡ None = no_cause_if_step setup w count e mid a fits (omega (arith, room)) step in
    let counted : count + suc (length events) ≡ (count + 1) + length events = omega arith in
    let numbered : number + suc (length events) ≡ (number + 1) + length events = omega arith in
    let behind : IsJudged setup w' ((count + 1) + length events) ((number + 1) + length events) more verdict v =
    subst (λ n. IsJudged setup w' ((count + 1) + length events) n more verdict v) numbered (subst (λ n. IsJudged setup w' n (number + suc (length events)) more verdict v) counted on) in
    rw none (mid, a, step, judged_on setup mid (count + 1) (number + 1) events answers w' more verdict v (step_fits setup w e mid a step fits) (omega (arith, room)) l behind)

module _ (r : ReplicaState) (events : List Event) (log : IsLogOf r events) where
  abbrev setup : Setup
  setup = r.world.setup

  abbrev first : ReplicaState
  first = first_replica (record { version = r.version; setup = setup })

  from_first : (number : ℕ) (more : List Row) (verdict : Verdict) (w : World) → IsJudged setup (world_of r.world) r.world.events (number + length events) more verdict w
      → IsJudged setup (world_of first.world) 0 number (rows_of events ++ more) verdict w
  from_first number more verdict w on =
      let few = log.lawful.bounded in
      let counted : r.world.events ≡ 0 + length events = omega (arith, log.counted) in
      subst (λ (x : World). IsJudged setup x 0 number (rows_of events ++ more) verdict w) (sym (first_is setup))
      (judged_on setup (first_world setup) 0 number events log.answers (world_of r.world) more verdict w (first_fits setup) (omega (arith, few)) log.lawful.leads
      (subst (λ n. IsJudged setup (world_of r.world) n (number + length events) more verdict w) counted on))

  learned : (earlier : List Row) → HasLearned first earlier → HasLearned r (earlier ++ rows_of events)
  learned earlier has = record {
    judged = record {
      same = refl;
      judged = λ more verdict w on.
          subst (λ all. IsJudged setup (first_world setup) 0 2 all verdict w) (sym (append_assoc earlier (rows_of events) more))
          (has.judged.judged (rows_of events ++ more) verdict w (from_first (length earlier + 2) more verdict w (subst (λ n. IsJudged setup (world_of r.world) r.world.events n more verdict w) size on)));
    };
    log = subst (IsLogOf r) (sym all) log;
  }
    where
      size : length (earlier ++ rows_of events) + 2 ≡ (length earlier + 2) + length events
      size = omega (arith, length-append earlier (rows_of events), length-map events Row.Event)

      all : events_of (earlier ++ rows_of events) ≡ events
      all = events-append earlier (rows_of events) ∙ ap (λ front. front ++ events_of (rows_of events)) (nil_from_length (events_of earlier) has.log.counted) ∙ events_back events

  module _ (within : IsSetup setup) (fits : IsVersionFor r.version setup) where
    told : All (IsEventTold r.version setup) events
    told = All-weaker (IsEventOf setup) (IsEventTold r.version setup) (λ e of. one_told r.version setup e within fits of) events (lawful-events setup events log.answers (world_of r.world) log.lawful)

    pub follows_log : FollowsUpTo (written events) (record { replica = first; rows = 0 }) (record { replica = r; rows = length events }) []
    follows_log = record {
      rows = rows_of events;
      read = written events;
      parts = sym (append-nil (written events));
      mean = read_back first events within told;
      counted = omega (arith, length-map events Row.Event);
      version = refl;
      setup = refl;
      learned = learned;
    }
