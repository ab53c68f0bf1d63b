-- Claims with no event between them are true of one world, in which the nodes agree.
use Rattle.std.proofs.Common.{◌≡◌, ◌⊎◌, inl, inr, ◌∙◌, ℕ, ◌+◌, ◌++◌, ◌&&◌, Bool, true, false, List, [], ◌∷◌, Option, Some, None, MatchOption, length, refl, sym, ap, subst, arith, length-append}
use Rattle.std.specs.Bool.{MatchBool}
use Rattle.std.proofs.lemmas.Bool.{and_parts}
use Rattle.std.proofs.lemmas.Option.{same_Some}
use Rattle.bully_base.specs.declared.node.Status.{Status}
use Rattle.bully_base.specs.declared.node.Status.TheVariants.{Reorganization, Normal}
use Rattle.bully_base.specs.Setup.{Setup, is_node}
use Rattle.bully_calls.specs.declared.call.Answer.{Answer}
use Rattle.bully_calls.specs.declared.event.Event.{Event}
use Rattle.bully_calls.specs.declared.event.Refused.{Refused}
use Rattle.bully_world.specs.Cause.{cause}
use Rattle.bully_world.specs.Lawful.{IsLawful, LeadTo}
use Rattle.bully_world.specs.Step.{Step}
use Rattle.bully_world.specs.World.{World, first_world, vector}
use Rattle.bully_agree.proofs.Law.{agreement_lem}
use Rattle.bully_agree.specs.Agreement.{Agreement}
use Rattle.bully_rows.specs.declared.trace.Claim.{Claim}
use Rattle.bully_rows.specs.declared.trace.Row.{Row}
use Rattle.bully_trace.specs.declared.verdict.Verdict.{Verdict}
use Rattle.bully_world.specs.Turn.{same_node}
use Rattle.bully_world.proofs.AgreeLemmas.{node_is}
use Rattle.bully_rows.specs.EventsTold.{event_of_detailed}
use Rattle.bully_trace.specs.Details.{is_so, is_true, is_whole, same_status}
use Rattle.bully_trace.specs.Recorded.{ClaimsAgree, RecordedAgreement, TakesPartBy, claim_of}
use Rattle.bully_rows.specs.Trace.{Trace}
use Rattle.bully_trace.specs.Verdict.{IsJudged, IsVerdict, events_of}
use Rattle.bully_rows.specs.Whole.{Whole}
use Rattle.bully_trace.proofs.JudgeLemmas.{by_claim, events-append, judged_leads}
use Rattle.bully_trace.proofs.SameLemmas.{status-is, task-is}

-- ---- rows that are judged lawful, parted at some row

pub record Parts (setup : Setup) (w : World) (before rest : List Row) (after : ℕ) (w' : World) : Type 0 where
  pub answers : List Answer
  pub mid : World
  pub count : ℕ
  pub number : ℕ
  pub leads : LeadTo setup w (events_of before) answers mid
  pub judged : IsJudged setup mid count number rest (Verdict.Lawful after) w'

-- the row before is an event that is possible
event-before : (setup : Setup) (w mid : World) (row : Row) (before rest : List Row) (e : Event) (a : Answer) (after : ℕ) (w' : World)
    → events_of (row ∷ before) ≡ e ∷ events_of before → Step setup w e mid a → Parts setup mid before rest after w' → Parts setup w (row ∷ before) rest after w'
event-before setup w mid row before rest e a after w' same step parts = record {
  answers = a ∷ parts.answers;
  mid = parts.mid;
  count = parts.count;
  number = parts.number;
  leads = rw same (mid, step, parts.leads);
  judged = parts.judged;
}

-- it is a claim
claim-before : (setup : Setup) (w : World) (row : Row) (before rest : List Row) (after : ℕ) (w' : World)
    → events_of (row ∷ before) ≡ events_of before → Parts setup w before rest after w' → Parts setup w (row ∷ before) rest after w'
claim-before setup w row before rest after w' same parts = record {
  answers = parts.answers;
  mid = parts.mid;
  count = parts.count;
  number = parts.number;
  leads = rw same parts.leads;
  judged = parts.judged;
}

judged-parted : (setup : Setup) (w : World) (count number : ℕ) (before rest : List Row) (after : ℕ) (w' : World)
    → IsJudged setup w count number (before ++ rest) (Verdict.Lawful after) w' → Parts setup w before rest after w'
judged-parted setup w count number [] rest after w' j = record { answers = []; mid = w; count = count; number = number; leads = refl; judged = j }
judged-parted setup w count number (Row.Event e ∷ before) rest after w' j =
    by_cause (λ mid. judged-parted setup mid (count + 1) (number + 1) before rest after w') (cause setup w count e) j
  where
    by_cause : ((mid : World) → IsJudged setup mid (count + 1) (number + 1) (before ++ rest) (Verdict.Lawful after) w' → Parts setup mid before rest after w')
        → (q : Option Refused) → MatchOption q ((mid : World) × (a : Answer) × Step setup w e mid a × IsJudged setup mid (count + 1) (number + 1) (before ++ rest) (Verdict.Lawful after) w')
        (λ why. (Verdict.Lawful after ≡ Verdict.Refused number why) × (w' ≡ w)) → Parts setup w (Row.Event e ∷ before) rest after w'
    by_cause more None (mid, a, step, j) = event-before setup w mid (Row.Event e) before rest e a after w' refl step (more mid j)
    by_cause more (Some why) j = absurd (cc j.0)
judged-parted setup w count number (Row.Detailed e ∷ before) rest after w' j =
    by_cause (λ mid. judged-parted setup mid (count + 1) (number + 1) before rest after w') (cause setup w count (event_of_detailed e)) (is_so setup w e) j
  where
    by_cause : ((mid : World) → IsJudged setup mid (count + 1) (number + 1) (before ++ rest) (Verdict.Lawful after) w' → Parts setup mid before rest after w')
        → (q : Option Refused) (so : Bool) → MatchOption q (MatchBool so ((mid : World) × (a : Answer) × Step setup w (event_of_detailed e) mid a × IsJudged setup mid (count + 1) (number + 1) (before ++ rest) (Verdict.Lawful after) w')
        ((Verdict.Lawful after ≡ Verdict.Differs number) × (w' ≡ w))) (λ why. (Verdict.Lawful after ≡ Verdict.Refused number why) × (w' ≡ w)) → Parts setup w (Row.Detailed e ∷ before) rest after w'
    by_cause more None true (mid, a, step, j) = event-before setup w mid (Row.Detailed e) before rest (event_of_detailed e) a after w' refl step (more mid j)
    by_cause more None false j = absurd (cc j.0)
    by_cause more (Some why) so j = absurd (cc j.0)
judged-parted setup w count number (Row.Claim claim ∷ before) rest after w' j =
    by_claim number after w w' (is_true setup w claim) j (λ j. claim-before setup w (Row.Claim claim) before rest after w' refl (judged-parted setup w count (number + 1) before rest after w' j))
judged-parted setup w count number (Row.Whole whole ∷ before) rest after w' j =
    by_claim number after w w' (is_whole setup w whole) j (λ j. claim-before setup w (Row.Whole whole) before rest after w' refl (judged-parted setup w count (number + 1) before rest after w' j))

-- rows without an event leave the world as it is
stays : (setup : Setup) (w : World) (events : List Event) (answers : List Answer) (w' : World) → events ≡ [] → LeadTo setup w events answers w' → w' ≡ w
stays setup w [] [] w' none leads = leads
stays setup w [] (a ∷ answers) w' none leads = elim leads [ ]
stays setup w (e ∷ events) answers w' none leads = absurd (cc none)

-- ---- what a true claim tells

-- what a row claims is so
abbrev IsClaimed : World → Row → Type 0
IsClaimed w row = ((c : Claim) → claim_of row ≡ Some c → (c.status ≡ (vector w c.node).status) × (c.coordinator ≡ (vector w c.node).coordinator))
    × ((c : Whole) → row ≡ Row.Whole c → c.task ≡ (vector w c.claim.node).task)

true-claim : (setup : Setup) (w : World) (c : Claim) → is_true setup w c ≡ true → (c.status ≡ (vector w c.node).status) × (c.coordinator ≡ (vector w c.node).coordinator)
true-claim setup w c e =
    let first = and_parts (is_node setup c.node && same_status c.status (vector w c.node).status) (same_node c.coordinator (vector w c.node).coordinator) e in
    let second = and_parts (is_node setup c.node) (same_status c.status (vector w c.node).status) first.0 in
    (status-is c.status (vector w c.node).status second.1, node_is c.coordinator (vector w c.node).coordinator first.1)

whole_same : (a b : Whole) → Row.Whole a ≡ Row.Whole b → a ≡ b
whole_same a b is = cc is

-- a row that is judged lawful is a claim that is true
claimed-here : (setup : Setup) (w : World) (count number : ℕ) (row : Row) (rows : List Row) (after : ℕ) (w' : World)
    → IsJudged setup w count number (row ∷ rows) (Verdict.Lawful after) w' → IsClaimed w row
claimed-here setup w count number (Row.Event e) rows after w' j = (λ c is. absurd (cc is), λ c is. absurd (cc is))
claimed-here setup w count number (Row.Detailed e) rows after w' j = (λ c is. absurd (cc is), λ c is. absurd (cc is))
claimed-here setup w count number (Row.Claim claim) rows after w' j = by_claim (is_true setup w claim) refl j
  where
    by_claim : (b : Bool) → is_true setup w claim ≡ b → MatchBool b (IsJudged setup w count (number + 1) rows (Verdict.Lawful after) w') ((Verdict.Lawful after ≡ Verdict.Differs number) × (w' ≡ w)) → IsClaimed w (Row.Claim claim)
    by_claim true holds j = (λ c is. subst (λ c. (c.status ≡ (vector w c.node).status) × (c.coordinator ≡ (vector w c.node).coordinator)) (same_Some claim c is) (true-claim setup w claim holds), λ c is. absurd (cc is))
    by_claim false holds j = absurd (cc j.0)
claimed-here setup w count number (Row.Whole whole) rows after w' j = by_claim (is_whole setup w whole) refl j
  where
    by_claim : (b : Bool) → is_whole setup w whole ≡ b → MatchBool b (IsJudged setup w count (number + 1) rows (Verdict.Lawful after) w') ((Verdict.Lawful after ≡ Verdict.Differs number) × (w' ≡ w)) → IsClaimed w (Row.Whole whole)
    by_claim true holds j =
        let first = and_parts _ _ holds in
        let second = and_parts _ _ first.0 in
        let third = and_parts _ _ second.0 in (
          λ c is. subst (λ c. (c.status ≡ (vector w c.node).status) × (c.coordinator ≡ (vector w c.node).coordinator)) (same_Some whole.claim c is) (true-claim setup w whole.claim third.0),
          λ c is. subst (λ c. c.task ≡ (vector w c.claim.node).task) (whole_same whole c is) (sym (task-is (vector w whole.claim.node).task whole.task first.1)),
        )
    by_claim false holds j = absurd (cc j.0)

-- ---- two claims of one world

agree-here : (w : World) (a b : Row) → Agreement w → IsClaimed w a → IsClaimed w b → ClaimsAgree a b
agree-here w a b agree at_a at_b = record {
  has_coordinator = λ c is part. let told = at_a.0 c is in rw told.1 (agree.has_coordinator c.node (takes-part c.status (vector w c.node).status told.0 part));
  same_coordinator = λ c d at_c at_d part_c part_d.
      let first = at_a.0 c at_c in
      let second = at_b.0 d at_d in
      first.1 ∙ agree.same_coordinator c.node d.node (takes-part c.status (vector w c.node).status first.0 part_c) (takes-part d.status (vector w d.node).status second.0 part_d) ∙ sym second.1;
  has_task = λ c is normal.
      let told = at_a.0 c.claim (ap claim_of is) in
      rw (at_a.1 c is) (agree.has_task c.claim.node (sym told.0 ∙ normal));
  same_task = λ c d at_c at_d normal_c normal_d.
      let first = at_a.0 c.claim (ap claim_of at_c) in
      let second = at_b.0 d.claim (ap claim_of at_d) in
      at_a.1 c at_c ∙ agree.same_task c.claim.node d.claim.node (sym first.0 ∙ normal_c) (sym second.0 ∙ normal_d) ∙ sym (at_b.1 d at_d);
}
  where
    takes-part : (s t : Status) → s ≡ t → TakesPartBy s → (t ≡ Reorganization) ⊎ (t ≡ Normal)
    takes-part s t same (inl is) = inl (sym same ∙ is)
    takes-part s t same (inr is) = inr (sym same ∙ is)

-- behind a claim come as many events as in front of it
claim-adds-none : (row : Row) (rows : List Row) (c : Claim) → claim_of row ≡ Some c → events_of rows ≡ [] → events_of (row ∷ rows) ≡ []
claim-adds-none (Row.Event e) rows c is none = absurd (cc is)
claim-adds-none (Row.Detailed e) rows c is none = absurd (cc is)
claim-adds-none (Row.Claim claim) rows c is none = none
claim-adds-none (Row.Whole whole) rows c is none = none

-- the events in front are a lawful list, so the nodes agree in the world that they lead to
agreed-here : (setup : Setup) (before rest : List Row) (after : ℕ) (w' : World) → IsJudged setup (first_world setup) 0 2 (before ++ rest) (Verdict.Lawful after) w'
    → (p : Parts setup (first_world setup) before rest after w') → Agreement p.mid
agreed-here setup before rest after w' j p =
    let all = judged_leads setup (first_world setup) 0 2 (before ++ rest) after w' j in
    let size : length (events_of (before ++ rest)) ≡ length (events_of before) + length (events_of rest) = ap length (events-append before rest) ∙ length-append (events_of before) (events_of rest) in
    let lawful : IsLawful setup (events_of before) p.answers p.mid = record { leads = p.leads; bounded = omega (arith, size, all.counted, all.bounded (omega arith)) } in
    agreement_lem setup (events_of before) p.answers p.mid lawful

-- what is recorded of a lawful trace agrees
pub recorded : (trace : Trace) (verdict : Verdict) (w : World) → IsVerdict trace verdict w → RecordedAgreement trace verdict
recorded trace (Verdict.Lawful after) w' v = λ before between later a b c is claim none.
    let rest = a ∷ (between ++ b ∷ later) in
    let first = first_world trace.setup in
    let j : IsJudged trace.setup first 0 2 (before ++ rest) (Verdict.Lawful after) w' = rw (← is) v in
    let p = judged-parted trace.setup first 0 2 before rest after w' j in
    let q = judged-parted trace.setup p.mid p.count p.number (a ∷ between) (b ∷ later) after w' p.judged in
    let same = stays trace.setup p.mid (events_of (a ∷ between)) q.answers q.mid (claim-adds-none a between c claim none) q.leads in
    agree-here p.mid a b (agreed-here trace.setup before rest after w' j p)
    (claimed-here trace.setup p.mid p.count p.number a (between ++ b ∷ later) after w' p.judged)
    (subst (λ w. IsClaimed w b) same (claimed-here trace.setup q.mid q.count q.number b later after w' q.judged))
recorded trace (Verdict.Refused number why) w' v = tt
recorded trace (Verdict.Differs number) w' v = tt
