-- What an export over a member answers.
use Rattle.std.specs.Prelude.{◌≡◌, ◌⊎◌, ◌+◌, ◌<◌, ◌≤◌, ◌↔◌, ◌==◌, ℕ, Bool, List, [], Option, Some, None, Result, Ok}
use Rattle.std.specs.Prelude.{Err, IsTrue, length, true, false, if◌then◌else◌}
use Rattle.bully_base.specs.Setup.{IsNode, Setup}
use Rattle.bully_base.specs.declared.TheConstants.{NODES_MAX}
use Rattle.bully_member.specs.Due.{Sees, due, noted}
use Rattle.bully_member.specs.Learned.{RefusesTerms, after_learning, followed}
use Rattle.bully_member.specs.Member.{Foresees, MemberState, SeesStable, is_affected, new_member, owned_of, offset_of, replica_of}
use Rattle.bully_member.specs.Opening.{RefusesMember, member_fault, terms_fault}
use Rattle.bully_member.specs.Rebalance.{rebalance}
use Rattle.bully_member.specs.Roles.{needs_promises}
use Rattle.bully_member.specs.Told.{TakesIn, answered, end_for, snapshot_lost, snapshot_read}
use Rattle.bully_member.specs.declared.opening.MemberFault.{MemberFault}
use Rattle.bully_member.specs.declared.opening.Terms.{Terms}
use Rattle.bully_member.specs.declared.values.Ending.{Ending}
use Rattle.bully_member.specs.declared.values.Lease.{Lease}
use Rattle.bully_member.specs.declared.values.Sight.{Sight}
use Rattle.bully_member.specs.declared.values.Step.{Step}
use Rattle.bully_member.specs.declared.values.StoreAnswer.{StoreAnswer}
use Rattle.bully_replica.specs.RowReplica.{RowReplicaState, FollowsUpTo, StopsAt}
use Rattle.bully_replica.specs.declared.row_replica.LearnFault.{LearnFault}
use Rattle.bully_rows.specs.Headers.{Record}
use Rattle.bully_rows.specs.Rows.{records_of}
use Rattle.bully_rows.specs.declared.header.Header.{Header}
use Rattle.bully_c.specs.Exports.{AtOpenOf, ShowsOf}
use Rattle.bully_c.specs.MemberNumbers.{answer_numbered, member_number}
use Rattle.bully_c.specs.MemberShown.{step_shown}
use Rattle.bully_c.specs.Numbers.{learn_fault_number}
use Rattle.bully_c.specs.OldTables.{AreOld, RefusesOld, old_given}
use Rattle.bully_c.specs.Leases.{AreKept, AreLeases, RefusesLeases, lease_given, leases_given}
use Rattle.bully_c.specs.Replicas.{IsHeaderAlone, RefusesHeader, ShowsNode, has_end, has_mark, mark_number}
use Rattle.bully_c.specs.RebalanceRows.{IsOwnedMade, events_text}
use Rattle.bully_c.specs.declared.member_shown.CStep.{CStep}
use Rattle.bully_c.specs.declared.openings.HeldMember.{HeldMember}
use Rattle.bully_c.specs.declared.openings.Opening.{Opening}
use Rattle.bully_c.specs.declared.openings.TermsTold.{TermsTold}
use Rattle.bully_c.specs.declared.leases.CLease.{CLease}
use Rattle.bully_c.specs.declared.status.TheConstants.{BAD_ANSWER, BAD_NODE, FULL, OK, OPEN, OUT_OF_MEMORY, ROW_END}

-- ---- handles

abbrev pub AtMember : (HeldMember → ℕ → HeldMember → Type 0) → Option HeldMember → ℕ → Option HeldMember → Type 0
AtMember = AtOpenOf HeldMember

abbrev pub ShowsMember : (HeldMember → ℕ → Type 0) → HeldMember → ℕ → HeldMember → Type 0
ShowsMember = ShowsOf HeldMember

-- the member becomes this, whatever it is
abbrev pub Becomes : (MemberState → MemberState) → HeldMember → ℕ → HeldMember → Type 0
Becomes to held status after = (status ≡ OK) × (after.member ≡ to held.member)

-- ---- what an epoch is for a member

abbrev pub terms_given : Setup → TermsTold → List ℕ → Terms
terms_given s told old =
    record {
      epoch = told.epoch;
      node = told.node;
      rows_max = told.rows_max;
      old = old_given s.nodes old;
      is_cooperative = told.is_cooperative;
    }

-- the group has the node, and the old table is one
abbrev pub AreTerms : Setup → TermsTold → List ℕ → Type 0
AreTerms s told old = IsNode s told.node × AreOld s old

abbrev pub RefusesTermsGiven : Setup → TermsTold → List ℕ → ℕ → Type 0
RefusesTermsGiven s told old status = ((status ≡ BAD_NODE) × ¬ IsNode s told.node)
    ⊎ (IsNode s told.node × RefusesOld s old status)

-- the header of this text, and the terms that are given
pub record IsOpeningOf (text : List ℕ) (told : TermsTold) (old : List ℕ) (opening : Opening) : Type 0 where
  pub header : IsHeaderAlone text opening.header
  pub are : AreTerms opening.header.setup told old
  pub terms : opening.terms ≡ terms_given opening.header.setup told old

-- why there are none
abbrev pub RefusesOpeningOf : List ℕ → TermsTold → List ℕ → ℕ → Type 0
RefusesOpeningOf text told old status =
    RefusesHeader text status
    ⊎ ((header : Header) × IsHeaderAlone text header × RefusesTermsGiven header.setup told old status)

-- the member that starts with this
pub record IsMemberOpened (text : List ℕ) (told : TermsTold) (old : List ℕ) (process ttl : ℕ)
    (held : HeldMember) : Type 0 where
  pub opening : Opening
  pub is : IsOpeningOf text told old opening
  pub can : member_fault opening.header.setup opening.terms ttl ≡ None
  pub begins : held.member ≡ new_member opening.header opening.terms process ttl

-- why no member starts with this: its first fault, or that an allocation failed
pub record RefusesBeginning (text : List ℕ) (told : TermsTold) (old : List ℕ) (ttl status : ℕ) : Type 0 where
  pub opening : Opening
  pub is : IsOpeningOf text told old opening
  pub fault : MemberFault
  pub why : RefusesMember (member_fault opening.header.setup opening.terms ttl) fault
  pub status_is : status ≡ member_number fault

abbrev pub RefusesMemberOpening : List ℕ → TermsTold → List ℕ → ℕ → ℕ → Type 0
RefusesMemberOpening text told old ttl status =
    RefusesOpeningOf text told old status ⊎ RefusesBeginning text told old ttl status

abbrev pub IsMemberOpening : List ℕ → TermsTold → List ℕ → ℕ → ℕ → Option HeldMember → ℕ → Option HeldMember → Type 0
IsMemberOpening text told old process ttl (Some held) status new = (status ≡ OPEN) × (new ≡ Some held)
IsMemberOpening text told old process ttl None status new =
    ((status ≡ OK) × (after : HeldMember) × (new ≡ Some after) × IsMemberOpened text told old process ttl after)
    ⊎ (RefusesMemberOpening text told old ttl status × (new ≡ None))

-- ---- what it does next

-- the first rule that applies, and what the member notes of it
pub record IsNext (m : MemberState) (now : ℕ) (step : Step) (after : MemberState) : Type 0 where
  pub due_is : (s : Sight) → Sees m now s → step ≡ due m now s
  pub noted_is : (is_stable : Bool) → (IsTrue is_stable ↔ SeesStable m) → after ≡ noted m now is_stable step

abbrev pub IsNextStep : (now : ℕ) → CStep → HeldMember → ℕ → HeldMember → Type 0
IsNextStep now shown held status after =
    (status ≡ OK) × (step : Step) × (shown ≡ step_shown step) × IsNext held.member now step after.member

-- ---- what is reported to it

abbrev pub IsAnswerOf : (now : ℕ) → Option StoreAnswer → HeldMember → ℕ → HeldMember → Type 0
IsAnswerOf now None held status after = (status ≡ BAD_ANSWER) × (after ≡ held)
IsAnswerOf now (Some answer) held status after = (status ≡ OK) × (after.member ≡ answered held.member now answer)

abbrev pub IsAnswer : (now number : ℕ) → HeldMember → ℕ → HeldMember → Type 0
IsAnswer now number = IsAnswerOf now (answer_numbered number)

-- all that is left was learned, or why the first of it wasn't
abbrev pub EndsAs : List Record → RowReplicaState → Result (Unit {0}) LearnFault → Type 0
EndsAs left f (Ok done) = left ≡ []
EndsAs left f (Err fault) = StopsAt left f fault

abbrev pub learn_number : Result (Unit {0}) LearnFault → ℕ
learn_number (Ok done) = OK
learn_number (Err fault) = learn_fault_number fault

-- the rows of the text were learned up to the first that isn't
pub record LearnsRows (text : List ℕ) (m : MemberState) (status : ℕ) (after : MemberState) : Type 0 where
  pub told : Result (Unit {0}) LearnFault
  pub status_is : status ≡ learn_number told
  pub left : List Record
  pub up : FollowsUpTo (records_of text) m.learned after.learned left
  pub ends : EndsAs left after.learned told
  pub is : after ≡ after_learning m after.learned told

-- ... and they were this many; no row of a text without its end; no row of one that starts with a mark, and then the
-- member ends
abbrev pub IsMemberLearning : List ℕ → ℕ → HeldMember → ℕ → HeldMember → Type 0
IsMemberLearning text taken held status after =
    ((has_end text ≡ false) × (status ≡ ROW_END) × (taken ≡ 0) × (after ≡ held))
    ⊎ ((has_end text ≡ true) × (has_mark text ≡ true) × (status ≡ mark_number held.member.learned) × (taken ≡ 0)
    × (after.member ≡ end_for held.member Ending.Broken held.member.ending))
    ⊎ ((has_end text ≡ true) × (has_mark text ≡ false) × LearnsRows text held.member status after.member
    × (after.member.learned.rows ≡ held.member.learned.rows + taken))

-- the last node that may be live in this epoch, so far as the member knows
abbrev pub last_node : MemberState → (epoch : ℕ) → ℕ
last_node m epoch = if epoch == m.terms.epoch then (replica_of m).world.setup.nodes else NODES_MAX

-- the member has read it, and sees what is coming; or it has noted the sessions alone, since an allocation failed
abbrev pub IsRead : (now epoch : ℕ) → List Lease → (has_unknown has_request : Bool) → MemberState → ℕ → MemberState
    → Type 0
IsRead now epoch leases has_unknown has_request m status after =
    ((status ≡ OK) × (after ≡ snapshot_read m now epoch leases has_unknown has_request after.coming after.affected)
    × (TakesIn m epoch → Foresees after))
    ⊎ ((status ≡ OUT_OF_MEMORY) × TakesIn m epoch × (after ≡ snapshot_lost m now leases))

abbrev pub IsSnapshotRead : (now epoch : ℕ) → List CLease → (kept : List ℕ) → (has_unknown has_request : Bool)
    → HeldMember → ℕ → HeldMember → Type 0
IsSnapshotRead now epoch leases kept has_unknown has_request held status after =
    (AreLeases (last_node held.member epoch) leases × AreKept leases kept
    × IsRead now epoch (leases_given leases kept) has_unknown has_request held.member status after.member)
    ⊎ (RefusesLeases (last_node held.member epoch) leases kept status × (after ≡ held))

-- what an epoch starts with, or why the member doesn't go on there
abbrev pub IsFollowOf : (now : ℕ) → Opening → HeldMember → ℕ → HeldMember → Type 0
IsFollowOf now opening held status after =
    ((status ≡ OK) × (terms_fault opening.header.setup opening.terms ≡ None)
    × (after.member ≡ followed held.member now opening.header opening.terms))
    ⊎ ((fault : MemberFault) × RefusesTerms (terms_fault opening.header.setup opening.terms) fault
    × (status ≡ member_number fault) × (after ≡ held))

abbrev pub IsFollow : (now : ℕ) → List ℕ → TermsTold → List ℕ → HeldMember → ℕ → HeldMember → Type 0
IsFollow now text told old held status after =
    ((opening : Opening) × IsOpeningOf text told old opening × IsFollowOf now opening held status after)
    ⊎ (RefusesOpeningOf text told old status × (after ≡ held))

-- ---- what it finds of its group

-- whether the group is stable for it
pub record IsMemberStable (m : MemberState) (told : ℕ) : Type 0 where
  pub is_stable : Bool
  pub decides : IsTrue is_stable ↔ SeesStable m
  pub told_is : told ≡ (if is_stable then 1 else 0)

-- whether its next snapshot must show it what others have promised
pub record NeedsPromises (m : MemberState) (now told : ℕ) : Type 0 where
  pub told_is : (is_stable : Bool) → (IsTrue is_stable ↔ SeesStable m)
      → told ≡ (if needs_promises m now is_stable then 1 else 0)

-- whether a change affects the node, if it is one of the group's
abbrev pub IsAffectedShown : MemberState → (node before status told : ℕ) → Type 0
IsAffectedShown m node before status told = ShowsNode (replica_of m).world.setup node status
    ((status ≡ OK) × (told ≡ (if is_affected m node then 1 else 0))) (told ≡ before)

-- what the holder of this lease owns, if its node is one of the group's
abbrev pub IsOwnedOfShown : MemberState → CLease → ℕ → List ℕ → ℕ → ℕ → ℕ → List ℕ → ℕ → Type 0
IsOwnedOfShown m p token_before before count_before status token after count =
    ShowsNode (replica_of m).world.setup p.node status
    (IsOwnedMade (owned_of m (lease_given p [])) token_before before count_before status token after count)
    ((token ≡ token_before) × (after ≡ before) × (count ≡ count_before))

-- ---- what it appends

-- the rows that rebalance the group, for which the log has room
pub record IsMemberRebalance (m : MemberState) (text : List ℕ) : Type 0 where
  pub text_is : text ≡ events_text (rebalance m)
  pub room : offset_of m + length (rebalance m) ≤ (replica_of m).world.setup.events_max

abbrev pub RefusesMemberRebalance : MemberState → ℕ → Type 0
RefusesMemberRebalance m status =
    ((status ≡ FULL) × ((replica_of m).world.setup.events_max < offset_of m + length (rebalance m)))
    ⊎ (status ≡ OUT_OF_MEMORY)
