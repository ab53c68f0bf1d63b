-- Node c changes to summary of which less is to be said: what of the invariant is kept by that alone.
use Rattle.std.proofs.Common.{◌≡◌, ℕ, ◌+◌, ◌<◌, ◌≤◌, true, false, Some, None, ◌⊎◌, arith, refl, inl}
use Rattle.bully_base.specs.declared.node.Status.TheVariants.{Election, Reorganization, Normal}
use Rattle.bully_agree.proofs.NodeSummary.{Rests, Halts, NodeSummary, takes_part, leads, Announces, Readies, Elections, Announcements, Leaders, Agrees, Origin, Fenced, GroupInvariant, Turns}

-- c takes part in t only if it did, under the same coordinator
abbrev pub FollowsOn : NodeSummary → NodeSummary → Type 0
FollowsOn s t = takes_part t.status ≡ true → (takes_part s.status ≡ true) × (s.coordinator ≡ t.coordinator)

-- c is Normal in t only if it was, with the same task
abbrev pub NormalOn : NodeSummary → NodeSummary → Type 0
NormalOn s t = t.status ≡ Normal → (s.status ≡ Normal) × (s.task ≡ t.task)

-- c asked past and passed no more nodes in t. It may have been halted by m, which passed nobody up to c
pub record ElectsOn (f : ℕ → NodeSummary) (c : ℕ) (t : NodeSummary) : Type 0 where
  pub asked : (k : ℕ) → c < k → k < t.asked → k < (f c).asked
  pub passed : (k : ℕ) → k < c → t.passed ≤ k → (f c).passed ≤ k
  pub halts : t.activity ≡ Halts → ((f c).activity ≡ Halts) ⊎ (c ≤ t.passed)
  pub follows : FollowsOn (f c) t
  pub halted : (m : ℕ) → t.halter ≡ Some m → t.status ≡ Election → (((f c).halter ≡ Some m) × ((f c).status ≡ Election)) ⊎ (((f m).announces ≡ None) × (c ≤ (f m).passed))

-- c leads in t only if it did so, and sends and hears of the same Ready only
pub record LeadsOn (s t : NodeSummary) : Type 0 where
  pub leads_on : leads t.activity ≡ true → (s.activity ≡ t.activity) × (s.task ≡ t.task)
  pub follows : FollowsOn s t
  pub normal : NormalOn s t
  pub reorganizes : t.status ≡ Reorganization → s.status ≡ Reorganization
  pub readies : (k : ℕ) → t.readies ≡ Some k → (s.readies ≡ Some k) × (s.carries ≡ t.carries)

module _ {f g : ℕ → NodeSummary} {c : ℕ} {t : NodeSummary} (turn : Turns f g c t) where
  pub elections_remain : ElectsOn f c t → Elections f → Elections g
  elections_remain s kept = record {
    asked_unpassed = λ i k l a. grind (arith, turn.same i, turn.same k, s.asked k, s.passed i, kept.asked_unpassed i k);
    asked_apart = λ i k l a. grind (arith, turn.same i, turn.same k, s.asked k, s.follows, kept.asked_apart i k);
    passed_apart = λ m k h l p. grind (arith, turn.same m, turn.same k, s.halts, s.passed k, s.follows, kept.passed_apart m k);
    halted_unasked = λ i k m p l e h t. grind (arith, turn.same i, turn.same k, turn.same m, s.asked k, s.passed i, s.halted m, kept.halted_unasked i k m);
  }

  announced_before : ElectsOn f c t → ((k : ℕ) → t.announces ≡ Some k → (f c).announces ≡ Some k) → (m k : ℕ) → Announces g m k → Announces f m k
  announced_before s on m k a = grind (arith, turn.same m, turn.same k, a.sent, a.halter, a.status, on k, s.halted m)

  pub announcements_remain : ElectsOn f c t → ((k : ℕ) → t.announces ≡ Some k → (f c).announces ≡ Some k) → Announcements f → Announcements g
  announcements_remain s on kept = record {
    unasked = λ i m k a l. grind (arith, turn.same i, s.asked k, kept.unasked i m k (announced_before s on m k a));
    unpassed = λ m m' k a x l. grind (arith, turn.same m, s.passed k, kept.unpassed m m' k (announced_before s on m' k a));
    followed = λ m k j a p. grind (arith, turn.same j, s.follows, kept.followed m k j (announced_before s on m k a));
    single = λ m k m' k' a b. kept.single m k m' k' (announced_before s on m k a) (announced_before s on m' k' b);
  }

  readied_before : LeadsOn (f c) t → (m k : ℕ) → Readies g m k → Readies f m k × ((f m).carries ≡ (g m).carries)
  readied_before s m k r = grind (arith, turn.same m, turn.same k, r.sent, r.coordinator, r.status, s.readies k, s.follows, s.reorganizes)

  pub leaders_remain : LeadsOn (f c) t → Leaders f → Leaders g
  leaders_remain s kept = record {
    followed = λ m j l p. grind (arith, turn.same m, turn.same j, s.leads_on, s.follows, kept.followed m j);
    calls_none_normal = λ m j l p. grind (arith, turn.same m, turn.same j, s.leads_on, s.normal, kept.calls_none_normal m j);
    hands_task = λ m j l p. grind (arith, turn.same m, turn.same j, s.leads_on, s.normal, kept.hands_task m j);
    hands_carries = λ m j l r. grind (arith, turn.same m, s.leads_on, s.readies j, kept.hands_carries m j);
    readied_task = λ m k j r p. grind (arith, turn.same j, s.normal, (readied_before s m k r).1, kept.readied_task m k j (readied_before s m k r).0);
  }

  pub fenced_remain : {last : Origin} → LeadsOn (f c) t → Fenced last f → Fenced last g
  fenced_remain {last} s kept = record {
    normal_planner = λ j p. grind (arith, turn.same j, s.follows, s.normal, kept.normal_planner j);
    normal_table = λ j p. grind (arith, turn.same j, s.normal, kept.normal_table j);
    hands_planner = λ m h. grind (arith, turn.same m, s.leads_on, kept.hands_planner m);
    hands_table = λ m h. grind (arith, turn.same m, s.leads_on, kept.hands_table m);
    readied_planner = λ m k r. kept.readied_planner m k (readied_before s m k r).0;
    readied_table = λ m k r. grind (arith, (readied_before s m k r).1, kept.readied_table m k (readied_before s m k r).0);
  }

  pub agrees_remain : FollowsOn (f c) t → NormalOn (f c) t → Agrees f → Agrees g
  agrees_remain follows normal kept = record {
    has_coordinator = λ j p. grind (arith, turn.same j, follows, kept.has_coordinator j);
    same_coordinator = λ i j p q. grind (arith, turn.same i, turn.same j, follows, kept.same_coordinator i j);
    has_task = λ j p. grind (arith, turn.same j, normal, kept.has_task j);
    same_task = λ i j p q. grind (arith, turn.same i, turn.same j, normal, kept.same_task i j);
  }

-- elections remain where c differs in its calls, its task and the way that it leads alone
pub elects_alike : {f : ℕ → NodeSummary} {c : ℕ} {t : NodeSummary} → t ≡ record (f c) { activity = t.activity; task = t.task; announces = t.announces; readies = t.readies; carries = t.carries } → (t.activity ≡ Halts → (f c).activity ≡ Halts) → ElectsOn f c t
elects_alike {f} {c} {t} e halts = record {
  asked = λ k l a. grind (arith, e);
  passed = λ k l a. grind (arith, e);
  halts = λ h. inl (halts h);
  follows = λ p. grind (arith, e);
  halted = λ m h s. grind (arith, e);
}

-- leaders remain where c differs in how far its election has come, or in its NewCoordinator, alone
pub leads_alike : {s t : NodeSummary} → t ≡ record s { asked = t.asked; passed = t.passed; announces = t.announces } → LeadsOn s t
leads_alike {s} {t} e = record {
  leads_on = λ l. grind (arith, e);
  follows = λ p. grind (arith, e);
  normal = λ p. grind (arith, e);
  reorganizes = λ r. grind (arith, e);
  readies = λ k r. grind (arith, e);
}

-- all of it, from the summary s of c to t
pub record Shrinks (f : ℕ → NodeSummary) (c : ℕ) (s t : NodeSummary) : Type 0 where
  pub asked : (k : ℕ) → c < k → k < t.asked → k < s.asked
  pub passed : (k : ℕ) → k < c → t.passed ≤ k → s.passed ≤ k
  pub halts : t.activity ≡ Halts → (s.activity ≡ Halts) ⊎ (c ≤ t.passed)
  pub halted : (m : ℕ) → t.halter ≡ Some m → t.status ≡ Election → ((s.halter ≡ Some m) × (s.status ≡ Election)) ⊎ (((f m).announces ≡ None) × (c ≤ (f m).passed))
  pub takes_part_on : takes_part t.status ≡ true → (s.status ≡ t.status) × (s.coordinator ≡ t.coordinator) × (s.task ≡ t.task)
  pub leads_on : leads t.activity ≡ true → (s.activity ≡ t.activity) × (s.task ≡ t.task)
  pub announces_on : (k : ℕ) → t.announces ≡ Some k → s.announces ≡ Some k
  pub readies_on : (k : ℕ) → t.readies ≡ Some k → (s.readies ≡ Some k) × (s.carries ≡ t.carries)

-- c stays as it is
pub unmoved : {f : ℕ → NodeSummary} {c : ℕ} {s : NodeSummary} → Shrinks f c s s
unmoved {f} {c} {s} = record {
  asked = λ k l a. a;
  passed = λ k l a. a;
  halts = inl;
  halted = λ m h e. inl (h, e);
  takes_part_on = λ h. (refl, refl, refl);
  leads_on = λ h. (refl, refl);
  announces_on = λ k e. e;
  readies_on = λ k e. (e, refl);
}

-- c forgets all but its task
pub forgets : {f : ℕ → NodeSummary} {c : ℕ} {s t : NodeSummary} → t.asked ≤ c + 1 → c ≤ t.passed → t.activity ≡ Rests → takes_part t.status ≡ false
    → t.halter ≡ None → t.announces ≡ None → t.readies ≡ None → Shrinks f c s t
forgets {f} {c} {s} {t} asked passed rests apart unhalted silent unready = record {
  asked = λ k l a. absurd (omega arith);
  passed = λ k l a. absurd (omega arith);
  halts = λ h. grind (arith, rests);
  halted = λ m h e. grind (arith, unhalted);
  takes_part_on = λ h. grind (arith, apart);
  leads_on = λ h. grind (arith, rests);
  announces_on = λ k e. grind (arith, silent);
  readies_on = λ k e. grind (arith, unready);
}

-- c's call alone changes, or goes
pub calls_on : {f : ℕ → NodeSummary} {c : ℕ} {s t : NodeSummary}
    → t ≡ record s { asked = t.asked; passed = t.passed; announces = t.announces; readies = t.readies; carries = t.carries }
    → t.asked ≤ s.asked → s.passed ≤ t.passed
    → ((k : ℕ) → t.announces ≡ Some k → s.announces ≡ Some k) → ((k : ℕ) → t.readies ≡ Some k → (s.readies ≡ Some k) × (s.carries ≡ t.carries)) → Shrinks f c s t
calls_on {f} {c} {s} {t} e asked passed announces readies = record {
  asked = λ k l a. omega arith;
  passed = λ k l a. omega arith;
  halts = λ h. grind (arith, e);
  halted = λ m h q. grind (arith, e);
  takes_part_on = λ h. grind (arith, e);
  leads_on = λ h. grind (arith, e);
  announces_on = announces;
  readies_on = readies;
}

pub shrinks : {last : Origin} {f g : ℕ → NodeSummary} {c : ℕ} {t : NodeSummary} → Turns f g c t → GroupInvariant last f → Shrinks f c (f c) t → GroupInvariant last g
shrinks {last} {f} {g} {c} {t} turn kept s = record {
  elections = elections_remain turn elects kept.elections;
  announcements = announcements_remain turn elects s.announces_on kept.announcements;
  leaders = leaders_remain turn leading kept.leaders;
  agrees = agrees_remain turn follows normal kept.agrees;
  fenced = fenced_remain turn leading kept.fenced;
}
  where
    follows : FollowsOn (f c) t
    follows p = grind (arith, s.takes_part_on)

    normal : NormalOn (f c) t
    normal p = grind (arith, s.takes_part_on)

    elects : ElectsOn f c t
    elects = record { asked = s.asked; passed = s.passed; halts = s.halts; follows = follows; halted = s.halted }

    leading : LeadsOn (f c) t
    leading = record { leads_on = s.leads_on; follows = follows; normal = normal; reorganizes = λ r. grind (arith, s.takes_part_on); readies = s.readies_on }
