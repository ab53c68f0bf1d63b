-- Node d has heard that node c is its coordinator.
use Rattle.std.proofs.Common.{◌≡◌, ◌≢◌, ℕ, Some, arith}
use Rattle.bully_base.specs.declared.node.Status.TheVariants.{Reorganization}
use Rattle.bully_agree.proofs.NodeSummary.{NodeSummary, AllLocal, Announces, Readies, Origin, GroupInvariant, Turns}

module _ {last : Origin} {n : ℕ} {f g : ℕ → NodeSummary} {c d : ℕ} (local : AllLocal n f) (kept : GroupInvariant last f) (turn : Turns f g d (record (f d) { status = Reorganization; coordinator = Some c }))
    (apart : c ≢ d) (will : Announces f c d) where
  announced : (m k : ℕ) → Announces g m k → Announces f m k
  announced m k a = grind (arith, turn.same m, turn.same k, a.sent, a.halter, a.status)

  -- c has announced, so it has no Ready under way
  readied : (m k : ℕ) → Readies g m k → Readies f m k × ((f m).carries ≡ (g m).carries)
  readied m k r = grind (arith, turn.same m, turn.same k, r.sent, r.coordinator, r.status, (local c).announces_alone d, will.sent)

  pub joins : GroupInvariant last g
  joins = record {
    elections = record {
      asked_unpassed = λ i k l a. grind (arith, turn.same i, turn.same k, kept.elections.asked_unpassed i k);
      asked_apart = λ i k l a. grind (arith, turn.same i, turn.same k, kept.elections.asked_apart i k, kept.announcements.unasked i c d will);
      passed_apart = λ m k h l p. grind (arith, turn.same m, turn.same k, kept.elections.passed_apart m k, kept.announcements.unpassed m c d will, (local c).announces_when d, will.sent);
      halted_unasked = λ i k m p l e h t. grind (arith, turn.same i, turn.same k, turn.same m, kept.elections.halted_unasked i k m);
    };
    announcements = record {
      unasked = λ i m k a l. grind (arith, turn.same i, kept.announcements.unasked i m k (announced m k a));
      unpassed = λ m m' k a x l. grind (arith, turn.same m, kept.announcements.unpassed m m' k (announced m' k a));
      followed = λ m k j a t. grind (arith, turn.same j, kept.announcements.single m k c d (announced m k a) will);
      single = λ m k m' k' a b. kept.announcements.single m k m' k' (announced m k a) (announced m' k' b);
    };
    leaders = record {
      followed = λ m j l t. grind (arith, turn.same m, turn.same j, kept.announcements.followed c d m will, (local m).leads_status, (local m).leads_itself);
      calls_none_normal = λ m j l t. grind (arith, turn.same m, turn.same j, kept.leaders.calls_none_normal m j);
      hands_task = λ m j l t. grind (arith, turn.same m, turn.same j, kept.leaders.hands_task m j);
      hands_carries = λ m j l r. grind (arith, turn.same m, kept.leaders.hands_carries m j);
      readied_task = λ m k j r t. grind (arith, turn.same j, turn.same m, turn.same k, r.sent, r.coordinator, r.status, kept.leaders.readied_task m k j, (local c).announces_alone d, will.sent);
    };
    agrees = record {
      has_coordinator = λ j t. grind (arith, turn.same j, kept.agrees.has_coordinator j);
      same_coordinator = λ i j t u. grind (arith, turn.same i, turn.same j, kept.announcements.followed c d i will, kept.announcements.followed c d j will);
      has_task = λ j t. grind (arith, turn.same j, kept.agrees.has_task j);
      same_task = λ i j t u. grind (arith, turn.same i, turn.same j, kept.agrees.same_task i j);
    };
    fenced = record {
      normal_planner = λ j t. grind (arith, turn.same j, kept.fenced.normal_planner j);
      normal_table = λ j t. grind (arith, turn.same j, kept.fenced.normal_table j);
      hands_planner = λ m h. grind (arith, turn.same m, kept.fenced.hands_planner m);
      hands_table = λ m h. grind (arith, turn.same m, kept.fenced.hands_table m);
      readied_planner = λ m k r. kept.fenced.readied_planner m k (readied m k r).0;
      readied_table = λ m k r. grind (arith, (readied m k r).1, kept.fenced.readied_table m k (readied m k r).0);
    };
  }
