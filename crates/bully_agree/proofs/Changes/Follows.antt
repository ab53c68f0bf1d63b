-- Node d has the task that its coordinator c sent.
use Rattle.std.proofs.Common.{◌≡◌, ℕ, arith, inl}
use Rattle.bully_base.specs.declared.node.Status.TheVariants.{Normal}
use Rattle.bully_agree.proofs.NodeSummary.{NodeSummary, AllLocal, Readies, Origin, GroupInvariant, Turns}
use Rattle.bully_agree.proofs.Changes.Shrinks.{ElectsOn, elections_remain, announcements_remain}

module _ {last : Origin} {n : ℕ} {f g : ℕ → NodeSummary} {c d : ℕ} (local : AllLocal n f) (kept : GroupInvariant last f) (turn : Turns f g d (record (f d) { status = Normal; task = (f c).carries }))
    (will : Readies f c d) where
  readied : (m k : ℕ) → Readies g m k → Readies f m k × ((f m).carries ≡ (g m).carries)
  readied m k r = grind (arith, turn.same m, turn.same k, r.sent, r.coordinator, r.status)

  elects : ElectsOn f d (record (f d) { status = Normal; task = (f c).carries })
  elects = record { asked = λ k l a. a; passed = λ k l a. a; halts = inl; follows = λ p. grind (arith, will.status); halted = λ m h s. grind (arith, s) }

  pub follows : GroupInvariant last g
  follows = record {
    elections = elections_remain turn elects kept.elections;
    announcements = announcements_remain turn elects (λ k a. a) kept.announcements;
    leaders = record {
      followed = λ m j l t. grind (arith, turn.same m, turn.same j, kept.leaders.followed m j, will.status);
      calls_none_normal = λ m j l t. grind (arith, turn.same m, turn.same j, kept.leaders.followed m d, will.status, will.coordinator, (local c).readies_when d, will.sent);
      hands_task = λ m j l t. grind (arith, turn.same m, turn.same j, kept.leaders.followed m d, will.status, will.coordinator, kept.leaders.hands_carries c d, will.sent, kept.leaders.readied_task c d j will);
      hands_carries = λ m j l r. grind (arith, turn.same m, kept.leaders.hands_carries m j, (local m).leads_itself, will.coordinator);
      readied_task = λ m k j r t. grind (arith, turn.same j, turn.same m, turn.same k, readied m k r, kept.agrees.same_coordinator k d, r.coordinator, r.status, will.coordinator, will.status);
    };
    agrees = record {
      has_coordinator = λ j t. grind (arith, turn.same j, kept.agrees.has_coordinator j, will.coordinator);
      same_coordinator = λ i j t u. grind (arith, turn.same i, turn.same j, kept.agrees.same_coordinator i j, will.status);
      has_task = λ j t. grind (arith, turn.same j, kept.agrees.has_task j, (local c).readies_table d will.sent);
      same_task = λ i j t u. grind (arith, turn.same i, turn.same j, kept.leaders.readied_task c d i will, kept.leaders.readied_task c d j will);
    };
    fenced = record {
      normal_planner = λ j t. grind (arith, turn.same j, kept.fenced.normal_planner j, will.coordinator, kept.fenced.readied_planner c d will);
      normal_table = λ j t. grind (arith, turn.same j, kept.fenced.normal_table j, kept.fenced.readied_table c d will);
      hands_planner = λ m h. grind (arith, turn.same m, kept.fenced.hands_planner m);
      hands_table = λ m h. grind (arith, turn.same m, kept.fenced.hands_table m, kept.fenced.readied_table c d will);
      readied_planner = λ m k r. kept.fenced.readied_planner m k (readied m k r).0;
      readied_table = λ m k r. grind (arith, (readied m k r).1, kept.fenced.readied_table m k (readied m k r).0);
    };
  }
