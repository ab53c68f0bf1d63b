-- Node c, which has handed out its task, is Normal from now on.
use Rattle.std.proofs.Common.{◌≡◌, ℕ, None, arith}
use Rattle.bully_base.specs.declared.node.Status.TheVariants.{Normal}
use Rattle.bully_agree.proofs.NodeSummary.{Rests, Hands, NodeSummary, AllLocal, Readies, Origin, GroupInvariant, Turns}
use Rattle.bully_agree.proofs.Changes.Shrinks.{ElectsOn, elections_remain, announcements_remain}

module _ {last : Origin} {n : ℕ} {f g : ℕ → NodeSummary} {c : ℕ} (local : AllLocal n f) (kept : GroupInvariant last f) (turn : Turns f g c (record (f c) { asked = 0; passed = c; activity = Rests; status = Normal }))
    (hands : (f c).activity ≡ Hands) (idle : (f c).readies ≡ None) where
  readied : (m k : ℕ) → Readies g m k → Readies f m k × ((f m).carries ≡ (g m).carries)
  readied m k r = grind (arith, turn.same m, turn.same k, r.sent, r.coordinator, r.status)

  elects : ElectsOn f c (record (f c) { asked = 0; passed = c; activity = Rests; status = Normal })
  elects = record { asked = λ k l a. grind arith; passed = λ k l a. grind arith; halts = λ h. grind arith; follows = λ p. grind (arith, (local c).leads_status); halted = λ m h s. grind (arith, s) }

  pub finishes : GroupInvariant last g
  finishes = record {
    elections = elections_remain turn elects kept.elections;
    announcements = announcements_remain turn elects (λ k a. a) kept.announcements;
    leaders = record {
      followed = λ m j l t. grind (arith, turn.same m, turn.same j, kept.leaders.followed m j, (local c).leads_status);
      calls_none_normal = λ m j l t. grind (arith, turn.same m, turn.same j, kept.leaders.followed m c, (local c).leads_status);
      hands_task = λ m j l t. grind (arith, turn.same m, turn.same j, kept.leaders.followed m c, (local c).leads_status);
      hands_carries = λ m j l r. grind (arith, turn.same m, kept.leaders.hands_carries m j);
      readied_task = λ m k j r t. grind (arith, turn.same j, turn.same m, turn.same k, readied m k r, r.sent, r.coordinator, r.status, kept.leaders.followed c k);
    };
    agrees = record {
      has_coordinator = λ j t. grind (arith, turn.same j, kept.agrees.has_coordinator j, (local c).leads_status);
      same_coordinator = λ i j t u. grind (arith, turn.same i, turn.same j, kept.agrees.same_coordinator i j, (local c).leads_status);
      has_task = λ j t. grind (arith, turn.same j, kept.agrees.has_task j, (local c).hands_task hands);
      same_task = λ i j t u. grind (arith, turn.same i, turn.same j, kept.leaders.hands_task c i, kept.leaders.hands_task c j);
    };
    fenced = record {
      normal_planner = λ j t. grind (arith, turn.same j, kept.fenced.normal_planner j, kept.fenced.hands_planner c hands, (local c).leads_itself);
      normal_table = λ j t. grind (arith, turn.same j, kept.fenced.normal_table j, kept.fenced.hands_table c hands);
      hands_planner = λ m h. grind (arith, turn.same m, kept.fenced.hands_planner m);
      hands_table = λ m h. grind (arith, turn.same m, kept.fenced.hands_table m);
      readied_planner = λ m k r. kept.fenced.readied_planner m k (readied m k r).0;
      readied_table = λ m k r. grind (arith, (readied m k r).1, kept.fenced.readied_table m k (readied m k r).0);
    };
  }
