-- Node c, which hands the lower nodes its task, sends it to node d.
use Rattle.std.proofs.Common.{◌≡◌, ℕ, Some, arith, refl}
use Rattle.bully_base.specs.declared.node.Status.TheVariants.{Reorganization, Normal}
use Rattle.bully_agree.proofs.NodeSummary.{Hands, NodeSummary, Readies, Origin, GroupInvariant, Turns}
use Rattle.bully_agree.proofs.Changes.Shrinks.{elects_alike, elections_remain, announcements_remain, agrees_remain}

module _ {last : Origin} {f g : ℕ → NodeSummary} {c d : ℕ} (kept : GroupInvariant last f) (turn : Turns f g c (record (f c) { readies = Some d; carries = (f c).task }))
    (hands : (f c).activity ≡ Hands) where
  old : (m k j : ℕ) → (f m).readies ≡ Some k → (f k).coordinator ≡ Some m → (f k).status ≡ Reorganization → (f j).status ≡ Normal → (f j).task ≡ (f m).carries
  old m k j s h e t = kept.leaders.readied_task m k j (record { sent = s; coordinator = h; status = e }) t

  fenced_before : (m k : ℕ) → (f m).readies ≡ Some k → (f k).coordinator ≡ Some m → (f k).status ≡ Reorganization → (last.planner ≡ Some m) × ((f m).carries ≡ last.table)
  fenced_before m k s h e =
      let before : Readies f m k = record { sent = s; coordinator = h; status = e } in
      (kept.fenced.readied_planner m k before, kept.fenced.readied_table m k before)

  pub readies : GroupInvariant last g
  readies = record {
    elections = elections_remain turn (elects_alike refl (λ h. h)) kept.elections;
    announcements = announcements_remain turn (elects_alike refl (λ h. h)) (λ k a. a) kept.announcements;
    leaders = record {
      followed = λ m j l t. grind (arith, turn.same m, turn.same j, kept.leaders.followed m j);
      calls_none_normal = λ m j l t. grind (arith, turn.same m, turn.same j, kept.leaders.calls_none_normal m j);
      hands_task = λ m j l t. grind (arith, turn.same m, turn.same j, kept.leaders.hands_task m j);
      hands_carries = λ m j l r. grind (arith, turn.same m, kept.leaders.hands_carries m j);
      readied_task = λ m k j r t. grind (arith, turn.same j, turn.same m, turn.same k, r.sent, r.coordinator, r.status, kept.leaders.hands_task c j, old m k j);
    };
    agrees = agrees_remain turn (λ p. (p, refl)) (λ p. (p, refl)) kept.agrees;
    fenced = record {
      normal_planner = λ j t. grind (arith, turn.same j, kept.fenced.normal_planner j);
      normal_table = λ j t. grind (arith, turn.same j, kept.fenced.normal_table j);
      hands_planner = λ m h. grind (arith, turn.same m, kept.fenced.hands_planner m);
      hands_table = λ m h. grind (arith, turn.same m, kept.fenced.hands_table m);
      readied_planner = λ m k r. grind (arith, turn.same m, turn.same k, r.sent, r.coordinator, r.status, kept.fenced.hands_planner c hands, fenced_before m k);
      readied_table = λ m k r. grind (arith, turn.same m, turn.same k, r.sent, r.coordinator, r.status, kept.fenced.hands_table c hands, fenced_before m k);
    };
  }
