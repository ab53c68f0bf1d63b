-- Node c, which calls the lower nodes to itself, plans the table x.
use Rattle.std.proofs.Common.{◌≡◌, ◌≢◌, ℕ, List, Some, arith, refl, ap, sym}
use Rattle.bully_base.specs.declared.node.Status.TheVariants.{Normal}
use Rattle.bully_agree.proofs.NodeSummary.{Calls, Hands, NodeSummary, AllLocal, Readies, Origin, GroupInvariant, Turns}
use Rattle.bully_agree.proofs.Changes.Shrinks.{elects_alike, elections_remain, announcements_remain, agrees_remain}

module _ {last : Origin} {n : ℕ} {f g : ℕ → NodeSummary} {c : ℕ} {x : List ℕ} (local : AllLocal n f) (kept : GroupInvariant last f) (turn : Turns f g c (record (f c) { activity = Hands; task = Some x }))
    (calls : (f c).activity ≡ Calls) where
  not_normal : (f c).status ≢ Normal
  not_normal = kept.leaders.calls_none_normal c c calls

  -- nobody is Normal
  none_normal : (j : ℕ) → (g j).status ≢ Normal
  none_normal j t = grind (arith, turn.same j, kept.leaders.calls_none_normal c j calls, not_normal, t)

  -- nobody but c hands out a task
  only : (m : ℕ) → (g m).activity ≡ Hands → m ≡ c
  only m h = grind (arith, turn.same m, kept.leaders.followed c m, (local m).leads_status, (local m).leads_itself, calls)

  -- and no Ready would take effect
  none_readied : (m k : ℕ) → Readies g m k → ⊥
  none_readied m k r = grind (arith, turn.same m, turn.same k, r.sent, r.coordinator, r.status, kept.leaders.followed c k, calls, (local c).readies_when k)

  pub plans : GroupInvariant (record { planner = Some c; table = Some x }) g
  plans = record {
    elections = elections_remain turn (elects_alike refl (λ h. grind arith)) kept.elections;
    announcements = announcements_remain turn (elects_alike refl (λ h. grind arith)) (λ k a. a) kept.announcements;
    leaders = record {
      followed = λ m j l t. grind (arith, turn.same m, turn.same j, kept.leaders.followed m j);
      calls_none_normal = λ m j l t. grind (arith, turn.same m, turn.same j, kept.leaders.calls_none_normal m j);
      hands_task = λ m j l t. grind (arith, turn.same m, turn.same j, kept.leaders.calls_none_normal c j, not_normal);
      hands_carries = λ m j l r. grind (arith, turn.same m, kept.leaders.hands_carries m j, (local c).readies_when j);
      readied_task = λ m k j r t. grind (arith, turn.same j, kept.leaders.calls_none_normal c j, not_normal);
    };
    agrees = agrees_remain turn (λ p. (p, refl)) (λ p. absurd (not_normal p)) kept.agrees;
    fenced = record {
      normal_planner = λ j t. absurd (none_normal j t);
      normal_table = λ j t. absurd (none_normal j t);
      hands_planner = λ m h. ap Some (sym (only m h));
      hands_table = λ m h. grind (arith, turn.same m, only m h);
      readied_planner = λ m k r. absurd (none_readied m k r);
      readied_table = λ m k r. absurd (none_readied m k r);
    };
  }
