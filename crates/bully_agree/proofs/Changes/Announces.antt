-- Node c, which calls the lower nodes to itself, sends a NewCoordinator to node d.
use Rattle.std.proofs.Common.{◌≡◌, ℕ, ◌<◌, true, Some, None, arith, refl}
use Rattle.bully_base.specs.declared.node.Status.TheVariants.{Election}
use Rattle.bully_agree.proofs.NodeSummary.{Calls, NodeSummary, leads, AllLocal, Announces, Origin, GroupInvariant, Turns, sole}
use Rattle.bully_agree.proofs.Changes.Shrinks.{elects_alike, elections_remain, leads_alike, leaders_remain, agrees_remain, fenced_remain}

module _ {last : Origin} {n : ℕ} {f g : ℕ → NodeSummary} {c d : ℕ} (local : AllLocal n f) (kept : GroupInvariant last f) (turn : Turns f g c (record (f c) { announces = Some d }))
    (below : d < c) (calls : (f c).activity ≡ Calls) (idle : (f c).announces ≡ None) where
  leading : leads (f c).activity ≡ true
  leading = grind (arith, calls)

  -- nobody but c would announce
  alone : (m k : ℕ) → Announces f m k → m ≡ c
  alone = sole n c f local kept ((local c).leads_asked leading) (omega (arith, (local c).leads_passed leading)) (λ e. absurd (grind (arith, e, (local c).leads_status leading)))

  -- what is announced is c's new call
  announced : (m k : ℕ) → Announces g m k → (m ≡ c) × (k ≡ d)
  announced m k a =
      let before = λ (s : (f m).announces ≡ Some k) (h : (f k).halter ≡ Some m) (e : (f k).status ≡ Election). alone m k (record { sent = s; halter = h; status = e }) in
      grind (arith, turn.same m, turn.same k, a.sent, a.halter, a.status, before)

  pub announces : GroupInvariant last g
  announces = record {
    elections = elections_remain turn (elects_alike refl (λ h. h)) kept.elections;
    announcements = record {
      unasked = λ i m k a l. grind (arith, turn.same i, turn.same k, announced m k a, kept.elections.halted_unasked i d c, (local c).leads_passed, a.halter, a.status);
      unpassed = λ m m' k a x l. grind (
        arith,
        turn.same m,
        announced m' k a,
        (local c).leads_passed,
        (local c).leads_asked,
        (local m).passed_then_asked,
        (local m).down_passed_none,
        (local m).a_node,
        kept.elections.asked_unpassed c m,
        kept.elections.asked_unpassed m c,
      );
      followed = λ m k j a t. grind (arith, turn.same j, announced m k a, kept.leaders.followed c j);
      single = λ m k m' k' a b. grind (arith, announced m k a, announced m' k' b);
    };
    leaders = leaders_remain turn (leads_alike refl) kept.leaders;
    agrees = agrees_remain turn (λ p. (p, refl)) (λ p. (p, refl)) kept.agrees;
    fenced = fenced_remain turn (leads_alike refl) kept.fenced;
  }
