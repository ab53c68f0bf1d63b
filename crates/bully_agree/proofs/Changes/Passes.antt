-- Node c has passed node d, which takes no part, has asked past nobody, and hears of no other node.
use Rattle.std.proofs.Common.{◌≡◌, ℕ, ◌+◌, ◌<◌, ◌≤◌, false, arith, refl}
use Rattle.bully_agree.proofs.NodeSummary.{NodeSummary, takes_part, Announces, Origin, GroupInvariant, Turns}
use Rattle.bully_agree.proofs.Changes.Shrinks.{leads_alike, leaders_remain, agrees_remain, fenced_remain}

module _ {last : Origin} {f g : ℕ → NodeSummary} {c d : ℕ} (kept : GroupInvariant last f) (turn : Turns f g c (record (f c) { passed = d })) (below : d < c) (so_far : (f c).passed ≡ d + 1)
    (apart : takes_part (f d).status ≡ false) (unasking : (f d).asked ≤ d + 1) (heard_of : (m : ℕ) → Announces f m d → m ≡ c) where
  announced : (m k : ℕ) → Announces g m k → Announces f m k
  announced m k a = grind (arith, turn.same m, turn.same k, a.sent, a.halter, a.status)

  pub passes : GroupInvariant last g
  passes = record {
    elections = record {
      asked_unpassed = λ i k l a. grind (arith, turn.same i, turn.same k, kept.elections.asked_unpassed i k);
      asked_apart = λ i k l a. grind (arith, turn.same i, turn.same k, kept.elections.asked_apart i k);
      passed_apart = λ m k h l p. grind (arith, turn.same m, turn.same k, kept.elections.passed_apart m k);
      halted_unasked = λ i k m p l e h t. grind (arith, turn.same i, turn.same k, turn.same m, kept.elections.halted_unasked i k m);
    };
    announcements = record {
      unasked = λ i m k a l. grind (arith, turn.same i, kept.announcements.unasked i m k (announced m k a));
      unpassed = λ m m' k a x l. grind (arith, turn.same m, kept.announcements.unpassed m m' k (announced m' k a), heard_of m');
      followed = λ m k j a t. grind (arith, turn.same j, kept.announcements.followed m k j (announced m k a));
      single = λ m k m' k' a b. kept.announcements.single m k m' k' (announced m k a) (announced m' k' b);
    };
    leaders = leaders_remain turn (leads_alike refl) kept.leaders;
    agrees = agrees_remain turn (λ p. (p, refl)) (λ p. (p, refl)) kept.agrees;
    fenced = fenced_remain turn (leads_alike refl) kept.fenced;
  }
