-- Node c, which asked past all above it and passed all below it, calls these to itself from now on.
use Rattle.std.proofs.Common.{◌≡◌, ℕ, ◌<◌, true, Some, None, arith}
use Rattle.bully_base.specs.declared.node.Status.TheVariants.{Election, Reorganization}
use Rattle.bully_agree.proofs.NodeSummary.{Halts, Calls, NodeSummary, takes_part, leads, AllLocal, Announces, Readies, Origin, GroupInvariant, Turns, sole}

module _ {last : Origin} {n : ℕ} {f g : ℕ → NodeSummary} {c : ℕ} (local : AllLocal n f) (kept : GroupInvariant last f) (turn : Turns f g c (record (f c) { passed = 0; activity = Calls; status = Reorganization; coordinator = Some c }))
    (halts : (f c).activity ≡ Halts) (asked_all : n < (f c).asked) (passed_all : (f c).passed ≡ 1) (idle : (f c).announces ≡ None) (unready : (f c).readies ≡ None) (nobody : (f 0).asked ≡ 0) where
  -- nobody but c would announce
  alone : (m k : ℕ) → Announces f m k → m ≡ c
  alone = sole n c f local kept asked_all (omega arith) (λ _. (local c).halts_itself halts)

  -- and c announces nothing
  none_yet : (m k : ℕ) → Announces g m k → ⊥
  none_yet m k a =
      let before = λ (s : (f m).announces ≡ Some k) (h : (f k).halter ≡ Some m) (e : (f k).status ≡ Election). alone m k (record { sent = s; halter = h; status = e }) in
      grind (arith, turn.same m, turn.same k, a.sent, a.status, a.halter, (local c).halts_itself halts, before)

  -- no other node takes part
  only : (j : ℕ) → takes_part (g j).status ≡ true → j ≡ c
  only j t = grind (arith, turn.same j, kept.elections.asked_apart c j, kept.elections.passed_apart c j, (local j).a_node)

  -- what is readied was so before: c has no call
  readied : (m k : ℕ) → Readies g m k → Readies f m k × ((f m).carries ≡ (g m).carries)
  readied m k r = grind (arith, turn.same m, turn.same k, r.sent, r.coordinator, r.status, unready)

  leading : (m : ℕ) → leads (g m).activity ≡ true → takes_part (g m).status ≡ true
  leading m l = grind (arith, turn.same m, (local m).leads_status)

  pub leads_now : GroupInvariant last g
  leads_now = record {
    elections = record {
      asked_unpassed = λ i k l a. grind (arith, turn.same i, turn.same k, kept.elections.asked_unpassed i k);
      asked_apart = λ i k l a. grind (arith, turn.same i, turn.same k, kept.elections.asked_apart i k, kept.elections.asked_unpassed i c);
      passed_apart = λ m k h l p. grind (arith, turn.same m, turn.same k, kept.elections.passed_apart m k, kept.elections.asked_unpassed c m, (local m).a_node, (local m).down_passed_none);
      halted_unasked = λ i k m p l e h t. grind (arith, turn.same i, turn.same k, turn.same m, kept.elections.halted_unasked i k m, nobody);
    };
    announcements = record {
      unasked = λ i m k a l. grind (arith, none_yet m k a);
      unpassed = λ m m' k a x l. grind (arith, none_yet m' k a);
      followed = λ m k j a t. grind (arith, none_yet m k a);
      single = λ m k m' k' a b. grind (arith, none_yet m k a);
    };
    leaders = record {
      followed = λ m j l t. grind (arith, only m, only j, turn.same j, turn.same m, leading m);
      calls_none_normal = λ m j l t. grind (arith, only j, turn.same j);
      hands_task = λ m j l t. grind (arith, only j, turn.same j);
      hands_carries = λ m j l r. grind (arith, turn.same m, kept.leaders.hands_carries m j);
      readied_task = λ m k j r t. grind (arith, only j, turn.same j);
    };
    agrees = record {
      has_coordinator = λ j t. grind (arith, turn.same j, kept.agrees.has_coordinator j);
      same_coordinator = λ i j t u. grind (arith, turn.same i, turn.same j, only i, only j);
      has_task = λ j t. grind (arith, turn.same j, kept.agrees.has_task j);
      same_task = λ i j t u. grind (arith, turn.same i, turn.same j, kept.agrees.same_task i j);
    };
    fenced = record {
      normal_planner = λ j t. grind (arith, turn.same j, kept.fenced.normal_planner j);
      normal_table = λ j t. grind (arith, turn.same j, kept.fenced.normal_table j);
      hands_planner = λ m h. grind (arith, turn.same m, kept.fenced.hands_planner m);
      hands_table = λ m h. grind (arith, turn.same m, kept.fenced.hands_table m);
      readied_planner = λ m k r. kept.fenced.readied_planner m k (readied m k r).0;
      readied_table = λ m k r. grind (arith, (readied m k r).1, kept.fenced.readied_table m k (readied m k r).0);
    };
  }
