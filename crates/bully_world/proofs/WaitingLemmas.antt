-- The map of waiting callers goes with the states, from the first world on and over each event.
use Rattle.std.proofs.Common.{◌≡◌, ◌≢◌, ℕ, zero, suc, ◌<◌, ◌≤◌, ◌⊎◌, inl, inr, Bool, true, false, List, [], ◌∷◌, Option, Some, None, refl, sym, ◌∙◌, ap, subst, arith, length, ◌↔◌, ◌==◌, ◌&&◌, All, Contains, IfSome, IfNone, option_map, option_and_then, replicate, slice_index_or, if◌then◌else◌}
use Rattle.std.proofs.lemmas.Bool.{false_from_ne_true}
use Rattle.std.proofs.lemmas.Bool.Decides.{nat_tests}
use Rattle.std.proofs.lemmas.List.Elements.{All-contains}
use Rattle.bully_base.proofs.NodeSetLemmas.{with_node-members, without_node-members}
use Rattle.bully_base.proofs.PlaceLemmas.{at_node_same, at_node_other, at_node_past, at_node_replicate, length-put_node}
use Rattle.bully_base.specs.NodeSet.{lowest_of, with_node, without_node}
use Rattle.bully_base.specs.Places.{put_node}
use Rattle.bully_base.specs.Setup.{Setup, IsNode}
use Rattle.bully_calls.specs.Pending.{is_sent}
use Rattle.bully_calls.specs.Slot.{SlotCall, pending_of}
use Rattle.bully_calls.specs.declared.event.Event.{Event}
use Rattle.bully_calls.specs.Events.{node_of}
use Rattle.bully_calls.specs.Waiting.{callers_of}
use Rattle.bully_world.specs.NodeInvariant.{NodeInvariant, WorldInvariant, SuitsPending}
use Rattle.bully_world.specs.State.{StoredNode, WorldState, empty_state, kept_of, node_state_of, world_in, new_states, waits_for, NobodyWaits, NobodyWaitsBelow}
use Rattle.bully_world.specs.StateAfter.{state_after}
use Rattle.bully_world.specs.Waiting.{sent_callee, sent_in, IsWaiting, with_sent, without_sent}
use Rattle.bully_world.specs.World.{NodeState, is_sent_to}
use Rattle.bully_world.proofs.Events.{event_laws}
use Rattle.bully_world.proofs.EventLaws.{EventLaws}
use Rattle.bully_world.proofs.WorldIn.{node_state-world_in}

-- f is to whom each node's call was sent
abbrev Tells : (ℕ → Option ℕ) → List (List ℕ) → Type 0
Tells f w = (j i : ℕ) → Contains (callers_of w j) i ↔ (f i ≡ Some j)

none_there : (i : ℕ) → Contains [] i → ⊥
none_there i h = omega (arith, h.1)

-- only nodes are waited for
within : (f : ℕ → Option ℕ) (w : List (List ℕ)) (i j : ℕ) → Tells f w → f i ≡ Some j → (0 < j) × (j ≤ length w)
within f w i zero t e = absurd (none_there i ((t zero i).1 e))
within f w i (suc k) t e = by_order (grind arith)
  where
    by_order : (suc k ≤ length w) ⊎ (length w < suc k) → (0 < suc k) × (suc k ≤ length w)
    by_order (inl l) = (omega arith, l)
    by_order (inr l) = absurd (none_there i (subst (λ ms. Contains ms i) (at_node_past [] w (suc k) l) ((t (suc k) i).1 e)))

-- a write to node k's callers
write_cases : (w : List (List ℕ)) (k j : ℕ) (ns : List ℕ) → 0 < k → k ≤ length w → ((j ≡ k) × (callers_of (put_node w k ns) j ≡ ns)) ⊎ ((j ≢ k) × (callers_of (put_node w k ns) j ≡ callers_of w j))
write_cases w k j ns pos l = by_case (grind arith)
  where
    by_case : (j ≡ k) ⊎ (j ≢ k) → ((j ≡ k) × (callers_of (put_node w k ns) j ≡ ns)) ⊎ ((j ≢ k) × (callers_of (put_node w k ns) j ≡ callers_of w j))
    by_case (inl e) = inl (e, ap (callers_of (put_node w k ns)) e ∙ at_node_same [] w k ns pos l)
    by_case (inr d) = inr (d, at_node_other [] w k j ns d)

not_both : {A : Type 0} (j : ℕ) (o : Option ℕ) → o ≡ None → o ≡ Some j → A
not_both j o e f = absurd (cc (e, f))

same_value : (j k : ℕ) (o : Option ℕ) → o ≡ Some j → o ≡ Some k → j ≡ k
same_value j k o e f = cc (e, f)

-- without node c's call
left_tells : (f g : ℕ → Option ℕ) (w : List (List ℕ)) (c : ℕ) (o : Option ℕ) → Tells f w → f c ≡ o → g c ≡ None → ((i : ℕ) → i ≢ c → g i ≡ f i) → Tells g (without_sent c o w)
left_tells f g w c None t e none other j i = by_case (grind arith)
  where
    by_case : (i ≡ c) ⊎ (i ≢ c) → Contains (callers_of w j) i ↔ (g i ≡ Some j)
    by_case (inl s) = ((λ h. not_both j (f i) (ap f s ∙ e) ((t j i).0 h)), (λ q. not_both j (g i) (ap g s ∙ none) q))
    by_case (inr d) = ((λ h. other i d ∙ (t j i).0 h), (λ q. (t j i).1 (sym (other i d) ∙ q)))
left_tells f g w c (Some k) t e none other j i =
    let room = within f w c k t e in
    by_case (grind arith) (write_cases w k j (without_node c (callers_of w k)) room.0 room.1)
  where
    after : List (List ℕ)
    after = put_node w k (without_node c (callers_of w k))

    by_case : (i ≡ c) ⊎ (i ≢ c) → ((j ≡ k) × (callers_of after j ≡ without_node c (callers_of w k))) ⊎ ((j ≢ k) × (callers_of after j ≡ callers_of w j)) → Contains (callers_of after j) i ↔ (g i ≡ Some j)
    by_case (inl s) (inl h) = (
      (λ m. absurd (((without_node-members (callers_of w k) c i).0 (subst (λ ms. Contains ms i) h.1 m)).1 s)),
      (λ q. not_both j (g i) (ap g s ∙ none) q),
    )
    by_case (inl s) (inr h) = (
      (λ m. absurd (h.0 (same_value j k (f i) ((t j i).0 (subst (λ ms. Contains ms i) h.1 m)) (ap f s ∙ e)))),
      (λ q. not_both j (g i) (ap g s ∙ none) q),
    )
    by_case (inr d) (inl h) = (
      (λ m. other i d ∙ (t k i).0 ((without_node-members (callers_of w k) c i).0 (subst (λ ms. Contains ms i) h.1 m)).0 ∙ ap Some (sym h.0)),
      (λ q. subst (λ ms. Contains ms i) (sym h.1) ((without_node-members (callers_of w k) c i).1 ((t k i).1 (sym (other i d) ∙ q ∙ ap Some h.0), d))),
    )
    by_case (inr d) (inr h) = (
      (λ m. other i d ∙ (t j i).0 (subst (λ ms. Contains ms i) h.1 m)),
      (λ q. subst (λ ms. Contains ms i) (sym h.1) ((t j i).1 (sym (other i d) ∙ q))),
    )

-- with node c's call, where it had none
arrived_tells : (f g : ℕ → Option ℕ) (w : List (List ℕ)) (c : ℕ) (o : Option ℕ) → Tells f w → f c ≡ None → g c ≡ o → ((i : ℕ) → i ≢ c → g i ≡ f i) → IfSome o (λ k. (0 < k) × (k ≤ length w)) → Tells g (with_sent c o w)
arrived_tells f g w c None t none e other room j i = by_case (grind arith)
  where
    by_case : (i ≡ c) ⊎ (i ≢ c) → Contains (callers_of w j) i ↔ (g i ≡ Some j)
    by_case (inl s) = ((λ h. not_both j (f i) (ap f s ∙ none) ((t j i).0 h)), (λ q. not_both j (g i) (ap g s ∙ e) q))
    by_case (inr d) = ((λ h. other i d ∙ (t j i).0 h), (λ q. (t j i).1 (sym (other i d) ∙ q)))
arrived_tells f g w c (Some k) t none e other room j i = by_case (grind arith) (write_cases w k j (with_node c (callers_of w k)) room.0 room.1)
  where
    after : List (List ℕ)
    after = put_node w k (with_node c (callers_of w k))

    members : Contains (with_node c (callers_of w k)) i ↔ ((i ≡ c) ⊎ Contains (callers_of w k) i)
    members = with_node-members (callers_of w k) c i

    by_case : (i ≡ c) ⊎ (i ≢ c) → ((j ≡ k) × (callers_of after j ≡ with_node c (callers_of w k))) ⊎ ((j ≢ k) × (callers_of after j ≡ callers_of w j)) → Contains (callers_of after j) i ↔ (g i ≡ Some j)
    by_case (inl s) (inl h) = (
      (λ m. ap g s ∙ e ∙ ap Some (sym h.0)),
      (λ q. subst (λ ms. Contains ms i) (sym h.1) (members.1 (inl s))),
    )
    by_case (inl s) (inr h) = (
      (λ m. not_both j (f i) (ap f s ∙ none) ((t j i).0 (subst (λ ms. Contains ms i) h.1 m))),
      (λ q. absurd (h.0 (same_value j k (g i) q (ap g s ∙ e)))),
    )
    by_case (inr d) (inl h) = (
      (λ m. other i d ∙ there (members.0 (subst (λ ms. Contains ms i) h.1 m)) ∙ ap Some (sym h.0)),
      (λ q. subst (λ ms. Contains ms i) (sym h.1) (members.1 (inr ((t k i).1 (sym (other i d) ∙ q ∙ ap Some h.0))))),
    )
      where
        there : (i ≡ c) ⊎ Contains (callers_of w k) i → f i ≡ Some k
        there (inl s) = absurd (d s)
        there (inr m) = (t k i).0 m
    by_case (inr d) (inr h) = (
      (λ m. other i d ∙ (t j i).0 (subst (λ ms. Contains ms i) h.1 m)),
      (λ q. subst (λ ms. Contains ms i) (sym h.1) ((t j i).1 (sym (other i d) ∙ q))),
    )

-- where nobody but node c has changed
abbrev cleared : ℕ → (ℕ → Option ℕ) → ℕ → Option ℕ
cleared c f i = if i == c then None else f i

cleared_same : (c : ℕ) (f : ℕ → Option ℕ) → cleared c f c ≡ None
cleared_same c f = grind (arith, nat_tests)

cleared_other : (c i : ℕ) (f : ℕ → Option ℕ) → i ≢ c → cleared c f i ≡ f i
cleared_other c i f d = grind (arith, nat_tests, d)

length_without : (c : ℕ) (o : Option ℕ) (w : List (List ℕ)) → length (without_sent c o w) ≡ length w
length_without c None w = refl
length_without c (Some k) w = length-put_node w k _

length_with : (c : ℕ) (o : Option ℕ) (w : List (List ℕ)) → length (with_sent c o w) ≡ length w
length_with c None w = refl
length_with c (Some k) w = length-put_node w k _

pub sent_within : (ms : List StoredNode) (w : List (List ℕ)) (i : ℕ) → IsWaiting ms w → IfSome (sent_in (kept_of ms i)) (λ j. j ≤ length w)
sent_within ms w i is = of_value (sent_in (kept_of ms i)) refl
  where
    of_value : (o : Option ℕ) → sent_in (kept_of ms i) ≡ o → IfSome o (λ j. j ≤ length w)
    of_value None e = tt
    of_value (Some j) e = (within (λ k. sent_in (kept_of ms k)) w i j is.tells e).1

-- the map goes with the states after the event
pub waiting_after : (setup : Setup) (ms : List StoredNode) (e : Event) (w : List (List ℕ)) (before after : Option ℕ) → IsWaiting ms w → sent_in (kept_of ms (node_of e)) ≡ before → sent_in (kept_of (state_after setup ms e) (node_of e)) ≡ after
    → IfSome after (λ j. (0 < j) × (j ≤ length ms)) → IsWaiting (state_after setup ms e) (with_sent (node_of e) after (without_sent (node_of e) before w))
waiting_after setup ms e w before after is was now room = record {
  count = length_with c after (without_sent c before w) ∙ length_without c before w ∙ is.count ∙ sym (laws.many ms);
  tells = arrived_tells (cleared c f) g (without_sent c before w) c after
      (left_tells f (cleared c f) w c before is.tells was (cleared_same c f) (λ i d. cleared_other c i f d))
      (cleared_same c f) now (λ i d. laws.sent ms i d ∙ sym (cleared_other c i f d)) (room_there after room);
}
  where
    laws : EventLaws setup e
    laws = event_laws setup e

    c : ℕ
    c = node_of e

    f : ℕ → Option ℕ
    f i = sent_in (kept_of ms i)

    g : ℕ → Option ℕ
    g i = sent_in (kept_of (state_after setup ms e) i)

    room_there : (o : Option ℕ) → IfSome o (λ j. (0 < j) × (j ≤ length ms)) → IfSome o (λ j. (0 < j) × (j ≤ length (without_sent c before w)))
    room_there None r = tt
    room_there (Some j) r = (r.0, omega (arith, r.1, length_without c before w, is.count))

-- a sent call goes to a node
pub sent_to_node : (setup : Setup) (ms : List StoredNode) (i : ℕ) → WorldInvariant setup (world_in ms) → IfSome (sent_in (kept_of ms i)) (λ j. (0 < j) × (j ≤ setup.nodes))
sent_to_node setup ms i fit = of_content (kept_of ms i).slot.content fits.by_call
  where
    m : StoredNode
    m = kept_of ms i

    fits : NodeInvariant setup i (node_state_of (kept_of ms i))
    fits = subst (NodeInvariant setup i) (node_state-world_in ms i) (fit.fits i)

    of_test : (b : Bool) (k : ℕ) → IsNode setup k → IfSome (if b then Some k else None) (λ j. (0 < j) × (j ≤ setup.nodes))
    of_test true k node = node
    of_test false k node = tt

    of_content : (q : Option SlotCall) → SuitsPending setup i (kept_of ms i).vector.vector (kept_of ms i).point (option_map (pending_of (kept_of ms i).generation) q) → IfSome (option_and_then sent_callee q) (λ j. (0 < j) × (j ≤ setup.nodes))
    of_content None s = tt
    of_content (Some p) s = of_test (is_sent p.phase) p.call.callee s.to_node

-- in the first world nobody waits
pub first_waiting : (setup : Setup) → IsWaiting (new_states setup) (replicate setup.nodes [])
first_waiting setup = record {
  count = as_long {A = List ℕ} [] setup.nodes ∙ sym (as_long (empty_state setup.partitions) setup.nodes);
  tells = λ j i. ((λ h. absurd (none_there i (subst (λ ms. Contains ms i) (at_node_replicate [] setup.nodes j) h))), (λ q. not_both j (sent_in (kept_of (new_states setup) i)) (nobody i) q));
}
  where
    as_long : {A : Type 0} (x : A) (n : ℕ) → length (replicate n x) ≡ n
    as_long x zero = refl
    as_long x (suc n) = ap suc (as_long x n)

    at_place : (n k : ℕ) → sent_in (slice_index_or (replicate n (empty_state setup.partitions)) k (empty_state 0)) ≡ None
    at_place zero k = refl
    at_place (suc n) zero = refl
    at_place (suc n) (suc k) = at_place n k

    nobody : (i : ℕ) → sent_in (kept_of (new_states setup) i) ≡ None
    nobody zero = refl
    nobody (suc k) = at_place setup.nodes k

-- Who waits, in the words of the definitions.

test_of : (j g : ℕ) (q : Option SlotCall) → (option_and_then sent_callee q ≡ Some j) ↔ (is_sent_to j (option_map (pending_of g) q) ≡ true)
test_of j g None = ((λ e. absurd (cc e)), (λ e. absurd (cc e)))
test_of j g (Some p) = by_test (is_sent p.phase)
  where
    by_test : (b : Bool) → ((if b then Some p.call.callee else None) ≡ Some j) ↔ ((b && (p.call.callee == j)) ≡ true)
    by_test true = ((λ e. grind (arith, nat_tests, e)), (λ e. grind (arith, nat_tests, e)))
    by_test false = ((λ e. absurd (cc e)), (λ e. absurd (cc e)))

waits_test : (w : WorldState) (i j : ℕ) → (sent_in (kept_of w.states i) ≡ Some j) ↔ (waits_for w i j ≡ true)
waits_test w i j = subst (λ (m : NodeState). (sent_in (kept_of w.states i) ≡ Some j) ↔ (is_sent_to j m.pending ≡ true)) (sym (node_state-world_in w.states i)) (test_of j (kept_of w.states i).generation (kept_of w.states i).slot.content)

waits_not : (w : WorldState) (waiting : List (List ℕ)) (i j : ℕ) → IsWaiting w.states waiting → (Contains (callers_of waiting j) i → ⊥) → waits_for w i j ≡ false
waits_not w waiting i j is n = false_from_ne_true (waits_for w i j) (λ e. n ((is.tells j i).1 ((waits_test w i j).1 e)))

-- nobody waits for a number past the nodes
pub nobody_waits_past : (w : WorldState) (waiting : List (List ℕ)) (j : ℕ) → IsWaiting w.states waiting → length w.states < j → NobodyWaits w j
nobody_waits_past w waiting j is l i = waits_not w waiting i j is (λ h. omega (arith, l, is.count, (within (λ k. sent_in (kept_of w.states k)) waiting i j is.tells ((is.tells j i).0 h)).1))

lowest_none : (ms : List ℕ) → lowest_of ms ≡ None → ms ≡ []
lowest_none [] e = refl
lowest_none (m ∷ []) e = absurd (cc e)
lowest_none (m ∷ n ∷ ms) e = absurd (some_left n ms e)
  where
    some_left : (n : ℕ) (ms : List ℕ) → lowest_of (n ∷ ms) ≡ None → ⊥
    some_left n [] e = cc e
    some_left n (k ∷ ms) e = some_left k ms e

-- what the lowest of the callers is told by
abbrev pub IsLowestOf : WorldState → ℕ → Option ℕ → Type 0
IsLowestOf w j r = IfSome r (λ caller. waits_for w caller j ≡ true) × IfSome r (NobodyWaitsBelow w j) × IfNone r (NobodyWaits w j)

pub lowest_waits : (w : WorldState) (waiting : List (List ℕ)) (j : ℕ) (r : Option ℕ) → IsWaiting w.states waiting → r ≡ lowest_of (callers_of waiting j) → IfSome r (λ i. (Contains (callers_of waiting j) i) × All (λ k. i ≤ k) (callers_of waiting j)) → IsLowestOf w j r
lowest_waits w waiting j None is e least = (tt, tt, λ i. waits_not w waiting i j is (λ h. none_there i (subst (λ ms. Contains ms i) (lowest_none (callers_of waiting j) (sym e)) h)))
lowest_waits w waiting j (Some caller) is e least = (
  (waits_test w caller j).0 ((is.tells j caller).0 least.0),
  (λ i l. waits_not w waiting i j is (λ h. below i l (All-contains (λ k. caller ≤ k) (callers_of waiting j) i least.1 h))),
  tt,
)
  where
    below : (i : ℕ) → i < caller → caller ≤ i → ⊥
    below i l h = omega arith
