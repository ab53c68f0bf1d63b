-- The store accepts the append of a member that is ready.
use Rattle.std.proofs.Common.{◌≡◌, ◌&&◌, ◌||◌, ◌==◌, ◌∷◌, [], not, if◌then◌else◌, ℕ, Bool, true, false, List, Option, Some, None, ◌⊎◌, inl, inr, Contains, arith, refl, sym, ap, ◌∙◌}
use Rattle.std.proofs.lemmas.Bool.Decides.{nat_tests}
use Rattle.std.specs.List.{list_all}
use Rattle.bully_member.specs.Activities.{busy}
use Rattle.bully_member.specs.Asking.{IsOwn}
use Rattle.bully_member.specs.Member.{Foresees, MemberState, are_no_nodes, has_promised, here, is_affected, is_closing, offset_of, same_promise}
use Rattle.bully_member.specs.declared.opening.Terms.{Terms}
use Rattle.bully_member.specs.declared.values.Promise.{Promise}
use Rattle.bully_rebalance.specs.Leaving.{is_left}
use Rattle.bully_round.proofs.FromLemmas.{part_lem}
use Rattle.bully_round.proofs.FromRound.{ready_foresees, view_of_ready}
use Rattle.bully_round.proofs.GroupLemmas.{has_of, is_left_all, ready_itself, two_of}
use Rattle.bully_round.specs.From.{AreReady, HasMember, IsUpTo, NamesReady}
use Rattle.bully_round.specs.Group.{HasSameView, HaveOneView, IsAtRest}
use Rattle.bully_run.specs.Run.{Happening, HasRun, Run}
use Rattle.bully_work.specs.Store.{AcceptsAppend, Lease as Held, Promised, current, nothing_in}

same_parts : (p q : Promise) → same_promise p q ≡ true → (p.epoch ≡ q.epoch) × (p.offset ≡ q.offset)
same_parts p q is = let (one, other) = two_of (p.epoch == q.epoch) (p.offset == q.offset) is in (grind (arith, nat_tests, one), grind (arith, nat_tests, other))

none_coming : (coop closes none : Bool) (table : Option (List ℕ)) → coop ≡ false → (if not coop || closes || none then None else table) ≡ None
none_coming true closes none table is = absurd (cc is)
none_coming false closes none table is = refl

-- without a coming table nothing may be kept
keeps_nothing : (coming : Option (List ℕ)) (node : ℕ) (ks : List ℕ) → coming ≡ None → list_all (is_left coming node) ks ≡ true → ks ≡ []
keeps_nothing coming node [] none left = refl
keeps_nothing coming node (k ∷ ks) none left = absurd (cc (left, ap (λ (t : Option (List ℕ)). is_left t node k && list_all (is_left t node) ks) none))

nothing_is : (p : Promised) (e offset : ℕ) → p.epoch ≡ e → p.offset ≡ offset → p.kept ≡ [] → p ≡ nothing_in e offset
nothing_is p e offset epoch at kept =
    ap (λ x. record { epoch = x; offset = p.offset; kept = p.kept }) epoch ∙ ap (λ x. record { epoch = e; offset = x; kept = p.kept }) at ∙ ap (λ (ks : List ℕ). record { epoch = e; offset = offset; kept = ks }) kept

module _ (happenings : List Happening) (R : Run) (run : HasRun happenings R) (ms : List MemberState) (ready : AreReady R ms) (w : MemberState) (has : Contains ms w) where
  view : HaveOneView ms
  view = view_of_ready happenings R ms run ready

  up : IsUpTo R w
  up = ready.together.up_to w has

  eager_done : (i : ℕ) (held : Held) → R.store.live i ≡ Some held → is_affected w ((current R.store).number i) ≡ true → w.terms.is_cooperative ≡ false → held.promised ≡ nothing_in w.terms.epoch (offset_of w)
  eager_done i held live affected eager = by_holder (ready.together.holders i held live)
    where
      by_holder : (n : MemberState) × (p : ℕ) × (at : HasMember R p n) × Contains ms n × (at.name ≡ i) → held.promised ≡ nothing_in w.terms.epoch (offset_of w)
      by_holder (n, p, at, one, named) =
          nothing_is held.promised w.terms.epoch (offset_of w) (own.epoch ∙ promised.0 ∙ sym alike.epoch) (own.offset ∙ promised.1 ∙ sym alike.offset)
          (own.kept parts.1 ∙ keeps_nothing n.coming n.terms.node (busy n.works) none (is_left_all n rest.0 rest.1 (view.old n one)))
        where
          alike : HasSameView w n
          alike = view.alike w n has one

          rest : (now : ℕ) × IsAtRest n now false
          rest = view.rest n one

          own : IsOwn n n.terms.node held
          own = (ready.together.has n p at one).knows held (ap R.store.live named ∙ live)

          number : (current R.store).number i ≡ n.terms.node
          number = ap (current R.store).number (sym named) ∙ sym ((part_lem happenings R p n run at).number ∙ ap (λ e. (R.store.epochs e).number at.name) (ready.together.up_to n one).epoch)

          too : is_affected n n.terms.node ≡ true
          too = sym (alike.affected ((current R.store).number i) ∙ ap (is_affected n) number) ∙ affected

          parts : (same_promise n.own (here n) ≡ true) × (n.is_exact ≡ true)
          parts = two_of (same_promise n.own (here n)) n.is_exact (has_of (is_affected n n.terms.node) (has_promised n) (ready_itself n rest.0 rest.1 (view.old n one)) too)

          promised : (n.own.epoch ≡ n.terms.epoch) × (n.own.offset ≡ offset_of n)
          promised = same_parts n.own (here n) parts.0

          foresees : Foresees n
          foresees = ready_foresees happenings R ms run ready n one

          none : n.coming ≡ None
          none = foresees.comes ∙ none_coming n.terms.is_cooperative (is_closing n) (are_no_nodes n.group) _ (ap (λ (t : Terms). t.is_cooperative) (ready.alike w n has one).terms ∙ eager)

  pub accepts : (silent : ℕ → Bool) (seen : ℕ → Option Held) → NamesReady R w silent seen → AcceptsAppend R.store w.terms.epoch (offset_of w) silent seen
  accepts silent seen names = (up.epoch, up.whole, by_mode w.terms.is_cooperative refl)
    where
      by_mode : (coop : Bool) → w.terms.is_cooperative ≡ coop → (i : ℕ) (held : Held) → R.store.live i ≡ Some held → silent i ≡ false → (seen i ≡ Some held) ⊎ (held.promised ≡ nothing_in w.terms.epoch (offset_of w))
      by_mode true is i held live asked = inl (names.found is i asked ∙ live)
      by_mode false is i held live asked = inr (eager_done i held live (names.affected i held live asked) is)

pub accepts_lem : (happenings : List Happening) (R : Run) (ms : List MemberState) (w : MemberState) (silent : ℕ → Bool) (seen : ℕ → Option Held) → HasRun happenings R → AreReady R ms → Contains ms w → NamesReady R w silent seen
    → AcceptsAppend R.store w.terms.epoch (offset_of w) silent seen
accepts_lem happenings R ms w silent seen run ready has names = accepts happenings R run ms ready w has silent seen names
