-- Runs: one event more, where one stops, and that a lawful list doesn't stop.
use Rattle.std.proofs.Common.{◌≡◌, ◌<◌, ◌+◌, ◌++◌, ℕ, suc, List, [], ◌∷◌, Some, None, take, drop, drop-cons, length, add-one, arith, sym, ap, subst, ◌∙◌, slice_get, length-take-le, take-append-drop}
use Rattle.std.proofs.Math.Seq.{take-suc}
use Rattle.std.proofs.lemmas.Option.{slice_get_within, get_or_from_slice_get}
use Rattle.bully_base.specs.Setup.{Setup}
use Rattle.bully_calls.specs.declared.call.Answer.{Answer}
use Rattle.bully_world.proofs.CauseLemmas.{no_cause_if_step}
use Rattle.bully_world.proofs.LawfulLemmas.{lawful_more, lead_split}
use Rattle.bully_world.proofs.StepOfLemmas.{lead_one}
use Rattle.bully_world.proofs.NodeInvariantLemmas.{lawful_fits}
use Rattle.bully_world.proofs.ApplyLemmas.{room_of}
use Rattle.bully_world.specs.Cause.{cause}
use Rattle.bully_world.specs.Lawful.{IsLawful, LeadTo}
use Rattle.bully_world.specs.Step.{Step}
use Rattle.bully_world.specs.World.{World, first_world}
use Rattle.bully_calls.specs.declared.event.Event.{Event}
use Rattle.bully_calls.specs.declared.event.Refused.{Refused}
use Rattle.bully_agree.specs.Runs.{RunsTo, StopsAt}

pub take-more : {A : Type 0} (xs : List A) (k : ℕ) (x : A) → slice_get xs k ≡ Some x → take (k + 1) xs ≡ take k xs ++ x ∷ []
take-more xs k x there =
    rw (add-one k) (take-suc xs k x (slice_get_within xs k x there) ∙ ap (λ y. take k xs ++ y ∷ []) (get_or_from_slice_get xs k x x there))

-- a list, parted at an element
pub part : {A : Type 0} (xs : List A) (k : ℕ) (x : A) → slice_get xs k ≡ Some x → xs ≡ take k xs ++ x ∷ drop (suc k) xs
part xs k x there =
    sym (take-append-drop k xs) ∙ ap (λ ys. take k xs ++ ys) (drop-cons xs k x (slice_get_within xs k x there) ∙ ap (λ y. y ∷ drop (suc k) xs) (get_or_from_slice_get xs k x x there))

-- an event that isn't refused
pub run-more : (setup : Setup) (events : List Event) (index count : ℕ) (e : Event) (w w' : World) (a : Answer) → slice_get events index ≡ Some e → count ≡ index → cause setup w count e ≡ None → Step setup w e w' a
    → RunsTo setup (take index events) w → RunsTo setup (take (index + 1) events) w'
run-more setup events index count e w w' a there same none step so_far =
    let within : index < length events = slice_get_within events index e there in
    let size : length (take index events) ≡ index = length-take-le index events (omega (arith, within)) in
    let room : length (take index events) < setup.events_max = omega (arith, size, same, room_of setup w count e none) in
    (so_far.0 ++ a ∷ [], subst (λ xs. IsLawful setup xs (so_far.0 ++ a ∷ []) w') (sym (take-more events index e there)) (lawful_more setup (take index events) so_far.0 w e a w' so_far.1 room step))

-- an event that is refused
pub run-stops : (setup : Setup) (events : List Event) (index count : ℕ) (e : Event) (w : World) (why : Refused) → slice_get events index ≡ Some e → count ≡ index → cause setup w count e ≡ Some why
    → RunsTo setup (take index events) w → StopsAt setup events index why
run-stops setup events index count e w why there same refused so_far = record {
  event = e;
  answers = so_far.0;
  world = w;
  there = there;
  lawful = so_far.1;
  refused = rw same at refused;
}

first_step : (setup : Setup) (w : World) (e : Event) (events : List Event) (answers : List Answer) (w' : World) → LeadTo setup w (e ∷ events) answers w' → (mid : World) × (a : Answer) × Step setup w e mid a
first_step setup w e events [] w' lead = elim lead [ ]
first_step setup w e events (a ∷ answers) w' lead = (lead.0, a, lead.1)

-- no event of a lawful list is refused
pub never_stops : (setup : Setup) (events : List Event) (index : ℕ) (why : Refused) (answers : List Answer) (w : World) → StopsAt setup events index why → IsLawful setup events answers w → ⊥
never_stops setup events index why answers w stop lawful =
    let within : index < length events = slice_get_within events index stop.event stop.there in
    let parts = lead_split setup (first_world setup) (take index events) (stop.event ∷ drop (suc index) events) answers w
    (subst (λ xs. LeadTo setup (first_world setup) xs answers w) (part events index stop.event stop.there) lawful.leads) in
    let same = lead_one setup (first_world setup) (take index events) parts.0 stop.answers parts.2 stop.world parts.4 stop.lawful.leads in
    let step = first_step setup parts.2 stop.event (drop (suc index) events) parts.1 w parts.5 in
    let all = lawful_fits setup (take index events) stop.answers stop.world stop.lawful in
    let room : index < setup.events_max = omega (arith, within, lawful.bounded) in
    let none : cause setup stop.world index stop.event ≡ None = no_cause_if_step setup stop.world index stop.event step.0 step.1 all room (subst (λ v. Step setup v stop.event step.0 step.1) same.0 step.2) in
    absurd (cc (none, stop.refused))
