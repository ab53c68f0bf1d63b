-- What a writer found by a snapshot of the whole log stays so as long as nothing is appended.
use Rattle.std.proofs.Common.{◌≡◌, ◌≤◌, ◌++◌, ◌⊎◌, inl, inr, ℕ, Bool, true, false, List, [], ◌∷◌, Option, Some, None, length, length-append, Contains, arith, refl, sym, ap, subst, ◌∙◌}
use Rattle.std.proofs.lemmas.List.Elements.{Contains-append_left}
use Rattle.bully_base.specs.Setup.{Setup}
use Rattle.bully_calls.specs.declared.event.Event.{Event}
use Rattle.bully_work.proofs.StoreLemmas.{AreIn, Found, Keeps, Sessions, after, become_keeps, begun_by, end_reaches, grown, live, no_lease, none_in, one_lease, sessions, store_keeps, was_of, written, written_is}
use Rattle.bully_work.specs.Store.{Act, Append, RollOver, Acquire, Yield, End, Learn, Promise, Begin, Stop, Become, Does, Epoch, HasPromised, IsAtWork, IsLive, IsReached, IsUnchanged, Lease, MayAppend, Owns, OwnsIn, OwnsNow, Piece, Promised, Session, Store, begins, current, learns, longer, nothing_in, promises, rolled, stops, with_lease, with_session}

-- A promise stands, whatever is done.

still_promised : (s : Store) (i n : ℕ) (new : Session) → AreIn (s.sessions i n).promises new.promises → (j m : ℕ) (p : Promised) → HasPromised s j m p → HasPromised (with_session s i n new) j m p
still_promised s i n new more j m p has = by_case (sessions s i n new j m)
  where
    by_case : Sessions s i n new j m (after s i n new j m) → HasPromised (with_session s i n new) j m p
    by_case (inl (e, f, found)) =
        subst (λ (l : Session). Contains l.promises p) (sym found)
        (more p (subst (λ y. Contains (s.sessions y n).promises p) e (subst (λ y. Contains (s.sessions j y).promises p) f has)))
    by_case (inr found) = subst (λ (l : Session). Contains l.promises p) (sym found) has

does_promised : (s : Store) (act : Act) (s' : Store) → Does s act s' → (j m : ℕ) (p : Promised) → HasPromised s j m p → HasPromised s' j m p
does_promised s (Append e offset silent seen events) s' (accepts, may, becomes) j m p has = rw becomes has
does_promised s (RollOver e offset silent setup number) s' (accepts, may, becomes) j m p has = rw becomes has
does_promised s (Acquire i n e offset) s' (accepts, may, becomes) j m p has = rw becomes has
does_promised s (Yield i n promised) s' (accepts, may, becomes) j m p has = rw becomes has
does_promised s (End i) s' becomes j m p has = rw becomes has
does_promised s (Learn i n e offset) s' (had, may, becomes) j m p has =
    rw becomes (still_promised s i n (record (s.sessions i n) { epoch = e; learned = offset }) (λ q made. made) j m p has)
does_promised s (Promise i n promised) s' (may, becomes) j m p has =
    rw becomes (still_promised s i n (record (s.sessions i n) { promises = (s.sessions i n).promises ++ promised ∷ [] }) (λ q made. Contains-append_left (s.sessions i n).promises (promised ∷ []) q made) j m p has)
does_promised s (Begin i n x) s' (may, becomes) j m p has =
    rw becomes (still_promised (record s { begun = begun_by i n x ∷ s.begun }) i n (record (s.sessions i n) { work = (s.sessions i n).work ++ x ∷ [] }) (λ q made. made) j m p has)
does_promised s (Stop i n left) s' (may, becomes) j m p has = rw becomes (still_promised s i n (record (s.sessions i n) { work = left }) (λ q made. made) j m p has)

become_promised : (s : Store) (acts : List Act) (s' : Store) → Become s acts s' → (j m : ℕ) (p : Promised) → HasPromised s j m p → HasPromised s' j m p
become_promised s [] s' is j m p has = rw is has
become_promised s (act ∷ acts) s' is j m p has = become_promised is.0 acts s' is.2 j m p (does_promised s act is.0 is.1 j m p has)

-- Neither the epoch's number nor, in one epoch, the log gets less; and an epoch's setup stays.

pub record IsLater (s now : Store) : Type 0 where
  pub epoch : s.epoch ≤ now.epoch
  pub longer : now.epoch ≡ s.epoch → length (current s).log ≤ length (current now).log
  pub setup : now.epoch ≡ s.epoch → (current now).setup ≡ (current s).setup
  pub number : now.epoch ≡ s.epoch → (current now).number ≡ (current s).number

same_later : (s now : Store) → now.epoch ≡ s.epoch → current now ≡ current s → IsLater s now
same_later s now epoch same = record {
  epoch = omega (arith, epoch);
  longer = λ e. let size = ap (λ (x : Epoch). length x.log) same in omega (arith, size);
  setup = λ e. ap (λ (x : Epoch). x.setup) same;
  number = λ e. ap (λ (x : Epoch). x.number) same;
}

later_then : (s mid now : Store) → IsLater s mid → IsLater mid now → IsLater s now
later_then s mid now first rest = record {
  epoch = let a = first.epoch in let b = rest.epoch in omega (arith, a, b);
  longer = λ e. let a = first.longer (at e) in let b = rest.longer (from e) in omega (arith, a, b);
  setup = λ e. rest.setup (from e) ∙ first.setup (at e);
  number = λ e. rest.number (from e) ∙ first.number (at e);
}
  where
    at : now.epoch ≡ s.epoch → mid.epoch ≡ s.epoch
    at e = let a = first.epoch in let b = rest.epoch in omega (arith, a, b, e)

    from : now.epoch ≡ s.epoch → now.epoch ≡ mid.epoch
    from e = let a = first.epoch in let b = rest.epoch in omega (arith, a, b, e)

append_later : (s : Store) (events : List Event) → IsLater s (longer s events)
append_later s events = record {
  epoch = omega arith;
  longer = λ e. subst (λ (x : Epoch). length (current s).log ≤ length x.log) (sym at) (let size = length-append (current s).log events in omega (arith, size));
  setup = λ e. ap (λ (x : Epoch). x.setup) at;
  number = λ e. ap (λ (x : Epoch). x.number) at;
}
  where
    at : written s s.epoch (grown (current s) events) s.epoch ≡ grown (current s) events
    at = written_is s s.epoch (grown (current s) events)

rolled_later : (s : Store) (setup : Setup) (number : ℕ → ℕ) → IsLater s (rolled s setup number)
rolled_later s setup number = record { epoch = omega arith; longer = λ e. absurd (omega (arith, e)); setup = λ e. absurd (omega (arith, e)); number = λ e. absurd (omega (arith, e)) }

does_later : (s : Store) (act : Act) (s' : Store) → Does s act s' → IsLater s s'
does_later s (Append e offset silent seen events) s' (accepts, may, becomes) = rw becomes (append_later s events)
does_later s (RollOver e offset silent setup number) s' (accepts, may, becomes) = rw becomes (rolled_later s setup number)
does_later s (Acquire i n e offset) s' (accepts, may, becomes) = rw becomes (same_later s (with_lease s i (Some (record { session = n; promised = nothing_in e offset }))) refl refl)
does_later s (Yield i n promised) s' (accepts, may, becomes) = rw becomes (same_later s (with_lease s i (Some (record { session = n; promised = promised }))) refl refl)
does_later s (End i) s' becomes = rw becomes (same_later s (with_lease s i None) refl refl)
does_later s (Learn i n e offset) s' (had, may, becomes) = rw becomes (same_later s (learns s i n e offset) refl refl)
does_later s (Promise i n promised) s' (may, becomes) = rw becomes (same_later s (promises s i n promised) refl refl)
does_later s (Begin i n x) s' (may, becomes) = rw becomes (same_later s (begins s i n x) refl refl)
does_later s (Stop i n left) s' (may, becomes) = rw becomes (same_later s (stops s i n left) refl refl)

become_later : (s : Store) (acts : List Act) (s' : Store) → Become s acts s' → IsLater s s'
become_later s [] s' is = rw is (same_later s s refl refl)
become_later s (act ∷ acts) s' is = later_then s is.0 s' (does_later s act is.0 is.1) (become_later is.0 acts s' is.2)

-- Since the store was s, with nothing appended, each holder of a lease was one then, or has promised the end of the log and keeps nothing.

abbrev pub end_of : Store → Promised
end_of s = nothing_in s.epoch (length (current s).log)

abbrev pub Since : Store → Store → ℕ → ℕ → Type 0
Since s now i n = ((there : Lease) × (s.live i ≡ Some there) × (there.session ≡ n)) ⊎ HasPromised now i n (end_of s)

abbrev pub AllSince : Store → Store → Type 0
AllSince s now = (i n : ℕ) → IsLive now i n → Since s now i n

since_more : (s now then : Store) (i n : ℕ) → ((p : Promised) → HasPromised now i n p → HasPromised then i n p) → Since s now i n → Since s then i n
since_more s now then i n more (inl is) = inl is
since_more s now then i n more (inr has) = inr (more (end_of s) has)

abbrev pub given : ℕ → Promised → Option Lease
given n p = Some (record { session = n; promised = p })

-- one lease is written
written_since : (s now : Store) (i : ℕ) (new : Option Lease) → ((n : ℕ) (p : Promised) → new ≡ given n p → Since s now i n) → AllSince s now → AllSince s (with_lease now i new)
written_since s now i new is all j m here = by_case (live now i new j)
  where
    by_case : Found now i new j ((with_lease now i new).live j) → Since s (with_lease now i new) j m
    by_case (inl (e, found)) = subst (λ y. Since s now y m) (sym e) (is m here.0 (sym found ∙ here.1))
    by_case (inr (d, found)) = all j m (here.0, sym found ∙ here.1)

does_since : (s now : Store) (act : Act) (then : Store) → now.epoch ≡ s.epoch → length (current now).log ≡ length (current s).log → Does now act then → AllSince s now → AllSince s then
does_since s now (Append e offset silent seen events) then epoch end (accepts, may, becomes) all = rw becomes all
does_since s now (RollOver e offset silent setup number) then epoch end (accepts, may, becomes) all = rw becomes all
does_since s now (Acquire i n e offset) then epoch end ((nobody, same, here), made, becomes) all =
    rw becomes (written_since s now i (Some (record { session = n; promised = nothing_in e offset })) new all)
  where
    is_end : nothing_in e offset ≡ end_of s
    is_end = ap (λ y. nothing_in y offset) (same ∙ epoch) ∙ ap (λ y. nothing_in s.epoch y) (here ∙ end)

    new : (m : ℕ) (p : Promised) → given n (nothing_in e offset) ≡ given m p → Since s now i m
    new m p is =
        let one = one_lease (record { session = n; promised = nothing_in e offset }) (record { session = m; promised = p }) refl is in
        inr (subst (λ x. HasPromised now i x (end_of s)) (ap (λ (x : Lease). x.session) one) (subst (λ x. HasPromised now i n x) is_end made))
does_since s now (Yield i n promised) then epoch end (here, made, becomes) all = rw becomes (written_since s now i (Some (record { session = n; promised = promised })) new all)
  where
    new : (m : ℕ) (p : Promised) → given n promised ≡ given m p → Since s now i m
    new m p is =
        let one = one_lease (record { session = n; promised = promised }) (record { session = m; promised = p }) refl is in
        subst (λ x. Since s now i x) (ap (λ (x : Lease). x.session) one) (all i n here)
does_since s now (End i) then epoch end becomes all = rw becomes (written_since s now i None (λ n p e. absurd (no_lease None (record { session = n; promised = p }) refl e)) all)
does_since s now (Learn i n e offset) then epoch end does all =
    λ j m here. since_more s now then j m (does_promised now (Learn i n e offset) then does j m) (all j m (subst (λ (x : Store). IsLive x j m) does.2 here))
does_since s now (Promise i n promised) then epoch end does all =
    λ j m here. since_more s now then j m (does_promised now (Promise i n promised) then does j m) (all j m (subst (λ (x : Store). IsLive x j m) does.1 here))
does_since s now (Begin i n x) then epoch end does all =
    λ j m here. since_more s now then j m (does_promised now (Begin i n x) then does j m) (all j m (subst (λ (y : Store). IsLive y j m) does.1 here))
does_since s now (Stop i n left) then epoch end does all =
    λ j m here. since_more s now then j m (does_promised now (Stop i n left) then does j m) (all j m (subst (λ (x : Store). IsLive x j m) does.1 here))

-- between a store and a later one with the same epoch and a log of the same length each has these, too
pub record IsBetween (s now then : Store) : Type 0 where
  pub epoch : now.epoch ≡ s.epoch
  pub size : length (current now).log ≡ length (current s).log

is_between : (s now then : Store) → then.epoch ≡ s.epoch → length (current then).log ≡ length (current s).log → IsLater s now → IsLater now then → IsBetween s now then
is_between s now then epoch end first rest =
    let same : now.epoch ≡ s.epoch = let a = first.epoch in let b = rest.epoch in omega (arith, a, b, epoch) in
    record { epoch = same; size = let a = first.longer same in let b = rest.longer (epoch ∙ sym same) in omega (arith, a, b, end) }

become_since : (s now : Store) (acts : List Act) (then : Store) → IsLater s now → then.epoch ≡ s.epoch → length (current then).log ≡ length (current s).log → Become now acts then → AllSince s now → AllSince s then
become_since s now [] then later epoch end is all = rw is all
become_since s now (act ∷ acts) then later epoch end is all =
    let first = does_later now act is.0 is.1 in
    let rest = become_later is.0 acts then is.2 in
    let here = is_between s now then epoch end later (later_then now is.0 then first rest) in
    become_since s is.0 acts then (later_then s now is.0 later first) epoch end is.2 (does_since s now act is.0 here.epoch here.size is.1 all)

pub snapshot_lem : (before acts : List Act) (s now : Store) (silent : ℕ → Bool) (events : List Event) (i n : ℕ) (x : Piece) → IsReached before s → Become s acts now → IsUnchanged s now
    → MayAppend s s.epoch (length (current s).log) silent s.live events → IsAtWork now i n x → OwnsIn (current now) ((current now).log ++ events) i x.partition
snapshot_lem before acts s now silent events i n x first later same may works =
    subst (λ number. Owns (current now).setup ((current now).log ++ events) (number i) x.partition) (sym (is_later.number same.epoch))
    (subst (λ setup. Owns setup ((current now).log ++ events) ((current s).number i) x.partition) (sym (is_later.setup same.epoch))
    (subst (λ log. OwnsIn (current s) (log ++ events) i x.partition) (sym same.log) (by_silent (silent i) refl)))
  where
    then : Keeps s
    then = store_keeps before s first

    kept : Keeps now
    kept = become_keeps s acts now later then

    is_later : IsLater s now
    is_later = become_later s acts now later

    size : length (current now).log ≡ length (current s).log
    size = ap length same.log

    since : AllSince s now
    since = become_since s s acts now (same_later s s refl refl) same.epoch size later (λ j m here. inl (record { session = m; promised = here.0 }, here.1, refl))

    within : (p : Promised) → HasPromised now i n p → p.epoch ≡ s.epoch → length (current s).log ≤ p.offset → Contains p.kept x.partition
    within p made epoch end = (kept.kept i n).within x p works.work made (end_reaches now (begun_by i n x) p.epoch p.offset (was_of now i n x kept works.work) (epoch ∙ sym same.epoch) (omega (arith, end, size)))

    by_case : silent i ≡ false → Since s now i n → OwnsIn (current s) ((current s).log ++ events) i x.partition
    by_case asked (inl (there, is, session)) =
        let told : HasPromised s i n there.promised = subst (λ m. HasPromised s i m there.promised) session (then.fits i there is).told in
        let idle = may.idle i there asked is in
        let end = idle.1 in
        may.kept i x.partition there asked is (within there.promised (become_promised s acts now later i n there.promised told) idle.0 (omega (arith, end)))
    by_case asked (inr has) = absurd (none_in x.partition (within (end_of s) has refl (omega arith)))

    owns_now : OwnsNow now i x.partition
    owns_now = (kept.owned i n x works.live works.work).1

    -- the holder of a silent node's lease owns what it works on, and the node loses nothing
    by_silent : (b : Bool) → silent i ≡ b → OwnsIn (current s) ((current s).log ++ events) i x.partition
    by_silent true e = may.whole i x.partition e
        (subst (λ number. Owns (current s).setup (current s).log (number i) x.partition) (is_later.number same.epoch)
        (subst (λ setup. Owns setup (current s).log ((current now).number i) x.partition) (is_later.setup same.epoch) (subst (λ log. OwnsIn (current now) log i x.partition) same.log owns_now)))
    by_silent false e = by_case e (since i n works.live)
