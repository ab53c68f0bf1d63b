-- What acts leave as it is in a store.
use Rattle.std.proofs.Common.{◌≡◌, ◌≤◌, ◌<◌, ◌+◌, ◌*◌, ◌^◌, ◌==◌, ◌&&◌, ◌++◌, ◌∷◌, [], ℕ, Bool, true, false, List, Contains, cond, length, length-append, take, arith, refl, sym, ap, subst, ◌∙◌}
use Rattle.std.proofs.lemmas.Bool.Decides.{nat_tests}
use Rattle.std.proofs.lemmas.List.{take-append-le}
use Rattle.std.proofs.lemmas.List.Elements.{Contains-append_left}
use Rattle.bully_base.specs.Setup.{Setup}
use Rattle.bully_calls.specs.declared.event.Event.{Event}
use Rattle.bully_replica.specs.Replica.{IsLogOf, ReplicaState}
use Rattle.bully_work.specs.Store.{Act, AllAsked, AsksAll, Become, Does, Epoch, HasPromised, Promised, Session, Store, current, longer, new_epoch, rolled, with_session}

-- a session that has learned and promised nothing
abbrev pub no_session : Session
no_session = record { epoch = 0; learned = 0; promises = []; work = [] }

abbrev pub id_by : (process number : ℕ) → ℕ
id_by process number = process * 2 ^ 64 + number

pub ids_apart : (p q k l : ℕ) → k < 2 ^ 64 → l < 2 ^ 64 → id_by p k ≡ id_by q l → (p ≡ q) × (k ≡ l)
ids_apart p q k l low high same = (omega (arith, same, low, high), omega (arith, same, low, high))

-- Sessions.

pub written : (s : Store) (i n : ℕ) (new : Session) → (with_session s i n new).sessions i n ≡ new
written s i n new = by_test (i == i && n == n) (grind (arith, nat_tests))
  where
    by_test : (b : Bool) → b ≡ true → cond b new (s.sessions i n) ≡ new
    by_test true is = refl
    by_test false is = absurd (cc is)

both_same : (i j m n : ℕ) → j == i && m == n ≡ true → (j ≡ i) × (m ≡ n)
both_same i j m n is = by_tests (j == i) (m == n) refl refl is
  where
    by_tests : (a b : Bool) → (j == i) ≡ a → (m == n) ≡ b → a && b ≡ true → (j ≡ i) × (m ≡ n)
    by_tests true true one other is = (grind (arith, nat_tests, one), grind (arith, nat_tests, other))
    by_tests true false one other is = absurd (cc is)
    by_tests false b one other is = absurd (cc is)

pub unwritten : (s : Store) (i n j m : ℕ) (new : Session) → (m ≡ n → ⊥) → (with_session s i n new).sessions j m ≡ s.sessions j m
unwritten s i n j m new apart = by_test (j == i && m == n) refl
  where
    by_test : (b : Bool) → j == i && m == n ≡ b → cond b new (s.sessions j m) ≡ s.sessions j m
    by_test true is = absurd (apart (both_same i j m n is).1)
    by_test false is = refl

pub promises_kept : (s : Store) (i n : ℕ) (new : Session) → ((q : Promised) → HasPromised s i n q → Contains new.promises q) → (j m : ℕ) (q : Promised) → HasPromised s j m q → HasPromised (with_session s i n new) j m q
promises_kept s i n new kept j m q has = by_test (j == i && m == n) refl
  where
    by_test : (b : Bool) → j == i && m == n ≡ b → Contains (cond b new (s.sessions j m)).promises q
    by_test true is = let (one, other) = both_same i j m n is in kept q (subst (λ x. HasPromised s x n q) one (subst (λ x. HasPromised s j x q) other has))
    by_test false is = has

-- Acts that change one session.

pub record Leads (s s' : Store) (n : ℕ) (acts : List Act) : Type 0 where
  pub become : Become s acts s'
  pub asks : AllAsked acts
  pub others : (j m : ℕ) → (m ≡ n → ⊥) → s'.sessions j m ≡ s.sessions j m
  pub promises : (j m : ℕ) (q : Promised) → HasPromised s j m q → HasPromised s' j m q
  pub epoch : s'.epoch ≡ s.epoch
  pub epochs : s'.epochs ≡ s.epochs

pub leads_none : (s : Store) (n : ℕ) → Leads s s n []
leads_none s n = record { become = refl; asks = tt; others = λ j m apart. refl; promises = λ j m q has. has; epoch = refl; epochs = refl }

-- t is s, but for which sessions began
pub leads_one : (s t : Store) (i n : ℕ) (new : Session) (act : Act) → AsksAll act → t.sessions ≡ s.sessions → t.epoch ≡ s.epoch → t.epochs ≡ s.epochs → Does s act (with_session t i n new)
    → ((q : Promised) → HasPromised s i n q → Contains new.promises q) → Leads s (with_session t i n new) n (act ∷ [])
leads_one s t i n new act asks same epoch epochs does kept = record {
  asks = (asks, tt);
  become = (with_session t i n new, does, refl);
  others = λ j m apart. unwritten t i n j m new apart ∙ ap (λ (f : ℕ → ℕ → Session). f j m) same;
  promises = λ j m q has. promises_kept t i n new
      (λ p had. kept p (subst (λ (f : ℕ → ℕ → Session). Contains (f i n).promises p) same had)) j m q
      (subst (λ (f : ℕ → ℕ → Session). Contains (f j m).promises q) (sym same) has);
  epoch = epoch;
  epochs = epochs;
}

pub become_more : (acts more : List Act) (s mid s' : Store) → Become s acts mid → Become mid more s' → Become s (acts ++ more) s'
become_more [] more s mid s' is goes = subst (λ x. Become x more s') is goes
become_more (act ∷ acts) more s mid s' (next, does, become) goes = (next, does, become_more acts more next mid s' become goes)

pub asked_more : (acts more : List Act) → AllAsked acts → AllAsked more → AllAsked (acts ++ more)
asked_more [] more none rest = rest
asked_more (act ∷ acts) more (first, others) rest = (first, asked_more acts more others rest)

pub leads_more : (s mid s' : Store) (n : ℕ) (acts more : List Act) → Leads s mid n acts → Leads mid s' n more → Leads s s' n (acts ++ more)
leads_more s mid s' n acts more one other = record {
  become = become_more acts more s mid s' one.become other.become;
  asks = asked_more acts more one.asks other.asks;
  others = λ j m apart. other.others j m apart ∙ one.others j m apart;
  promises = λ j m q has. other.promises j m q (one.promises j m q has);
  epoch = other.epoch ∙ one.epoch;
  epochs = other.epochs ∙ one.epochs;
}

-- Epochs.

-- what an epoch keeps
pub record Extends (old new : Epoch) : Type 0 where
  pub setup : new.setup ≡ old.setup
  pub number : new.number ≡ old.number
  pub log : (n : ℕ) → n ≤ length old.log → (take n new.log ≡ take n old.log) × (n ≤ length new.log)
  pub lengths : (n : ℕ) → Contains old.lengths n → Contains new.lengths n

pub record Grows (s s' : Store) : Type 0 where
  pub epoch : s.epoch ≤ s'.epoch
  pub extends : (e : ℕ) → e ≤ s.epoch → Extends (s.epochs e) (s'.epochs e)

pub extends_none : (x y : Epoch) → y ≡ x → Extends x y
extends_none x y is = record {
  setup = ap (λ (z : Epoch). z.setup) is;
  number = ap (λ (z : Epoch). z.number) is;
  log = λ n low. (ap (λ (z : Epoch). take n z.log) is, subst (λ (z : Epoch). n ≤ length z.log) (sym is) low);
  lengths = λ n has. subst (λ (z : Epoch). Contains z.lengths n) (sym is) has;
}

pub grows_none : (s s' : Store) → s'.epoch ≡ s.epoch → s'.epochs ≡ s.epochs → Grows s s'
grows_none s s' epoch epochs = record { epoch = omega (arith, epoch); extends = λ e low. extends_none (s.epochs e) (s'.epochs e) (ap (λ (f : ℕ → Epoch). f e) epochs) }

pub leads_grows : (s s' : Store) (n : ℕ) (acts : List Act) → Leads s s' n acts → Grows s s'
leads_grows s s' n acts leads = grows_none s s' leads.epoch leads.epochs

pub longer_grows : (s : Store) (events : List Event) → Grows s (longer s events)
longer_grows s events = record { epoch = omega arith; extends = λ e low. by_test e (e == s.epoch) refl }
  where
    new : Epoch
    new = record (current s) { log = (current s).log ++ events; lengths = (current s).lengths ++ length ((current s).log ++ events) ∷ [] }

    here : Extends (current s) new
    here = record {
      setup = refl;
      number = refl;
      log = λ n low. (take-append-le n (current s).log events low, (let size = length-append (current s).log events in omega (arith, size, low)));
      lengths = λ n has. Contains-append_left (current s).lengths (length ((current s).log ++ events) ∷ []) n has;
    }

    by_test : (e : ℕ) (b : Bool) → (e == s.epoch) ≡ b → Extends (s.epochs e) (cond b new (s.epochs e))
    by_test e true is = let same : e ≡ s.epoch = grind (arith, nat_tests, is) in subst (λ f. Extends (s.epochs f) new) (sym same) here
    by_test e false is = extends_none (s.epochs e) (s.epochs e) refl

pub rolled_grows : (s : Store) (setup : Setup) (number : ℕ → ℕ) → Grows s (rolled s setup number)
rolled_grows s setup number = record { epoch = omega arith; extends = λ e low. by_test e (e == s.epoch + 1) refl low }
  where
    by_test : (e : ℕ) (b : Bool) → (e == s.epoch + 1) ≡ b → e ≤ s.epoch → Extends (s.epochs e) (cond b (new_epoch setup number) (s.epochs e))
    by_test e true is low = let same : e ≡ s.epoch + 1 = grind (arith, nat_tests, is) in absurd (omega (arith, same, low))
    by_test e false is low = extends_none (s.epochs e) (s.epochs e) refl

-- each epoch that has begun has had an empty log
abbrev pub HadNone : Store → Type 0
HadNone s = (e : ℕ) → e ≤ s.epoch → Contains (s.epochs e).lengths 0

pub had_none : (s s' : Store) → Grows s s' → s'.epoch ≡ s.epoch → HadNone s → HadNone s'
had_none s s' grows same none e low = let within : e ≤ s.epoch = omega (arith, low, same) in (grows.extends e within).lengths 0 (none e within)

pub rolled_none : (s : Store) (setup : Setup) (number : ℕ → ℕ) → HadNone s → HadNone (rolled s setup number)
rolled_none s setup number none e low = by_test (e == s.epoch + 1) refl
  where
    by_test : (b : Bool) → (e == s.epoch + 1) ≡ b → Contains (cond b (new_epoch setup number) (s.epochs e)).lengths 0
    by_test true is = (0, omega arith, refl)
    by_test false is = none e (grind (arith, nat_tests, is, low))

-- What a process knows of an epoch.

-- a process of name i is there as this node, and its replica has learned a prefix of the log
pub record IsPlaced (s : Store) (i : ℕ) (r : ReplicaState) (e node : ℕ) : Type 0 where
  pub started : e ≤ s.epoch
  pub setup : r.world.setup ≡ (s.epochs e).setup
  pub number : node ≡ (s.epochs e).number i
  pub rows : IsLogOf r (take r.world.events (s.epochs e).log)
  pub low : r.world.events ≤ length (s.epochs e).log

pub placed : (s s' : Store) (i : ℕ) (r : ReplicaState) (e node : ℕ) → Grows s s' → IsPlaced s i r e node → IsPlaced s' i r e node
placed s s' i r e node grows is = record {
  started = let low = is.started in let more = grows.epoch in omega (arith, low, more);
  setup = is.setup ∙ sym kept.setup;
  number = is.number ∙ sym (ap (λ (f : ℕ → ℕ). f i) kept.number);
  rows = subst (IsLogOf r) (sym (kept.log r.world.events is.low).0) is.rows;
  low = (kept.log r.world.events is.low).1;
}
  where
    kept : Extends (s.epochs e) (s'.epochs e)
    kept = grows.extends e is.started
