-- A member that is to begin may: then its process works.
use Rattle.std.proofs.Common.{◌≡◌, ◌<◌, ◌+◌, ◌==◌, ◌++◌, ◌∷◌, [], ℕ, zero, suc, Bool, true, false, List, Option, Some, None, if◌then◌else◌, Contains, cond, length, arith, refl, sym, ap, subst, ◌∙◌}
use Rattle.std.proofs.lemmas.Bool.Decides.{nat_tests}
use Rattle.std.proofs.lemmas.List.Elements.{Contains-push}
use Rattle.std.specs.Option.{option_map, option_map_or}
use Rattle.bully_agree.specs.Fencing.{Planned}
use Rattle.bully_member.specs.Activities.{begin_at, changed_from, works_at}
use Rattle.bully_member.specs.Due.{last_table}
use Rattle.bully_member.specs.Member.{MemberState, replica_of}
use Rattle.bully_member.specs.Times.{sure}
use Rattle.bully_member.specs.declared.values.Activity.{Activity}
use Rattle.bully_member.specs.declared.values.Step.{Step}
use Rattle.bully_rebalance.specs.Leaving.{is_left}
use Rattle.bully_replica.specs.LastPlan.{table_in}
use Rattle.bully_run.proofs.FrameLemmas.{written}
use Rattle.bully_run.proofs.RunLemmas.{now_lem, process_is}
use Rattle.bully_run.specs.Calls.{GoesNext, session_now}
use Rattle.bully_run.specs.Run.{BeginsWhileSure, Deed, Goes, Happening, Happens, HasRun, MayStart, Process, Run, WorksNow, id_of, piece_of, session_by, store_by, with_member}
use Rattle.bully_work.specs.Store.{HasWork, IsLive, Piece, Session, Store, begins}
use Rattle.bully_work.specs.Working.{GivesTo}

-- what a table leaves a node, that works on after it began
begun_at : (table : Option (List ℕ)) (node from k : ℕ) (works : List Activity) → is_left table node (from + k) ≡ true → k < length works → works_at (changed_from (begin_at table node) from works) k ≡ true
begun_at table node from k [] left low = absurd (omega (arith, low))
begun_at table node from zero (a ∷ works) left low = by_test (is_left table node from) (subst (λ i. is_left table node i ≡ true) (omega arith) left)
  where
    by_test : (b : Bool) → b ≡ true → works_at ((if b then Activity.Working else a) ∷ changed_from (begin_at table node) (suc from) works) 0 ≡ true
    by_test true is = refl
    by_test false is = absurd (cc is)
begun_at table node from (suc k) (a ∷ works) left low = begun_at table node (suc from) k works (subst (λ i. is_left table node i ≡ true) (omega arith) left) (omega (arith, low))

given_left : (table : List ℕ) (node k : ℕ) → GivesTo table k node → is_left (Some table) node k ≡ true
given_left table node k gives = ap (λ (o : Option ℕ). option_map_or (λ owner. owner == node) o false) gives ∙ same
  where
    same : (node == node) ≡ true
    same = grind (arith, nat_tests)

left_by : (last : Option Planned) (plan : Planned) (node k : ℕ) → last ≡ Some plan → GivesTo plan.table k node → is_left (option_map table_in last) node (0 + k) ≡ true
left_by last plan node k is gives = subst (λ (l : Option Planned). is_left (option_map table_in l) node (0 + k) ≡ true) (sym is) (subst (λ i. is_left (Some plan.table) node i ≡ true) (omega arith) (given_left plan.table node k gives))

abbrev deed_of : Planned → ℕ → Deed
deed_of plan k = record {
  silent = λ i. false;
  seen = λ i. None;
  events = [];
  setup = record { nodes = 0; partitions = 0; events_max = 0; keeps = false; weights = [] };
  number = λ i. i;
  plan = plan;
  begun = k ∷ [];
}

pub begins_lem : (happenings : List Happening) (R : Run) (p now token k : ℕ) (q : Process) (after : MemberState) (plan : Planned) → HasRun happenings R → R.processes p ≡ Some q → GoesNext q.member now (Step.Begin token) after
    → IsLive R.store q.name (id_of (session_now q.member)) → (replica_of q.member).last ≡ Some plan → GivesTo plan.table k q.member.terms.node → k < length q.member.works
    → (deed : Deed) × (R' : Run) × Happens R (Goes p now (Step.Begin token) deed) R' × WorksNow R' p (piece_of q.member plan k)
begins_lem happenings R p now token k q after plan run there goes live last gives low = (
  deed_of plan k,
  with_member R p q.name after s' [],
  (q, after, there, goes, ((λ sure. live), (start, tt)), refl),
  record {
    process = record { name = q.name; member = after };
    started = by_test (p == p) (grind (arith, nat_tests));
    number = q.member.tries;
    asked = let same = ap (λ (x : MemberState). x.tries) goes.noted in omega (arith, same);
    works = record {
      live = subst (λ r. IsLive s' q.name (id_of (session_by r q.member.tries))) (process_is happenings R p q run there) live;
      work = subst (λ r. Contains (s'.sessions q.name (id_of (session_by r q.member.tries))).work (piece_of q.member plan k)) (process_is happenings R p q run there) work;
    };
  },
)
  where
    s' : Store
    s' = store_by R.store q.name q.member (Step.Begin token) (deed_of plan k)

    start : MayStart q.member after plan k
    start = record {
      last = last;
      gives = gives;
      works = subst (λ (x : MemberState). works_at x.works k ≡ true) (sym goes.noted) (begun_at (last_table q.member) q.member.terms.node 0 k q.member.works (left_by (replica_of q.member).last plan q.member.terms.node k last gives) low);
    }

    by_test : (b : Bool) → b ≡ true → cond b (Some (record { name = q.name; member = after })) (R.processes p) ≡ Some (record { name = q.name; member = after })
    by_test true is = refl
    by_test false is = absurd (cc is)

    work : Contains ((begins R.store q.name (id_of (session_now q.member)) (piece_of q.member plan k)).sessions q.name (id_of (session_now q.member))).work (piece_of q.member plan k)
    work = subst (λ (x : Session). Contains x.work (piece_of q.member plan k))
        (sym (written (record R.store { begun = record { name = q.name; session = id_of (session_now q.member); piece = piece_of q.member plan k } ∷ R.store.begun }) q.name (id_of (session_now q.member))
        (record (R.store.sessions q.name (id_of (session_now q.member))) { work = (R.store.sessions q.name (id_of (session_now q.member))).work ++ piece_of q.member plan k ∷ [] })))
        (Contains-push (R.store.sessions q.name (id_of (session_now q.member))).work (piece_of q.member plan k))

-- Members whose leases are sure work on different partitions.
works_if_sure : (happenings : List Happening) (R : Run) (p now : ℕ) (q : Process) (x : Piece) → HasRun happenings R → R.processes p ≡ Some q → BeginsWhileSure R.store q.name q.member now → sure q.member.session q.member.ttl now ≡ true
    → HasWork R.store q.name (id_of (session_now q.member)) x → WorksNow R p x
works_if_sure happenings R p now q x run there lasts is has = record {
  process = q;
  started = there;
  number = q.member.tries;
  asked = omega arith;
  works = record {
    live = subst (λ r. IsLive R.store q.name (id_of (session_by r q.member.tries))) (process_is happenings R p q run there) (lasts is);
    work = subst (λ r. HasWork R.store q.name (id_of (session_by r q.member.tries)) x) (process_is happenings R p q run there) has;
  };
}

pub sure_lem : (happenings : List Happening) (R : Run) (p q now later : ℕ) (a b : Process) (x y : Piece) → HasRun happenings R → R.processes p ≡ Some a → R.processes q ≡ Some b → BeginsWhileSure R.store a.name a.member now
    → BeginsWhileSure R.store b.name b.member later → sure a.member.session a.member.ttl now ≡ true → sure b.member.session b.member.ttl later ≡ true → HasWork R.store a.name (id_of (session_now a.member)) x
    → HasWork R.store b.name (id_of (session_now b.member)) y → x.partition ≡ y.partition → p ≡ q
sure_lem happenings R p q now later a b x y run first second one other is too has had same =
    now_lem happenings R p q x y run (works_if_sure happenings R p now a x run first one is has) (works_if_sure happenings R q later b y run second other too had) same
