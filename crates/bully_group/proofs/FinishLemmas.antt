-- Strangers among seats, the lowest actor whose log differs, and where each entry stands.
use Rattle.std.proofs.Common.{get_or, replicate, ◌≡◌, ◌≢◌, ◌<◌, ◌≤◌, ◌+◌, ◌⊎◌, ◌==◌, ℕ, zero, suc, Bool, true, false, List, [], ◌∷◌, Option, Some, None, All, map, length, arith, refl, sym, ap, subst, ◌∙◌, inl, inr, ⊎_elim, IfSome, MatchOption, slice_get, slice_set, slice_index_or, ◌||◌}
use Rattle.std.proofs.lemmas.List.{get_or-set_same, get_or-set_other, get_or-replicate, get_or_past, length-replicate, length-map}
use Rattle.std.specs.List.{AllByRecursion, IsDistinct, list_any}
use Rattle.std.proofs.lemmas.Bool.Decides.{nat_tests}
use Rattle.std.proofs.lemmas.Cmp.{nat_eq_equiv}
use Rattle.std.proofs.lemmas.List.Elements.{All-cons, All-nil, All-tail}
use Rattle.std.proofs.lemmas.Map.Keys.{IsDistinct-cons, IsDistinct-head, IsDistinct-tail}
use Rattle.std.proofs.lemmas.Map.Made.{IsDistinct-from_count}
use Rattle.std.proofs.lemmas.Map.Steps.{length-le_from_distinct_below}
use Rattle.bully_watch.specs.declared.entry.Entry.{Entry}
use Rattle.bully_base.specs.Setup.{Setup}
use Rattle.bully_watch.specs.History.{IsHistory, part}
use Rattle.bully_watch.proofs.PartLemmas.{part_stands, part_has, actor_within}
use Rattle.bully_world.specs.World.{World}
use Rattle.bully_group.specs.Seat.{SeatState, actor_of}
use Rattle.bully_group.specs.Finish.{AreOfGroup, AreFree, HasPart, IsLowestDiffering, EachInOneLog}

pub none_strange : (nodes : ℕ) → AreOfGroup nodes []
none_strange nodes = record { distinct = IsDistinct-from_count nat_eq_equiv [] refl; within = All-nil (λ (s : SeatState). s.actor ≤ nodes) }

pub one_of_group : (nodes : ℕ) (s : SeatState) (rest : List SeatState) → s.actor ≤ nodes → AllByRecursion (λ (o : ℕ). (s.actor == o) ≡ false) (map actor_of rest) → AreOfGroup nodes rest → AreOfGroup nodes (s ∷ rest)
one_of_group nodes s rest within apart all = record {
  distinct = IsDistinct-cons (λ a b. a == b) s.actor (map actor_of rest) apart all.distinct;
  within = All-cons (λ (t : SeatState). t.actor ≤ nodes) s rest within all.within;
}

pub first_of_group : (nodes : ℕ) (s : SeatState) (rest : List SeatState) → AreOfGroup nodes (s ∷ rest) → (s.actor ≤ nodes) × AllByRecursion (λ (o : ℕ). (s.actor == o) ≡ false) (map actor_of rest) × AreOfGroup nodes rest
first_of_group nodes s rest all = (
  all.within 0 s (omega arith),
  IsDistinct-head (λ a b. a == b) s.actor (map actor_of rest) all.distinct,
  record { distinct = IsDistinct-tail (λ a b. a == b) s.actor (map actor_of rest) all.distinct; within = All-tail (λ (t : SeatState). t.actor ≤ nodes) s rest all.within },
)

-- Seats of which none is of a taken actor, and the first one's actor is taken then, too.
abbrev IsFree : List Bool → SeatState → Type 0
IsFree taken s = slice_index_or taken s.actor false ≡ false

module _ (taken : List Bool) (actor : ℕ) (within : actor < length taken) where
  -- none of them is of that actor, which is taken now
  free_apart : (rest : List SeatState) → AreFree (slice_set taken actor true) rest → AllByRecursion (λ (o : ℕ). (actor == o) ≡ false) (map actor_of rest) × AreFree taken rest
  free_apart [] free = (tt, All-nil (IsFree taken))
  free_apart (t ∷ rest) free = by_test (actor == t.actor) refl (free 0 t (omega arith)) (free_apart rest (All-tail (IsFree (slice_set taken actor true)) t rest free))
    where
      by_test : (b : Bool) → (actor == t.actor) ≡ b → IsFree (slice_set taken actor true) t → AllByRecursion (λ (o : ℕ). (actor == o) ≡ false) (map actor_of rest) × AreFree taken rest → AllByRecursion (λ (o : ℕ). (actor == o) ≡ false) (map actor_of (t ∷ rest)) × AreFree taken (t ∷ rest)
      by_test true same first later = absurd (grind (arith, nat_tests, same, first, within, get_or-set_same taken actor true false))
      by_test false other first later =
          let apart : t.actor ≢ actor = λ (e : t.actor ≡ actor). absurd (grind (arith, nat_tests, other, e)) in
          let same : IsFree taken t = grind (arith, first, get_or-set_other taken actor t.actor true false apart) in
          ((other, later.0), All-cons (IsFree taken) t rest same later.1)

  -- so it is of seats of others
  still_free : (rest : List SeatState) → AllByRecursion (λ (o : ℕ). (actor == o) ≡ false) (map actor_of rest) → AreFree taken rest → AreFree (slice_set taken actor true) rest
  still_free [] apart free = All-nil (IsFree (slice_set taken actor true))
  still_free (t ∷ rest) apart free =
      let other : (actor == t.actor) ≡ false = apart.0 in
      let not_same : t.actor ≢ actor = λ (e : t.actor ≡ actor). absurd (grind (arith, nat_tests, other, e)) in
      let first : IsFree taken t = free 0 t (omega arith) in
      let same : IsFree (slice_set taken actor true) t = grind (arith, first, get_or-set_other taken actor t.actor true false not_same) in
      All-cons (IsFree (slice_set taken actor true)) t rest same (still_free rest apart.1 (All-tail (IsFree taken) t rest free))

-- the first seat's actor is taken for the others
pub group_by_first : (nodes : ℕ) (taken : List Bool) (s : SeatState) (rest : List SeatState) → s.actor < length taken → s.actor ≤ nodes → IsFree taken s → AreOfGroup nodes rest × AreFree (slice_set taken s.actor true) rest → AreOfGroup nodes (s ∷ rest) × AreFree taken (s ∷ rest)
group_by_first nodes taken s rest within own free all =
    let apart = free_apart taken s.actor within rest all.1 in
    (one_of_group nodes s rest own apart.0 all.0, All-cons (IsFree taken) s rest free apart.1)

pub group_behind_first : (nodes : ℕ) (taken : List Bool) (s : SeatState) (rest : List SeatState) → s.actor < length taken → AreOfGroup nodes (s ∷ rest) × AreFree taken (s ∷ rest) → AreOfGroup nodes rest × AreFree (slice_set taken s.actor true) rest
group_behind_first nodes taken s rest within all =
    let first = first_of_group nodes s rest all.0 in
    (first.2, still_free taken s.actor within rest first.1 (All-tail (IsFree taken) s rest all.1))

below_or_past : (k n : ℕ) → (k < n) ⊎ (n ≤ k)
below_or_past k zero = inr (omega arith)
below_or_past zero (suc n) = inl (omega arith)
below_or_past (suc k) (suc n) = ⊎_elim (λ (a : k < n). inl (omega (arith, a))) (λ (a : n ≤ k). inr (omega (arith, a))) (below_or_past k n)

-- none is taken in a list of places of which none is
pub all_free : (n : ℕ) (seats : List SeatState) → AreFree (replicate n false) seats
all_free n seats i d within = at (get_or seats i d).actor
  where
    at : (k : ℕ) → slice_index_or (replicate n false) k false ≡ false
    at k = ⊎_elim (λ (below : k < n). get_or-replicate n k false false below) (λ (past : n ≤ k). get_or_past (replicate n false) k false (rw (length-replicate n false) past)) (below_or_past k n)

-- The same of a list by its first seat and the rest.
pub nobody_strange : (nodes : ℕ) (taken : List Bool) (seats : List SeatState) → length seats ≡ 0 → AreOfGroup nodes seats × AreFree taken seats
nobody_strange nodes taken [] none = (none_strange nodes, All-nil (λ (s : SeatState). slice_index_or taken s.actor false ≡ false))
nobody_strange nodes taken (s ∷ rest) none = absurd (omega (arith, none))

module _ (history : List Entry) (s : SeatState) (rest : List SeatState) where
  abbrev Below : ℕ → SeatState → Type 0
  Below actor t = t.actor < actor → HasPart history t

  first_differs : (s.log ≢ part s.actor history) → All (Below s.actor) rest → IsLowestDiffering history (s ∷ rest) s.actor
  first_differs differs lower = record {
    at = 0;
    seat = s;
    there = refl;
    own = refl;
    differs = differs;
    lower = All-cons (Below s.actor) s rest (λ below. absurd (omega (arith, below))) lower;
  }

  later_differs : (actor : ℕ) → Below actor s → IsLowestDiffering history rest actor → IsLowestDiffering history (s ∷ rest) actor
  later_differs actor has later = record {
    at = suc later.at;
    seat = later.seat;
    there = later.there;
    own = later.own;
    differs = later.differs;
    lower = All-cons (Below actor) s rest has later.lower;
  }

-- the lowest of one seat more: it has its part, or it isn't below the lowest of the rest
pub lowest_later : (history : List Entry) (s : SeatState) (rest : List SeatState) (later : Option ℕ) → (HasPart history s) ⊎ (IfSome later (λ lowest. s.actor < lowest) → ⊥) → MatchOption later (All (HasPart history) rest) (IsLowestDiffering history rest) → MatchOption later (All (HasPart history) (s ∷ rest)) (IsLowestDiffering history (s ∷ rest))
lowest_later history s rest None (inl has) all = All-cons (HasPart history) s rest has all
lowest_later history s rest None (inr not) all = absurd (not tt)
lowest_later history s rest (Some actor) (inl has) found = later_differs history s rest actor (λ below. has) found
lowest_later history s rest (Some actor) (inr not) found = later_differs history s rest actor (λ below. absurd (not below)) found

-- it hasn't, and is below
pub lowest_first : (history : List Entry) (s : SeatState) (rest : List SeatState) (later : Option ℕ) → (s.log ≢ part s.actor history) → IfSome later (λ lowest. s.actor < lowest) → MatchOption later (All (HasPart history) rest) (IsLowestDiffering history rest) → IsLowestDiffering history (s ∷ rest) s.actor
lowest_first history s rest None differs below all = first_differs history s rest differs (λ k d within. λ lower. all k d within)
lowest_first history s rest (Some actor) differs below found = first_differs history s rest differs (λ k d within. λ (lower : _ < s.actor). found.lower k d within (omega (arith, lower, below)))

-- the seat of an actor, or no seat is that actor's
abbrev Seated : List SeatState → ℕ → Type 0
Seated seats actor = (j : ℕ) × (s : SeatState) × (slice_get seats j ≡ Some s) × (s.actor ≡ actor)

seat_of : (actor : ℕ) (seats : List SeatState) → Seated seats actor ⊎ AllByRecursion (λ (o : ℕ). (actor == o) ≡ false) (map actor_of seats)
seat_of actor [] = inr tt
seat_of actor (s ∷ rest) = by_test (actor == s.actor) refl (seat_of actor rest)
  where
    by_test : (b : Bool) → (actor == s.actor) ≡ b → Seated rest actor ⊎ AllByRecursion (λ (o : ℕ). (actor == o) ≡ false) (map actor_of rest) → Seated (s ∷ rest) actor ⊎ AllByRecursion (λ (o : ℕ). (actor == o) ≡ false) (map actor_of (s ∷ rest))
    by_test true is later = inl (0, s, refl, grind (arith, nat_tests, is))
    by_test false is later = ⊎_elim (λ (h : Seated rest actor). inl (suc h.0, h.1, h.2, h.3)) (λ none. inr (is, none)) later

-- an actor of the seats is one of theirs
below_all : (nodes q : ℕ) (seats : List SeatState) → All (λ (s : SeatState). s.actor ≤ nodes) seats → list_any (λ (o : ℕ). q == o) (map actor_of seats) ≡ true → q ≤ nodes
below_all nodes q [] within is = absurd (grind (arith, is))
below_all nodes q (s ∷ rest) within is = by_test (q == s.actor) refl (within 0 s (omega arith)) (λ later. below_all nodes q rest (All-tail (λ (t : SeatState). t.actor ≤ nodes) s rest within) later) is
  where
    by_test : (b : Bool) → (q == s.actor) ≡ b → s.actor ≤ nodes → (list_any (λ (o : ℕ). q == o) (map actor_of rest) ≡ true → q ≤ nodes) → (b || list_any (λ (o : ℕ). q == o) (map actor_of rest)) ≡ true → q ≤ nodes
    by_test true same first later is = grind (arith, nat_tests, same, first)
    by_test false same first later is = later is

-- as many seats of a group as it has actors are one for each
pub each_seated : (nodes actor : ℕ) (seats : List SeatState) → length seats ≡ nodes + 1 → AreOfGroup nodes seats → actor ≤ nodes → Seated seats actor
each_seated nodes actor seats count all within = ⊎_elim (λ (h : Seated seats actor). h) (λ none. absurd (too_many none)) (seat_of actor seats)
  where
    one : SeatState
    one = record { actor = actor; log = [] }

    below : (q : ℕ) → list_any (λ (o : ℕ). q == o) (map actor_of (one ∷ seats)) ≡ true → q < nodes + 1
    below q is =
        let most : q ≤ nodes = below_all nodes q (one ∷ seats) (All-cons (λ (t : SeatState). t.actor ≤ nodes) one seats within all.within) is in
        omega (arith, most)

    too_many : AllByRecursion (λ (o : ℕ). (actor == o) ≡ false) (map actor_of seats) → ⊥
    too_many none =
        let distinct : IsDistinct (λ a b. a == b) (map actor_of (one ∷ seats)) = IsDistinct-cons (λ a b. a == b) actor (map actor_of seats) none all.distinct in
        let most : length (map actor_of (one ∷ seats)) ≤ nodes + 1 = length-le_from_distinct_below (map actor_of (one ∷ seats)) (nodes + 1) distinct below in
        omega (arith, most, count, length-map seats actor_of)

-- two seats of one actor are the same
all_apart : (actor : ℕ) (seats : List SeatState) → AllByRecursion (λ (o : ℕ). (actor == o) ≡ false) (map actor_of seats) → (j : ℕ) (s : SeatState) → slice_get seats j ≡ Some s → actor ≢ s.actor
all_apart actor [] apart j s is = absurd (grind (arith, is))
all_apart actor (t ∷ rest) apart zero s is = let first : (actor == t.actor) ≡ false = apart.0 in λ same. absurd (grind (arith, nat_tests, is, first, same))
all_apart actor (t ∷ rest) apart (suc j) s is = all_apart actor rest apart.1 j s is

same_seat : (nodes : ℕ) (seats : List SeatState) → AreOfGroup nodes seats → (i j : ℕ) (s t : SeatState) → slice_get seats i ≡ Some s → slice_get seats j ≡ Some t → s.actor ≡ t.actor → i ≡ j
same_seat nodes [] all i j s t is it same = absurd (grind (arith, is))
same_seat nodes (x ∷ rest) all zero zero s t is it same = refl
same_seat nodes (x ∷ rest) all zero (suc j) s t is it same =
    let apart = all_apart x.actor rest (first_of_group nodes x rest all).1 j t it in
    let first : x ≡ s = cc in
    absurd (apart (ap actor_of first ∙ same))
same_seat nodes (x ∷ rest) all (suc i) zero s t is it same =
    let apart = all_apart x.actor rest (first_of_group nodes x rest all).1 i s is in
    let first : x ≡ t = cc in
    absurd (apart (ap actor_of first ∙ sym same))
same_seat nodes (x ∷ rest) all (suc i) (suc j) s t is it same =
    ap suc (same_seat nodes rest (first_of_group nodes x rest all).2 i j s t is it same)

has_part_at : (history : List Entry) (seats : List SeatState) (j : ℕ) (s : SeatState) → All (HasPart history) seats → slice_get seats j ≡ Some s → HasPart history s
has_part_at history [] j s all is = absurd (grind (arith, is))
has_part_at history (x ∷ rest) zero s all is = let first : x ≡ s = cc in subst (HasPart history) first (all 0 x (omega arith))
has_part_at history (x ∷ rest) (suc j) s all is = has_part_at history rest j s (All-tail (HasPart history) x rest all) is

-- where all seats of a group have their parts, each entry of the history stands in one log
pub each_in_one : (setup : Setup) (w : World) (history : List Entry) (seats : List SeatState) → IsHistory setup history w → length seats ≡ setup.nodes + 1 → AreOfGroup setup.nodes seats → All (HasPart history) seats → EachInOneLog history seats
each_in_one setup w history seats lawful count own logs index e there =
    let seat = each_seated setup.nodes e.actor seats count own (actor_within setup history w index e lawful there) in
    let has = part_has 0 history index e there in
    let log : seat.1.log ≡ part e.actor history = has_part_at history seats seat.0 seat.1 logs seat.2 ∙ ap (λ a. part a history) seat.3 in
    record {
      at = seat.0;
      seat = seat.1;
      there = seat.2;
      place = has.0;
      stands = rw log (has.1 ∙ ap (λ (i : ℕ). Some (i, e)) (omega arith));
      only = λ j s k at in_log.
          let part_of = has_part_at history seats j s logs at in
          let stands = part_stands 0 s.actor history k index e (rw (sym part_of) in_log) in
          same_seat setup.nodes seats own j seat.0 s seat.1 at seat.2 (sym stands.own ∙ sym seat.3);
    }
