-- Stretches that lie end to end go on by a row.
use Rattle.std.proofs.Common.{◌≡◌, ◌≢◌, ◌∙◌, ℕ, ◌+◌, ◌-◌, ◌<◌, ◌≤◌, ◌++◌, List, [], ◌∷◌, length, replicate, map, take, get_or, refl, sym, ap, subst, arith}
use Rattle.std.proofs.lemmas.List.{append_assoc, append-nil, map_more, replicate_more, take_all}
use Rattle.bully_film.specs.declared.snapshot.NodeSnapshot.{NodeSnapshot}
use Rattle.bully_film.specs.declared.stretches.Stretch.{Stretch}
use Rattle.bully_film.specs.declared.whole.Lane.{Lane}
use Rattle.bully_film.specs.Lane.{AreApart, AreJoined, AreLanes, EndsBefore, IsLane, spread}

abbrev pub stretch_of : {T : Type 0} → ℕ → ℕ → T → Stretch T
stretch_of {T} first last value = record { first = first; last = last; seen = value }

spread-more : {T : Type 0} (done : List (Stretch T)) (one : Stretch T) → spread (done ++ one ∷ []) ≡ spread done ++ replicate (one.last + 1 - one.first) one.seen
spread-more {T} [] one = append-nil (replicate (one.last + 1 - one.first) one.seen)
spread-more {T} (first ∷ done) one =
    ap (λ l. replicate (first.last + 1 - first.first) first.seen ++ l) (spread-more done one)
    ∙ sym (append_assoc (replicate (first.last + 1 - first.first) first.seen) (spread done) (replicate (one.last + 1 - one.first) one.seen))

-- one more row of the same stretch
spread-longer : {T : Type 0} (done : List (Stretch T)) (from row : ℕ) (value : T) → from ≤ row
    → spread (done ++ stretch_of from (row + 1) value ∷ []) ≡ spread (done ++ stretch_of from row value ∷ []) ++ value ∷ []
spread-longer {T} done from row value within =
    let more : row + 1 + 1 - from ≡ row + 1 - from + 1 = omega (arith, within) in
    spread-more done (stretch_of from (row + 1) value)
    ∙ ap (λ n. spread done ++ replicate n value) more
    ∙ ap (λ l. spread done ++ l) (sym (replicate_more (row + 1 - from) value))
    ∙ sym (append_assoc (spread done) (replicate (row + 1 - from) value) (value ∷ []))
    ∙ ap (λ l. l ++ value ∷ []) (sym (spread-more done (stretch_of from row value)))

joined-longer : {T : Type 0} (first : ℕ) (done : List (Stretch T)) (from row : ℕ) (value : T) → AreJoined first (done ++ stretch_of from row value ∷ []) (row + 1)
    → AreJoined first (done ++ stretch_of from (row + 1) value ∷ []) (row + 1 + 1)
joined-longer {T} first [] from row value (here, some, joined) = (here, omega (arith, some), refl)
joined-longer {T} first (one ∷ done) from row value (here, some, joined) = (here, some, joined-longer (one.last + 1) done from row value joined)

before-longer : {T : Type 0} (done : List (Stretch T)) (from row other : ℕ) (value seen : T) → EndsBefore seen (done ++ stretch_of from row value ∷ [])
    → EndsBefore seen (done ++ stretch_of from other value ∷ [])
before-longer {T} [] from row other value seen apart = apart
before-longer {T} (one ∷ done) from row other value seen apart = apart

apart-longer : {T : Type 0} (done : List (Stretch T)) (from row other : ℕ) (value : T) → AreApart (done ++ stretch_of from row value ∷ [])
    → AreApart (done ++ stretch_of from other value ∷ [])
apart-longer {T} [] from row other value apart = apart
apart-longer {T} (one ∷ done) from row other value (here, apart) = (before-longer done from row other value one.seen here, apart-longer done from row other value apart)

-- one more stretch, of a row
spread-begins : {T : Type 0} (all : List (Stretch T)) (row : ℕ) (value : T) → spread (all ++ stretch_of row row value ∷ []) ≡ spread all ++ value ∷ []
spread-begins {T} all row value =
    let one : row + 1 - row ≡ 1 = omega arith in
    spread-more all (stretch_of row row value) ∙ ap (λ n. spread all ++ replicate n value) one

joined-begins : {T : Type 0} (first : ℕ) (all : List (Stretch T)) (row : ℕ) (value : T) → AreJoined first all row → AreJoined first (all ++ stretch_of row row value ∷ []) (row + 1)
joined-begins {T} first [] row value joined = (sym joined, omega (arith, joined), refl)
joined-begins {T} first (one ∷ all) row value (here, some, joined) = (here, some, joined-begins (one.last + 1) all row value joined)

apart-begins : {T : Type 0} (done : List (Stretch T)) (one next : Stretch T) → AreApart (done ++ one ∷ []) → one.seen ≢ next.seen → AreApart ((done ++ one ∷ []) ++ next ∷ [])
apart-begins {T} [] one next apart other = (other, (tt, tt))
apart-begins {T} (first ∷ []) one next (here, apart) other = (here, apart-begins [] one next apart other)
apart-begins {T} (first ∷ second ∷ done) one next (here, apart) other = (here, apart-begins (second ∷ done) one next apart other)

-- one more of the values
taken-more : {A : Type 0} (f : NodeSnapshot → A) (start : A) (rest : List NodeSnapshot) (k : ℕ) (x : NodeSnapshot) → k < length rest → x ≡ get_or rest k x
    → (start ∷ map f (take k rest)) ++ f x ∷ [] ≡ start ∷ map f (take (k + 1) rest)
taken-more {A} f start rest k x within is =
    ap (λ y. (start ∷ map f (take k rest)) ++ f y ∷ []) is ∙ ap (λ l. start ∷ l) (sym (map_more f rest k x within))

-- the stretches that are done, and the one at hand, are those of the first value and of so many more
pub record IsLoop {T : Type 0} (seen : NodeSnapshot → T) (first : ℕ) (done : List (Stretch T)) (from row : ℕ) (value start : T) (rest : List NodeSnapshot) (k : ℕ) : Type 0 where
  pub spread : spread (done ++ stretch_of from row value ∷ []) ≡ start ∷ map seen (take k rest)
  pub joined : AreJoined first (done ++ stretch_of from row value ∷ []) (row + 1)
  pub apart : AreApart (done ++ stretch_of from row value ∷ [])
  pub within : from ≤ row
  pub row_is : row ≡ first + k

pub starts : {T : Type 0} (seen : NodeSnapshot → T) (first : ℕ) (start : T) (rest : List NodeSnapshot) → IsLoop seen first [] first first start start rest 0
starts {T} seen first start rest = record {
  spread = spread-begins [] first start;
  joined = joined-begins first [] first start refl;
  apart = (tt, tt);
  within = omega arith;
  row_is = omega arith;
}

pub goes-on : {T : Type 0} (seen : NodeSnapshot → T) (first : ℕ) (done : List (Stretch T)) (from row : ℕ) (value next start : T) (rest : List NodeSnapshot) (k : ℕ) (x : NodeSnapshot)
    → next ≡ seen x → value ≡ next → k < length rest → x ≡ get_or rest k x
    → IsLoop seen first done from row value start rest k → IsLoop seen first done from (row + 1) value start rest (k + 1)
goes-on {T} seen first done from row value next start rest k x of same below is loop = record {
  spread =
      spread-longer done from row value loop.within
      ∙ ap (λ l. l ++ value ∷ []) loop.spread
      ∙ ap (λ v. (start ∷ map seen (take k rest)) ++ v ∷ []) (same ∙ of)
      ∙ taken-more seen start rest k x below is;
  joined = joined-longer first done from row value loop.joined;
  apart = apart-longer done from row (row + 1) value loop.apart;
  within = omega (arith, loop.within);
  row_is = omega (arith, loop.row_is);
}

pub begins : {T : Type 0} (seen : NodeSnapshot → T) (first : ℕ) (done all : List (Stretch T)) (one : Stretch T) (from row : ℕ) (value next start : T) (rest : List NodeSnapshot) (k : ℕ) (x : NodeSnapshot)
    → next ≡ seen x → value ≢ next → one ≡ stretch_of from row value → all ≡ done ++ one ∷ [] → k < length rest → x ≡ get_or rest k x
    → IsLoop seen first done from row value start rest k → IsLoop seen first all (row + 1) (row + 1) next start rest (k + 1)
begins {T} seen first done all one from row value next start rest k x of other is_one is_all below is loop = record {
  spread =
      spread-begins all (row + 1) next
      ∙ ap (λ l. spread l ++ next ∷ []) whole
      ∙ ap (λ l. l ++ next ∷ []) loop.spread
      ∙ ap (λ v. (start ∷ map seen (take k rest)) ++ v ∷ []) of
      ∙ taken-more seen start rest k x below is;
  joined = joined-begins first all (row + 1) next (rw whole loop.joined);
  apart = rw whole (apart-begins done (stretch_of from row value) (stretch_of (row + 1) (row + 1) next) loop.apart other);
  within = omega arith;
  row_is = omega (arith, loop.row_is);
}
  where
    whole : all ≡ done ++ stretch_of from row value ∷ []
    whole = is_all ∙ ap (λ o. done ++ o ∷ []) is_one

-- what the loop has made when it ends
pub record IsWhole {T : Type 0} (seen : NodeSnapshot → T) (first : ℕ) (all : List (Stretch T)) (start : T) (rest : List NodeSnapshot) : Type 0 where
  pub spread : spread all ≡ start ∷ map seen rest
  pub joined : AreJoined first all (first + length rest + 1)
  pub apart : AreApart all

pub ends : {T : Type 0} (seen : NodeSnapshot → T) (first : ℕ) (done all : List (Stretch T)) (one : Stretch T) (from row : ℕ) (value start : T) (rest : List NodeSnapshot) (k : ℕ)
    → one ≡ stretch_of from row value → all ≡ done ++ one ∷ [] → k ≡ length rest → IsLoop seen first done from row value start rest k → IsWhole seen first all start rest
ends {T} seen first done all one from row value start rest k is_one is_all end loop =
    let whole : all ≡ done ++ stretch_of from row value ∷ [] = is_all ∙ ap (λ o. done ++ o ∷ []) is_one in
    let last : row + 1 ≡ first + length rest + 1 = omega (arith, loop.row_is, end) in
    rw whole record {
      spread = loop.spread ∙ ap (λ l. start ∷ map seen l) (take_all k rest (omega (arith, end)));
      joined = subst (AreJoined first (done ++ stretch_of from row value ∷ [])) last loop.joined;
      apart = loop.apart;
    }

-- ---- of all nodes

-- one more lane, behind those of the nodes before it
pub lanes-more : (snapshots : ℕ → List NodeSnapshot) (first i k : ℕ) (lanes : List Lane) (lane : Lane) → k ≡ i + length lanes → AreLanes snapshots first i lanes
    → IsLane k first (snapshots k) lane → AreLanes snapshots first i (lanes ++ lane ∷ [])
lanes-more snapshots first i k [] lane place all one = (subst (λ n. IsLane n first (snapshots n) lane) (omega (arith, place)) one, all)
lanes-more snapshots first i k (next ∷ lanes) lane place (here, all) one = (here, lanes-more snapshots first (i + 1) k lanes lane (omega (arith, place)) all one)
