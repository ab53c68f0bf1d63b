-- From the stretches of lanes that have their bars to the rows of which these tell.
use Rattle.std.proofs.Common.{◌≡◌, ◌∙◌, inl, inr, ℕ, zero, suc, ◌+◌, ◌-◌, ◌<◌, ◌≤◌, ◌++◌, Bool, List, [], ◌∷◌, Some, None, All, get_or, length, map, replicate, take, sym, ap, subst, arith}
use Rattle.std.specs.Fmt.{decimal}
use Rattle.std.specs.Prelude.{codes, slice_get}
use Rattle.std.proofs.lemmas.List.{append_assoc, get_or-replicate, get_or_append_left, length-append, length-replicate, take_all}
use Rattle.std.proofs.lemmas.List.Elements.{All-head, All-tail, All-weaker}
use Rattle.std.proofs.lemmas.Option.{slice_get-get_or, slice_get_past}
use Rattle.bully_film.specs.declared.snapshot.NodeSnapshot.{NodeSnapshot}
use Rattle.bully_film.specs.declared.stands.Stand.{Stand}
use Rattle.bully_film.specs.declared.stretches.Stretch.{Stretch}
use Rattle.bully_film.specs.declared.whole.Lane.{Lane}
use Rattle.bully_film.specs.Lane.{AreJoined, AreLanes, IsLane, spread, stand_of}
use Rattle.bully_picture.specs.Bars.{Bar, HasBar, HasBars, HasLaneBars, IsBehind, bar_label, bar_look, behind_rows, stand_text}
use Rattle.bully_picture.specs.Title.{Has}
use Rattle.bully_picture.specs.Written.{Extends, Gains, IsCopied, IsIn, Writes, Written}
use Rattle.bully_picture.proofs.DrawnLemmas.{first-or-later, up-to-or-behind}
use Rattle.bully_picture.proofs.WrittenLemmas.{extends-written, gains-later, gains-still, has-more, has-within, has-written, one-gained, one-more, writes-as, writes-then}

-- ---- what is seen behind a row, out of stretches

get-front : {T : Type 0} (n k : ℕ) (x : T) (rest : List T) → k < n → slice_get (replicate n x ++ rest) k ≡ Some x
get-front {T} n k x rest below =
    let here : k < length (replicate n x) = omega (arith, below, length-replicate n x) in
    let within : k < length (replicate n x ++ rest) = omega (arith, here, length-append (replicate n x) rest) in
    slice_get-get_or (replicate n x ++ rest) k x within ∙ ap Some (get_or_append_left (replicate n x) rest x k here ∙ get_or-replicate n k x x below)

get-behind : {T : Type 0} (xs ys : List T) (k : ℕ) → length xs ≤ k → slice_get (xs ++ ys) k ≡ slice_get ys (k - length xs)
get-behind {T} [] ys k past = let e : k ≡ k - 0 = omega arith in ap (slice_get ys) e
get-behind {T} (x ∷ xs) ys zero past = absurd (omega (arith, past))
get-behind {T} (x ∷ xs) ys (suc k) past =
    let e : k - length xs ≡ suc k - length (x ∷ xs) = omega arith in
    get-behind xs ys k (omega (arith, past)) ∙ ap (slice_get ys) e

some-same : {T : Type 0} (x y : T) → Some x ≡ Some y → x ≡ y
some-same x y is = cc

-- of stretches that lie end to end, each of which has something, the one that spans a row: it has that, too, and behind each of its rows
-- the same is seen
pub spans : {T : Type 0} (P : Stretch T → Type 0) (first end : ℕ) (all : List (Stretch T)) → AreJoined first all end → All P all → (x : T) (row : ℕ) → IsBehind first (spread all) x row
    → (one : Stretch T) × P one × (one.seen ≡ x) × ((one.first ≤ row) × (row ≤ one.last)) × ((other : ℕ) → one.first ≤ other → other ≤ one.last → IsBehind first (spread all) x other)
spans {T} P first end [] joined has x row (low, is) =
    let none : None ≡ Some x = sym (slice_get_past [] (row - first) (omega arith)) ∙ is in
    absurd (cc)
spans {T} P first end (one ∷ others) (begins, order, joined) has x row (low, is) =
    let n = one.last + 1 - one.first in
    let stretch = replicate n one.seen in
    let long : length stretch ≡ n = length-replicate n one.seen in
    let here : P one = All-head P one others has in
    let rest : All P others = All-tail P one others has in
    elim (up-to-or-behind row one.last) [
      | inl high ↦
          let seen : one.seen ≡ x = some-same one.seen x (sym (get-front n (row - first) one.seen (spread others) (omega (arith, begins, low, high))) ∙ is) in (
            one,
            here,
            seen,
            (omega (arith, begins, low), high),
            λ other above below.
                (omega (arith, begins, above), get-front n (other - first) one.seen (spread others) (omega (arith, begins, above, below)) ∙ ap Some seen),
          )
      | inr behind ↦
          let at : (k : ℕ) → one.last + 1 ≤ k → slice_get (stretch ++ spread others) (k - first) ≡ slice_get (spread others) (k - (one.last + 1)) =
          λ k above.
          let e : k - first - length stretch ≡ k - (one.last + 1) = omega (arith, begins, order, long, above) in
          get-behind stretch (spread others) (k - first) (omega (arith, begins, order, long, above)) ∙ ap (slice_get (spread others)) e in
          let later = spans P (one.last + 1) end others joined rest x row (behind, sym (at row behind) ∙ is) in (
            later.0,
            later.1,
            later.2,
            later.3,
            λ other above below.
                let there = later.4 other above below in
                (omega (arith, begins, order, there.0), at other there.0 ∙ there.1),
          )
    ]

-- ---- their bars

bars-has : (text : List ℕ) (shows : Bool) (i first end : ℕ) (bars : List Bar) → AreJoined first bars end → HasBars text shows i bars
    → (stand : Stand) (row : ℕ) → IsBehind first (spread bars) stand row → HasBar text shows i first (spread bars) stand row
bars-has text shows i first end bars joined has stand row is =
    let found = spans (λ (bar : Bar). Has text (bar_label shows i bar)) first end bars joined has stand row is in
    record {
      from = found.0.first;
      to = found.0.last;
      around = found.3;
      stood = found.4;
      bar = subst (λ (seen : Stand). Has text (bar_label shows i (record { first = found.0.first; last = found.0.last; seen = seen }))) found.2 found.1;
    }

lane-has : (text : List ℕ) (shows : Bool) (i first : ℕ) (snapshots : List NodeSnapshot) (lane : Lane) → IsLane i first snapshots lane → HasBars text shows lane.node lane.bars.items
    → (stand : Stand) (row : ℕ) → IsBehind first (map stand_of snapshots) stand row → HasBar text shows i first (map stand_of snapshots) stand row
lane-has text shows i first snapshots lane is has =
    subst (λ stands. (stand : Stand) (row : ℕ) → IsBehind first stands stand row → HasBar text shows i first stands stand row) is.bars
    (bars-has text shows i first (first + length snapshots) lane.bars.items is.bars_joined (subst (λ k. HasBars text shows k lane.bars.items) is.node has))

-- the lane of each node from node j on
pub lanes-stand : (text : List ℕ) (shows : Bool) (first j : ℕ) (snapshots : ℕ → List NodeSnapshot) (lanes : List Lane) → AreLanes snapshots first j lanes → HasLaneBars text shows lanes
    → (i : ℕ) → j ≤ i → i < j + length lanes
    → (stand : Stand) (row : ℕ) → IsBehind first (map stand_of (snapshots i)) stand row → HasBar text shows i first (map stand_of (snapshots i)) stand row
lanes-stand text shows first j snapshots [] are has i low high = absurd (omega (arith, low, high))
lanes-stand text shows first j snapshots (lane ∷ lanes) (is, are) has i low high =
    let here : HasBars text shows lane.node lane.bars.items = All-head (λ (one : Lane). HasBars text shows one.node one.bars.items) lane lanes has in
    let rest : HasLaneBars text shows lanes = All-tail (λ (one : Lane). HasBars text shows one.node one.bars.items) lane lanes has in
    elim (first-or-later j i low) [
      | inl same ↦ subst (λ k. (stand : Stand) (row : ℕ) → IsBehind first (map stand_of (snapshots k)) stand row → HasBar text shows k first (map stand_of (snapshots k)) stand row) same
          (lane-has text shows j first (snapshots j) lane is here)
      | inr later ↦ lanes-stand text shows first (j + 1) snapshots lanes are rest i later (omega (arith, high))
    ]

-- ---- while they are drawn

bars-more : (text more : List ℕ) (shows : Bool) (i : ℕ) (bars : List Bar) → HasBars text shows i bars → HasBars (text ++ more) shows i bars
bars-more text more shows i bars has =
    All-weaker (λ bar. Has text (bar_label shows i bar)) (λ bar. Has (text ++ more) (bar_label shows i bar)) (λ bar. has-more (bar_label shows i bar) text more) bars has

bars-within : (text middle : List ℕ) (shows : Bool) (i : ℕ) (bars : List Bar) → Has text middle → HasBars middle shows i bars → HasBars text shows i bars
bars-within text middle shows i bars within has =
    All-weaker (λ bar. Has middle (bar_label shows i bar)) (λ bar. Has text (bar_label shows i bar)) (λ bar. has-within text middle (bar_label shows i bar) within) bars has

-- a bar: where it lies, its look, what it says, and its end
pub bar-written : (shows : Bool) (i : ℕ) (bar : Bar) (look end : List ℕ) (start placed looked titled ended : Written) → Extends start placed → look ≡ bar_look bar.seen.status
    → Writes placed looked look
    → Writes looked titled ((codes "<title>node " ++ decimal i ++ codes ": ") ++ stand_text bar.seen ++ behind_rows shows bar.first bar.last ++ codes "</title>")
    → Writes titled ended end → Gains start ended (λ text. Has text (bar_label shows i bar))
bar-written shows i bar look end start placed looked titled ended place is looks says last =
    gains-still (λ text. Has text (bar_label shows i bar)) (has-more (bar_label shows i bar))
    (gains-later place (has-written (writes-as (label-is look is) (writes-then looks says)))) (extends-written last)
  where
    label-is : (look : List ℕ) → look ≡ bar_look bar.seen.status
        → look ++ ((codes "<title>node " ++ decimal i ++ codes ": ") ++ stand_text bar.seen ++ behind_rows shows bar.first bar.last ++ codes "</title>") ≡ bar_label shows i bar
    label-is look is =
        ap (λ l. l ++ ((codes "<title>node " ++ decimal i ++ codes ": ") ++ stand_text bar.seen ++ behind_rows shows bar.first bar.last ++ codes "</title>")) is
        ∙ sym (append_assoc (bar_look bar.seen.status) ((codes "<title>node " ++ decimal i ++ codes ": ") ++ stand_text bar.seen ++ behind_rows shows bar.first bar.last) (codes "</title>"))
        ∙ ap (λ l. l ++ codes "</title>") (sym (append_assoc (bar_look bar.seen.status) ((codes "<title>node " ++ decimal i ++ codes ": ") ++ stand_text bar.seen) (behind_rows shows bar.first bar.last))
        ∙ ap (λ l. l ++ behind_rows shows bar.first bar.last) (sym (append_assoc (bar_look bar.seen.status) (codes "<title>node " ++ decimal i ++ codes ": ") (stand_text bar.seen))))

-- one more bar
pub bars-one : (shows : Bool) (i : ℕ) (bars : List Bar) (k : ℕ) (bar : Bar) (start a b : Written) → k < length bars → bar ≡ get_or bars k bar
    → Gains start a (λ text. HasBars text shows i (take k bars)) → Gains a b (λ text. Has text (bar_label shows i bar)) → Gains start b (λ text. HasBars text shows i (take (k + 1) bars))
bars-one shows i bars k bar start a b =
    one-gained (λ text one. Has text (bar_label shows i one)) (λ text more one. has-more (bar_label shows i one) text more) bars k bar start a b

pub bars-all : (shows : Bool) (i : ℕ) (bars : List Bar) (k : ℕ) (start a : Written) → length bars ≤ k → Gains start a (λ text. HasBars text shows i (take k bars))
    → Gains start a (λ text. HasBars text shows i bars)
bars-all shows i bars k start a all so_far = subst (λ l. Gains start a (λ text. HasBars text shows i l)) (take_all k bars all) so_far

-- those of one more lane
pub lane_bars-more : (shows : Bool) (lanes : List Lane) (k : ℕ) (lane : Lane) (bars : List Bar) (a b : Written) → k < length lanes → lane ≡ get_or lanes k lane → bars ≡ lane.bars.items
    → IsIn a (λ text. HasLaneBars text shows (take k lanes)) → Gains a b (λ text. HasBars text shows lane.node bars) → IsIn b (λ text. HasLaneBars text shows (take (k + 1) lanes))
lane_bars-more shows lanes k lane bars a b within is all so_far gained =
    one-more (λ text one. HasBars text shows one.node one.bars.items) (λ text more one. bars-more text more shows one.node one.bars.items) lanes k lane a b within is so_far
    (subst (λ l. Gains a b (λ text. HasBars text shows lane.node l)) all gained)

pub lane_bars-all : (shows : Bool) (lanes : List Lane) (k : ℕ) (a : Written) → length lanes ≤ k → IsIn a (λ text. HasLaneBars text shows (take k lanes)) → IsIn a (λ text. HasLaneBars text shows lanes)
lane_bars-all shows lanes k a all so_far = subst (λ l. IsIn a (λ text. HasLaneBars text shows l)) (take_all k lanes all) so_far

pub bars-copied : (text : List ℕ) (paper : Written) (shows : Bool) (lanes : List Lane) → IsCopied paper text → IsIn paper (λ t. HasLaneBars t shows lanes) → HasLaneBars text shows lanes
bars-copied text paper shows lanes (good, within) has =
    All-weaker (λ lane. HasBars paper.text shows lane.node lane.bars.items) (λ lane. HasBars text shows lane.node lane.bars.items)
    (λ lane. bars-within text paper.text shows lane.node lane.bars.items within) lanes (has good)
