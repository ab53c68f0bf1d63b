-- From the stretches of slots that have their arrows to the rows of which these tell.
use Rattle.std.proofs.Common.{◌≡◌, ◌∙◌, ◌⊎◌, All, ap, below_more, get_or, take, inl, inr, ℕ, ◌+◌, ◌-◌, ◌<◌, ◌≤◌, Bool, true, false, ◌==◌, ◌++◌, List, [], ◌∷◌, Option, Some, None, length, map, replicate, refl, sym, subst, arith, if◌then◌else◌}
use Rattle.std.proofs.lemmas.List.{get_or-append_right, get_or-replicate, get_or_append_left, get_or_past, length-replicate, take_all}
use Rattle.std.proofs.lemmas.List.Elements.{All-head, All-tail, All-weaker}
use Rattle.std.proofs.lemmas.Bool.Decides.{nat_tests}
use Rattle.std.specs.Prelude.{nat_le}
use Rattle.std.specs.Str.Lines.{lines}
use Rattle.bully_calls.specs.declared.call.Phase.{Phase}
use Rattle.bully_film.specs.declared.slots.HeldCall.{HeldCall}
use Rattle.bully_film.specs.declared.snapshot.NodeSnapshot.{NodeSnapshot}
use Rattle.bully_film.specs.declared.whole.Lane.{Lane}
use Rattle.bully_film.specs.Lane.{AreJoined, AreLanes, Holding, IsLane, held_in, spread}
use Rattle.bully_picture.specs.Drawn.{HasArrow, HasArrows, HasBelow, HasHoldings, HasLanes, HasNodes, arrow_label, below_label, has_failed, held_label, node_label}
use Rattle.bully_picture.specs.Title.{Has}
use Rattle.bully_picture.specs.Written.{Gains, IsCopied, IsIn, Written}
use Rattle.bully_picture.proofs.WrittenLemmas.{has-more, has-within, nothing-gained, one-gained, one-more}

-- what a text has, a longer one has, too
pub holdings-more : (text more : List ℕ) (i : ℕ) (holdings : List Holding) → HasHoldings text i holdings → HasHoldings (text ++ more) i holdings
holdings-more text more i holdings has =
    All-weaker (λ h. Has text (held_label i h.first h.last h.seen)) (λ h. Has (text ++ more) (held_label i h.first h.last h.seen))
    (λ h. has-more (held_label i h.first h.last h.seen) text more) holdings has

pub holdings-within : (text middle : List ℕ) (i : ℕ) (holdings : List Holding) → Has text middle → HasHoldings middle i holdings → HasHoldings text i holdings
holdings-within text middle i holdings within has =
    All-weaker (λ h. Has middle (held_label i h.first h.last h.seen)) (λ h. Has text (held_label i h.first h.last h.seen))
    (λ h. has-within text middle (held_label i h.first h.last h.seen) within) holdings has

pub lanes-within : (text middle : List ℕ) (lanes : List Lane) → Has text middle → HasLanes middle lanes → HasLanes text lanes
lanes-within text middle lanes within has =
    All-weaker (λ lane. HasHoldings middle lane.node lane.holdings.items) (λ lane. HasHoldings text lane.node lane.holdings.items)
    (λ lane. holdings-within text middle lane.node lane.holdings.items within) lanes has

-- over a stretch the slot holds the same
held-within : (first last other : ℕ) (one : Option HeldCall) (rest : List (Option HeldCall)) → first ≤ other → other ≤ last
    → get_or (replicate (last + 1 - first) one ++ rest) (other - first) None ≡ one
held-within first last other one rest low high =
    let within : other - first < last + 1 - first = omega (arith, low, high) in
    let long : other - first < length (replicate (last + 1 - first) one) = omega (arith, within, length-replicate (last + 1 - first) one) in
    get_or_append_left (replicate (last + 1 - first) one) rest None (other - first) long ∙ get_or-replicate (last + 1 - first) (other - first) one None within

-- behind other rows the slot holds what it holds behind these ones
held-later : (first next other : ℕ) (before rest : List (Option HeldCall)) → next ≡ first + length before → next ≤ other
    → get_or (before ++ rest) (other - first) None ≡ get_or rest (other - next) None
held-later first next other before rest at low =
    let same : other - first - length before ≡ other - next = omega (arith, at, low) in
    get_or-append_right before rest (length before) (other - first) None refl (omega (arith, at, low)) ∙ ap (λ k. get_or rest k None) same

-- a row of the first stretch
arrow-here : (text : List ℕ) (i first last row : ℕ) (one : Option HeldCall) (held : HeldCall) (rest : List (Option HeldCall)) → first ≤ row → row ≤ last → one ≡ Some held
    → has_failed held.phase ≡ false → Has text (held_label i first last one) → HasArrow text i first (replicate (last + 1 - first) one ++ rest) held row
arrow-here text i first last row one held rest low high is runs has = record {
  from = first;
  to = last;
  around = (low, high);
  holds = λ other above below. (above, held-within first last other one rest above below ∙ is);
  arrow = subst (λ b. Has text (if b then [] else arrow_label i held.call first last)) runs (subst (λ o. Has text (held_label i first last o)) is has);
}

-- a row of those behind it
arrow-later : (text : List ℕ) (i first next row : ℕ) (before rest : List (Option HeldCall)) (held : HeldCall) → next ≡ first + length before
    → HasArrow text i next rest held row → HasArrow text i first (before ++ rest) held row
arrow-later text i first next row before rest held at arrow = record {
  from = arrow.from;
  to = arrow.to;
  around = arrow.around;
  holds = λ other above below.
      let holds = arrow.holds other above below in
      (omega (arith, at, holds.0), held-later first next other before rest at holds.0 ∙ holds.1);
  arrow = arrow.arrow;
}

pub up-to-or-behind : (row last : ℕ) → (row ≤ last) ⊎ (last + 1 ≤ row)
up-to-or-behind row last = by (nat_le row last) refl
  where
    by : (b : Bool) → nat_le row last ≡ b → (row ≤ last) ⊎ (last + 1 ≤ row)
    by true is = inl (grind (arith, nat_tests, is))
    by false is = inr (grind (arith, nat_tests, is))

holdings-arrows : (text : List ℕ) (i first end : ℕ) (holdings : List Holding) → AreJoined first holdings end → HasHoldings text i holdings
    → HasArrows text i first (spread holdings)
holdings-arrows text i first end [] joined has held row (low, is) runs =
    let none : None ≡ Some held = sym (get_or_past [] (row - first) None (omega arith)) ∙ is in
    absurd (cc)
holdings-arrows text i first end (h ∷ holdings) (begins, order, joined) has held row (low, is) runs =
    let here : Has text (held_label i h.first h.last h.seen) = All-head (λ (one : Holding). Has text (held_label i one.first one.last one.seen)) h holdings has in
    let rest : HasHoldings text i holdings = All-tail (λ (one : Holding). Has text (held_label i one.first one.last one.seen)) h holdings has in
    let stretch = replicate (h.last + 1 - h.first) h.seen in
    let at : h.last + 1 ≡ first + length stretch = omega (arith, begins, order, length-replicate (h.last + 1 - h.first) h.seen) in
    elim (up-to-or-behind row h.last) [
      | inl high ↦
          let low' : h.first ≤ row = omega (arith, begins, low) in
          let same : h.seen ≡ Some held = sym (held-within h.first h.last row h.seen (spread holdings) low' high)
          ∙ ap (λ k. get_or (stretch ++ spread holdings) (row - k) None) begins ∙ is in
          subst (λ k. HasArrow text i k (stretch ++ spread holdings) held row) begins
          (arrow-here text i h.first h.last row h.seen held (spread holdings) low' high same runs here)
      | inr behind ↦ arrow-later text i first (h.last + 1) row stretch (spread holdings) held at
          (holdings-arrows text i (h.last + 1) end holdings joined rest held row
          (behind, sym (held-later first (h.last + 1) row stretch (spread holdings) at behind) ∙ is) runs)
    ]

lane-arrows : (text : List ℕ) (i first : ℕ) (snapshots : List NodeSnapshot) (lane : Lane) → IsLane i first snapshots lane → HasHoldings text lane.node lane.holdings.items
    → HasArrows text i first (map held_in snapshots)
lane-arrows text i first snapshots lane is has =
    subst (HasArrows text i first) is.holdings
    (holdings-arrows text i first (first + length snapshots) lane.holdings.items is.holdings_joined (subst (λ k. HasHoldings text k lane.holdings.items) is.node has))

pub first-or-later : (j i : ℕ) → j ≤ i → (j ≡ i) ⊎ (j + 1 ≤ i)
first-or-later j i low = by (j == i) refl
  where
    by : (b : Bool) → (j == i) ≡ b → (j ≡ i) ⊎ (j + 1 ≤ i)
    by true is = inl (grind (arith, is))
    by false is = inr (grind (arith, is, low))

-- the lane of each node from node j on
pub lanes-arrows : (text : List ℕ) (first j : ℕ) (snapshots : ℕ → List NodeSnapshot) (lanes : List Lane) → AreLanes snapshots first j lanes → HasLanes text lanes
    → (i : ℕ) → j ≤ i → i < j + length lanes → HasArrows text i first (map held_in (snapshots i))
lanes-arrows text first j snapshots [] are has i low high = absurd (omega (arith, low, high))
lanes-arrows text first j snapshots (lane ∷ lanes) (is, are) has i low high =
    let here : HasHoldings text lane.node lane.holdings.items = All-head (λ (one : Lane). HasHoldings text one.node one.holdings.items) lane lanes has in
    let rest : HasLanes text lanes = All-tail (λ (one : Lane). HasHoldings text one.node one.holdings.items) lane lanes has in
    elim (first-or-later j i low) [
      | inl same ↦ subst (λ k. HasArrows text k first (map held_in (snapshots k))) same (lane-arrows text j first (snapshots j) lane is here)
      | inr later ↦ lanes-arrows text first (j + 1) snapshots lanes are rest i later (omega (arith, high))
    ]

-- one more node has its name
pub names-more : (is_wide : Bool) (name_at : ℕ → Option (List ℕ)) (k i : ℕ) (name : Option (List ℕ)) (a b : Written) → i ≡ k + 1 → name ≡ name_at k
    → IsIn a (λ text. (j : ℕ) → j < k → Has text (node_label is_wide (j + 1) (name_at j))) → Gains a b (λ text. Has text (node_label is_wide i name))
    → IsIn b (λ text. (j : ℕ) → j < k + 1 → Has text (node_label is_wide (j + 1) (name_at j)))
names-more is_wide name_at k i name a b number named so_far gained good =
    let grown = gained.extends.text good in
    let here : Has b.text (node_label is_wide (k + 1) (name_at k)) =
    subst (λ n. Has b.text (node_label is_wide n (name_at k))) number (subst (λ n. Has b.text (node_label is_wide i n)) named (gained.holds good)) in
    below_more (λ j. Has b.text (node_label is_wide (j + 1) (name_at j))) k
    (λ j low. subst (λ t. Has t (node_label is_wide (j + 1) (name_at j))) (sym grown.1)
    (has-more (node_label is_wide (j + 1) (name_at j)) a.text grown.0 (so_far (gained.extends.memory good) j low)))
    here

-- a call that was sent, or ran, has its arrow
pub drawn-gains : (i first last : ℕ) (held : HeldCall) (a b : Written) → has_failed held.phase ≡ false
    → Gains a b (λ text. Has text (arrow_label i held.call first last)) → Gains a b (λ text. Has text (held_label i first last (Some held)))
drawn-gains i first last held a b runs gained =
    subst (λ failed. Gains a b (λ text. Has text (if failed then [] else arrow_label i held.call first last))) (sym runs) gained

-- of a call that failed nothing is drawn
pub failed-gains : (i first last : ℕ) (held : HeldCall) (a : Written) → held.phase ≡ Phase.Failed → Gains a a (λ text. Has text (held_label i first last (Some held)))
failed-gains i first last held a is =
    let none : held_label i first last (Some held) ≡ [] = ap (λ p. if has_failed p then [] else arrow_label i held.call first last) is in
    subst (λ l. Gains a a (λ text. Has text l)) (sym none) (nothing-gained a)

-- nor of no call
pub empty-gains : (i first last : ℕ) (held : Option HeldCall) (a : Written) → held ≡ None → Gains a a (λ text. Has text (held_label i first last held))
empty-gains i first last held a is = subst (λ h. Gains a a (λ text. Has text (held_label i first last h))) (sym is) (nothing-gained a)

-- one more stretch has its arrow
pub holdings-one : (i : ℕ) (holdings : List Holding) (k : ℕ) (h : Holding) (start a b : Written) → k < length holdings → h ≡ get_or holdings k h
    → Gains start a (λ text. HasHoldings text i (take k holdings)) → Gains a b (λ text. Has text (held_label i h.first h.last h.seen))
    → Gains start b (λ text. HasHoldings text i (take (k + 1) holdings))
holdings-one i holdings k h start a b =
    let label : Holding → List ℕ = λ one. held_label i one.first one.last one.seen in
    one-gained (λ text one. Has text (label one)) (λ text more one. has-more (label one) text more) holdings k h start a b

pub holdings-all : (i : ℕ) (holdings : List Holding) (k : ℕ) (start a : Written) → length holdings ≤ k → Gains start a (λ text. HasHoldings text i (take k holdings))
    → Gains start a (λ text. HasHoldings text i holdings)
holdings-all i holdings k start a all so_far = subst (λ l. Gains start a (λ text. HasHoldings text i l)) (take_all k holdings all) so_far

-- one more lane has its arrows
pub lanes-more : (lanes : List Lane) (k : ℕ) (lane : Lane) (holdings : List Holding) (a b : Written) → k < length lanes → lane ≡ get_or lanes k lane → holdings ≡ lane.holdings.items
    → IsIn a (λ text. HasLanes text (take k lanes)) → Gains a b (λ text. HasHoldings text lane.node holdings) → IsIn b (λ text. HasLanes text (take (k + 1) lanes))
lanes-more lanes k lane holdings a b within is all so_far gained =
    one-more (λ text one. HasHoldings text one.node one.holdings.items) (λ text more one. holdings-more text more one.node one.holdings.items) lanes k lane a b within is so_far
    (subst (λ l. Gains a b (λ text. HasHoldings text lane.node l)) all gained)

pub lanes-all : (lanes : List Lane) (k : ℕ) (a : Written) → length lanes ≤ k → IsIn a (λ text. HasLanes text (take k lanes)) → IsIn a (λ text. HasLanes text lanes)
lanes-all lanes k a all so_far = subst (λ l. IsIn a (λ text. HasLanes text l)) (take_all k lanes all) so_far

-- what stands on a paper that was copied
pub nodes-copied : (text : List ℕ) (paper : Written) (nodes : ℕ) (name_at : ℕ → Option (List ℕ)) → IsCopied paper text → IsIn paper (λ t. HasNodes t nodes name_at) → HasNodes text nodes name_at
nodes-copied text paper nodes name_at (good, within) has =
    let all = has good in
    (all.0, λ i low. has-within text paper.text (node_label all.0 (i + 1) (name_at i)) within (all.1 i low))

pub lanes-copied : (text : List ℕ) (paper : Written) (lanes : List Lane) → IsCopied paper text → IsIn paper (λ t. HasLanes t lanes) → HasLanes text lanes
lanes-copied text paper lanes (good, within) has = lanes-within text paper.text lanes within (has good)

pub below-copied : (text : List ℕ) (paper : Written) (below : List ℕ) → IsCopied paper text → IsIn paper (λ t. HasBelow t below) → HasBelow text below
below-copied text paper below (good, within) has =
    let all = has good in (
      all.0,
      All-weaker (λ line. Has paper.text (below_label all.0 line)) (λ line. Has text (below_label all.0 line))
          (λ line. has-within text paper.text (below_label all.0 line) within) (lines below) all.1,
    )

-- one more line stands below
pub below-line : (letters : ℕ) (below line : List ℕ) (k : ℕ) (a b : Written) → k < length (lines below) → line ≡ get_or (lines below) k line
    → IsIn a (λ text. All (λ one. Has text (below_label letters one)) (take k (lines below))) → Gains a b (λ text. Has text (below_label letters line))
    → IsIn b (λ text. All (λ one. Has text (below_label letters one)) (take (k + 1) (lines below)))
below-line letters below line k a b =
    one-more (λ text one. Has text (below_label letters one)) (λ text more one. has-more (below_label letters one) text more) (lines below) k line a b

pub below-all : (letters : ℕ) (below : List ℕ) (k : ℕ) (a : Written) → length (lines below) ≤ k
    → IsIn a (λ text. All (λ one. Has text (below_label letters one)) (take k (lines below))) → IsIn a (λ text. HasBelow text below)
below-all letters below k a all so_far good = (letters, subst (All (λ one. Has a.text (below_label letters one))) (take_all k (lines below) all) (so_far good))
