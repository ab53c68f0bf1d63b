-- Rows that are read are within the limits of their version and their setup.
use Rattle.std.proofs.Common.{◌≡◌, ℕ, ◌+◌, Bool, true, false, List, [], ◌∷◌, length, map, not, is_none, unwrap_or, Option, Some, None, Result, Ok, Err, All, arith, refl, sym, ap, subst}
use Rattle.std.specs.Prelude.{⊤, ◌==◌, IfSome, codes, option_and_then, option_map, if◌then◌else◌}
use Rattle.std.specs.Option.{option_map_or}
use Rattle.std.specs.Result.{result_ok}
use Rattle.std.specs.Str.{bytes_eq}
use Rattle.std.specs.List.{list_any}
use Rattle.std.proofs.lemmas.Bool.{or_parts}
use Rattle.std.proofs.lemmas.Bool.Decides.{nat_tests}
use Rattle.std.proofs.lemmas.List.{length-map}
use Rattle.std.proofs.lemmas.List.Elements.{All-cons, All-nil}
use Rattle.std.proofs.lemmas.Option.{option_and_then_some, same_Some}
use Rattle.bully_base.specs.NodeSet.{IsFallingBelow, with_node}
use Rattle.bully_base.specs.Setup.{IsNode, Setup, is_node}
use Rattle.bully_calls.specs.declared.call.Answer.{Answer}
use Rattle.bully_calls.specs.declared.call.Answer.TheVariants.{Done, Yes, No}
use Rattle.bully_calls.specs.declared.call.Call.{Call}
use Rattle.bully_table.specs.Numeral.{number_of}
use Rattle.bully_table.specs.TableText.{is_no_number, names_nobody, owner_of, pieces_of, table_of_text}
use Rattle.bully_table.specs.declared.table.TableFault.{TableFault}
use Rattle.bully_calls.specs.declared.event.Event.{Event}
use Rattle.bully_calls.specs.declared.kind.NodeEventKind.{NodeEventKind}
use Rattle.bully_calls.specs.declared.kind.Saying.{Saying}
use Rattle.bully_calls.specs.Events.{event_at, kind_named, node_saying}
use Rattle.bully_rows.specs.declared.detail.Detail.{Detail}
use Rattle.bully_rows.specs.declared.header.Version.{Version}
use Rattle.bully_rows.specs.declared.trace.Claim.{Claim}
use Rattle.bully_rows.specs.declared.trace.Row.{Row}
use Rattle.bully_rows.specs.Headers.{Record, node_in, nodes_max, says_more}
use Rattle.bully_rows.specs.ReadBack.{AreOwners, IsAnswerTold, IsClaimTold, IsDetailTold, IsEventTold, IsNamed, IsReply, IsRowTold, IsWholeTold}
use Rattle.bully_rows.specs.Rows.{answer_in, answered_in, call_in, claim_in, coordinator_in, detailed, is_above, is_unanswered, plan_in, row_of, set_from, set_in, task_in, unanswered_in, unanswered_row, whole_of, whole_row}
use Rattle.bully_rows.specs.EventsTold.{answered, unanswered}
use Rattle.bully_rows.specs.Kinds.{event_named, plan_word}
use Rattle.bully_rows.specs.Words.{answer_word, call_named, first_named, reply_named, status_named}
use Rattle.bully_rows.proofs.HeaderLemmas.{told-within}

-- ---- what stands behind a value that is there

pub found : {A B : Type 0} (f : A → Option B) (o : Option A) (y : B) → option_and_then f o ≡ Some y → (x : A) × (o ≡ Some x) × (f x ≡ Some y)
found f o y e = option_and_then_some f o y e (λ x at next. (x, at, next))

pub made : {A B : Type 0} (f : A → B) (o : Option A) (y : B) → option_map f o ≡ Some y → (x : A) × (o ≡ Some x) × (f x ≡ y)
made f None y e = absurd (cc e)
made f (Some x) y e = (x, refl, same_Some (f x) y e)

pub tested : {A : Type 0} (test : Bool) (o : Option A) (y : A) → (if test then o else None) ≡ Some y → (test ≡ true) × (o ≡ Some y)
tested true o y e = (refl, e)
tested false o y e = absurd (cc e)

pub either : {A : Type 0} (P : A → Type 0) (test : Bool) (one two : Option A) (y : A) → (one ≡ Some y → P y) → (two ≡ Some y → P y) → (if test then one else two) ≡ Some y → P y
either P true one two y first second e = first e
either P false one two y first second e = second e

abbrev Each : {A : Type 0} → (A → Type 0) → List A → Type 0
Each P [] = ⊤
Each P (x ∷ xs) = P x × Each P xs

-- what a word names is one of these
named : {A : Type 0} (P : A → Type 0) (word_of : A → List ℕ) (word : List ℕ) (xs : List A) (y : A) → Each P xs → first_named word_of word xs ≡ Some y → P y
named P word_of word [] y each e = absurd (cc e)
named P word_of word (x ∷ xs) y each e =
    either P (bytes_eq word (word_of x)) (Some x) (first_named word_of word xs) y (λ here. subst P (same_Some x y here) each.0) (λ later. named P word_of word xs y each.1 later) e

-- ---- nodes, tables and sets

node-told : (version : Version) (text : List ℕ) (i : ℕ) → node_in version text ≡ Some i → IsNamed version i
node-told version text i e = told-within (nodes_max version) (number_of text) i e

coordinator-told : (version : Version) (text : List ℕ) (c : Option ℕ) → coordinator_in version text ≡ Some c → IfSome c (IsNamed version)
coordinator-told version text c e = either P (bytes_eq text (codes "-")) (Some None) (option_map Some (node_in version text)) c (λ none. subst P (same_Some None c none) tt) (λ some. by_node some) e
  where
    P : Option ℕ → Type 0
    P o = IfSome o (IsNamed version)

    by_node : option_map Some (node_in version text) ≡ Some c → P c
    by_node some = let (i, at, is) = made Some (node_in version text) c some in subst P is (node-told version text i at)

-- a piece that is the number of a node
owner-told : (setup : Setup) (o : Option ℕ) → option_map_or (λ n. not (is_node setup n)) o false ≡ false → is_none o ≡ false → IsNode setup (unwrap_or o 0)
owner-told setup None known number = absurd (cc number)
owner-told setup (Some n) known number = grind (arith, nat_tests, known)

owners-told : (setup : Setup) (pieces : List (List ℕ)) → list_any (names_nobody setup) pieces ≡ false → list_any is_no_number pieces ≡ false → All (IsNode setup) (map owner_of pieces)
owners-told setup [] known numbers = All-nil (IsNode setup)
owners-told setup (p ∷ ps) known numbers =
    let a = or_parts (names_nobody setup p) (list_any (names_nobody setup) ps) known in
    let b = or_parts (is_no_number p) (list_any is_no_number ps) numbers in
    All-cons (IsNode setup) (owner_of p) (map owner_of ps) (owner-told setup (number_of p) a.0 b.0) (owners-told setup ps a.1 b.1)

pub table-told : (setup : Setup) (text : List ℕ) (owners : List ℕ) → table_of_text setup text ≡ Ok owners → AreOwners setup owners
table-told setup text owners e =
    by_tests (length (pieces_of text) == setup.partitions) (list_any (names_nobody setup) (pieces_of text)) (list_any is_no_number (pieces_of text)) refl refl refl e
  where
    by_tests : (count unknown wrong : Bool) → (length (pieces_of text) == setup.partitions) ≡ count → list_any (names_nobody setup) (pieces_of text) ≡ unknown
        → list_any is_no_number (pieces_of text) ≡ wrong
        → (if not count then Err TableFault.Length else if unknown then Err TableFault.Owner else if wrong then Err TableFault.Syntax else Ok (map owner_of (pieces_of text))) ≡ Ok owners
        → AreOwners setup owners
    by_tests false unknown wrong a b c e = absurd (cc e)
    by_tests true true wrong a b c e = absurd (cc e)
    by_tests true false true a b c e = absurd (cc e)
    by_tests true false false a b c e =
        let same : map owner_of (pieces_of text) ≡ owners = cc e in
        let size = length-map (pieces_of text) owner_of in
        let count : length (map owner_of (pieces_of text)) ≡ setup.partitions = grind (arith, nat_tests, size, a) in
        subst (AreOwners setup) same (count, owners-told setup (pieces_of text) b c)

ok-told : {E : Type 0} (r : Result (List ℕ) E) (x : List ℕ) → result_ok r ≡ Some x → r ≡ Ok x
ok-told (Ok y) x e = ap Ok (same_Some y x e)
ok-told (Err why) x e = absurd (cc e)

task-told : (setup : Setup) (text : List ℕ) (task : Option (List ℕ)) → task_in setup text ≡ Some task → IfSome task (AreOwners setup)
task-told setup text task e =
    either P (bytes_eq text (codes "-")) (Some None) (option_map Some (result_ok (table_of_text setup text))) task (λ none. subst P (same_Some None task none) tt) by_table e
  where
    P : Option (List ℕ) → Type 0
    P o = IfSome o (AreOwners setup)

    by_table : option_map Some (result_ok (table_of_text setup text)) ≡ Some task → P task
    by_table some =
        let (owners, at, is) = made Some (result_ok (table_of_text setup text)) task some in
        subst P is (table-told setup text owners (ok-told (table_of_text setup text) owners at))

-- a member above the others
above-falls : (bound i : ℕ) (set : List ℕ) → IsFallingBelow bound set → is_above i set ≡ true → IsFallingBelow i set × (with_node i set ≡ i ∷ set)
above-falls bound i [] falls above = (tt, refl)
above-falls bound i (j ∷ set) falls above = ((falls.0, (grind (arith, nat_tests, above)), falls.2), rw above refl)

set-falls : (version : Version) (set : List ℕ) (pieces : List (List ℕ)) (all : List ℕ) → IsFallingBelow (nodes_max version + 1) set → set_from version set pieces ≡ Some all
    → IsFallingBelow (nodes_max version + 1) all
set-falls version set [] all falls e = subst (IsFallingBelow (nodes_max version + 1)) (same_Some set all e) falls
set-falls version set (piece ∷ pieces) all falls e =
    let (i, at, next) = found (λ i. if is_above i set then set_from version (with_node i set) pieces else None) (node_in version piece) all e in
    let (above, more) = tested (is_above i set) (set_from version (with_node i set) pieces) all next in
    let (below, is) = above-falls (nodes_max version + 1) i set falls above in
    let node = node-told version piece i at in
    let grown : IsFallingBelow (nodes_max version + 1) (i ∷ set) = (node.0, omega (arith, node.1), below) in
    set-falls version (with_node i set) pieces all (subst (IsFallingBelow (nodes_max version + 1)) (sym is) grown) more

set-told : (version : Version) (text : List ℕ) (set : List ℕ) → set_in version text ≡ Some set → IsFallingBelow (nodes_max version + 1) set
set-told version text set e =
    either (IsFallingBelow (nodes_max version + 1)) (bytes_eq text (codes "-")) (Some []) (set_from version [] (pieces_of text)) set
    (λ none. subst (IsFallingBelow (nodes_max version + 1)) (same_Some [] set none) tt) (λ some. set-falls version [] (pieces_of text) set tt some) e

-- ---- events

-- an event that names a node and no more is within the limits where its node is
named-event : (version : Version) (setup : Setup) (kind : NodeEventKind) (i : ℕ) → IsNamed version i → IsEventTold version setup (event_at kind i)
named-event version setup NodeEventKind.Recover i node = node
named-event version setup kind i node = node

event-told : (version : Version) (setup : Setup) (word : List ℕ) (i : ℕ) (e : Event) → IsNamed version i → event_named word i ≡ Some e → IsEventTold version setup e
event-told version setup word i e node is =
    let (kind, at, same) = made (λ kind. event_at kind i) (kind_named word) e is in
    subst (IsEventTold version setup) same (named-event version setup kind i node)

plan-told : (version : Version) (setup : Setup) (node owners : List ℕ) (row : Row) → plan_in version setup node owners ≡ Some row → IsRowTold version setup row
plan-told version setup node owners row e =
    let (i, at_i, next) = found (λ i. option_map (λ table. Row.Event (Event.Plan i table)) (result_ok (table_of_text setup owners))) (node_in version node) row e in
    let (table, at_table, is) = made (λ table. Row.Event (Event.Plan i table)) (result_ok (table_of_text setup owners)) row next in
    subst (IsRowTold version setup) is (node-told version node i at_i, table-told setup owners table (ok-told (table_of_text setup owners) table at_table))

-- ---- details

call-told : (version : Version) (kind callee : List ℕ) (call : Call) → call_in version kind callee ≡ Some call → IsNamed version call.callee
call-told version kind callee call e =
    let (k, at_k, next) = found (λ k. option_map (λ j. record { callee = j; kind = k }) (node_in version callee)) (call_named kind) call e in
    let (j, at_j, is) = made {B = Call} (λ j. record { callee = j; kind = k }) (node_in version callee) call next in
    subst (λ (c : Call). IsNamed version c.callee) is (node-told version callee j at_j)

alone-told : (saying : Saying) → is_unanswered saying ≡ true → IsAnswerTold saying None
alone-told Saying.Nothing e = absurd (cc e)
alone-told Saying.Offered e = tt
alone-told Saying.Held e = tt
alone-told Saying.Replied e = absurd (cc e)
alone-told Saying.Brought e = absurd (cc e)

unanswered-told : (version : Version) (word : List ℕ) (call : Call) (detail : Detail) → IsNamed version call.callee → unanswered_in word call ≡ Some detail → IsDetailTold version detail
unanswered-told version word call detail node e =
    let (kind, at, next) = found (λ kind. if is_unanswered (node_saying kind) then Some (unanswered kind call) else None) (kind_named word) detail e in
    let (alone, is) = tested (is_unanswered (node_saying kind)) (Some (unanswered kind call)) detail next in
    subst (IsDetailTold version) (same_Some (unanswered kind call) detail is) (node, alone-told (node_saying kind) alone)

reply-told : (word : List ℕ) (a : Answer) → reply_named word ≡ Some a → IsReply a
reply-told word a e = named IsReply answer_word word (Done ∷ Yes ∷ No ∷ []) a (tt, (tt, (tt, tt))) e

answer-told : (saying : Saying) (word : List ℕ) (a : Answer) → answer_in saying word ≡ Some a → IsAnswerTold saying (Some a)
answer-told Saying.Nothing word a e = absurd (cc e)
answer-told Saying.Offered word a e = absurd (cc e)
answer-told Saying.Held word a e = absurd (cc e)
answer-told Saying.Replied word a e = reply-told word a e
answer-told Saying.Brought word a e = tt

answered-told : (version : Version) (word answer : List ℕ) (call : Call) (detail : Detail) → IsNamed version call.callee → answered_in word answer call ≡ Some detail → IsDetailTold version detail
answered-told version word answer call detail node e =
    let (kind, at, next) = found (λ kind. option_map (answered kind call) (answer_in (node_saying kind) answer)) (kind_named word) detail e in
    let (a, read, is) = made (answered kind call) (answer_in (node_saying kind) answer) detail next in
    subst (IsDetailTold version) is (node, answer-told (node_saying kind) answer a read)

detailed-told : (version : Version) (setup : Setup) (node : List ℕ) (o : Option Detail) (row : Row) → ((detail : Detail) → o ≡ Some detail → IsDetailTold version detail)
    → detailed version node o ≡ Some row → IsRowTold version setup row
detailed-told version setup node o row each e =
    let (more, next) = tested (says_more version) _ row e in
    let (i, at_i, last) = found (λ i. option_map (λ d. Row.Detailed (record { node = i; detail = d })) o) (node_in version node) row next in
    let (d, at_d, is) = made (λ d. Row.Detailed (record { node = i; detail = d })) o row last in
    subst (IsRowTold version setup) is (node-told version node i at_i, each d at_d)

-- ---- claims

claim-told : (version : Version) (node status coordinator : List ℕ) (claim : Claim) → claim_in version node status coordinator ≡ Some claim → IsClaimTold version claim
claim-told version node status coordinator claim e =
    let (i, at_i, next) = found {B = Claim} (λ i. option_and_then (λ s. option_map (λ c. record { node = i; status = s; coordinator = c }) (coordinator_in version coordinator)) (status_named status)) (node_in version node) claim e in
    let (s, at_s, last) = found {B = Claim} (λ s. option_map (λ c. record { node = i; status = s; coordinator = c }) (coordinator_in version coordinator)) (status_named status) claim next in
    let (c, at_c, is) = made {B = Claim} (λ c. record { node = i; status = s; coordinator = c }) (coordinator_in version coordinator) claim last in
    subst (IsClaimTold version) is (node-told version node i at_i, coordinator-told version coordinator c at_c)

whole-made : (version : Version) (setup : Setup) (c : Claim) (h : Option ℕ) (u : List ℕ) (t : Option (List ℕ)) (row : Row)
    → Row.Whole (record { claim = c; halter = h; up = u; task = t }) ≡ row → IsWholeTold version setup (record { claim = c; halter = h; up = u; task = t }) → IsRowTold version setup row
whole-made version setup c h u t row is told = subst (IsRowTold version setup) is told

whole-told : (version : Version) (setup : Setup) (node status coordinator halter up owners : List ℕ) (row : Row)
    → whole_of version setup (claim_in version node status coordinator) halter up owners ≡ Some row → IsRowTold version setup row
whole-told version setup node status coordinator halter up owners row e =
    let (c, at_c, one) = found (λ c. option_and_then (λ h. option_and_then (λ u. option_map (λ t. Row.Whole (record { claim = c; halter = h; up = u; task = t })) (task_in setup owners)) (set_in version up)) (coordinator_in version halter)) (claim_in version node status coordinator) row e in
    let (h, at_h, two) = found (λ h. option_and_then (λ u. option_map (λ t. Row.Whole (record { claim = c; halter = h; up = u; task = t })) (task_in setup owners)) (set_in version up)) (coordinator_in version halter) row one in
    let (u, at_u, three) = found (λ u. option_map (λ t. Row.Whole (record { claim = c; halter = h; up = u; task = t })) (task_in setup owners)) (set_in version up) row two in
    let (t, at_t, is) = made (λ t. Row.Whole (record { claim = c; halter = h; up = u; task = t })) (task_in setup owners) row three in
    whole-made version setup c h u t row is (record {
      claim = claim-told version node status coordinator c at_c;
      halter = coordinator-told version halter h at_h;
      up = set-told version up u at_u;
      task = task-told setup owners t at_t;
    })

-- ---- rows

pub row-told : (version : Version) (setup : Setup) (fields : Record) (row : Row) → row_of version setup fields ≡ Some row → IsRowTold version setup row
row-told version setup [] row e = absurd (cc e)
row-told version setup (a ∷ []) row e = absurd (cc e)
row-told version setup (word ∷ node ∷ []) row e =
    let (i, at_i, next) = found (λ i. option_map Row.Event (event_named word i)) (node_in version node) row e in
    let (ev, at_ev, is) = made Row.Event (event_named word i) row next in
    subst (IsRowTold version setup) is (event-told version setup word i ev (node-told version node i at_i) at_ev)
row-told version setup (word ∷ node ∷ owners ∷ []) row e =
    let (test, more) = tested (bytes_eq word plan_word) (plan_in version setup node owners) row e in
    plan-told version setup node owners row more
row-told version setup (word ∷ node ∷ third ∷ fourth ∷ []) row e =
    either (IsRowTold version setup) (bytes_eq word (codes "saw")) (option_map Row.Claim (claim_in version node third fourth)) (unanswered_row version word node third fourth) row
    (λ saw. by_claim (made Row.Claim (claim_in version node third fourth) row saw))
    (λ more. detailed-told version setup node (option_and_then (unanswered_in word) (call_in version third fourth)) row by_call more) e
  where
    by_claim : (c : Claim) × (claim_in version node third fourth ≡ Some c) × (Row.Claim c ≡ row) → IsRowTold version setup row
    by_claim (c, at, is) = subst (IsRowTold version setup) is (claim-told version node third fourth c at)

    by_call : (detail : Detail) → option_and_then (unanswered_in word) (call_in version third fourth) ≡ Some detail → IsDetailTold version detail
    by_call detail here =
        let (call, at, is) = found (unanswered_in word) (call_in version third fourth) detail here in
        unanswered-told version word call detail (call-told version third fourth call at) is
row-told version setup (word ∷ node ∷ kind ∷ callee ∷ answer ∷ []) row e =
    detailed-told version setup node (option_and_then (answered_in word answer) (call_in version kind callee)) row by_call e
  where
    by_call : (detail : Detail) → option_and_then (answered_in word answer) (call_in version kind callee) ≡ Some detail → IsDetailTold version detail
    by_call detail here =
        let (call, at, is) = found (answered_in word answer) (call_in version kind callee) detail here in
        answered-told version word answer call detail (call-told version kind callee call at) is
row-told version setup (a ∷ b ∷ c ∷ d ∷ x ∷ y ∷ []) row e = absurd (cc e)
row-told version setup (word ∷ node ∷ status ∷ coordinator ∷ halter ∷ up ∷ owners ∷ []) row e =
    let (test, whole) = tested (bytes_eq word (codes "saw")) (whole_row version setup node status coordinator halter up owners) row e in
    let (more, is) = tested (says_more version) (whole_of version setup (claim_in version node status coordinator) halter up owners) row whole in
    whole-told version setup node status coordinator halter up owners row is
row-told version setup (a ∷ b ∷ c ∷ d ∷ x ∷ y ∷ z ∷ u ∷ rest) row e = absurd (cc e)
