-- What is written of a request or of a reply means that very one.
use Rattle.std.proofs.Common.{◌≡◌, ◌∙◌, ◌⊎◌, ℕ, zero, suc, ◌+◌, ◌^◌, ◌<◌, ◌++◌, true, false, List, [], ◌∷◌, length, take, drop, Option, Some, None, Ok, append_assoc, arith, inl, inr, refl, ap, ◌==◌, codes}
use Rattle.std.specs.Fmt.{decimal, digits}
use Rattle.std.specs.List.{list_all, list_any, position_or_len}
use Rattle.std.proofs.Math.Seq.{drop-append-add, take-append_seam}
use Rattle.std.proofs.lemmas.Bool.{and_parts, or_parts}
use Rattle.std.proofs.lemmas.Bool.Decides.{nat_tests}
use Rattle.bully_base.specs.Setup.{IsNode, IsSetup, Setup, is_node}
use Rattle.bully_calls.specs.declared.call.Answer.{Answer}
use Rattle.bully_calls.specs.declared.call.Answer.TheVariants.{Yes, No}
use Rattle.bully_calls.specs.declared.call.CallKind.{CallKind}
use Rattle.bully_calls.specs.declared.call.CallKind.TheVariants.{AreYouUp, AreYouNormal, Halt, NewCoordinator, Ready}
use Rattle.bully_table.specs.Numeral.{is_digit, number_of}
use Rattle.bully_rows.specs.Words.{answer_word, call_word}
use Rattle.bully_rows.proofs.ListTexts.{table-read}
use Rattle.bully_rows.proofs.NumberTexts.{decimal-digits, number-read}
use Rattle.bully_lines.specs.ReadBack.{Carries, ReadsReplyBack, ReadsRequestBack}
use Rattle.bully_lines.specs.Texts.{behind, call_number_in, carried_text, field, is_comma, node_in, ready_request, reply_by_answer, reply_by_caller, reply_by_number, reply_of_text, request_by_callee, request_by_caller, request_by_kind, request_by_number, request_of_text}
use Rattle.bully_lines.specs.Words.{answer_named}

-- ---- fields

-- the text has no comma
abbrev IsField : List ℕ → Type 0
IsField text = list_any is_comma text ≡ false

comma-at : (text rest : List ℕ) → IsField text → position_or_len is_comma (text ++ 44 ∷ rest) ≡ length text
comma-at [] rest plain = refl
comma-at (b ∷ text) rest plain =
    let (here, later) = or_parts (is_comma b) (list_any is_comma text) plain in
    let more = comma-at text rest later in
    rw here (omega (arith, more))

field-cut : (text rest : List ℕ) → IsField text → field (text ++ 44 ∷ rest) ≡ text
field-cut text rest plain = ap (λ (n : ℕ). take n (text ++ 44 ∷ rest)) (comma-at text rest plain) ∙ take-append_seam text (44 ∷ rest)

behind-cut : (text rest : List ℕ) → IsField text → behind (text ++ 44 ∷ rest) ≡ rest
behind-cut text rest plain = ap (λ (n : ℕ). drop (n + 1) (text ++ 44 ∷ rest)) (comma-at text rest plain) ∙ drop-append-add text (44 ∷ rest) 1

-- ---- numbers

digits-plain : (ds : List ℕ) → list_all is_digit ds ≡ true → IsField ds
digits-plain [] all = refl
digits-plain (b ∷ ds) all =
    let (here, later) = and_parts (is_digit b) (list_all is_digit ds) all in
    let other : (b == 44) ≡ false = grind (arith, nat_tests, here) in
    rw other (digits-plain ds later)

plain : (n : ℕ) → n < 2 ^ 64 → IsField (decimal n)
plain n small = digits-plain (decimal n) (decimal-digits n small)

none-read : number_of (decimal 0) ≡ Some 0
unfolding digits
none-read = refl

any-read : (n : ℕ) → n < 2 ^ 64 → number_of (decimal n) ≡ Some n
any-read zero small = none-read
any-read (suc n) small = number-read (suc n) (omega arith) small

node-small : (setup : Setup) (i : ℕ) → IsSetup setup → IsNode setup i → i < 2 ^ 64
node-small setup i within node = let low = within.nodes in omega (arith, low.1, node.1)

node-read : (setup : Setup) (i : ℕ) → IsSetup setup → IsNode setup i → node_in setup (decimal i) ≡ Some i
node-read setup i within node =
    let known : is_node setup i ≡ true = grind (arith, nat_tests, node.0, node.1) in
    rw (number-read i node.0 (node-small setup i within node), known) refl

number-small : (setup : Setup) (n : ℕ) → IsSetup setup → n < setup.events_max → n < 2 ^ 64
number-small setup n within low = let most = within.events in omega (arith, most.1, low)

call-number-read : (setup : Setup) (n : ℕ) → IsSetup setup → n < setup.events_max → call_number_in setup (decimal n) ≡ Some n
call-number-read setup n within low = rw (any-read n (number-small setup n within low)) (grind (arith, nat_tests, low))

-- ---- requests

grouped : (a b c d e : List ℕ) → codes "ask," ++ a ++ codes "," ++ b ++ codes "," ++ c ++ codes "," ++ d ++ e
    ≡ codes "ask," ++ (a ++ 44 ∷ (b ++ 44 ∷ (c ++ 44 ∷ (d ++ e))))
grouped a b c d e = simp append_assoc

kind-read : (setup : Setup) (caller number callee : ℕ) (kind : CallKind) (table : Option (List ℕ)) → IsSetup setup → Carries setup kind table
    → request_by_kind setup caller number callee (call_word kind ++ carried_text table)
    ≡ Ok (record { caller = caller; number = number; call = record { callee = callee; kind = kind }; table = table })
kind-read setup caller number callee AreYouUp None within carries = refl
kind-read setup caller number callee AreYouNormal None within carries = refl
kind-read setup caller number callee Halt None within carries = refl
kind-read setup caller number callee NewCoordinator None within carries = refl
kind-read setup caller number callee Ready None within carries = absurd (carries refl)
kind-read setup caller number callee AreYouUp (Some owners) within carries = absurd (cc carries.0)
kind-read setup caller number callee AreYouNormal (Some owners) within carries = absurd (cc carries.0)
kind-read setup caller number callee Halt (Some owners) within carries = absurd (cc carries.0)
kind-read setup caller number callee NewCoordinator (Some owners) within carries = absurd (cc carries.0)
kind-read setup caller number callee Ready (Some owners) within carries = ap (ready_request caller number callee) (table-read setup owners within carries.1)

callee-read : (setup : Setup) (caller number : ℕ) (text rest : List ℕ) (callee : ℕ) → field text ≡ decimal callee → behind text ≡ rest → node_in setup (decimal callee) ≡ Some callee
    → request_by_callee setup caller number (node_in setup (field text)) (behind text) ≡ request_by_kind setup caller number callee rest
callee-read setup caller number text rest callee cut left read = rw (cut, left, read) refl

number-at : (setup : Setup) (caller : ℕ) (text rest : List ℕ) (number : ℕ) → field text ≡ decimal number → behind text ≡ rest → call_number_in setup (decimal number) ≡ Some number
    → request_by_number setup caller (call_number_in setup (field text)) (behind text) ≡ request_by_callee setup caller number (node_in setup (field rest)) (behind rest)
number-at setup caller text rest number cut left read = rw (cut, left, read) refl

caller-at : (setup : Setup) (text rest : List ℕ) (caller : ℕ) → field text ≡ decimal caller → behind text ≡ rest → node_in setup (decimal caller) ≡ Some caller
    → request_by_caller setup (node_in setup (field text)) (behind text) ≡ request_by_number setup caller (call_number_in setup (field rest)) (behind rest)
caller-at setup text rest caller cut left read = rw (cut, left, read) refl

pub reads-request : ReadsRequestBack
reads-request setup r within told =
    let kinds = call_word r.call.kind ++ carried_text r.table in
    let third = decimal r.call.callee ++ 44 ∷ kinds in
    let second = decimal r.number ++ 44 ∷ third in
    let one = plain r.caller (node-small setup r.caller within told.caller) in
    let two = plain r.number (number-small setup r.number within told.number) in
    let three = plain r.call.callee (node-small setup r.call.callee within told.callee) in
    ap (request_of_text setup) (grouped (decimal r.caller) (decimal r.number) (decimal r.call.callee) (call_word r.call.kind) (carried_text r.table))
    ∙ caller-at setup (decimal r.caller ++ 44 ∷ second) second r.caller (field-cut (decimal r.caller) second one) (behind-cut (decimal r.caller) second one) (node-read setup r.caller within told.caller)
    ∙ number-at setup r.caller second third r.number (field-cut (decimal r.number) third two) (behind-cut (decimal r.number) third two) (call-number-read setup r.number within told.number)
    ∙ callee-read setup r.caller r.number third kinds r.call.callee (field-cut (decimal r.call.callee) kinds three) (behind-cut (decimal r.call.callee) kinds three) (node-read setup r.call.callee within told.callee)
    ∙ kind-read setup r.caller r.number r.call.callee r.call.kind r.table within told.table

-- ---- replies

reply-grouped : (a b c : List ℕ) → codes "tell," ++ a ++ codes "," ++ b ++ codes "," ++ c ≡ codes "tell," ++ (a ++ 44 ∷ (b ++ 44 ∷ c))
reply-grouped a b c = simp append_assoc

answer-read : (caller number : ℕ) (a : Answer) → (a ≡ Yes) ⊎ (a ≡ No) → reply_by_answer caller number (answer_named (answer_word a)) ≡ Ok (record { caller = caller; number = number; answer = a })
answer-read caller number a (inl is) = rw is refl
answer-read caller number a (inr is) = rw is refl

reply-number-at : (caller : ℕ) (setup : Setup) (text rest : List ℕ) (number : ℕ) → field text ≡ decimal number → behind text ≡ rest → call_number_in setup (decimal number) ≡ Some number
    → reply_by_number caller (call_number_in setup (field text)) (behind text) ≡ reply_by_answer caller number (answer_named rest)
reply-number-at caller setup text rest number cut left read = rw (cut, left, read) refl

reply-caller-at : (setup : Setup) (text rest : List ℕ) (caller : ℕ) → field text ≡ decimal caller → behind text ≡ rest → node_in setup (decimal caller) ≡ Some caller
    → reply_by_caller setup (node_in setup (field text)) (behind text) ≡ reply_by_number caller (call_number_in setup (field rest)) (behind rest)
reply-caller-at setup text rest caller cut left read = rw (cut, left, read) refl

pub reads-reply : ReadsReplyBack
reads-reply setup r within told =
    let word = answer_word r.answer in
    let second = decimal r.number ++ 44 ∷ word in
    let one = plain r.caller (node-small setup r.caller within told.caller) in
    let two = plain r.number (number-small setup r.number within told.number) in
    ap (reply_of_text setup) (reply-grouped (decimal r.caller) (decimal r.number) word)
    ∙ reply-caller-at setup (decimal r.caller ++ 44 ∷ second) second r.caller (field-cut (decimal r.caller) second one) (behind-cut (decimal r.caller) second one) (node-read setup r.caller within told.caller)
    ∙ reply-number-at r.caller setup second word r.number (field-cut (decimal r.number) word two) (behind-cut (decimal r.number) word two) (call-number-read setup r.number within told.number)
    ∙ answer-read r.caller r.number r.answer told.answer
