-- What is read of a line is within the limits of the setup.
use Rattle.std.proofs.Common.{◌≡◌, ◌≢◌, ◌⊎◌, ℕ, ◌<◌, Bool, true, false, List, [], ◌∷◌, Option, Some, None, Result, Ok, Err, arith, inl, inr, refl, sym, subst, codes, nat_lt, if◌then◌else◌}
use Rattle.std.specs.Str.{bytes_eq}
use Rattle.std.proofs.lemmas.Bool.Decides.{nat_tests}
use Rattle.std.proofs.lemmas.Option.{same_Some}
use Rattle.std.proofs.lemmas.Slice.Eq.{bytes_eq-Decides}
use Rattle.bully_base.specs.Setup.{IsNode, Setup, is_node}
use Rattle.bully_calls.specs.declared.call.Answer.{Answer}
use Rattle.bully_calls.specs.declared.call.Answer.TheVariants.{Yes, No}
use Rattle.bully_calls.specs.declared.call.CallKind.{CallKind}
use Rattle.bully_calls.specs.declared.call.CallKind.TheVariants.{AreYouUp, AreYouNormal, Halt, NewCoordinator, Ready}
use Rattle.bully_calls.specs.declared.message.Reply.{Reply}
use Rattle.bully_calls.specs.declared.message.Request.{Request}
use Rattle.bully_table.specs.Numeral.{number_of}
use Rattle.bully_table.specs.TableText.{table_of_text}
use Rattle.bully_table.specs.declared.table.TableFault.{TableFault}
use Rattle.bully_rows.specs.Words.{answer_word, call_named, call_word, first_named}
use Rattle.bully_rows.proofs.ToldRows.{found, table-told, tested}
use Rattle.bully_lines.specs.declared.fault.ReplyFault.{ReplyFault}
use Rattle.bully_lines.specs.declared.fault.RequestFault.{RequestFault}
use Rattle.bully_lines.specs.ReadBack.{IsReplyTold, IsRequestTold, RepliesAreTold, RequestsAreTold}
use Rattle.bully_lines.specs.Texts.{behind, call_number_in, field, node_in, plain_request, ready_request, reply_by_answer, reply_by_caller, reply_by_number, request_by_callee, request_by_caller, request_by_kind, request_by_number}
use Rattle.bully_lines.specs.Words.{answer_named}

-- ---- fields

node-told : (setup : Setup) (text : List ℕ) (i : ℕ) → node_in setup text ≡ Some i → IsNode setup i
node-told setup text i e =
    let (n, at, next) = found (λ n. if is_node setup n then Some n else None) (number_of text) i e in
    let (known, is) = tested (is_node setup n) (Some n) i next in
    subst (IsNode setup) (same_Some n i is) (grind (arith, nat_tests, known))

number-told : (setup : Setup) (text : List ℕ) (k : ℕ) → call_number_in setup text ≡ Some k → k < setup.events_max
number-told setup text k e =
    let (n, at, next) = found (λ n. if nat_lt n setup.events_max then Some n else None) (number_of text) k e in
    let (low, is) = tested (nat_lt n setup.events_max) (Some n) k next in
    subst (λ m. m < setup.events_max) (same_Some n k is) (grind (arith, nat_tests, low))

-- what a word names has that word
word-of : {A : Type 0} (word_of : A → List ℕ) (word : List ℕ) (xs : List A) (y : A) → first_named word_of word xs ≡ Some y → bytes_eq word (word_of y) ≡ true
word-of word_of word [] y e = absurd (cc e)
word-of word_of word (x ∷ xs) y e = by_test (bytes_eq word (word_of x)) refl e (word-of word_of word xs y)
  where
    by_test : (b : Bool) → bytes_eq word (word_of x) ≡ b → (if b then Some x else first_named word_of word xs) ≡ Some y
        → (first_named word_of word xs ≡ Some y → bytes_eq word (word_of y) ≡ true) → bytes_eq word (word_of y) ≡ true
    by_test true here e more = subst (λ z. bytes_eq word (word_of z) ≡ true) (same_Some x y e) here
    by_test false here e more = more e

-- ---- requests

-- a text whose first field is another one isn't the word of a Ready
other-kind : (text : List ℕ) (kind : CallKind) → bytes_eq (field text) (call_word Ready) ≡ false → call_named text ≡ Some kind → kind ≢ Ready
other-kind text kind other named is =
    let has = word-of call_word text (AreYouUp ∷ AreYouNormal ∷ Halt ∷ NewCoordinator ∷ Ready ∷ []) kind named in
    let same : text ≡ call_word Ready = (bytes_eq-Decides text (call_word Ready)).0 (rw is at has) in
    let not_ready : bytes_eq (field (call_word Ready)) (call_word Ready) ≡ false = subst (λ t. bytes_eq (field t) (call_word Ready) ≡ false) same other in
    cc not_ready

module _ (setup : Setup) (caller number callee : ℕ) (from : IsNode setup caller) (low : number < setup.events_max) (to : IsNode setup callee) where
  ready-told : (q : Result (List ℕ) TableFault) (text : List ℕ) (r : Request) → table_of_text setup text ≡ q → ready_request caller number callee q ≡ Ok r → IsRequestTold setup r
  ready-told (Err why) text r at e = absurd (cc e)
  ready-told (Ok owners) text r at e =
      let is : record { caller = caller; number = number; call = record { callee = callee; kind = Ready }; table = Some owners } ≡ r = cc e in
      let (count, each) = table-told setup text owners at in
      subst (IsRequestTold setup) is (record { caller = from; number = low; callee = to; table = (refl, (count, each)) })

  plain-told : (q : Option CallKind) (text : List ℕ) (r : Request) → bytes_eq (field text) (call_word Ready) ≡ false → call_named text ≡ q → plain_request caller number callee q ≡ Ok r
      → IsRequestTold setup r
  plain-told None text r other at e = absurd (cc e)
  plain-told (Some kind) text r other at e =
      let is : record { caller = caller; number = number; call = record { callee = callee; kind = kind }; table = None } ≡ r = cc e in
      subst (IsRequestTold setup) is (record { caller = from; number = low; callee = to; table = other-kind text kind other at })

  kind-told : (text : List ℕ) (r : Request) → request_by_kind setup caller number callee text ≡ Ok r → IsRequestTold setup r
  kind-told text r e = by_test (bytes_eq (field text) (call_word Ready)) refl e
    where
      by_test : (b : Bool) → bytes_eq (field text) (call_word Ready) ≡ b
          → (if b then ready_request caller number callee (table_of_text setup (behind text)) else plain_request caller number callee (call_named text)) ≡ Ok r → IsRequestTold setup r
      by_test true at e = ready-told (table_of_text setup (behind text)) (behind text) r refl e
      by_test false at e = plain-told (call_named text) text r at refl e

callee-told : (setup : Setup) (caller number : ℕ) (q : Option ℕ) (fields text : List ℕ) (r : Request) → IsNode setup caller → number < setup.events_max → node_in setup fields ≡ q
    → request_by_callee setup caller number q text ≡ Ok r → IsRequestTold setup r
callee-told setup caller number None fields text r from low at e = absurd (cc e)
callee-told setup caller number (Some callee) fields text r from low at e = kind-told setup caller number callee from low (node-told setup fields callee at) text r e

request-number-told : (setup : Setup) (caller : ℕ) (q : Option ℕ) (fields text : List ℕ) (r : Request) → IsNode setup caller → call_number_in setup fields ≡ q
    → request_by_number setup caller q text ≡ Ok r → IsRequestTold setup r
request-number-told setup caller None fields text r from at e = absurd (cc e)
request-number-told setup caller (Some number) fields text r from at e =
    callee-told setup caller number (node_in setup (field text)) (field text) (behind text) r from (number-told setup fields number at) refl e

caller-told : (setup : Setup) (q : Option ℕ) (fields text : List ℕ) (r : Request) → node_in setup fields ≡ q → request_by_caller setup q text ≡ Ok r → IsRequestTold setup r
caller-told setup None fields text r at e = absurd (cc e)
caller-told setup (Some caller) fields text r at e =
    request-number-told setup caller (call_number_in setup (field text)) (field text) (behind text) r (node-told setup fields caller at) refl e

pub requests-told : RequestsAreTold
requests-told setup line r e = by_word (bytes_eq (field line) (codes "ask")) e
  where
    by_word : (b : Bool) → (if b then request_by_caller setup (node_in setup (field (behind line))) (behind (behind line)) else Err RequestFault.Word) ≡ Ok r → IsRequestTold setup r
    by_word true e = caller-told setup (node_in setup (field (behind line))) (field (behind line)) (behind (behind line)) r refl e
    by_word false e = absurd (cc e)

-- ---- replies

answer-told : (setup : Setup) (caller number : ℕ) (q : Option Answer) (text : List ℕ) (r : Reply) → IsNode setup caller → number < setup.events_max → answer_named text ≡ q
    → reply_by_answer caller number q ≡ Ok r → IsReplyTold setup r
answer-told setup caller number None text r from low at e = absurd (cc e)
answer-told setup caller number (Some a) text r from low at e =
    let is : record { caller = caller; number = number; answer = a } ≡ r = cc e in
    subst (IsReplyTold setup) is (record { caller = from; number = low; answer = by_word (bytes_eq text (answer_word Yes)) (bytes_eq text (answer_word No)) at })
  where
    by_word : (is_yes is_no : Bool) → (if is_yes then Some Yes else if is_no then Some No else None) ≡ Some a → (a ≡ Yes) ⊎ (a ≡ No)
    by_word true is_no e = inl (sym (same_Some Yes a e))
    by_word false true e = inr (sym (same_Some No a e))
    by_word false false e = absurd (cc e)

reply-number-told : (setup : Setup) (caller : ℕ) (q : Option ℕ) (fields text : List ℕ) (r : Reply) → IsNode setup caller → call_number_in setup fields ≡ q
    → reply_by_number caller q text ≡ Ok r → IsReplyTold setup r
reply-number-told setup caller None fields text r from at e = absurd (cc e)
reply-number-told setup caller (Some number) fields text r from at e = answer-told setup caller number (answer_named text) text r from (number-told setup fields number at) refl e

reply-caller-told : (setup : Setup) (q : Option ℕ) (fields text : List ℕ) (r : Reply) → node_in setup fields ≡ q → reply_by_caller setup q text ≡ Ok r → IsReplyTold setup r
reply-caller-told setup None fields text r at e = absurd (cc e)
reply-caller-told setup (Some caller) fields text r at e =
    reply-number-told setup caller (call_number_in setup (field text)) (field text) (behind text) r (node-told setup fields caller at) refl e

pub replies-told : RepliesAreTold
replies-told setup line r e = by_word (bytes_eq (field line) (codes "tell")) e
  where
    by_word : (b : Bool) → (if b then reply_by_caller setup (node_in setup (field (behind line))) (behind (behind line)) else Err ReplyFault.Word) ≡ Ok r → IsReplyTold setup r
    by_word true e = reply-caller-told setup (node_in setup (field (behind line))) (field (behind line)) (behind (behind line)) r refl e
    by_word false e = absurd (cc e)
