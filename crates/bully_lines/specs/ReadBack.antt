-- Requests and replies that a line can tell: what is written of one means that very one, and each that is read is such
-- a one.
use Rattle.std.specs.Prelude.{◌≡◌, ◌≢◌, ◌⊎◌, ◌<◌, ℕ, List, Option, Some, None, Ok}
use Rattle.bully_base.specs.Setup.{IsNode, IsSetup, Setup}
use Rattle.bully_calls.specs.declared.call.Answer.TheVariants.{Yes, No}
use Rattle.bully_calls.specs.declared.call.CallKind.{CallKind}
use Rattle.bully_calls.specs.declared.call.CallKind.TheVariants.{Ready}
use Rattle.bully_calls.specs.declared.message.Reply.{Reply}
use Rattle.bully_calls.specs.declared.message.Request.{Request}
use Rattle.bully_rows.specs.ReadBack.{AreOwners}
use Rattle.bully_lines.specs.Texts.{reply_of_text, reply_text, request_of_text, request_text}

-- a Ready carries a table of the setup, and no other call carries one
abbrev pub Carries : Setup → CallKind → Option (List ℕ) → Type 0
Carries setup kind None = kind ≢ Ready
Carries setup kind (Some owners) = (kind ≡ Ready) × AreOwners setup owners

-- the request is one between nodes of the setup
pub record IsRequestTold (setup : Setup) (r : Request) : Type 0 where
  pub caller : IsNode setup r.caller
  pub number : r.number < setup.events_max
  pub callee : IsNode setup r.call.callee
  pub table : Carries setup r.call.kind r.table

-- the reply is one to a node of the setup, with what a call is answered
pub record IsReplyTold (setup : Setup) (r : Reply) : Type 0 where
  pub caller : IsNode setup r.caller
  pub number : r.number < setup.events_max
  pub answer : (r.answer ≡ Yes) ⊎ (r.answer ≡ No)

abbrev pub ReadsRequestBack : Type 0
ReadsRequestBack = (setup : Setup) (r : Request) → IsSetup setup → IsRequestTold setup r
    → request_of_text setup (request_text r) ≡ Ok r

abbrev pub ReadsReplyBack : Type 0
ReadsReplyBack = (setup : Setup) (r : Reply) → IsSetup setup → IsReplyTold setup r
    → reply_of_text setup (reply_text r) ≡ Ok r

abbrev pub RequestsAreTold : Type 0
RequestsAreTold = (setup : Setup) (line : List ℕ) (r : Request) → request_of_text setup line ≡ Ok r
    → IsRequestTold setup r

abbrev pub RepliesAreTold : Type 0
RepliesAreTold = (setup : Setup) (line : List ℕ) (r : Reply) → reply_of_text setup line ≡ Ok r → IsReplyTold setup r
