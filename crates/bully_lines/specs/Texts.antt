-- The lines of a request and of a reply, without their end, and what a line means.
use Rattle.std.specs.Prelude.{◌≡◌, ◌⊎◌, ℕ, Bool, List, [], ◌∷◌, ◌++◌, Option, Some, None, Result, Ok, Err, IsOk, codes}
use Rattle.std.specs.Prelude.{nat_lt, ◌==◌, if◌then◌else◌}
use Rattle.std.specs.Fmt.{decimal}
use Rattle.std.specs.List.{before_first, after_first}
use Rattle.std.specs.Option.{option_and_then}
use Rattle.std.specs.Str.{bytes_eq}
use Rattle.bully_base.specs.Setup.{Setup, is_node}
use Rattle.bully_calls.specs.declared.call.Answer.{Answer}
use Rattle.bully_calls.specs.declared.call.CallKind.{CallKind}
use Rattle.bully_calls.specs.declared.call.CallKind.TheVariants.{Ready}
use Rattle.bully_table.specs.Numeral.{number_of}
use Rattle.bully_table.specs.TableText.{owners_text, table_of_text}
use Rattle.bully_table.specs.declared.table.TableFault.{TableFault}
use Rattle.bully_lines.specs.declared.fault.ReplyFault.{ReplyFault}
use Rattle.bully_lines.specs.declared.fault.RequestFault.{RequestFault}
use Rattle.bully_calls.specs.declared.message.Reply.{Reply}
use Rattle.bully_calls.specs.declared.message.Request.{Request}
use Rattle.bully_rows.specs.Words.{answer_word, call_named, call_word}
use Rattle.bully_lines.specs.Words.{answer_named}

-- What is written.

-- a comma, and the table that a Ready carries
abbrev pub carried_text : Option (List ℕ) → List ℕ
carried_text None = []
carried_text (Some table) = 44 ∷ owners_text 32 table

abbrev pub request_text : Request → List ℕ
request_text r =
    codes "ask," ++ decimal r.caller ++ codes "," ++ decimal r.number ++ codes "," ++ decimal r.call.callee ++ codes ","
    ++ call_word r.call.kind ++ carried_text r.table

abbrev pub reply_text : Reply → List ℕ
reply_text r = codes "tell," ++ decimal r.caller ++ codes "," ++ decimal r.number ++ codes "," ++ answer_word r.answer

-- What is read. The fields are parted by commas, and a field that is missing reads as an empty one.

abbrev pub is_comma : ℕ → Bool
is_comma b = b == 44

-- the first field
abbrev pub field : List ℕ → List ℕ
field text = before_first is_comma text

-- what comes after it
abbrev pub behind : List ℕ → List ℕ
behind text = after_first is_comma text

-- the node of the setup that the text names
abbrev pub node_in : Setup → List ℕ → Option ℕ
node_in setup text = option_and_then (λ n. if is_node setup n then Some n else None) (number_of text)

-- the number of a call: it is below the bound on events
abbrev pub call_number_in : Setup → List ℕ → Option ℕ
call_number_in setup text = option_and_then (λ n. if nat_lt n setup.events_max then Some n else None) (number_of text)

-- the request with what its last field says, where that is a call without a table
abbrev pub plain_request : ℕ → ℕ → ℕ → Option CallKind → Result Request RequestFault
plain_request caller number callee None = Err RequestFault.Kind
plain_request caller number callee (Some kind) =
    Ok (record { caller = caller; number = number; call = record { callee = callee; kind = kind }; table = None })

-- a Ready with the table that the text spells
abbrev pub ready_request : ℕ → ℕ → ℕ → Result (List ℕ) TableFault → Result Request RequestFault
ready_request caller number callee (Err fault) = Err (RequestFault.Table fault)
ready_request caller number callee (Ok table) = Ok
    (record { caller = caller; number = number; call = record { callee = callee; kind = Ready }; table = Some table })

-- what the fields mean, from the call on, and from each field before it on
abbrev pub request_by_kind : Setup → ℕ → ℕ → ℕ → List ℕ → Result Request RequestFault
request_by_kind setup caller number callee text =
    if bytes_eq (field text) (call_word Ready)
    then ready_request caller number callee (table_of_text setup (behind text))
    else plain_request caller number callee (call_named text)

abbrev pub request_by_callee : Setup → ℕ → ℕ → Option ℕ → List ℕ → Result Request RequestFault
request_by_callee setup caller number None text = Err RequestFault.Callee
request_by_callee setup caller number (Some callee) text = request_by_kind setup caller number callee text

abbrev pub request_by_number : Setup → ℕ → Option ℕ → List ℕ → Result Request RequestFault
request_by_number setup caller None text = Err RequestFault.Number
request_by_number setup caller (Some number) text =
    request_by_callee setup caller number (node_in setup (field text)) (behind text)

abbrev pub request_by_caller : Setup → Option ℕ → List ℕ → Result Request RequestFault
request_by_caller setup None text = Err RequestFault.Caller
request_by_caller setup (Some caller) text =
    request_by_number setup caller (call_number_in setup (field text)) (behind text)

-- the request of the line, or the first fault from its left
abbrev pub request_of_text : Setup → List ℕ → Result Request RequestFault
request_of_text setup line =
    if bytes_eq (field line) (codes "ask")
    then request_by_caller setup (node_in setup (field (behind line))) (behind (behind line))
    else Err RequestFault.Word

-- why the line is refused: its first fault, and want of memory only of a line that is a request
abbrev pub IsRequestFault : Setup → List ℕ → RequestFault → Type 0
IsRequestFault setup line fault =
    (request_of_text setup line ≡ Err fault)
    ⊎ ((fault ≡ RequestFault.Table TableFault.OutOfMemory) × IsOk (request_of_text setup line))

abbrev pub reply_by_answer : ℕ → ℕ → Option Answer → Result Reply ReplyFault
reply_by_answer caller number None = Err ReplyFault.Answer
reply_by_answer caller number (Some answer) = Ok (record { caller = caller; number = number; answer = answer })

abbrev pub reply_by_number : ℕ → Option ℕ → List ℕ → Result Reply ReplyFault
reply_by_number caller None text = Err ReplyFault.Number
reply_by_number caller (Some number) text = reply_by_answer caller number (answer_named text)

abbrev pub reply_by_caller : Setup → Option ℕ → List ℕ → Result Reply ReplyFault
reply_by_caller setup None text = Err ReplyFault.Caller
reply_by_caller setup (Some caller) text = reply_by_number caller (call_number_in setup (field text)) (behind text)

-- the reply of the line, or the first fault from its left
abbrev pub reply_of_text : Setup → List ℕ → Result Reply ReplyFault
reply_of_text setup line =
    if bytes_eq (field line) (codes "tell")
    then reply_by_caller setup (node_in setup (field (behind line))) (behind (behind line))
    else Err ReplyFault.Word
