use Rattle.std.proofs.Common.{◌≡◌, ◌++◌, refl, subst, string_bytes}
use Rattle.std.specs.Fmt.{styled_decimal}
use Rattle.std.specs.Prelude.{OnOk}
use Rattle.bully_picture.specs.Written.{Writes, Written, right_text}
use Rattle.bully_picture.proofs.paper.Paper.push_right.Goals as goal

pub returns : goal.returns
returns c =
    let before : Written = record { text = string_bytes c.self.inside.text; has_failed = c.self.inside.has_failed } in
    let written : OnOk c.write-written.result (string_bytes c.write-written.new.self ≡ before.text ++ right_text c.args.number) =
    subst (λ s. OnOk c.write-written.result (string_bytes c.write-written.new.self ≡ before.text ++ styled_decimal s c.args.number)) c.laid_out.ensures c.write-written.ensures.bytes in
    subst (λ v. Writes v c.note.new.self (right_text c.args.number)) c.self.view_is (c.note.ensures.writes before (right_text c.args.number) refl written)
