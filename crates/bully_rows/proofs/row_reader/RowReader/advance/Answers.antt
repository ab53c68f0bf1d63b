use Rattle.std.proofs.Common.{rules}
use Rattle.std.proofs.lemmas.Result.{err_from_is_err_and}
use Rattle.bully_rows.proofs.TraceLemmas.{read-failed, read-late}
use Rattle.bully_rows.proofs.row_reader.RowReader.advance.Goals as goal

pub returns-in_err-next_record-clause-fault : goal.returns-in_err-next_record-clause-fault
returns-in_err-next_record-clause-fault g c =
    let told = err_from_is_err_and c.from_residual.result c.from_residual.ensures.1 in
    rw (← c.self.view_is, told.1, told.2) (λ known rows header read.
    read-failed known rows _ c.in_err-next_record.field-0.0 read c.in_err-next_record.ensures.fault c.in_err-next_record.ensures.read)

pub returns-then-number-clause-fault : goal.returns-then-number-clause-fault
returns-then-number-clause-fault g c =
    rw (← c.self.view_is, c.fault.ensures) (λ known rows header read.
    read-late known rows _ _ c.in_ok-next_record.field-0 _ read c.in_ok-next_record.ensures.takes (search rules) (search rules))
