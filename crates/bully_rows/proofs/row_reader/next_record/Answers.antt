use Rattle.csv.specs.Records.{fields_of}
use Rattle.bully_rows.proofs.RecordsLemmas.{takes-left}
use Rattle.bully_rows.proofs.row_reader.next_record.Goals as goal

pub returns-in-Ok-clause-takes : goal.returns-in-Ok-clause-takes
returns-in-Ok-clause-takes g c =
    takes-left g.R.Read.remaining c.args.records.now c.read_byte_record.new.self c.in-Ok.found (fields_of c.read_byte_record.new.row) c.requires (rw c.in-Ok.is at c.read_byte_record.ensures.reads)
