use Rattle.std.proofs.Common.{◌≡◌, ◌<◌, drop}
use Rattle.std.specs.Option.{option_map}
use Rattle.bully_table.specs.Numeral.{number_of}
use Rattle.bully_table.proofs.NumeralLemmas.{told, answered}
use Rattle.bully_table.proofs.numeral.read_number.Given as goal

abbrev pub invariant-loop-digit : goal.invariant-loop-digit
invariant-loop-digit l = (l.number < 65536) × (answered l.number (drop l.digit-index l.text) ≡ option_map told (number_of l.text))
