-- Where a trace comes from, and how much of it is given.
use Rattle.std.specs.Prelude.{option_map}
use Rattle.bully_text.specs.Bounded.{bounded}
use Rattle.bully.specs.Answer.{KnownBytes}
use Rattle.bully.specs.declared.input.Input.{Input}

-- the bytes that are left, where they are known
abbrev pub remaining_in : {R F : Type 0} → (R → KnownBytes) → (F → KnownBytes) → Input R F → KnownBytes
remaining_in given opened (Input.Given reader) = given reader
remaining_in given opened (Input.Opened file) = opened file

-- what is given of these bytes to what reads rows
abbrev pub bounded_in : KnownBytes → KnownBytes
bounded_in known = option_map bounded known
