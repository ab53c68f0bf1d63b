-- Tables as text: the owners, parted by single spaces.
use Rattle.std.specs.Prelude.{◌≡◌, ◌⊎◌, ℕ, Bool, false, List, Result, Ok, Err, IsOk, codes, map, length, not, ◌==◌}
use Rattle.std.specs.Prelude.{is_none, unwrap_or, if◌then◌else◌}
use Rattle.std.specs.Fmt.{decimal}
use Rattle.std.specs.List.{join_with_byte, list_any, slice_split}
use Rattle.std.specs.Option.{option_map_or}
use Rattle.bully_base.specs.Setup.{Setup, is_node}
use Rattle.bully_table.specs.Numeral.{number_of}
use Rattle.bully_table.specs.declared.table.TableFault.{TableFault}

-- the text, cut at each space
abbrev pub pieces_of : List ℕ → List (List ℕ)
pieces_of text = slice_split (λ b. b == 32) text

-- the piece is a number, and of no node of the setup
abbrev pub names_nobody : Setup → List ℕ → Bool
names_nobody setup piece = option_map_or (λ n. not (is_node setup n)) (number_of piece) false

abbrev pub is_no_number : List ℕ → Bool
is_no_number piece = is_none (number_of piece)

abbrev pub owner_of : List ℕ → ℕ
owner_of piece = unwrap_or (number_of piece) 0

-- the owners that the text spells, or the first fault that it has
abbrev pub table_of_text : Setup → List ℕ → Result (List ℕ) TableFault
table_of_text setup text =
    if not (length (pieces_of text) == setup.partitions) then Err TableFault.Length
    else if list_any (names_nobody setup) (pieces_of text) then Err TableFault.Owner
    else if list_any is_no_number (pieces_of text) then Err TableFault.Syntax
    else Ok (map owner_of (pieces_of text))

-- why the text is refused: its first fault, and want of memory only of a text that spells owners
abbrev pub IsRefusedFor : Setup → List ℕ → TableFault → Type 0
IsRefusedFor setup text fault =
    (table_of_text setup text ≡ Err fault) ⊎ ((fault ≡ TableFault.OutOfMemory) × IsOk (table_of_text setup text))

-- the text of these owners, with the separator between each two
abbrev pub owners_text : ℕ → List ℕ → List ℕ
owners_text separator owners = join_with_byte separator (map decimal owners)

-- the fault as the program tells it
abbrev pub table_fault_text : TableFault → List ℕ
table_fault_text TableFault.Length = codes "Length"
table_fault_text TableFault.Owner = codes "Owner"
table_fault_text TableFault.Syntax = codes "Syntax"
table_fault_text TableFault.OutOfMemory = codes "OutOfMemory"
