-- What `table` writes: the owners, parted by single spaces, the moves and the bound, a line each.
use Rattle.std.specs.Prelude.{◌≡◌, ℕ, Bool, true, false, List, ◌++◌, codes, map}
use Rattle.std.specs.Fmt.{decimal}
use Rattle.std.specs.List.{join_with_byte}
use Rattle.bully_json.specs.Objects.{plan_line}
use Rattle.bully_table.specs.declared.planning.TablePlan.{TablePlan}

abbrev pub plan_text : List ℕ → ℕ → ℕ → List ℕ
plan_text table moves bound =
    join_with_byte 32 (map decimal table) ++ codes "\nmoves " ++ decimal moves ++ codes "\nbound " ++ decimal bound
    ++ codes "\n"

-- a text that tells a plan: its lines, or an object
abbrev pub IsPlanTold : Bool → TablePlan → List ℕ → Type 0
IsPlanTold true plan text = text ≡ plan_line plan
IsPlanTold false plan text = text ≡ plan_text plan.table plan.moves plan.bound
