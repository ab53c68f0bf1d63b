-- The items of a document's array, one by one.
use Rattle.std.proofs.Common.{◌≡◌, ℕ, ◌+◌, ◌<◌, ◌≤◌, Bool, true, false, ◌&&◌, ◌||◌, Option, Some, None, List, [], ◌∷◌, length, drop, map, refl, sym, ap, arith, ◌∙◌, slice_index_or}
use Rattle.std.specs.List.{list_all, list_any}
use Rattle.std.specs.Option.{is_some}
use Rattle.toml.specs.Data.{Data, Members, as_table}
use Rattle.std.proofs.lemmas.List.{drop_more}
use Rattle.std.proofs.lemmas.Grind.{common_steps}
use Rattle.toml.specs.declared.value.Value.{Value}
use Rattle.toml.specs.View.{view, items_view}
use Rattle.bully_config.specs.Document.{list_of, text_of}
use Rattle.bully_config.specs.Refusals.{first_in}
use Rattle.bully_config.specs.Values.{names_of}
use Rattle.bully_config.specs.declared.fault.Key.{Key}

pub items_next : (vs : List Value) (i : ℕ) (x : Value) → i < length vs → x ≡ slice_index_or vs i x
    → map view (drop i vs) ≡ view x ∷ map view (drop (i + 1) vs)
items_next vs i x h e = ap (map view) (drop_more vs i x h) ∙ ap (λ y. view y ∷ map view (drop (i + 1) vs)) (sym e)

pub items_end : (vs : List Value) (i : ℕ) → length vs ≤ i → map view (drop i vs) ≡ []
items_end [] i h = grind (arith, common_steps)
items_end (v ∷ vs) i h = grind (arith, common_steps)

pub list_of_view : (vs : List Value) → list_of (items_view vs) ≡ map view vs
list_of_view [] = refl
list_of_view (v ∷ vs) = ap (λ ds. view v ∷ ds) (list_of_view vs)

-- a test of each value, and the test of what it stands for
pub all-of_view : (test : Data → Bool) (vs : List Value) → list_all (λ (v : Value). test (view v)) vs ≡ list_all test (map view vs)
all-of_view test [] = refl
all-of_view test (v ∷ vs) = ap (λ b. test (view v) && b) (all-of_view test vs)

pub any-of_view : (test : Data → Bool) (vs : List Value) → list_any (λ (v : Value). test (view v)) vs ≡ list_any test (map view vs)
any-of_view test [] = refl
any-of_view test (v ∷ vs) = ap (λ b. test (view v) || b) (any-of_view test vs)

pub any-of_names : (test : List ℕ → Bool) (vs : List Value) → list_any (λ (v : Value). test (text_of (view v))) vs ≡ list_any test (names_of (map view vs))
any-of_names test [] = refl
any-of_names test (v ∷ vs) = ap (λ b. test (text_of (view v)) || b) (any-of_names test vs)

-- the first of some items in a search for the key at fault in a table
pub found-first : (fault : Members → Option Key) (d : Data) (ds : List Data) (table : Members) (r : Option Key)
    → as_table d ≡ Some table → r ≡ fault table → is_some r ≡ true → first_in fault (d ∷ ds) ≡ r
found-first fault d ds table None at_d told there = grind (arith, there)
found-first fault d ds table (Some key) at_d told there = rw (at_d, ← told) refl

pub passed-first : (fault : Members → Option Key) (d : Data) (ds : List Data) (table : Members) (r : Option Key)
    → as_table d ≡ Some table → r ≡ fault table → is_some r ≡ false → first_in fault (d ∷ ds) ≡ first_in fault ds
passed-first fault d ds table None at_d told there = rw (at_d, ← told) refl
passed-first fault d ds table (Some key) at_d told there = grind (arith, there)

pub no-table-first : (fault : Members → Option Key) (d : Data) (ds : List Data) → as_table d ≡ None → first_in fault (d ∷ ds) ≡ first_in fault ds
no-table-first fault d ds at_d = rw at_d refl
