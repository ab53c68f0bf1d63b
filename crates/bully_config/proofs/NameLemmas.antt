-- Names: the set that keeps them, and the places that they have.
use Rattle.std.proofs.Common.{◌≡◌, ℕ, zero, suc, ◌+◌, ◌<◌, Bool, true, false, ◌||◌, List, [], ◌∷◌, length, take, get_or, map, refl, sym, ap, arith, ◌∙◌, String, Global, string_bytes, Option, Some, None, option_map, cond, slice_index_or, slice_get, position}
use Rattle.std.specs.List.{list_any, position_from}
use Rattle.std.specs.Str.{bytes_eq}
use Rattle.std.specs.String.{string_eq}
use Rattle.std.proofs.lemmas.List.{length-map, map-append, take_more}
use Rattle.std.specs.Option.{SomeIff}
use Rattle.std.proofs.lemmas.Option.{same_Some}
use Rattle.std.proofs.lemmas.Iterator.Adapters.{position_from-zero}
use Rattle.bully_base.specs.Places.{at_node}
use Rattle.toml.specs.declared.value.Value.{Value}
use Rattle.toml.specs.View.{view}
use Rattle.bully_config.specs.Document.{text_of}
use Rattle.bully_config.specs.Values.{names_of}
use Rattle.std.proofs.lemmas.Grind.{common_steps}
use Rattle.std.proofs.lemmas.Cmp.{nat_list_eq_equiv}
use Rattle.indexmap.specs.IndexSet.{insert_key}
use Rattle.bully_config.specs.Configuration.{has_double, node_named}

pub string_eq_bytes : (s : String Global) (ks : List (String Global)) → list_any (string_eq s) ks ≡ list_any (bytes_eq (string_bytes s)) (map (λ k. string_bytes k) ks)
string_eq_bytes s [] = refl
string_eq_bytes s (k ∷ ks) = ap (λ b. bytes_eq (string_bytes s) (string_bytes k) || b) (string_eq_bytes s ks)

-- what isn't found behind isn't the one found
pub differs_back : (name : List ℕ) (names : List (List ℕ)) (i : ℕ) → list_any (bytes_eq name) names ≡ false → i < length names → bytes_eq (get_or names i []) name ≡ false
differs_back name [] i none h = absurd (omega arith)
differs_back name (x ∷ xs) zero none h =
    let apart : bytes_eq name x ≡ false = grind (arith, common_steps, none) in
    nat_list_eq_equiv.symm x name ∙ apart
differs_back name (x ∷ xs) (suc i) none h = differs_back name xs i (grind (arith, common_steps, none)) (omega (arith, h))

-- a name that stands at a place differs from those before it
pub fresh_name : (names : List (List ℕ)) (i : ℕ) → has_double names ≡ false → i < length names → list_any (bytes_eq (get_or names i [])) (take i names) ≡ false
fresh_name [] i d h = absurd (omega arith)
fresh_name (name ∷ names) zero d h = refl
fresh_name (name ∷ names) (suc i) d h =
    let none : list_any (bytes_eq name) names ≡ false = grind (arith, common_steps, d) in
    let more = fresh_name names i (grind (arith, common_steps, d)) (omega (arith, h)) in
    rw (differs_back name names i none (omega (arith, h)), more) refl

-- the set of the names so far, and the next one
pub names_step : (keys : List (String Global)) (name : String Global) (names : List (List ℕ)) (i : ℕ) → has_double names ≡ false → i < length names
    → map (λ k. string_bytes k) keys ≡ take i names → string_bytes name ≡ get_or names i []
    → map (λ k. string_bytes k) (insert_key string_eq keys name) ≡ take (i + 1) names
names_step keys name names i d h so_far e =
    let fresh : list_any (string_eq name) keys ≡ false = string_eq_bytes name keys ∙ rw (so_far, e) (fresh_name names i d h) in
    rw fresh (map-append (λ k. string_bytes k) keys (name ∷ []) ∙ rw (so_far, e) (sym (take_more names i [] h)))

-- the name that an item of the document tells
pub name_told : (vs : List Value) (i : ℕ) (x : Value) → i < length vs → x ≡ slice_index_or vs i x → get_or (names_of (map view vs)) i [] ≡ text_of (view x)
name_told [] i x h e = absurd (omega arith)
name_told (v ∷ vs) zero x h e = ap (λ y. text_of (view y)) (sym e)
name_told (v ∷ vs) (suc i) x h e = name_told vs i x (omega (arith, h)) e

-- the name at an index of the set
name_got : (keys : List (String Global)) (k : String Global) (i : ℕ) → slice_get keys i ≡ Some k → slice_index_or (map (λ s. string_bytes s) keys) i [] ≡ string_bytes k
name_got [] k i e = grind (arith, e)
name_got (x ∷ xs) k zero e = ap (λ s. string_bytes s) (same_Some _ _ e)
name_got (x ∷ xs) k (suc i) e = name_got xs k i e

pub name_of_node : (keys : List (String Global)) (k : String Global) (i node : ℕ) → slice_get keys i ≡ Some k → i + 1 ≡ node
    → string_bytes k ≡ at_node [] (map (λ s. string_bytes s) keys) node
name_of_node keys k i zero e n = absurd (omega (arith, n))
name_of_node keys k i (suc m) e n =
    let same : i ≡ m = omega (arith, n) in
    rw same at (sym (name_got keys k i e))

-- the node of a name, by the set's index of it
position_later : {X : Type 0} (test : X → Bool) (i : ℕ) (xs : List X) → position_from test (i + 1) xs ≡ option_map (λ k. k + 1) (position_from test i xs)
position_later test i [] = refl
position_later test i (x ∷ xs) = by_test (test x) refl (position_later test (i + 1) xs)
  where
    by_test : (b : Bool) → test x ≡ b → position_from test (i + 1 + 1) xs ≡ option_map (λ k. k + 1) (position_from test (i + 1) xs)
        → position_from test (i + 1) (x ∷ xs) ≡ option_map (λ k. k + 1) (position_from test i (x ∷ xs))
    by_test true t more = rw t refl
    by_test false t more = rw t more

position_mapped : (test : List ℕ → Bool) (i : ℕ) (keys : List (String Global)) → position_from test i (map (λ s. string_bytes s) keys) ≡ position_from (λ s. test (string_bytes s)) i keys
position_mapped test i [] = refl
position_mapped test i (k ∷ keys) = ap (λ o. cond (test (string_bytes k)) (Some i) o) (position_mapped test (i + 1) keys)

pub node_of_index : (name : List ℕ) (keys : List (String Global)) → node_named (map (λ s. string_bytes s) keys) name ≡ option_map (λ k. k + 1) (position (λ s. bytes_eq name (string_bytes s)) keys)
node_of_index name keys =
    position_mapped (bytes_eq name) 1 keys ∙ position_later (λ s. bytes_eq name (string_bytes s)) 0 keys
    ∙ ap (option_map (λ k. k + 1)) (sym (position_from-zero (λ s. bytes_eq name (string_bytes s)) keys))

pub some_made : (r : Option ℕ) (P : Type 0) (v : ℕ) → SomeIff r P v → P → r ≡ Some v
some_made None P v h p = absurd (h p)
some_made (Some x) P v h p = ap Some h.1

pub names_long : (vs : List Value) → length (names_of (map view vs)) ≡ length vs
names_long vs = length-map (map view vs) text_of ∙ length-map vs view
