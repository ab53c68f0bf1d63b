-- The objects of the nodes, which grow by one; and a text in quotes, which grows letter by letter.
use Rattle.std.proofs.Common.{◌≡◌, ◌∙◌, ℕ, ◌+◌, ◌<◌, List, [], ◌∷◌, ◌++◌, length, take, get_or, add-one, append_assoc, append-nil, refl, sym, ap, arith}
use Rattle.std.proofs.lemmas.List.{take_all, take_more}
use Rattle.bully_base.specs.Places.{at_node}
use Rattle.bully_handlers.specs.Vector.{Vector}
use Rattle.bully_world.specs.State.{StoredNode, empty_state, world_in}
use Rattle.bully_world.specs.World.{NodeState, World, vector}
use Rattle.bully_world.proofs.WorldIn.{node_state-world_in}
use Rattle.bully_json.specs.Objects.{comma_behind, escaped, escaped_letter, node_object, node_objects}

-- the object of one more node
one-more : (w : World) (v : Vector) (start text new line : List ℕ) (n i : ℕ) → n + 1 ≡ i → text ≡ start ++ node_objects w n → new ≡ text ++ (comma_behind n ++ line)
    → line ≡ node_object i v → v ≡ vector w i → new ≡ start ++ node_objects w (n + 1)
one-more w v start text new line n i e was now is shown =
    let own : line ≡ node_object (n + 1) (vector w (n + 1)) = is ∙ ap (λ (u : Vector). node_object i u) shown ∙ ap (λ (j : ℕ). node_object j (vector w j)) (sym e) in
    now ∙ ap (λ (t : List ℕ). t ++ (comma_behind n ++ line)) was ∙ append_assoc start (node_objects w n) (comma_behind n ++ line)
    ∙ ap (λ (t : List ℕ). start ++ t) (sym (append_assoc (node_objects w n) (comma_behind n) line))
    ∙ ap (λ (l : List ℕ). start ++ (node_objects w n ++ comma_behind n ++ l)) own ∙ ap (λ (k : ℕ). start ++ node_objects w k) (sym (add-one n))

pub node_objects-next : (ms : List StoredNode) (start text new line : List ℕ) (n i : ℕ) → n + 1 ≡ i → text ≡ start ++ node_objects (world_in ms) n → new ≡ text ++ (comma_behind n ++ line)
    → line ≡ node_object i (at_node (empty_state 0) ms i).vector.vector → new ≡ start ++ node_objects (world_in ms) (n + 1)
node_objects-next ms start text new line n i e was now is =
    one-more (world_in ms) _ start text new line n i e was now is (sym (ap (λ (m : NodeState). m.vector) (node_state-world_in ms i)))

-- ---- letters

escaped-append : (cs ds : List ℕ) → escaped (cs ++ ds) ≡ escaped cs ++ escaped ds
escaped-append [] ds = refl
escaped-append (c ∷ cs) ds = ap (λ l. escaped_letter c ++ l) (escaped-append cs ds) ∙ sym (append_assoc (escaped_letter c) (escaped cs) (escaped ds))

escaped-one : (cs : List ℕ) (c : ℕ) → escaped (cs ++ c ∷ []) ≡ escaped cs ++ escaped_letter c
escaped-one cs c = escaped-append cs (c ∷ []) ∙ ap (λ l. escaped cs ++ l) (append-nil (escaped_letter c))

-- one more letter was appended
pub letter-more : (start text new cs : List ℕ) (n c : ℕ) → text ≡ start ++ escaped (take n cs) → n < length cs → c ≡ get_or cs n c → new ≡ text ++ escaped_letter c
    → new ≡ start ++ escaped (take (n + 1) cs)
letter-more start text new cs n c so_far within is more =
    let all : take (n + 1) cs ≡ take n cs ++ c ∷ [] = take_more cs n c within ∙ ap (λ x. take n cs ++ x ∷ []) (sym is) in
    more ∙ ap (λ l. l ++ escaped_letter c) so_far ∙ append_assoc start (escaped (take n cs)) (escaped_letter c) ∙ ap (λ l. start ++ l) (sym (escaped-one (take n cs) c))
    ∙ ap (λ l. start ++ escaped l) (sym all)

-- all letters were appended
pub letters-all : (start text cs : List ℕ) (n : ℕ) → text ≡ start ++ escaped (take n cs) → n ≡ length cs → text ≡ start ++ escaped cs
letters-all start text cs n so_far all = so_far ∙ ap (λ l. start ++ escaped l) (take_all n cs (omega (arith, all)))
