-- For each callee the set of callers with a sent call to it.
use Rattle.std.specs.Prelude.{ℕ, List, []}
use Rattle.bully_base.specs.NodeSet.{with_node, without_node}
use Rattle.bully_base.specs.Places.{at_node, put_node}

-- the callers that wait for node j
abbrev pub callers_of : List (List ℕ) → ℕ → List ℕ
callers_of waiting j = at_node [] waiting j

-- node i waits for node j too
abbrev pub with_caller : ℕ → ℕ → List (List ℕ) → List (List ℕ)
with_caller j i waiting = put_node waiting j (with_node i (callers_of waiting j))

-- node i doesn't wait for node j any more
abbrev pub without_caller : ℕ → ℕ → List (List ℕ) → List (List ℕ)
without_caller j i waiting = put_node waiting j (without_node i (callers_of waiting j))
