-- Whether a condition holds in a state.
use Rattle.std.specs.Prelude.{Bool, not, ◌&&◌, ◌||◌, List, ℕ, ℤ}
use Rattle.truths.specs.Truth.{implies}
use Rattle.truths.specs.Search.{any}
use Rattle.truths.specs.Listed.{all_pass}
use Rattle.diagrams.specs.declared.Diagram.{Diagram}
use Rattle.diagrams.specs.Diagram.{edge_of}
use Rattle.diagrams.specs.Truth.{start_holds, node_holds, p_holds, q_holds}
use Rattle.diagrams.specs.System.{guard_holds, values_fit, is_enabled, next_states}
use Rattle.conditions.specs.Edges.{carries, is_double}
use Rattle.conditions.specs.declared.Condition.{Condition}
use Rattle.conditions.specs.declared.Condition.TheVariants.{Start, Entry, Cover, Range, Step, Enabling}

-- for C8.7, C8.8: the state satisfies a node
unfoldable pub some_node : List ℕ → Diagram → List ℤ → Bool
some_node file g state = any (λ n. node_holds file g n state) g.nodes 0

-- for C8.11: it satisfies the target of an edge that carries transition t from node n
unfoldable pub some_target : List ℕ → Diagram → ℕ → ℕ → List ℤ → Bool
some_target file g n t state = any (λ e. carries n t (edge_of file g e) && node_holds file g (edge_of file g e).to state) g.edges 0

-- C8.11, C8.12: where a step of transition t from node n may lead: to the node, unless the edges are double, or to a target
unfoldable pub step_leads : List ℕ → Diagram → ℕ → ℕ → List ℤ → Bool
step_leads file g n t next = (not (is_double file g n t) && node_holds file g n next) || some_target file g n t next

-- C8.7 to C8.11, C8.13: by the kind of condition
unfoldable pub condition_holds : List ℕ → Diagram → Condition → List ℤ → Bool
condition_holds file g Start state = implies (start_holds file g state) (some_node file g state)
condition_holds file g Entry state = implies (p_holds file g state) (some_node file g state)
condition_holds file g (Cover n) state = implies (node_holds file g n state) (q_holds file g n state)
condition_holds file g (Range n t) state = implies (node_holds file g n state && guard_holds file g t state) (values_fit file g t state)
condition_holds file g (Step n t) state = implies (node_holds file g n state) (all_pass (step_leads file g n t) (next_states file g t state))
condition_holds file g (Enabling n t) state = implies (node_holds file g n state) (is_enabled file g t state)
