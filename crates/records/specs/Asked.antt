-- What is asked of an expression by number: 1 a number, 2 a truth, 3 a divisor. 0 asks for a record that begins no expression.
use Rattle.std.specs.Prelude.{ℕ, ◌+◌, ◌/◌, cond, ◌&&◌, List, length, ltb, eqb, Ok, Err, is_none}
use Rattle.shapes.specs.declared.Refusal.{Refusal}
use Rattle.records.specs.Kind.{number, truth, divisor, signature_at}
use Rattle.records.specs.Walk.{Walked, expression_fields, walk_of}

-- for C2.12: the record at `at`, where it begins no expression, by itself: 3, 4 or 5, or the record behind it
unfoldable pub bare_of : List ℕ → ℕ → ℕ → ℕ → Walked
bare_of file vars levels at =
    cond (ltb at (length file / 8) && is_none (signature_at file at).sort)
    (cond (expression_fields file vars at) (cond (eqb levels 0) (Err (Refusal.Limit at)) (Ok (at + 1))) (Err (Refusal.Field at)))
    (Err (Refusal.Kind at))

-- for C2.12: the walk of what is asked for; no record stands for another number
unfoldable pub asked_of : List ℕ → ℕ → ℕ → ℕ → ℕ → Walked
asked_of file vars levels want at =
    cond (eqb want 0) (bare_of file vars levels at)
    (cond (eqb want 1) (walk_of file vars levels number at)
    (cond (eqb want 2) (walk_of file vars levels truth at)
    (cond (eqb want 3) (walk_of file vars levels divisor at)
    (Err (Refusal.Kind at)))))
