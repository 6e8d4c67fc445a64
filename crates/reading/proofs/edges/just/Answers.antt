-- `reading::edges::just`: the table has the transition's place, which is within the file.
-- Assumes nothing.
use mathlib.Core.Path.{ap, ◌∙◌}
use Prim.Native.Nat.{ℕ, ◌+◌, ◌*◌}
use native.Mathlib.Omega.{arith}
use lib.Dec.{eqb}
use lib.ListN.{get_or}
use Rattle.reading.specs.Edge.{just_of}
use Rattle.reading.proofs.Steps.Edge.{transition_within, transition_entry}
use Rattle.reading.proofs.edges.just.Goals as goal

pub overflow_mul-place : goal.overflow_mul-place
overflow_mul-place c =
    let entry = transition_entry c.args.file.now c.args.outline c.args.t c.args.places c.requires.found c.requires.outline.transitions_most c.requires.there in
    omega (arith, entry, transition_within c.args.file.now c.args.outline c.args.t c.requires.outline.transition_here)

pub overflow_add-place : goal.overflow_add-place
overflow_add-place c =
    let entry = transition_entry c.args.file.now c.args.outline c.args.t c.args.places c.requires.found c.requires.outline.transitions_most c.requires.there in
    omega (arith, entry, transition_within c.args.file.now c.args.outline c.args.t c.requires.outline.transition_here)

pub returns : goal.returns
unfolding just_of
returns c =
    let entry = transition_entry c.args.file.now c.args.outline c.args.t c.args.places c.requires.found c.requires.outline.transitions_most c.requires.there in
    ap (λ (n : ℕ). eqb n 1) (c.byte_at.ensures ∙ ap (λ (n : ℕ). get_or c.args.file.now (8 * n + 1) 0) entry)
