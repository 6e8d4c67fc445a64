-- What the edge rules ask of the file, and their loops.
-- Assumes nothing.
use mathlib.Core.Path.{◌≡◌, refl, subst, ◌∙◌}
use mathlib.Core.Bool.{Bool, true, false}
use mathlib.Core.List.{List}
use Prim.Native.Nat.{ℕ, ◌+◌, ◌-◌, ◌/◌, ◌<◌, ◌≤◌}
use native.Mathlib.Omega.{arith}
use lib.ListN.{length, get_or}
use Rattle.std.specs.declared.result.Result.TheVariants.{Ok, Err}
use Rattle.shapes.specs.declared.Refusal.{Refusal}
use Rattle.shapes.specs.declared.Outline.{Outline}
use Rattle.records.specs.Walk.{Walked, in_sequence, refuse_first}
use Rattle.records.specs.Place.{place_of, places_of}
use Rattle.records.proofs.Laws.Place.{places_nth}
use Rattle.records.proofs.Laws.Refuse.{refuse_none, refuse_fails, refuse_next}
use Rattle.sections.specs.Section.{edge_at, transition_of}
use Rattle.sections.proofs.Laws.Section.{transitions_bound}
use Rattle.reading.specs.Edge.{transition_at}
use Rattle.reading.specs.Fits.{OutlineFits, EdgeFits}

-- ---- where a transition stands
module _ (file : List ℕ) (o : Outline) (t : ℕ) where
  pub transition_within : o.transition ≤ length file / 8 → transition_at file o t ≤ length file / 8
  unfolding transition_at
  transition_within l = place_within (in_sequence (transition_of file o.vars) t o.transition) refl
    where
      place_within : (w : Walked) → in_sequence (transition_of file o.vars) t o.transition ≡ w → place_of w ≤ length file / 8
      place_within (Ok end) is = transitions_bound file o.vars t o.transition end l is
      place_within (Err refusal) is = omega arith

  pub transition_entry : (places : List ℕ) → places ≡ places_of (transition_of file o.vars) o.transitions o.transition
      → o.transitions ≤ 32 → t < o.transitions → get_or places t 0 ≡ transition_at file o t
  unfolding transition_at
  transition_entry places is l m = rw is (places_nth (transition_of file o.vars) o.transitions o.transition t (omega arith) m)

-- an edge of the file, by its record
pub edge_fits : (file : List ℕ) (o : Outline) (places : List ℕ) (at : ℕ) → OutlineFits file o
    → places ≡ places_of (transition_of file o.vars) o.transitions o.transition
    → o.edge ≤ at → at < o.edge + o.edges → EdgeFits file o places at
edge_fits file o places at f p l m =
    let h = f.edges_here in
    let z : o.edge + (at - o.edge) ≡ at = omega arith in
    record {
      outline = f;
      found = p;
      here = omega arith;
      behind = l;
      named = subst (λ (i : ℕ). (edge_at file i).transition < o.transitions) z (f.edges_named (at - o.edge) (omega arith));
    }

-- ---- tests of numbers up to `end`, as a loop takes them
module _ (refuse : ℕ → Refusal) (test : ℕ → Bool) (end at : ℕ) where
  pub refuse_over : end ≤ at → refuse_first refuse test (end - at) at ≡ Ok at
  refuse_over l = refuse_none test refuse (end - at) at (omega arith)

  module _ (more : at < end) where
    pub refuse_here : test at ≡ false → refuse_first refuse test (end - at) at ≡ Err (refuse at)
    refuse_here t = refuse_fails test refuse (end - at) at (omega arith) t

    pub refuse_on : test at ≡ true → refuse_first refuse test (end - at) at ≡ refuse_first refuse test (end - (at + 1)) (at + 1)
    refuse_on t = let z : end - at - 1 ≡ end - (at + 1) = omega arith in refuse_next test refuse (end - at) at (omega arith) t ∙ rw z

pub ruleset refuse_steps = (refuse_over, refuse_here, refuse_on)
