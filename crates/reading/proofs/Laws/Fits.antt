-- What the code of the later stages asks of an outline holds for a file that parses.
--     fits, parsed_fits     from the sections; from the outline answered
-- Assumes nothing.
use mathlib.Core.Path.{◌≡◌}
use mathlib.Core.List.{List}
use Prim.Native.Nat.{ℕ, ◌+◌}
use native.Mathlib.Omega.{arith}
use Rattle.std.specs.declared.result.Result.TheVariants.{Ok}
use Rattle.shapes.specs.declared.Outline.{Outline}
use Rattle.records.specs.Kind.{truth}
use Rattle.records.proofs.Laws.Walk.{walk_bound}
use Rattle.records.proofs.Laws.Record.{kind_is_lem}
use Rattle.parsing.specs.Outline.{parsed_of}
use Rattle.parsing.proofs.Laws.Outline.{Parses, parses}
use Rattle.parsing.proofs.Laws.Parsed.{variables_most, transitions_most, nodes_most, edges_end, edge_names}
use Rattle.reading.specs.Fits.{OutlineFits}

module _ (file : List ℕ) (o : Outline) (p : Parses file o) where
  pub fits : OutlineFits file o
  fits =
      let s = (kind_is_lem file 0x02 o.vars p.start_named).0 in
      let q = (kind_is_lem file 0x05 o.property p.property_named).0 in
      let e = edges_end file o p in
      record {
        vars_most = variables_most file o p;
        variables_here = omega arith;
        transition_here = (walk_bound file o.vars 16 truth (o.vars + 1) o.transition p.start).1;
        transitions_most = transitions_most file o p;
        property_here = omega arith;
        nodes_most = nodes_most file o p;
        edges_here = omega arith;
        edges_named = λ e l. (edge_names file o p e l).0;
      }

pub parsed_fits : (file : List ℕ) (o : Outline) → parsed_of file ≡ Ok o → OutlineFits file o
parsed_fits file o e = fits file o (parses file o e)
