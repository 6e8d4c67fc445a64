-- The files B, D and H of C16.1 as one counter.
-- Assumes nothing.
use mathlib.Core.Path.{◌≡◌, refl}
use mathlib.Core.Logic.{inl}
use mathlib.Core.Bool.{not}
use mathlib.Core.List.{List, flatten}
use Prim.Native.Nat.{ℕ, ◌≤◌}
use lib.Dec.{T}
use Rattle.diagrams.specs.declared.Diagram.{Diagram}
use Rattle.diagrams.proofs.Files.{B, D, H, o_b, o_d, o_h}
use Rattle.diagrams.specs.Diagram.{diagram_of, State}
use Rattle.runs.specs.Run.{enabled, Successor}
use Rattle.soundness.specs.System.{system_of}
use Rattle.diagrams.proofs.Computing.{computing}
use Rattle.diagrams.proofs.Values.{v, state}

-- B, D and H have one variable v in 0..2 and one step, v becomes v + 1 where v is less than 2
pub record Counter (file : List ℕ) (g : Diagram) : Type 0 where
  pub states : {n : ℕ} → n ≤ 2 → State g (v n)
  pub transitions : g.transitions ≡ 1
  pub zero_on : Successor (system_of file g) 0 (v 0) (v 1)
  pub one_on : Successor (system_of file g) 0 (v 1) (v 2)
  pub two_off : T (not (enabled (system_of file g) 0 (v 2)))

abbrev pub b : List ℕ
b = flatten B

abbrev pub g_b : Diagram
g_b = diagram_of b o_b

abbrev pub d : List ℕ
d = flatten D

abbrev pub g_d : Diagram
g_d = diagram_of d o_d

abbrev pub h : List ℕ
h = flatten H

abbrev pub g_h : Diagram
g_h = diagram_of h o_h

pub B_counts : Counter b g_b
unfolding computing
B_counts = record { states = state; transitions = refl; zero_on = (tt, inl refl); one_on = (tt, inl refl); two_off = tt }

pub D_counts : Counter d g_d
unfolding computing
D_counts = record { states = state; transitions = refl; zero_on = (tt, inl refl); one_on = (tt, inl refl); two_off = tt }

pub H_counts : Counter h g_h
unfolding computing
H_counts = record { states = state; transitions = refl; zero_on = (tt, inl refl); one_on = (tt, inl refl); two_off = tt }
