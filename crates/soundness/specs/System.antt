-- The system of a readable file, with diagram g, and what the file claims of its runs.
use Rattle.std.specs.Prelude.{List, ℕ, ◌-◌, ℤ}
use Rattle.shapes.specs.declared.Claim.{Claim as Kind}
use Rattle.diagrams.specs.declared.Diagram.{Diagram}
use Rattle.diagrams.specs.Diagram.{State}
use Rattle.diagrams.specs.Start.{Readable}
use Rattle.diagrams.specs.Truth.{start_holds, node_holds, p_holds, q_holds}
use Rattle.diagrams.specs.System.{just_of, guard_holds, values_fit, next_states}
use Rattle.truths.specs.Listed.{Member}
use Rattle.runs.specs.Run.{System}
use Rattle.runs.specs.Claim.{Invariance, WaitFor, Chain, InRange, Starts}

-- for C7.9: the file's states, start and transitions. A state is a successor if it is in the list (C6.2, C6.4)
abbrev pub system_of : List ℕ → Diagram → System
system_of file g =
    record {
      Values = List ℤ;
      State = State g;
      start = start_holds file g;
      transitions = g.transitions;
      just = just_of file g;
      guard = guard_holds file g;
      fits = values_fit file g;
      Assigns = λ t s s'. Member s' (next_states file g t s);
    }

-- C7.9, C8.2: by what the property claims; the m of a wait-for is its number of nodes less one (C1.11, C1.13). Another claim is never true
unfoldable pub Claimed : List ℕ → Diagram → Kind → Type 0
Claimed file g Kind.Invariance = Invariance (system_of file g) (q_holds file g 0) × InRange (system_of file g) 0 g.nodes (node_holds file g)
Claimed file g Kind.WaitFor =
    WaitFor (system_of file g) (p_holds file g) (g.nodes - 1) (q_holds file g) × InRange (system_of file g) 1 g.nodes (node_holds file g)
Claimed file g Kind.Chain =
    Chain (system_of file g) g.nodes (node_holds file g) (p_holds file g) (q_holds file g 0) × InRange (system_of file g) 1 g.nodes (node_holds file g)
Claimed file g Kind.Unknown = ⊥

-- C12.11: the file is readable, and what it claims is true; each file claims a start (C7.9, C7.10)
pub record Claim (file : List ℕ) : Type 0 where
  pub diagram : Diagram
  pub readable : Readable file diagram
  pub claimed : Claimed file diagram diagram.claim
  pub starts : Starts (system_of file diagram)
