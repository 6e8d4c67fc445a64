-- Two small systems, and the files that claim something of them.
--     Case, file, outline, diagram     a claim and its diagram, behind the system's records
--     invariance, wait_for, chain      the three kinds, of one system
--     picking                          the same claim, of the other
--     claims, refuted, started         a file has one diagram: what it claims is what is claimed with that, true or false; so is its start
-- Assumes nothing.
use mathlib.Core.Path.{◌≡◌, subst}
use mathlib.Core.Bool
use mathlib.Core.List.{List, [], ◌∷◌, ◌++◌, map, flatten}
use Prim.Native.Nat.{ℕ, ◌+◌}
use lib.ListN.{length}
use Rattle.std.specs.declared.result.Result.TheVariants.{Ok}
use Rattle.diagrams.specs.declared.Diagram.{Diagram}
use Rattle.diagrams.specs.Diagram.{found_of, diagram_of, Loaded}
use Rattle.diagrams.specs.Start.{starts_of, Readable}
use Rattle.diagrams.proofs.Laws.Diagram.{diagram_loaded, loaded_once}
use Rattle.diagrams.proofs.Files
use Rattle.diagrams.proofs.Files.{Outline, range, start, transition, assignment, pick, property, node, constant, variable, plain, true}
use Rattle.runs.specs.Claim.{Starts}
use Rattle.soundness.specs.System.{system_of, Claimed, Claim}
use Rattle.soundness.proofs.Laws.System.{readable_starts}

-- ---- the systems: v in 0..2, start v = 1
-- v is n
abbrev pub is : ℕ → List (List ℕ)
is n = Files.is 0 n

-- transition 0, not just, guard true: v becomes v + 1; transition 1, just, guard v = 0: v becomes v - 1
abbrev steps : List (List (List ℕ))
steps =
    (transition 0 ∷ true ∷ assignment 0 ∷ plain 0x12 ∷ variable 0 ∷ constant 1 ∷ []) ∷
    ((transition 1 ∷ is 0) ++ (assignment 0 ∷ plain 0x13 ∷ variable 0 ∷ constant 1 ∷ [])) ∷
    []

-- transition 0, just, guard v = 1: v is picked from 0..2
abbrev picks : List (List (List ℕ))
picks = ((transition 1 ∷ is 1) ++ (pick 0 0 2 ∷ [])) ∷ []

-- ---- the files
-- the transitions, the property with its expressions, the nodes' assertions, the edges
pub record Case : Type 0 where
  pub steps : List (List (List ℕ))
  pub claim : List (List ℕ)
  pub nodes : List (List (List ℕ))
  pub edges : List (List ℕ)

abbrev pub invariance : List (List ℕ) → List (List (List ℕ)) → Case
invariance q nodes = record { steps = steps; claim = property 1 0 ∷ q; nodes = nodes; edges = [] }

abbrev pub wait_for : List (List ℕ) → List (List (List ℕ)) → List (List (List ℕ)) → Case
wait_for p qs nodes = record { steps = steps; claim = property 2 (length qs) ∷ p ++ flatten qs; nodes = nodes; edges = [] }

abbrev pub chain : List (List ℕ) → List (List ℕ) → List (List (List ℕ)) → List (List ℕ) → Case
chain p q nodes edges = record { steps = steps; claim = property 3 0 ∷ p ++ q; nodes = nodes; edges = edges }

abbrev pub picking : Case → Case
picking c = record { steps = picks; claim = c.claim; nodes = c.nodes; edges = c.edges }

abbrev system : Case → List (List ℕ)
system c = (range 0 2 ∷ start ∷ is 1) ++ flatten c.steps

abbrev node_records : Case → List (List ℕ)
node_records c = flatten (map (λ assertion. node ∷ assertion) c.nodes)

abbrev pub file : Case → List ℕ
file c = flatten (system c ++ c.claim ++ node_records c ++ c.edges)

abbrev pub outline : Case → Outline
outline c =
    let place = length (system c) in
    let behind = place + length c.claim in
    record {
      vars = 1;
      transition = 5;
      transitions = length c.steps;
      property = place;
      node = behind;
      nodes = length c.nodes;
      edge = behind + length (node_records c);
      edges = length c.edges;
    }

abbrev pub diagram : Case → Diagram
diagram c = diagram_of (file c) (outline c)

-- ---- what is claimed
abbrev pub Reads : Case → Type 0
Reads c = found_of (file c) ≡ Ok (outline c)

pub loaded : (c : Case) → Reads c → Loaded (file c) (diagram c)
loaded c r = diagram_loaded (file c) (outline c) r

-- the diagram of what a file claims is its own
same_diagram : (c : Case) → Reads c → (x : Claim (file c)) → x.diagram ≡ diagram c
same_diagram c r x = loaded_once (file c) x.diagram (diagram c) x.readable.loaded (loaded c r)

pub claims : (c : Case) → Reads c → starts_of (file c) (diagram c) ≡ Bool.true → Claimed (file c) (diagram c) (diagram c).claim → Claim (file c)
claims c r s x =
    let readable : Readable (file c) (diagram c) = record { loaded = loaded c r; starts = s } in
    record { diagram = diagram c; readable = readable; claimed = x; starts = readable_starts (file c) (diagram c) readable }

pub refuted : (c : Case) → Reads c → (Claimed (file c) (diagram c) (diagram c).claim → ⊥) → Claim (file c) → ⊥
refuted c r untrue x = untrue (subst (λ (g : Diagram). Claimed (file c) g g.claim) (same_diagram c r x) x.claimed)

-- a file's claim has a run of its own system
pub started : (c : Case) → Reads c → Claim (file c) → Starts (system_of (file c) (diagram c))
started c r x = subst (λ (g : Diagram). Starts (system_of (file c) g)) (same_diagram c r x) x.starts
