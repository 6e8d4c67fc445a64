-- Laws of the list of conditions.
--     position_enabling, position_before, position_after     the conditions of a node by their positions: enabling, and the pairs around it
--     layout_bounds               the layout stays within the limits
--     total_is, total_most        how many conditions there are, by the layout; at most 2,081
--     total_invariance, total_wait_for, total_chain          how many, by claim (C8.15)
--     condition_opening, condition_cover, condition_move     the condition of a number, by the layout
--     condition_listed, listed_number     a number below the total has a condition of the list, and a condition of the list has such a number (C8.3)
--     listed_parts                what a listed condition speaks of is there
--     names_small                 the numbers in its name are of one byte
--     refusal_above               a broken condition's number of refusal is 13 or more
-- Assumes nothing.
use mathlib.Core.Path.{◌≡◌, refl, sym, ap, ap₂, ◌∙◌}
use mathlib.Core.Logic.{◌⊎◌, inl, inr}
use mathlib.Core.Bool.{Bool, true, false, cond}
use mathlib.Core.List.Memᴰ
use mathlib.Core.List.{List, [], ◌∷◌, ◌++◌, Memᴰ}
use Prim.Native.Nat.{ℕ, zero, suc, ◌+◌, ◌*◌, ◌-◌, ◌/◌, ◌%◌, ◌≤◌, ◌<◌}
use native.Mathlib.Nat.{not-suc-le-zero, zero-lt-suc, zero-add, add_comm, sub-zero, mul-zero, mul-one, mul-le-mul}
use native.Mathlib.Nat.{mod-lt, div-one, mod-one, div-lt_iff_lt-mul}
use native.Mathlib.Decide.{dec_lt}
use native.Mathlib.Omega.{arith}
use borrow.Author.Tests.{eq-eqb, ne_eqb, eqb-true, eqb-false, lt-ltb, le-ltb}
use lib.Dec.{eqb, ltb}
use lib.ListN.{length, get_or, length-append, get_or-append}
use lib.Seq.{get_or-append-add}
use Rattle.shapes.specs.declared.Claim.TheVariants.{Invariance, WaitFor, Chain}
use Rattle.shapes.specs.Property.{property_of}
use Rattle.shapes.proofs.Laws.Property.{invariance_row, wait_for_row, chain_row, from_most, doubles_from}
use Rattle.diagrams.specs.declared.Diagram.{Diagram}
use Rattle.diagrams.specs.Diagram.{Loaded}
use Rattle.diagrams.proofs.Laws.Diagram.{promised}
use Rattle.conditions.specs.Edges.{is_double}
use Rattle.conditions.specs.Condition.{each, moves_of, opening_of, covered_of, conditions_of, total_of, condition_at, Listed}
use Rattle.conditions.specs.Condition.{name_of, refusal_number, node_number, transition_number}
use Rattle.conditions.specs.Layout.{double_of, layout_of, pair_of}
use Rattle.conditions.specs.declared.Condition.{Condition}
use Rattle.conditions.specs.declared.Condition.TheVariants.{Start, Entry, Cover, Range, Step, Enabling}
use Rattle.conditions.specs.declared.Blocks.{Blocks}
use Rattle.conditions.proofs.Laws.Each.{each_same, each_length, each_at, each_in, at_in, member_at}
use Rattle.conditions.proofs.Laws.Double.{double_is, double_some, double_none}

-- what a condition speaks of is there
abbrev pub Parts : Diagram → Condition → Type 0
Parts g Start = Unit {0}
Parts g Entry = Unit {0}
Parts g (Cover n) = n < g.nodes
Parts g (Range n t) = (n < g.nodes) × (t < g.transitions)
Parts g (Step n t) = (n < g.nodes) × (t < g.transitions)
Parts g (Enabling n t) = (n < g.nodes) × (t < g.transitions)

-- ---- the conditions of node n, with double transition d
module _ (n d : ℕ) where
  moves : ℕ → List Condition
  moves t = Range n t ∷ Step n t ∷ cond (eqb t d) (Enabling n t ∷ []) []

  -- the one at position p: enabling stands behind the pair of transition d
  pub position_of : ℕ → Condition
  position_of p = cond (eqb p (2 * d + 2)) (Enabling n d) (pair_of n (cond (ltb p (2 * d + 2)) p (p - 1)))

  pub position_enabling : (p : ℕ) → p ≡ 2 * d + 2 → position_of p ≡ Enabling n d
  unfolding position_of
  position_enabling p e = rw (eq-eqb p (2 * d + 2) e)

  pub position_before : (p : ℕ) → p < 2 * d + 2 → position_of p ≡ pair_of n p
  unfolding position_of
  position_before p l = rw (ne_eqb p (2 * d + 2) (λ e. omega arith), lt-ltb p (2 * d + 2) l)

  pub position_after : (p : ℕ) → 2 * d + 2 < p → position_of p ≡ pair_of n (p - 1)
  unfolding position_of
  position_after p l = rw (ne_eqb p (2 * d + 2) (λ e. omega arith), le-ltb p (2 * d + 2) (omega arith))

  pair_range : (t : ℕ) → pair_of n (2 * t + 0) ≡ Range n t
  unfolding pair_of
  pair_range t =
      let e : (2 * t + 0) % 2 ≡ 0 = omega arith in
      let q : (2 * t + 0) / 2 ≡ t = omega arith in
      rw (e, q)

  pair_step : (t : ℕ) → pair_of n (2 * t + 1) ≡ Step n t
  unfolding pair_of
  pair_step t =
      let e : (2 * t + 1) % 2 ≡ 1 = omega arith in
      let q : (2 * t + 1) / 2 ≡ t = omega arith in
      rw (e, q)

  -- the conditions of transition t begin at position p
  abbrev Begins : ℕ → ℕ → Type 0
  Begins t p = (d < t → p ≡ 2 * t + 1) × (t ≤ d → p ≡ 2 * t)

  pair_at : (t p j : ℕ) → j < 2 → Begins t p → position_of (p + j) ≡ pair_of n (2 * t + j)
  pair_at t p j m b = go (dec_lt d t)
    where
      go : Dec (d < t) → position_of (p + j) ≡ pair_of n (2 * t + j)
      go (yes l) = let e : p ≡ 2 * t + 1 = b.0 l in position_after (p + j) (omega arith) ∙ ap (pair_of n) (omega arith)
      go (no l) = let e : p ≡ 2 * t = b.1 (omega arith) in position_before (p + j) (omega arith) ∙ ap (pair_of n) (omega arith)

  begins_double : (t p : ℕ) → t ≡ d → Begins t p → Begins (t + 1) (p + 3)
  begins_double t p e b = let q : p ≡ 2 * t = b.1 (omega arith) in (λ l. omega arith, λ l. absurd (omega arith))

  begins_single : (t p : ℕ) → (t ≡ d → ⊥) → Begins t p → Begins (t + 1) (p + 2)
  begins_single t p f b =
      (λ l. let q : p ≡ 2 * t + 1 = b.0 (omega arith) in omega arith, λ l. let q : p ≡ 2 * t = b.1 (omega arith) in omega arith)

  -- of transition t, in front of those of the transitions behind it
  front_position : (t p : ℕ) → Begins t p → (l : List Condition)
      → ((q j : ℕ) → Begins (t + 1) q → j < length l → get_or l j Start ≡ position_of (q + j))
      → (k : ℕ) → k < length (moves t ++ l) → get_or (moves t ++ l) k Start ≡ position_of (p + k)
  unfolding moves
  front_position t p b l next = by (eqb t d) refl
    where
      by : (c : Bool) → eqb t d ≡ c → (k : ℕ) → k < length (Range n t ∷ Step n t ∷ (cond c (Enabling n t ∷ []) [] ++ l))
          → get_or (Range n t ∷ Step n t ∷ (cond c (Enabling n t ∷ []) [] ++ l)) k Start ≡ position_of (p + k)
      by c is zero h = sym (pair_at t p 0 (omega arith) b ∙ pair_range t)
      by c is (suc zero) h = sym (pair_at t p 1 (omega arith) b ∙ pair_step t)
      by true is (suc (suc zero)) h =
          let e : t ≡ d = eqb-true t d is in
          let q : p ≡ 2 * t = b.1 (omega arith) in
          ap (Enabling n) e ∙ sym (position_enabling (p + 2) (omega arith))
      by true is (suc (suc (suc j))) h = next (p + 3) j (begins_double t p (eqb-true t d is) b) (omega arith) ∙ ap position_of (omega arith)
      by false is (suc (suc j)) h = next (p + 2) j (begins_single t p (eqb-false t d is) b) (omega arith) ∙ ap position_of (omega arith)

  moves_position : (count t p k : ℕ) → Begins t p → k < length (each moves count t) → get_or (each moves count t) k Start ≡ position_of (p + k)
  unfolding each
  moves_position zero t p k b h = absurd (omega arith)
  moves_position (suc count) t p k b h = front_position t p b (each moves count (t + 1)) (λ q j c l. moves_position count (t + 1) q j c l) k h

  -- how many there are: two for each transition, and one more where d is among them
  single_length : (t : ℕ) → (t ≡ d → ⊥) → length (moves t) ≡ 2
  unfolding moves
  single_length t f = rw (ne_eqb t d f)

  double_length : (t : ℕ) → t ≡ d → length (moves t) ≡ 3
  unfolding moves
  double_length t e = rw (eq-eqb t d e)

  all_single : (count t : ℕ) → ((i : ℕ) → t ≤ i → i < t + count → i ≡ d → ⊥) → length (each moves count t) ≡ count * 2
  all_single count t f = each_length moves 2 count t (λ i p q. single_length i (f i p q))

  all_double : (count t : ℕ) → t ≤ d → d < t + count → length (each moves count t) ≡ count * 2 + 1
  unfolding each
  all_double zero t a b = absurd (omega arith)
  all_double (suc count) t a b = go (dec_lt t d) (λ l. all_double count (t + 1) (omega arith) (omega arith))
    where
      go : Dec (t < d) → (t < d → length (each moves count (t + 1)) ≡ count * 2 + 1)
          → length (moves t ++ each moves count (t + 1)) ≡ suc count * 2 + 1
      go (yes l) next = rw (length-append (moves t) (each moves count (t + 1))) (omega (arith, single_length t (λ e. omega arith), next l))
      go (no l) next =
          rw (length-append (moves t) (each moves count (t + 1)))
          (omega (arith, double_length t (omega arith), all_single count (t + 1) (λ i p q e. omega arith)))

-- ---- products
twice : (m t : ℕ) → m * (2 * t + 0) ≡ 2 * m * t
twice m t = omega arith

twice_more : (m t : ℕ) → m * (2 * t + 1) ≡ 2 * m * t + m
twice_more m t = omega arith

-- ---- the list, by the layout
-- of a number k behind the covers: the node, by a quotient, and the position among the node's conditions, by a remainder
abbrev pub node_by : Blocks → ℕ → ℕ
node_by l k = (k - 1 - l.covers) / l.size + l.from

abbrev pub position_by : Blocks → ℕ → ℕ
position_by l k = (k - 1 - l.covers) % l.size

module _ (file : List ℕ) (g : Diagram) where
  abbrev of_node : ℕ → List Condition
  of_node n = each (moves_of file g n) g.transitions 0

  -- the counts that the code works with
  pub record Bounds (l : Blocks) : Type 0 where
    pub nodes : g.nodes ≤ 32
    pub covers : l.covers ≤ g.nodes
    pub from : l.from ≤ g.nodes
    pub product : (g.nodes - l.from) * l.size ≤ 2048

  -- the condition of that number
  pub record Move (l : Blocks) (k : ℕ) : Type 0 where
    pub some : 0 < l.size
    pub node : node_by l k < g.nodes
    pub found : condition_at file g k ≡ position_of (node_by l k) (double_of file g (node_by l k)) (position_by l k)

module _ (file : List ℕ) (g : Diagram) (r : Loaded file g) where
  abbrev layout : Blocks
  layout = layout_of g

  node_moves : (n : ℕ) → of_node file g n ≡ each (moves n (double_of file g n)) g.transitions 0
  unfolding moves_of moves
  node_moves n =
      each_same (moves_of file g n) (moves n (double_of file g n)) g.transitions 0 (λ t p q. rw (double_is file g r n t (omega arith)))

  node_position : (n k : ℕ) → k < length (of_node file g n) → get_or (of_node file g n) k Start ≡ position_of n (double_of file g n) k
  node_position n k l =
      rw (node_moves n)
      (moves_position n (double_of file g n) g.transitions 0 0 k (λ z. absurd (omega arith), λ z. omega arith) (rw (node_moves n) at l)
      ∙ ap (position_of n (double_of file g n)) (zero-add k))

  node_size : (n : ℕ) → layout.from ≤ n → n < g.nodes → length (of_node file g n) ≡ layout.size
  unfolding layout_of
  node_size n k l = rw (node_moves n) (by (property_of g.claim).doubles refl)
    where
      by : (b : Bool) → (property_of g.claim).doubles ≡ b
          → length (each (moves n (double_of file g n)) g.transitions 0) ≡ 2 * g.transitions + cond b 1 0
      by true d = omega (arith, all_double n (double_of file g n) g.transitions 0 (omega arith) (omega (arith, double_some file g r d n k l)))
      by false d = omega (arith, all_single n (double_of file g n) g.transitions 0 (λ i p q e. omega (arith, double_none file g r d n)))

  sizes : (i : ℕ) → layout.from ≤ i → i < layout.from + (g.nodes - layout.from) → length (of_node file g i) ≡ layout.size
  sizes i p q = node_size i p (omega arith)

  abbrev covers : List Condition
  covers = each (λ n. Cover n ∷ []) layout.covers 0

  abbrev blocks : List Condition
  blocks = each (of_node file g) (g.nodes - layout.from) layout.from

  conditions_laid : conditions_of file g ≡ opening_of g ∷ covers ++ blocks
  unfolding conditions_of layout_of
  conditions_laid = refl

  covers_length : length covers ≡ layout.covers
  covers_length = each_length (λ n. Cover n ∷ []) 1 layout.covers 0 (λ i p q. refl) ∙ mul-one layout.covers

  pub total_is : total_of file g ≡ 1 + layout.covers + (g.nodes - layout.from) * layout.size
  unfolding total_of
  total_is =
      let e = each_length (of_node file g) layout.size (g.nodes - layout.from) layout.from sizes in
      rw (conditions_laid, length-append covers blocks) (omega (arith, covers_length, e))

  pub condition_opening : condition_at file g 0 ≡ opening_of g
  unfolding condition_at
  condition_opening = rw conditions_laid

  pub condition_cover : (k : ℕ) → 0 < k → k ≤ layout.covers → condition_at file g k ≡ Cover (k - 1)
  unfolding condition_at
  condition_cover k l m =
      let e : k ≡ suc (k - 1) = omega arith in
      rw conditions_laid
      (ap (λ (i : ℕ). get_or (opening_of g ∷ covers ++ blocks) i Start) e
      ∙ get_or-append covers blocks Start (k - 1) (omega (arith, covers_length))
      ∙ each_at (λ n. Cover n ∷ []) 1 Start (omega arith) layout.covers 0 (k - 1) (λ i p q. refl) (omega (arith, mul-one layout.covers))
      ∙ ap₂ (λ (n i : ℕ). get_or (Cover n ∷ []) i Start) (zero-add ((k - 1) / 1) ∙ div-one (k - 1)) (mod-one (k - 1)))

  pub condition_move : (k : ℕ) → layout.covers < k → k < total_of file g → Move file g layout k
  unfolding condition_at
  condition_move k l m =
      let e : k ≡ suc (length covers + rest) = omega (arith, covers_length) in
      record {
        some = some;
        node = node;
        found =
            rw conditions_laid
            (ap (λ (i : ℕ). get_or (opening_of g ∷ covers ++ blocks) i Start) e
            ∙ get_or-append-add covers blocks rest Start
            ∙ each_at (of_node file g) layout.size Start some (g.nodes - layout.from) layout.from rest sizes below
            ∙ ap (λ (i : ℕ). get_or (of_node file g i) (rest % layout.size) Start) (add_comm layout.from (rest / layout.size))
            ∙ node_position (node_by layout k) (rest % layout.size) (rw (node_size (node_by layout k) (omega arith) node) (mod-lt rest some)));
      }
    where
      rest : ℕ
      rest = k - 1 - layout.covers

      below : rest < (g.nodes - layout.from) * layout.size
      below = omega (arith, total_is)

      some : 0 < layout.size
      some = go layout.size refl
        where
          go : (n : ℕ) → layout.size ≡ n → 0 < n
          go zero e = absurd (not-suc-le-zero (rw (e, mul-zero (g.nodes - layout.from)) at below))
          go (suc n) e = zero-lt-suc n

      node : node_by layout k < g.nodes
      node =
          let q = (div-lt_iff_lt-mul {k = layout.size} {x = rest} {y = g.nodes - layout.from} some).1 below in
          omega arith

  -- ---- bounds and totals
  covered_most : covered_of g ≤ g.nodes
  unfolding covered_of
  covered_most = by (property_of g.claim).covered
    where
      by : (b : Bool) → cond b g.nodes 1 ≤ g.nodes
      by true = omega arith
      by false = (promised file g r).nodes.0

  pub layout_bounds : Bounds file g layout
  unfolding layout_of
  layout_bounds =
      let p = promised file g r in
      record {
        nodes = p.nodes.1;
        covers = covered_most;
        from = omega (arith, from_most g.claim, p.nodes.0);
        product = by (property_of g.claim).doubles refl p.nodes.1 p.transitions;
      }
    where
      from : ℕ
      from = (property_of g.claim).from

      by : (b : Bool) → (property_of g.claim).doubles ≡ b → g.nodes ≤ 32 → g.transitions ≤ 32
          → (g.nodes - from) * (2 * g.transitions + cond b 1 0) ≤ 2048
      by true d n t =
          let f = doubles_from g.claim d in
          let q = mul-le-mul {n₁ = g.nodes - from} {m₁ = 2 * g.transitions + 1} {n₂ = 31} {m₂ = 65} (omega arith) (omega arith) in
          omega (arith, q)
      by false d n t = mul-le-mul {n₁ = g.nodes - from} {m₁ = 2 * g.transitions + 0} {n₂ = 32} {m₂ = 64} (omega arith) (omega arith)

  -- at 32 nodes and 32 transitions of an invariance diagram there are as many
  pub total_most : total_of file g ≤ 2081
  total_most = rw total_is (omega (arith, layout_bounds.nodes, layout_bounds.covers, layout_bounds.product))

  pub total_invariance : g.claim ≡ Invariance → total_of file g ≡ 1 + g.nodes + 2 * g.nodes * g.transitions
  unfolding layout_of covered_of
  total_invariance i = rw (total_is, i, invariance_row, sub-zero) (omega arith)

  pub total_wait_for : g.claim ≡ WaitFor → total_of file g ≡ 1 + g.nodes + 2 * (g.nodes - 1) * g.transitions
  unfolding layout_of covered_of
  total_wait_for w = rw (total_is, w, wait_for_row) (omega (arith, twice (g.nodes - 1) g.transitions))

  pub total_chain : g.claim ≡ Chain → total_of file g ≡ 2 + 2 * (g.nodes - 1) * g.transitions + (g.nodes - 1)
  unfolding layout_of covered_of
  total_chain c = rw (total_is, c, chain_row) (omega (arith, twice_more (g.nodes - 1) g.transitions))

  -- ---- membership
  pub condition_listed : (k : ℕ) → k < total_of file g → Listed file g (condition_at file g k)
  unfolding total_of condition_at
  condition_listed k l = at_in (conditions_of file g) k Start l

  pub listed_number : (c : Condition) → Listed file g c → (k : ℕ) × (k < total_of file g) × (condition_at file g k ≡ c)
  unfolding total_of condition_at
  listed_number c m = let x = member_at Start m in (x.index, x.below, x.is)

  opening_parts : Parts g (opening_of g)
  unfolding opening_of
  opening_parts = by (property_of g.claim).entry
    where
      by : (b : Bool) → Parts g (cond b Entry Start)
      by true = tt
      by false = tt

  move_parts : (c : Condition) (n t : ℕ) → n < g.nodes → t < g.transitions → Memᴰ c (moves_of file g n t) → Parts g c
  unfolding moves_of
  move_parts c n t l m h = first (Memᴰ.cases_cons h)
    where
      third : (b : Bool) → Memᴰ c (cond b (Enabling n t ∷ []) []) → Parts g c
      third true k = rw (Memᴰ.eq_of_singleton k) (l, m)
      third false k = absurd (Memᴰ.not-nil k)

      second : (c ≡ Step n t) ⊎ Memᴰ c (cond (is_double file g n t) (Enabling n t ∷ []) []) → Parts g c
      second (inl e) = rw e (l, m)
      second (inr k) = third (is_double file g n t) k

      first : (c ≡ Range n t) ⊎ Memᴰ c (Step n t ∷ cond (is_double file g n t) (Enabling n t ∷ []) []) → Parts g c
      first (inl e) = rw e (l, m)
      first (inr k) = second (Memᴰ.cases_cons k)

  pub listed_parts : (c : Condition) → Listed file g c → Parts g c
  listed_parts c m = opened (Memᴰ.cases_cons (rw conditions_laid at m))
    where
      behind : Memᴰ c covers ⊎ Memᴰ c blocks → Parts g c
      behind (inl h) =
          let p = each_in (λ n. Cover n ∷ []) c layout.covers 0 h in
          rw (Memᴰ.eq_of_singleton p.listed) (omega (arith, p.below, layout_bounds.covers))
      behind (inr h) =
          let p = each_in (of_node file g) c (g.nodes - layout.from) layout.from h in
          let q = each_in (moves_of file g p.which) c g.transitions 0 p.listed in
          move_parts c p.which q.which (omega (arith, p.from, p.below)) (omega (arith, q.below)) q.listed

      opened : (c ≡ opening_of g) ⊎ Memᴰ c (covers ++ blocks) → Parts g c
      opened (inl e) = rw e opening_parts
      opened (inr h) = behind (Memᴰ.append_cases covers h)

  pub names_small : (c : Condition) → Listed file g c → (node_number c ≤ 255) × (transition_number c ≤ 255)
  unfolding name_of
  names_small c m = go c (listed_parts c m) (promised file g r).nodes.1 (promised file g r).transitions
    where
      go : (c : Condition) → Parts g c → g.nodes ≤ 32 → g.transitions ≤ 32 → (node_number c ≤ 255) × (transition_number c ≤ 255)
      go Start p n t = (omega arith, omega arith)
      go Entry p n t = (omega arith, omega arith)
      go (Cover i) p n t = (omega arith, omega arith)
      go (Range i j) p n t = (omega (arith, p.0), omega (arith, p.1))
      go (Step i j) p n t = (omega (arith, p.0), omega (arith, p.1))
      go (Enabling i j) p n t = (omega (arith, p.0), omega (arith, p.1))

pub refusal_above : (c : Condition) → 13 ≤ refusal_number c
unfolding name_of
refusal_above Start = omega arith
refusal_above Entry = omega arith
refusal_above (Cover n) = omega arith
refusal_above (Range n t) = omega arith
refusal_above (Step n t) = omega arith
refusal_above (Enabling n t) = omega arith
