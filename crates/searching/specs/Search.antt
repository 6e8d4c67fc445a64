-- Whether a condition holds at every state of a box, as far as so many halvings and boxes show; and how far that lets one skip.
use Rattle.std.specs.Prelude.{Bool, true, false, cond, List, ℕ, zero, suc, eqb, leb, ℤ}
use Rattle.states.specs.Number.{number_of}
use Rattle.testing.specs.Testing.{passes_of, passes_in}
use Rattle.boxes.specs.declared.Box.{Box}
use Rattle.boxes.specs.Half.{wide_of, choice_of, lower_of, upper_of}
use Rattle.domains.specs.declared.seen.Seen.{Seen}
use Rattle.domains.specs.declared.seen.Seen.TheVariants.{Yes, No, Unsure}
use Rattle.searching.specs.declared.Search.{Search}
use Rattle.searching.specs.declared.Decided.{Decided}
use Rattle.searching.specs.declared.Skipped.{Skipped}

-- so often a box is halved at most
abbrev pub halvings : ℕ
halvings = 32

abbrev pub decided : Bool → ℕ → Decided
decided sure left = record { sure = sure; left = left }

-- the condition at a state
abbrev pub passes_at : List ℕ → Search → List ℤ → Bool
passes_at file s state = passes_of s.ranges.low s.ranges.high file s.test state

-- the lower half, then the upper one with the boxes left; D says what is known of each
unfoldable pub halves_of : (Box → ℕ → Decided) → Box → ℕ → ℕ → Decided
halves_of D b v left = let first = D (lower_of b v) left in cond first.sure (D (upper_of b v) first.left) first

-- by what is seen of the condition on the box; `wide` is its first variable with more than one value
unfoldable pub decided_by : (Box → ℕ → Decided) → Seen → Box → ℕ → ℕ → Decided
decided_by D Yes b wide left = decided true left
decided_by D No b wide left = decided false left
decided_by D (Unsure blamed) b wide left = halves_of D b (choice_of b blamed wide) left

-- a box costs one of the budget; where the halvings or the budget are used up, nothing is known
unfoldable pub decide_of : ℕ → List ℕ → Search → Box → ℕ → Decided
decide_of zero file s b budget = decided false budget
decide_of (suc depth) file s b zero = decided false 0
decide_of (suc depth) file s b (suc left) =
    let wide = wide_of b.low b.high in
    cond (leb 12 wide) (decided (passes_at file s b.low) left)
    (decided_by (λ half n. decide_of depth file s half n) (passes_in s.ranges file s.test b) b wide left)

-- a half is left behind where the condition holds at all of it
unfoldable pub narrow_of : ℕ → List ℕ → Search → Box → ℕ → List ℤ
narrow_of zero file s b budget = b.low
narrow_of (suc depth) file s b budget =
    let wide = wide_of b.low b.high in
    let found = decide_of halvings file s (lower_of b wide) budget in
    cond (leb 12 wide) b.low
    (cond found.sure (narrow_of depth file s (upper_of b wide) found.left) (narrow_of depth file s (lower_of b wide) found.left))

abbrev pub skip_to : List ℤ → ℕ → Skipped
skip_to state number = record { state = state; number = number }

-- nowhere without a box to look at; over all states, where the condition is decided; else to the one narrowed down to, where that lies further on
unfoldable pub skip_of : List ℕ → Search → ℕ → Skipped → ℕ → Skipped
skip_of file s states from budget =
    let whole = decide_of halvings file s s.ranges budget in
    let state = narrow_of halvings file s s.ranges whole.left in
    let number = number_of s.ranges.low s.ranges.high state in
    cond (eqb budget 0) from
    (cond whole.sure (skip_to s.ranges.low states) (cond (leb number from.number) from (skip_to state number)))
