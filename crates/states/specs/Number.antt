-- How many states there are, and their numbers.
use Rattle.std.specs.Prelude.{List, [], ◌∷◌, ℕ, ◌+◌, ◌*◌, ◌/◌, ◌%◌, ℤ}
use Rattle.truths.specs.Table.{tabulate}
use Rattle.integers.specs.Radix.{at, offset_of}

-- C4.3: how many values a range has
unfoldable pub size_of : ℤ → ℤ → ℕ
size_of low high = offset_of low high + 1

-- C4.3: how many states there are, the product of these
unfoldable pub count_of : List ℤ → List ℤ → ℕ
count_of [] highs = 1
count_of (low ∷ lows) [] = 1
count_of (low ∷ lows) (high ∷ highs) = size_of low high * count_of lows highs

-- C4.4: the state with a number: the last variable is the fastest, each from its low end up
unfoldable pub state_of : List ℤ → List ℤ → ℕ → List ℤ
state_of [] highs n = []
state_of (low ∷ lows) [] n = []
state_of (low ∷ lows) (high ∷ highs) n = at low (n / count_of lows highs) ∷ state_of lows highs (n % count_of lows highs)

-- C4.4: the number of a state
unfoldable pub number_of : List ℤ → List ℤ → List ℤ → ℕ
number_of [] highs state = 0
number_of (low ∷ lows) [] state = 0
number_of (low ∷ lows) (high ∷ highs) [] = 0
number_of (low ∷ lows) (high ∷ highs) (value ∷ state) = offset_of low value * count_of lows highs + number_of lows highs state

-- C5.6: the states between these ends, by their numbers
unfoldable pub states_between : List ℤ → List ℤ → List (List ℤ)
states_between lows highs = tabulate (state_of lows highs) (count_of lows highs) 0
