-- Records for tables of examples, here and in the crates above: a file, or a part of one, is written as the list of its records.
-- Assumes nothing.
use mathlib.Core.Path.{◌≡◌, sym, ap, ◌∙◌}
use mathlib.Core.List.{List, [], ◌∷◌, map, Memᴰ, head-eq_of_cons-eq, tail-eq_of_cons-eq}
use Prim.Native.Nat.{ℕ, ◌*◌, ◌/◌, ◌%◌}

-- ---- tables
-- two functions that give one column agree at each of its rows
agree_at : {X Y : Type 0} (f g : X → Y) (row : X) {rows : List X} → map f rows ≡ map g rows → Memᴰ row rows → f row ≡ g row
agree_at f g row e (Memᴰ.head same) = ap f same ∙ head-eq_of_cons-eq e ∙ sym (ap g same)
agree_at f g row e (Memᴰ.tail member) = agree_at f g row (tail-eq_of_cons-eq e) member

pub agree : {X Y : Type 0} (f g : X → Y) {rows : List X} → map f rows ≡ map g rows → (row : X) → Memᴰ row rows → f row ≡ g row
agree f g e row member = agree_at f g row e member

-- ---- records
-- the eight bytes of a record, given as one hexadecimal number
abbrev pub bytes : ℕ → List ℕ
bytes n =
    n / 0x100000000000000 ∷ n / 0x1000000000000 % 256 ∷ n / 0x10000000000 % 256 ∷ n / 0x100000000 % 256 ∷
    n / 0x1000000 % 256 ∷ n / 0x10000 % 256 ∷ n / 0x100 % 256 ∷ n % 256 ∷ []

-- its first six, the last two zero
abbrev pub given : ℕ → List ℕ
given n = bytes (n * 0x10000)

-- a record of this kind, by its a, b, c and d
abbrev pub entry : ℕ → ℕ → ℕ → ℕ → ℕ → List ℕ
entry kind a b c d = kind ∷ a ∷ b % 256 ∷ b / 256 ∷ c % 256 ∷ c / 256 ∷ d ∷ 0 ∷ []

abbrev pub range : ℕ → ℕ → List ℕ
range b c = entry 0x01 0 b c 0

abbrev pub start : List ℕ
start = entry 0x02 0 0 0 0

abbrev pub transition : ℕ → List ℕ
transition a = entry 0x03 a 0 0 0

abbrev pub assignment : ℕ → List ℕ
assignment a = entry 0x04 a 0 0 0

abbrev pub pick : ℕ → ℕ → ℕ → List ℕ
pick a b c = entry 0x08 a b c 0

abbrev pub property : ℕ → ℕ → List ℕ
property a b = entry 0x05 a b 0 0

abbrev pub node : List ℕ
node = entry 0x06 0 0 0 0

abbrev pub single : ℕ → ℕ → ℕ → List ℕ
single a b c = entry 0x07 a b c 0

abbrev pub double : ℕ → ℕ → ℕ → List ℕ
double a b c = entry 0x07 a b c 1

abbrev pub constant : ℕ → List ℕ
constant b = entry 0x10 0 b 0 0

abbrev pub variable : ℕ → List ℕ
variable a = entry 0x11 a 0 0 0

-- a kind that names no field
abbrev pub plain : ℕ → List ℕ
plain kind = entry kind 0 0 0 0

abbrev pub true : List ℕ
true = plain 0x20

abbrev pub not : List ℕ
not = plain 0x22

-- variable a is the constant b
abbrev pub is : ℕ → ℕ → List (List ℕ)
is a b = plain 0x27 ∷ variable a ∷ constant b ∷ []

abbrev pub product : ℕ → ℕ → List (List ℕ)
product b c = plain 0x14 ∷ constant b ∷ constant c ∷ []
