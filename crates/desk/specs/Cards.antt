-- The memory of a card image some of whose tiles are worn.
use Rattle.std.specs.Prelude.{ℕ, ◌*◌, Bool, false, cond, List, [], ◌∷◌, Some, None, Option, nat_lt, slice_set}
use Rattle.std.specs.List.{list_all}
use Rattle.commands.specs.Numerals.{numeral}

-- a number below n
abbrev pub named : ℕ → Option ℕ → Option ℕ
named n (Some k) = cond (nat_lt k n) (Some k) None
named n None = None

abbrev pub below : ℕ → Option ℕ → Bool
below n (Some k) = nat_lt k n
below n None = false

-- a word names one of n tiles
abbrev pub worn_fits : ℕ → List ℕ → Bool
worn_fits n word = below n (numeral word)

abbrev pub all_fit : ℕ → List (List ℕ) → Bool
all_fit n words = list_all (worn_fits n) words

-- the mark of tile k is byte 65×k
abbrev pub mark_at : ℕ → List ℕ → Option ℕ → List ℕ
mark_at n memory (Some k) = cond (nat_lt k n) (slice_set memory (65 * k) 1) memory
mark_at n memory None = memory

abbrev pub marked_one : ℕ → List ℕ → List ℕ → List ℕ
marked_one n memory word = mark_at n memory (numeral word)

-- the marks of all tiles that the words name are 1
abbrev pub marked : ℕ → List ℕ → List (List ℕ) → List ℕ
marked n memory [] = memory
marked n memory (w ∷ ws) = marked n (marked_one n memory w) ws
