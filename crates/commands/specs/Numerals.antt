-- Numbers as words.
use Rattle.std.specs.Prelude.{ℕ, ◌+◌, ◌-◌, ◌*◌, cond, ◌&&◌, List, [], ◌∷◌, length, Some, None, Option, nat_lt}
use Rattle.std.specs.Str.{all_ascii_digits}

-- the number that the digits bs write behind the number n
abbrev pub worth : ℕ → List ℕ → ℕ
worth n [] = n
worth n (b ∷ bs) = worth (10 * n + (b - 48)) bs

-- a number is some decimal digits, and fits 32 bits
abbrev pub numeral : List ℕ → Option ℕ
numeral w = cond (nat_lt 0 (length w) && all_ascii_digits w && nat_lt (worth 0 w) 4294967296) (Some (worth 0 w)) None
