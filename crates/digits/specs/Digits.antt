-- Cells in print: one lower-case hexadecimal digit a cell.
use Rattle.std.specs.Prelude.{ℕ, zero, suc, ◌+◌, ◌-◌, Bool, true, cond, ◌&&◌, ◌||◌, List, [], ◌∷◌, ◌++◌, map, take, drop, Some, None, codes, Option, nat_le, nat_lt}

-- the digit of a code: 0 to 9, a to f; what is no code is written ?
abbrev pub digit : ℕ → ℕ
digit v = cond (nat_lt v 10) (48 + v) (cond (nat_lt v 16) (87 + v) 63)

abbrev pub is_digit : ℕ → Bool
is_digit b = (nat_le 48 b && nat_le b 57) || (nat_le 97 b && nat_le b 102)

-- the code of a digit
abbrev pub code_of : ℕ → ℕ
code_of b = cond (nat_le b 57) (b - 48) (b - 87)

abbrev pub all_digits : List ℕ → Bool
all_digits [] = true
all_digits (b ∷ bs) = is_digit b && all_digits bs

-- the codes of a row of digits, if all are digits
abbrev pub row_read : List ℕ → Option (List ℕ)
row_read bs = cond (all_digits bs) (Some (map code_of bs)) None

-- a row in print: its key, and its digits
abbrev pub row_text : List ℕ → List ℕ
row_text cells = codes "row=" ++ map digit cells

-- a row in print: its key, its digits, and the end of the line
abbrev pub row_line : List ℕ → List ℕ
row_line cells = codes "row=" ++ (map digit cells ++ 10 ∷ [])

-- h rows of w cells
abbrev pub row_lines : ℕ → ℕ → List ℕ → List ℕ
row_lines w zero cells = []
row_lines w (suc h) cells = row_line (take w cells) ++ row_lines w h (drop w cells)
