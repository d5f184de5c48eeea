-- Lists of codes.
use Rattle.std.specs.List.{list_all, count_by}
use Rattle.std.specs.Prelude.{ℕ, ◌-◌, Bool, List, length, ◌==◌, nat_le}

-- no code is above the top
abbrev pub within : ℕ → List ℕ → Bool
within top codes = list_all (λ v. nat_le v top) codes

-- how many of the codes are v
abbrev pub times : ℕ → List ℕ → ℕ
times v codes = count_by (λ c. c == v) codes

-- a cell with code 0 is empty, any other is busy
abbrev pub busy : List ℕ → ℕ
busy cells = length cells - times 0 cells
