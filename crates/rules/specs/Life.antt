-- Conway's Life.
use Rattle.std.specs.Prelude.{ℕ, ◌+◌, cond, ◌&&◌, ◌||◌, List, take, drop, ◌==◌, slice_index}
use Rattle.rules.specs.Codes.{times}
use Rattle.rules.specs.Rule.{RuleMeaning, fits}

-- how many of the eight neighbours are 1: those are the nine codes of the window but the middle one
abbrev pub neighbours : List ℕ → ℕ
neighbours w = times 1 (take 4 w) + times 1 (drop 5 w)

-- 1 if three of the eight neighbours are 1, or if two are and the cell is 1; else 0
abbrev pub life_cell : List ℕ → ℕ
life_cell w = cond (neighbours w == 3 || (neighbours w == 2 && slice_index w 4 == 1)) 1 0

abbrev pub life_next : List ℕ → ℕ
life_next w = cond (fits 1 1 1 w) (life_cell w) 0

abbrev pub life : RuleMeaning
life = record { id = 1; a = 0; b = 0; c = 0; rx = 1; ry = 1; top = 1; next = λ w t x y width. life_next w }
