-- Nagel and Schreckenberg's vehicles: top speed a, brake b, seed c. Code 1+v is a vehicle of speed v, code 0 an empty cell.
-- A window has 2a+1 codes, the cell itself at place a, so that the cell d columns behind it is at place a−d.
use Rattle.std.specs.Prelude.{◌≡◌, ℕ, zero, suc, ◌+◌, ◌-◌, ◌*◌, ◌/◌, ◌%◌, ◌^◌, ◌≤◌, min, Bool, cond, ◌&&◌, List, pos, ◌-ℤ◌, Ok, Result, ◌==◌, nat_le, nat_lt, slice_index}
use Rattle.refusals.specs.declared.five.FiveNumbers.{FiveNumbers}
use Rattle.refusals.specs.declared.refusal.Refusal.TheVariants.{VehicleLimits}
use Rattle.refusals.specs.Reported.{refuse}
use Rattle.rules.specs.Rings.{wrap}
use Rattle.rules.specs.Rule.{RuleMeaning, fits}

-- the draw at step t, column x, row y: floor(u/65536), where u is this sum modulo 2^32
abbrev pub draw : ℕ → ℕ → ℕ → ℕ → ℕ
draw c t x y = ((c + 2654435769 * t + 2246822507 * x + 3266489909 * y) % 2 ^ 32) / 65536

-- the gap: the number of empty cells directly ahead of place i, at most n
abbrev pub gap : List ℕ → ℕ → ℕ → ℕ
gap w i zero = 0
gap w i (suc n) = cond (slice_index w (i + 1) == 0) (suc (gap w (i + 1) n)) 0

-- v1 of the vehicle at place i: the smaller of v+1 and a
abbrev pub v1 : ℕ → List ℕ → ℕ → ℕ
v1 a w i = min ((slice_index w i - 1) + 1) a

-- v2: the smaller of v1 and the gap
abbrev pub v2 : ℕ → List ℕ → ℕ → ℕ
v2 a w i = min (v1 a w i) (gap w i a)

-- v3: v2−1 if v2 is at least 1 and the draw at the vehicle's own column is below b; else v2
abbrev pub v3 : ℕ → ℕ → ℕ → List ℕ → ℕ → ℕ → ℕ → ℕ → ℕ
v3 a b c w t column y i = cond (nat_le 1 (v2 a w i) && nat_lt (draw c t column y) b) (v2 a w i - 1) (v2 a w i)

-- the column d columns behind column x, modulo the width; 0 where the width is 0
abbrev pub column_behind : ℕ → ℕ → ℕ → ℕ
column_behind x width d = wrap width (pos x -ℤ pos d)

-- the vehicle d columns behind the cell, if there is one, goes d columns ahead
abbrev pub arrives : ℕ → ℕ → ℕ → List ℕ → ℕ → ℕ → ℕ → ℕ → ℕ → Bool
arrives a b c w t x y width d = nat_le 1 (slice_index w (a - d)) && v3 a b c w t (column_behind x width d) y (a - d) == d

-- the code of the nearest that arrives, of the k from d columns behind on
abbrev pub arrival : ℕ → ℕ → ℕ → List ℕ → ℕ → ℕ → ℕ → ℕ → ℕ → ℕ → ℕ
arrival a b c w t x y width d zero = 0
arrival a b c w t x y width d (suc k) = cond (arrives a b c w t x y width d) (1 + d) (arrival a b c w t x y width (d + 1) k)

abbrev pub vehicles_next : ℕ → ℕ → ℕ → List ℕ → ℕ → ℕ → ℕ → ℕ → ℕ
vehicles_next a b c w t x y width = cond (fits a 0 (a + 1) w) (arrival a b c w t x y width 0 (a + 1)) 0

abbrev pub vehicles : ℕ → ℕ → ℕ → RuleMeaning
vehicles a b c = record { id = 3; a = a; b = b; c = c; rx = a; ry = 0; top = a + 1; next = vehicles_next a b c }

-- a is 1 to 5 and b at most 65,536
abbrev pub limits : ℕ → ℕ → Bool
limits a b = nat_le 1 a && nat_le a 5 && nat_le b 65536

-- the rule made of a, b and c
abbrev pub vehicles_made : ℕ → ℕ → ℕ → Result RuleMeaning FiveNumbers
vehicles_made a b c = cond (limits a b) (Ok (vehicles a b c)) (refuse VehicleLimits)

-- a vehicle stands d columns behind the cell and has v3 = d, so that it lands on the cell
pub record Lands (a b c : ℕ) (w : List ℕ) (t x y width d : ℕ) : Type 0 where
  pub reach : d ≤ a
  pub stands : 1 ≤ slice_index w (a - d)
  pub goes : v3 a b c w t (column_behind x width d) y (a - d) ≡ d

-- what becomes of a cell: the code that next answers is told by the one vehicle that lands there
pub record Moved (a b c : ℕ) (w : List ℕ) (t x y width code : ℕ) : Type 0 where
  -- it is 1+d exactly if the vehicle d columns behind has v3 = d
  pub landed : (d : ℕ) → Lands a b c w t x y width d → code ≡ 1 + d
  pub lands : (d : ℕ) → d ≤ a → code ≡ 1 + d → Lands a b c w t x y width d
  -- it is 0 exactly if there is none such
  pub nobody : ((d : ℕ) → ¬ (Lands a b c w t x y width d)) → code ≡ 0
  pub empty : code ≡ 0 → (d : ℕ) → ¬ (Lands a b c w t x y width d)
  -- and there is never more than one
  pub alone : (d e : ℕ) → Lands a b c w t x y width d → Lands a b c w t x y width e → d ≡ e
