-- A lattice as the plain rules see it, and what each call on it answers and leaves.
use Rattle.std.specs.Prelude.{◌≡◌, ℕ, ◌+◌, ◌*◌, Bool, true, cond, ◌&&◌, List, ◌++◌, length, take, drop, replicate, Ok, Err, Result, nat_le, nat_lt, slice_set}
use Rattle.refusals.specs.declared.five.FiveNumbers.{FiveNumbers}
use Rattle.refusals.specs.declared.refusal.Refusal.{Refusal}
use Rattle.refusals.specs.declared.refusal.Refusal.TheVariants.{Outside, HighCode, Steps}
use Rattle.refusals.specs.Reported.{refuse}
use Rattle.rules.specs.Codes.{within}
use Rattle.rules.specs.Rule.{RuleMeaning}
use Rattle.shapes.specs.declared.shape.Shape.{Shape}
use Rattle.shapes.specs.Shape.{area, shaped, suited}
use Rattle.sweep.specs.Sweep.{index, cell_of, swept, sweeps}

-- the shape, the step, and the codes of the cells by index
pub record Plain : Type 0 where
  pub shape : Shape
  pub step : ℕ
  pub cells : List ℕ

-- what a call answers, and the lattice after it
pub record Out (A : Type 0) : Type 0 where
  pub answer : Result A FiveNumbers
  pub after : Plain

-- a call answered so, and left that
pub record Does {A : Type 0} (answer : Result A FiveNumbers) (after : Plain) (defined : Out A) : Type 0 where
  pub answers : answer ≡ defined.answer
  pub leaves : after ≡ defined.after

-- a refused call leaves all as it was
abbrev pub refused : {A : Type 0} → Plain → Refusal → Out A
refused p r = record { answer = refuse r; after = p }

abbrev pub accepted : {A : Type 0} → Plain → A → Out A
accepted p a = record { answer = Ok a; after = p }

abbrev pub with_cells : Plain → List ℕ → Plain
with_cells p cells = record { shape = p.shape; step = p.step; cells = cells }

-- step 0, and every cell 0
abbrev pub blank : Shape → Plain
blank s = record { shape = s; step = 0; cells = replicate (area s) 0 }

-- unless one was refused, a second test follows
abbrev pub and_then : {A B : Type 0} → Result A FiveNumbers → (A → Result B FiveNumbers) → Result B FiveNumbers
and_then (Ok a) k = k a
and_then (Err n) k = Err n

abbrev pub laid_as : RuleMeaning → Shape → Result Plain FiveNumbers
laid_as r s = and_then (suited r s) (λ u. Ok (blank s))

-- a new lattice: 21 a shape that no lattice has, then 22 a ring that is too short
abbrev pub laid : RuleMeaning → ℕ → ℕ → List ℕ → List ℕ → Result Plain FiveNumbers
laid r w h edgex edgey = and_then (shaped w h edgex edgey) (laid_as r)

-- a cell is inside
abbrev pub is_inside : Shape → ℕ → ℕ → Bool
is_inside s x y = nat_lt x s.width && nat_lt y s.height

-- the code of a cell: 26 a cell outside
abbrev pub gets : Plain → ℕ → ℕ → Result ℕ FiveNumbers
gets p x y = cond (is_inside p.shape x y) (Ok (cell_of p.shape p.cells (x, y))) (refuse Outside)

-- one cell set: 26 a cell outside, then 27 a code above the top
abbrev pub puts : RuleMeaning → Plain → ℕ → ℕ → ℕ → Out (Unit {0})
puts r p x y code =
    cond (is_inside p.shape x y)
    (cond (nat_le code r.top) (accepted (with_cells p (slice_set p.cells (index p.shape (x, y)) code)) tt) (refused p HighCode))
    (refused p Outside)

-- the first cells of row y set: 26 if one of them is outside, then 27 if a code is above the top
abbrev pub puts_row : RuleMeaning → Plain → ℕ → List ℕ → Out (Unit {0})
puts_row r p y codes =
    cond (nat_lt y p.shape.height && nat_le (length codes) p.shape.width)
    (cond (within r.top codes) (accepted (with_cells p (take (y * p.shape.width) p.cells ++ (codes ++ drop (y * p.shape.width + length codes) p.cells))) tt) (refused p HighCode))
    (refused p Outside)

-- the codes of row y: 26 a row outside
abbrev pub row_of : Plain → ℕ → Result (List ℕ) FiveNumbers
row_of p y = cond (nat_lt y p.shape.height) (Ok (take p.shape.width (drop (y * p.shape.width) p.cells))) (refuse Outside)

-- one plain sweep, which updates every cell
abbrev pub swept_once : RuleMeaning → Plain → Out ℕ
swept_once r p = accepted (record { shape = p.shape; step = p.step + 1; cells = swept r p.shape p.step p.cells }) (area p.shape)

-- n plain sweeps, which make n×width×height updates: 28 if n is above 1,024 or the step would pass 2,147,483,647
abbrev pub sweeps_on : RuleMeaning → Plain → ℕ → Out ℕ
sweeps_on r p n =
    cond (nat_le n 1024 && nat_le (p.step + n) 2147483647)
    (accepted (record { shape = p.shape; step = p.step + n; cells = sweeps r p.shape p.step n p.cells }) (n * area p.shape))
    (refused p Steps)

-- no cell has a code above the rule's top, so that every window fits the rule
abbrev pub Low : RuleMeaning → Plain → Type 0
Low r p = within r.top p.cells ≡ true
