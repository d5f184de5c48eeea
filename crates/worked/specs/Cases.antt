-- Worked cases: examples small enough to be done by hand, as one theorem about the definitions.
use Rattle.std.specs.Prelude.{◌≡◌, List, [], ◌∷◌, map, ℕ, ◌-◌, codes}
use Rattle.rules.specs.Rule.{RuleMeaning}
use Rattle.rules.specs.Life.{life}
use Rattle.rules.specs.Vehicles.{vehicles}
use Rattle.shapes.specs.declared.shape.Shape.{Shape}
use Rattle.shapes.specs.declared.shape.Edge.TheVariants.{Wall, Ring}
use Rattle.sweep.specs.Sweep.{sweeps}

-- a kind of case for each kind of statement
pub data Case : Type 0 where
  -- a rule, a shape, a first step, a number of sweeps, and the cells before and after them
  sweeping : RuleMeaning → Shape → ℕ → ℕ → List ℕ → List ℕ → Case

abbrev pub Holds : Case → Type 0
Holds (sweeping r s t n before after) = sweeps r s t n before ≡ after

abbrev pub AllHold : List Case → Type 0
AllHold [] = Unit {0}
AllHold (c ∷ cs) = Holds c × AllHold cs

-- codes 0 to 9, written as digits
abbrev digits : List ℕ → List ℕ
digits text = map (λ b. b - 48) text

-- a plate of 3 by 3 cells between walls, and one closed both ways
abbrev walled : Shape
walled = record { width = 3; height = 3; edgex = Wall; edgey = Wall }

abbrev closed : Shape
closed = record { width = 3; height = 3; edgex = Ring; edgey = Ring }

-- a ring road of 12 cells
abbrev road : Shape
road = record { width = 12; height = 1; edgex = Ring; edgey = Wall }

abbrev pub cases : List Case
cases =
    -- Life, all ones: between walls the corners live on, on rings every cell has eight neighbours
    sweeping life walled 0 1 (digits (codes "111111111")) (digits (codes "101000101"))
    ∷ sweeping life closed 0 1 (digits (codes "111111111")) (digits (codes "000000000"))
    -- two vehicles that start from rest and never brake
    ∷ sweeping (vehicles 5 0 0) road 0 1 (digits (codes "100100000000")) (digits (codes "020020000000"))
    ∷ sweeping (vehicles 5 0 0) road 0 2 (digits (codes "100100000000")) (digits (codes "000300300000"))
    ∷ sweeping (vehicles 5 0 0) road 0 3 (digits (codes "100100000000")) (digits (codes "000003000400"))
    -- one vehicle whose draw at step 0, column 0 is 0: brake 1 holds it, brake 0 does not
    ∷ sweeping (vehicles 5 1 0) road 0 1 (digits (codes "100000000000")) (digits (codes "100000000000"))
    ∷ sweeping (vehicles 5 0 0) road 0 1 (digits (codes "100000000000")) (digits (codes "020000000000"))
    ∷ []
