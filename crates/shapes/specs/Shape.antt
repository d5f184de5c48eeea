-- Shapes, and which of them a lattice may have.
use Rattle.std.specs.Prelude.{ℕ, ◌*◌, ◌≤◌, Bool, true, false, cond, ◌&&◌, List, Some, None, Ok, codes, Option, Result, nat_le}
use Rattle.std.specs.Str.{bytes_eq}
use Rattle.refusals.specs.declared.five.FiveNumbers.{FiveNumbers}
use Rattle.refusals.specs.declared.refusal.Refusal.TheVariants as refusal
use Rattle.refusals.specs.Reported.{refuse}
use Rattle.rules.specs.Rule.{RuleMeaning}
use Rattle.shapes.specs.declared.shape.Axis.{Axis}
use Rattle.shapes.specs.declared.shape.Edge.{Edge}
use Rattle.shapes.specs.declared.shape.Edge.TheVariants.{Wall, Ring}
use Rattle.shapes.specs.declared.shape.Shape.{Shape}
use Rattle.shapes.specs.Axis.{long_enough}

-- the words wall and ring
abbrev pub edge_of : List ℕ → Option Edge
edge_of word = cond (bytes_eq word (codes "wall")) (Some Wall) (cond (bytes_eq word (codes "ring")) (Some Ring) None)

abbrev pub edge_word : Edge → List ℕ
edge_word Wall = codes "wall"
edge_word Ring = codes "ring"

-- width and height are 1 to 65,535, and their product is at most 16,777,216
abbrev pub sized : ℕ → ℕ → Bool
sized w h = nat_le 1 w && nat_le w 65535 && nat_le 1 h && nat_le h 65535 && nat_le (w * h) 16777216

abbrev pub shape_if : Bool → ℕ → ℕ → Option Edge → Option Edge → Result Shape FiveNumbers
shape_if true w h (Some ex) (Some ey) = Ok (record { width = w; height = h; edgex = ex; edgey = ey })
shape_if true w h (Some ex) None = refuse refusal.Shape
shape_if true w h None ey = refuse refusal.Shape
shape_if false w h ex ey = refuse refusal.Shape

-- the shape that two numbers and two edge words give
abbrev pub shaped : ℕ → ℕ → List ℕ → List ℕ → Result Shape FiveNumbers
shaped w h edgex edgey = shape_if (sized w h) w h (edge_of edgex) (edge_of edgey)

-- the column axis and the row axis of a shape, as a rule sees them
abbrev pub columns : RuleMeaning → Shape → Axis
columns r s = record { edge = s.edgex; reach = r.rx; size = s.width }

abbrev pub rows : RuleMeaning → Shape → Axis
rows r s = record { edge = s.edgey; reach = r.ry; size = s.height }

-- no ring is shorter than 2×reach+1
abbrev pub suited : RuleMeaning → Shape → Result (Unit {0}) FiveNumbers
suited r s = cond (long_enough (columns r s) && long_enough (rows r s)) (Ok tt) (refuse refusal.ShortRing)

abbrev pub area : Shape → ℕ
area s = s.width * s.height

-- the limits that every shape of a lattice keeps
pub record Limited (s : Shape) : Type 0 where
  pub wide : 1 ≤ s.width
  pub narrow : s.width ≤ 65535
  pub high : 1 ≤ s.height
  pub low : s.height ≤ 65535
  pub few : area s ≤ 16777216
