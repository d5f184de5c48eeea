-- The window of a cell.
use Rattle.std.specs.Prelude.{ℕ, List, map, Some, None, Option}
use Rattle.std.specs.List.{flat_map}
use Rattle.shapes.specs.declared.shape.Axis.{Axis}
use Rattle.shapes.specs.Axis.{place, offsets}

-- a cell: its column and its row
abbrev pub Cell : Type 0
Cell = ℕ × ℕ

-- the code at a column and a row; outside a wall it reads as 0
abbrev pub code : (Cell → ℕ) → Option ℕ → Option ℕ → ℕ
code g (Some u) (Some v) = g (u, v)
code g (Some u) None = 0
code g None v = 0

-- one row of the window of a cell in column u: the codes in row v from u−rx to u+rx
abbrev pub window_row : Axis → (Cell → ℕ) → ℕ → Option ℕ → List ℕ
window_row x g u v = map (λ i. code g (place x u i) v) (offsets x.reach)

-- the window of the cell c, by rows from v−ry to v+ry, where g gives the code of each cell
abbrev pub window : Axis → Axis → (Cell → ℕ) → Cell → List ℕ
window x y g c = flat_map (λ j. window_row x g c.0 (place y c.1 j)) (offsets y.reach)
