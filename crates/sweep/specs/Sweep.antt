-- The plain sweep: from step t every cell of step t+1 is next of its window at t.
use Rattle.std.specs.Prelude.{ℕ, zero, suc, ◌+◌, ◌*◌, ◌/◌, ◌%◌, List, map, slice_index}
use Rattle.std.specs.List.{range_with_len}
use Rattle.rules.specs.Rule.{RuleMeaning}
use Rattle.shapes.specs.declared.shape.Shape.{Shape}
use Rattle.shapes.specs.Shape.{columns, rows, area}
use Rattle.sweep.specs.Window.{Cell, window}

-- cell x, y has index y×width+x
abbrev pub index : Shape → Cell → ℕ
index s c = c.1 * s.width + c.0

-- the cell of an index
abbrev pub cell_at : Shape → ℕ → Cell
cell_at s i = (i % s.width, i / s.width)

-- the code of a cell, in a list of the cells' codes by index
abbrev pub cell_of : Shape → List ℕ → Cell → ℕ
cell_of s cells c = slice_index cells (index s c)

-- a cell at step t+1: next of its window at t
abbrev pub cell_next : RuleMeaning → Shape → ℕ → List ℕ → Cell → ℕ
cell_next r s t cells c = r.next (window (columns r s) (rows r s) (cell_of s cells) c) t c.0 c.1 s.width

-- one plain sweep, from step t
abbrev pub swept : RuleMeaning → Shape → ℕ → List ℕ → List ℕ
swept r s t cells = map (λ i. cell_next r s t cells (cell_at s i)) (range_with_len 0 (area s))

-- n plain sweeps, from step t
abbrev pub sweeps : RuleMeaning → Shape → ℕ → ℕ → List ℕ → List ℕ
sweeps r s t zero cells = cells
sweeps r s t (suc n) cells = swept r s (t + n) (sweeps r s t n cells)
