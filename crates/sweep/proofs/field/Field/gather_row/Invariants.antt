use Rattle.std.proofs.Common.{◌≡◌, ℕ, ◌<◌, get_or, pos, ◌-ℤ◌}
use Rattle.shapes.specs.Axis.{place}
use Rattle.sweep.specs.Window.{code}
use Rattle.sweep.specs.Sweep.{cell_of}
use Rattle.sweep.proofs.field.Field.gather_row.Given as goal

-- the first k codes of the row
abbrev pub invariant-loop-k : goal.invariant-loop-k
invariant-loop-k g l =
    (j : ℕ) → j < l.k → get_or l.out j 0 ≡ code (cell_of l.self.shape l.self.cells.now) (place l.self.columns l.x (pos j -ℤ pos l.self.columns.reach)) l.row
