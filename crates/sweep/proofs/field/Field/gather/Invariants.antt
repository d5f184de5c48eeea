use Rattle.std.proofs.Common.{◌≡◌, ◌*◌, take}
use Rattle.std.specs.List.{flat_map}
use Rattle.shapes.specs.Axis.{place}
use Rattle.sweep.specs.Window.{window_row}
use Rattle.sweep.specs.Sweep.{cell_of}
use Rattle.sweep.proofs.Gathers.{firsts}
use Rattle.sweep.proofs.field.Field.gather.Given as goal

-- the first k rows of the window
abbrev pub invariant-loop-k : goal.invariant-loop-k
invariant-loop-k g l =
    take (l.k * l.length) l.out ≡ flat_map (λ j. window_row l.self.columns (cell_of l.self.shape l.self.cells.now) l.x (place l.self.rows l.y j)) (firsts l.self.rows.reach l.k)
