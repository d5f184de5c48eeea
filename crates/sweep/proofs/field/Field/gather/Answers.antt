use Rattle.std.proofs.Common.{◌≡◌, ℕ, ◌+◌, ◌*◌, List, length, ℤ, add-mul, arith}
use Rattle.shapes.specs.Axis.{place}
use Rattle.sweep.specs.Sweep.{cell_of}
use Rattle.sweep.specs.Window.{window_row}
use Rattle.sweep.proofs.Gathers.{gathered, row-length, fits-window}
use Rattle.sweep.proofs.field.Field.gather.Goals as goal

pub loop-k-preserved : goal.loop-k-preserved
loop-k-preserved g c =
    let field = c.args.self.now in
    let lawful = g.met.R.Rule.lawful field.rule.now in
    let row : ℤ → List ℕ = λ j. window_row field.columns (cell_of field.shape field.cells.now) c.args.x (place field.rows c.args.y j) in
    let long : length c.gather_row.new.out ≡ 2 * field.columns.reach + 1 = rw c.gather_row.ensures (row-length field.columns (cell_of field.shape field.cells.now) c.args.x c.window_place-row.result) in
    let room = fits-window c.from.result field.rows.reach c.loop-k.k (rw (c.from.ensures, field.columns_are) lawful.columns) (rw field.rows_are lawful.rows) (omega arith) in
    gathered row field.rows.reach c.loop-k.k _ _ _ c.loop-k.out c.gather_row.new.out c.loop-k.invariant (rw (c.gather_row.ensures, c.window_place-row.ensures))
    (omega (arith, add-mul c.loop-k.k 1 (2 * c.from.result + 1), long))
    (omega (arith, room))
