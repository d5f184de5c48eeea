use Rattle.std.proofs.Common.{◌+◌, ◌*◌, pos, ◌-ℤ◌, sym, ◌∙◌, arith}
use Rattle.std.proofs.lemmas.List.FromFn.{fill_by_all}
use Rattle.std.specs.List.{range_with_len}
use Rattle.std.proofs.lemmas.Simd.{map-map}
use Rattle.shapes.specs.Axis.{place}
use Rattle.sweep.specs.Sweep.{cell_of}
use Rattle.sweep.specs.Window.{code}
use Rattle.sweep.proofs.field.Field.gather_row.Goals as goal

pub returns : goal.returns
returns g c =
    let field = c.args.self.now in
    let r = field.columns.reach in
    fill_by_all (λ j. code (cell_of field.shape field.cells.now) (place field.columns c.args.x (pos j -ℤ pos r)) c.args.row) c.loop-k.out (2 * r + 1) 0 (omega arith) (λ k h. c.loop-k.invariant k (omega arith))
    ∙ sym (map-map (λ i. code (cell_of field.shape field.cells.now) (place field.columns c.args.x i) c.args.row) (λ j. pos j -ℤ pos r) (range_with_len 0 (2 * r + 1)))
