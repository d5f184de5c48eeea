use Rattle.std.proofs.Common.{arith}
use Rattle.std.proofs.lemmas.List.FromFn.{fill_by_all}
use Rattle.shapes.specs.Shape.{area}
use Rattle.sweep.specs.Sweep.{cell_next, cell_at}
use Rattle.sweep.proofs.field.Field.sweep_into.Goals as goal

pub returns : goal.returns
returns g c =
    let f = c.args.self.now in
    fill_by_all (λ k. cell_next (g.R.Rule.meaning f.rule.now) f.shape f.step f.cells.now (cell_at f.shape k)) c.loop-i.out (area f.shape) 0 (omega arith) (λ k h. c.loop-i.invariant k (omega arith))
