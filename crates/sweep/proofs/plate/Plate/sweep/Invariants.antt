use Rattle.std.proofs.Common.{◌≡◌, ◌+◌, ◌*◌}
use Rattle.shapes.specs.Shape.{area}
use Rattle.sweep.specs.Plate.{plain_of}
use Rattle.sweep.specs.Sweep.{sweeps}
use Rattle.sweep.proofs.plate.Plate.sweep.Given as goal

-- k sweeps are done
abbrev pub invariant-loop-k : goal.invariant-loop-k
invariant-loop-k g l =
    let first = plain_of l.initial.self in
    (plain_of l.self ≡ record { shape = first.shape; step = first.step + l._k; cells = sweeps (g.R.Rule.meaning l.initial.self.rule) first.shape first.step l._k first.cells })
    × (l.self.rule ≡ l.initial.self.rule)
    × (l.updates ≡ l._k * area first.shape)
