use Rattle.std.proofs.Common.{◌≡◌, ℕ, ◌<◌, get_or}
use Rattle.sweep.specs.Sweep.{cell_next, cell_at}
use Rattle.sweep.proofs.field.Field.sweep_into.Given as goal

-- the first i cells are updated
abbrev pub invariant-loop-i : goal.invariant-loop-i
invariant-loop-i g l = (k : ℕ) → k < l.i → get_or l.out k 0 ≡ cell_next (g.R.Rule.meaning l.self.rule.now) l.self.shape l.self.step l.self.cells.now (cell_at l.self.shape k)
