use Rattle.rules.specs.Roads.{moved}
use Rattle.rules.proofs.vehicles.road.VehiclesRule.next.Goals as goal

pub returns-then-window_fits-clause-moved : goal.returns-then-window_fits-clause-moved
returns-then-window_fits-clause-moved c = λ f. rw c.next_cell.ensures (moved _ _ _ _ _ _ _ _)
