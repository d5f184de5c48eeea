use Rattle.std.proofs.Common.{◌*◌, ◌≤◌}
use Rattle.shelf_speed.proofs.go_round.Given as goal

abbrev pub invariant-loop-i : goal.invariant-loop-i
invariant-loop-i l = l.sum ≤ 255 * l.i
