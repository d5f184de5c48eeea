use Rattle.std.proofs.Common.{◌≡◌}
use Rattle.places.proofs.Clearing.{cleared}
use Rattle.places.proofs.places.Places.clear_marks.Given as goal

-- the first entries are cleared
abbrev pub invariant-loop-each : goal.invariant-loop-each
invariant-loop-each l = l.each-items ≡ cleared l.initial.each-items l.each-index
