-- Faults and the five numbers in print.
use Rattle.std.specs.Prelude.{ℕ, List, ◌++◌, codes, decimal}
use Rattle.refusals.specs.declared.fault.Fault.{Fault}
use Rattle.refusals.specs.declared.five.FiveNumbers.{FiveNumbers}

-- five decimal numbers with one space between
abbrev pub written : FiveNumbers → List ℕ
written n = decimal n.number ++ (codes " " ++ (decimal n.line ++ (codes " " ++ (decimal n.cause ++ (codes " " ++ (decimal n.tile ++ (codes " " ++ decimal n.level)))))))

-- three decimal numbers with one space between: cause, tile and level
abbrev pub written_fault : Fault → List ℕ
written_fault f = decimal f.cause ++ (codes " " ++ (decimal f.tile ++ (codes " " ++ decimal f.level)))
