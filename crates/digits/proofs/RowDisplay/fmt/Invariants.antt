use Rattle.std.proofs.Common.{map, take}
use Rattle.std.specs.Fmt.{HasWritten, IsPlainFormatter}
use Rattle.digits.specs.Digits.{digit}
use Rattle.digits.proofs.RowDisplay.fmt.Given as goal

-- the digits of the cells so far are written
abbrev pub invariant-loop-cell : goal.invariant-loop-cell
invariant-loop-cell g l =
    IsPlainFormatter l.initial.f → HasWritten g.W.Write.write_str_gives l.initial.f (map digit (take l.cell-index l.cell-items)) l.f
