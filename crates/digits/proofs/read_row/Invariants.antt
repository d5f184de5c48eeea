use Rattle.std.proofs.Common.{◌≡◌, map, take, drop, vec_items}
use Rattle.digits.specs.Digits.{code_of, all_digits}
use Rattle.digits.proofs.read_row.Given as goal

-- all bytes so far are digits, and their codes are kept
abbrev pub invariant-loop-byte : goal.invariant-loop-byte
invariant-loop-byte l = (vec_items l.codes ≡ map code_of (take l.byte-index l.digits)) × (all_digits l.digits ≡ all_digits (drop l.byte-index l.digits))
