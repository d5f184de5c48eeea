use Rattle.std.proofs.Common.{◌≡◌, ℕ, ◌<◌, length, get_or}
use Rattle.stores.specs.Packing.{code_in}
use Rattle.stores.proofs.packing.unpack.Given as goal

-- the first n codes are taken out
abbrev pub invariant-loop-n : goal.invariant-loop-n
invariant-loop-n l = (length l.codes ≡ 64) × ((i : ℕ) → i < l.n → get_or l.codes i 0 ≡ code_in l.bytes i)
