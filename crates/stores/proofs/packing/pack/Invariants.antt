use Rattle.std.proofs.Common.{◌≡◌, ℕ, ◌*◌, ◌<◌, length, get_or}
use Rattle.stores.specs.Raw.{part}
use Rattle.stores.specs.Packing.{byte_of}
use Rattle.stores.proofs.packing.pack.Given as goal

-- the first j bytes are packed
abbrev pub invariant-loop-j : goal.invariant-loop-j
invariant-loop-j l = (length l.bytes ≡ 8) × ((i : ℕ) → i < l.j → get_or l.bytes i 0 ≡ byte_of (part l.codes (8 * i) 8))
