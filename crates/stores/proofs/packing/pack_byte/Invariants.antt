use Rattle.std.proofs.Common.{◌≡◌, ◌++◌, length, drop}
use Rattle.stores.specs.Packing.{byte_of}
use Rattle.stores.proofs.packing.pack_byte.Given as goal

-- the codes behind those that are left are packed
abbrev pub invariant-loop-code : goal.invariant-loop-code
invariant-loop-code l =
    (l.codes ≡ l.code-iterator.iter.rest.now ++ drop (length l.code-iterator.iter.rest.now) l.codes)
    × (l.byte ≡ byte_of (drop (length l.code-iterator.iter.rest.now) l.codes))
