use Rattle.std.proofs.Common.{length, arith}
use Rattle.stores.specs.Packed.{rest_small}
use Rattle.stores.proofs.Backwards.{some_were, last_of, step_back}
use Rattle.stores.proofs.packing.pack_byte.Goals as goal

pub overflow_mul-byte : goal.overflow_mul-byte
overflow_mul-byte c =
    let codes = c.args.codes.now in
    let i = c.loop-code.invariant in
    let some = some_were codes _ _ _ _ i.0 c.in-Some.ensures.steps i.1 in
    omega (arith, rest_small codes (length c.loop-code.code-iterator.iter.rest.now) c.requires.eight c.requires.low some, i.1)

pub overflow_add-byte : goal.overflow_add-byte
overflow_add-byte c =
    let codes = c.args.codes.now in
    let i = c.loop-code.invariant in
    let some = some_were codes _ _ _ _ i.0 c.in-Some.ensures.steps i.1 in
    omega (arith, rest_small codes (length c.loop-code.code-iterator.iter.rest.now) c.requires.eight c.requires.low some, i.1, last_of codes _ _ _ _ i.0 c.in-Some.ensures.steps i.1, c.requires.low (length c.next.new.self.iter.rest.now))

pub loop-code-preserved : goal.loop-code-preserved
loop-code-preserved c = let i = c.loop-code.invariant in step_back c.args.codes.now _ _ _ _ i.0 c.in-Some.ensures.steps i.1
