use Rattle.std.proofs.Common.{◌/◌, ◌%◌, ◌^◌, ◌<◌, ◌≢◌, length, get_or, arith, below_more}
use Rattle.std.proofs.lemmas.Nat.{and_mask}
use Rattle.std.proofs.lemmas.List.{length-set, get_or-set_same, get_or-set_other}
use Rattle.stores.specs.Packed.{unpacked_all}
use Rattle.stores.proofs.packing.unpack.Goals as goal

pub loop-n-preserved : goal.loop-n-preserved
loop-n-preserved c =
    let n = c.loop-n.n in (
      simp length-set (omega arith),
      below_more _ _
          (λ i h. let ne : i ≢ n = omega arith in rw get_or-set_other (c.loop-n.invariant.1 i h))
          (let lt : n < length c.loop-n.codes = omega arith in rw get_or-set_same (and_mask (get_or c.args.bytes.now (n / 8) 0 / 2 ^ (n % 8)) 1)),
    )

pub returns : goal.returns
returns c = unpacked_all c.args.bytes.now c.loop-n.codes (omega arith) (λ n h. c.loop-n.invariant.1 n (omega arith))
