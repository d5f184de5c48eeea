use Rattle.std.proofs.Common.{◌≡◌, ◌+◌, ◌-◌, ◌*◌, ◌<◌, ◌≢◌, length, take, drop, ap, ◌∙◌, arith, below_more}
use Rattle.std.proofs.lemmas.List.{length-set, length-take, length-drop, get_or-set_same, get_or-set_other}
use Rattle.stores.specs.Packing.{byte_of}
use Rattle.stores.specs.Overwriting.{part_low}
use Rattle.stores.specs.Packed.{packed_all}
use Rattle.stores.proofs.packing.pack.Goals as goal

pub pack_byte-requires : goal.pack_byte-requires
pack_byte-requires c = record {
  eight = simp (length-take, length-drop) (omega arith);
  low = part_low c.args.codes.now (8 * c.loop-j.j) (8 * c.loop-j.j + 8 - 8 * c.loop-j.j) 1 c.requires.low;
}

pub loop-j-preserved : goal.loop-j-preserved
loop-j-preserved c =
    let j = c.loop-j.j in
    let w : 8 * j + 8 - 8 * j ≡ 8 = omega arith in (
      simp length-set (omega arith),
      below_more _ _
          (λ i h. let ne : i ≢ j = omega arith in rw get_or-set_other (c.loop-j.invariant.1 i h))
          (let lt : j < length c.loop-j.bytes = omega arith in rw get_or-set_same (c.pack_byte.ensures ∙ ap (λ n. byte_of (take n (drop (8 * j) c.args.codes.now))) w)),
    )

pub returns : goal.returns
returns c = packed_all c.args.codes.now c.loop-j.bytes (omega arith) (λ j h. c.loop-j.invariant.1 j (omega arith))
