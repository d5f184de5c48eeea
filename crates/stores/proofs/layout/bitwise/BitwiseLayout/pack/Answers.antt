use Rattle.stores.specs.Calls.{each_low}
use Rattle.stores.proofs.layout.bitwise.BitwiseLayout.pack.Goals as goal

pub pack-requires-clause-low : goal.pack-requires-clause-low
pack-requires-clause-low c = each_low 1 c.args.codes.now c.requires.low
