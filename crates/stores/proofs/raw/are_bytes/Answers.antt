use Rattle.std.proofs.Common.{arith}
use Rattle.std.proofs.lemmas.List.{get_or_past}
use Rattle.stores.proofs.raw.are_bytes.Goals as goal

pub returns-then-bytes-eq0 : goal.returns-then-bytes-eq0
returns-then-bytes-eq0 c i = rw (get_or_past c.args.bytes.now i 0 (omega arith)) (omega arith)

pub returns : goal.returns
returns c i = omega (arith, c.type_inv.bytes i)
