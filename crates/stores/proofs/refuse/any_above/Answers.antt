use Rattle.std.proofs.Common.{◌∙◌, sym, arith}
use Rattle.std.proofs.lemmas.Bool.{le-ltb}
use Rattle.stores.specs.Calls.{none_above}
use Rattle.stores.proofs.refuse.any_above.Goals as goal

pub returns-else-top-lt255 : goal.returns-else-top-lt255
returns-else-top-lt255 c =
    le-ltb c.args.top 255 (omega (arith, c.if-top-lt255.false))
    ∙ sym (none_above c.args.top c.args.bytes.now (λ i. omega (arith, c.fits-bytes i, c.if-top-lt255.false)))
