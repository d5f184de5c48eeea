use Rattle.std.proofs.Common.{set, get_or, ap, ◌∙◌}
use Rattle.shelves.specs.Shelves.{blank, cleaned}
use Rattle.places.proofs.Clearing.{clear_next}
use Rattle.places.proofs.places.Places.clear_marks.Goals as goal

pub loop-each-preserved : goal.loop-each-preserved
loop-each-preserved c =
    let es = c.as_mut_slice-each-items.result.now in
    let i = c.loop-each.each-index in
    ap (λ xs. set xs i (cleaned (get_or xs i blank))) c.loop-each.invariant ∙ clear_next es i c.loop-each-test.true
