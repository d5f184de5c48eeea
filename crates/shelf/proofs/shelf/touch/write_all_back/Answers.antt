use Rattle.shelves.proofs.Settling.{next_good, next-below}
use Rattle.shelf.proofs.Calls.{back_reaches}
use Rattle.shelf.proofs.shelf.touch.write_all_back.Goals as goal

pub loop-entry-preserved : goal.loop-entry-preserved
loop-entry-preserved g c kept =
    let es = c.args.entries.now in
    let i = c.loop-entry.entry-index in
    let lt = c.loop-entry-test.true in
    let was = c.loop-entry.invariant kept in
    let back = c.write_back.ensures (next_good _ _ es i kept lt was.1) in
    (back_reaches g.S.TileStore.steps _ _ _ es i lt was.0 back.reaches, next-below _ _ es i kept lt was.1 _ back.does)
