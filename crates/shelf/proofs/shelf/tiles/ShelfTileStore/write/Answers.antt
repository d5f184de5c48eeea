use Rattle.std.proofs.Common.{ap, ◌∙◌}
use Rattle.shelves.specs.Shelves.{wrote_if}
use Rattle.shelves.proofs.Writing.{written_as}
use Rattle.shelf.specs.Shelf.{shelved}
use Rattle.shelf.proofs.shelf.tiles.ShelfTileStore.write.Goals as goal

pub returns : goal.returns
returns g c =
    let h = shelved c.args.self.now in
    let e = c.write_whole.ensures in
    record {
      does = written_as h _ c.args.k _ _ e.does;
      steps = record { after = e.does.after ∙ ap (λ z. wrote_if z h c.args.k c.args.bytes.now) e.does.answer; below = e.reaches };
      leaves = e;
    }
