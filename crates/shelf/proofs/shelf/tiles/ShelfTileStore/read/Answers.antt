use Rattle.std.proofs.Common.{ap, ◌∙◌}
use Rattle.shelves.specs.Shelves.{touched_if}
use Rattle.shelves.proofs.Writing.{read_as}
use Rattle.shelf.specs.Shelf.{shelved}
use Rattle.shelf.proofs.shelf.tiles.ShelfTileStore.read.Goals as goal

pub returns : goal.returns
returns g c =
    let h = shelved c.args.self.now in
    let e = c.read_whole.ensures in
    record {
      does = read_as h _ c.args.k _ _ _ e.does;
      steps = record { after = e.does.touches.after ∙ ap (λ z. touched_if z h c.args.k) e.does.touches.answer; below = e.reaches };
      leaves = e;
    }
