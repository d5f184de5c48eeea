use Rattle.std.proofs.Common.{sym, ◌∙◌}
use Rattle.shelves.proofs.Showing.{shelf_count}
use Rattle.places.specs.Places.{list_of}
use Rattle.shelf.proofs.shelf.tiles.ShelfTileStore.count.Goals as goal

pub returns : goal.returns
returns g c = c.count.ensures ∙ sym (shelf_count (list_of c.args.self.now.places) (g.S.TileStore.meaning c.args.self.now.below))
