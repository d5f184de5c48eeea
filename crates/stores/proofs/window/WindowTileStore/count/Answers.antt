use Rattle.std.proofs.Common.{arith}
use Rattle.stores.specs.Windows.{window-count}
use Rattle.stores.proofs.window.WindowTileStore.count.Goals as goal

pub returns : goal.returns
returns g c = omega (arith, window-count (g.S.TileStore.meaning c.args.self.now.below) c.args.self.now.first c.args.self.now.most, c.count.ensures)
