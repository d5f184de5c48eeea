use Rattle.std.proofs.Common.{sym, refl, ◌∙◌}
use Rattle.stores.specs.Windows.{reads_through, reads_step}
use Rattle.stores.proofs.window.WindowTileStore.read.Goals as goal

pub returns : goal.returns
returns g c =
    let w = c.args.self.now in
    let q = c.raised.ensures in
    let l = g.met.S.TileStore.lawful w.below in
    record {
      does = reads_through _ w.first w.most c.args.k _ _ l c.count.ensures c.if-k-count.false c.saturating_add.ensures _ _ _ q _ _ c.read.ensures.does;
      steps = reads_step _ w.first w.most c.args.k _ _ l c.count.ensures c.if-k-count.false c.saturating_add.ensures g.S.TileStore.steps _ _ c.read.ensures.steps;
      below = c.read.ensures.does.same;
      first = refl;
      most = refl;
    }
