use Rattle.std.proofs.Common.{sym, refl, ◌∙◌}
use Rattle.stores.specs.Windows.{writes_through, writes_step, writes_below}
use Rattle.stores.proofs.window.WindowTileStore.write.Goals as goal

pub returns : goal.returns
returns g c =
    let w = c.args.self.now in
    let q = c.raised.ensures in
    let l = g.met.S.TileStore.lawful w.below in
    record {
      does = writes_through _ w.first w.most c.args.k _ _ l c.count.ensures c.if-k-count.false c.saturating_add.ensures _ _ _ q _ c.write.ensures.does _ c.top.ensures (sym c.if-any_above.ensures);
      steps = writes_step _ w.first w.most c.args.k _ _ l c.count.ensures c.if-k-count.false c.saturating_add.ensures g.S.TileStore.steps _ _ _ _ c.top.ensures (sym c.if-any_above.ensures) c.write.ensures.steps;
      below = writes_below _ w.first w.most c.args.k _ _ l c.count.ensures c.if-k-count.false c.saturating_add.ensures _ _ _ q _ c.write.ensures.does;
      first = refl;
      most = refl;
    }
