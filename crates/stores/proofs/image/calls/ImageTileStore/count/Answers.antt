use Rattle.std.proofs.Common.{vec_items, sym, ap, ◌∙◌}
use Rattle.stores.specs.Raw.{whole_tiles}
use Rattle.stores.specs.Images.{image-count}
use Rattle.stores.proofs.image.calls.ImageTileStore.count.Goals as goal

pub returns : goal.returns
returns g c =
    let v = c.args.self.now.memory in
    let l = g.L.Layout.form in
    let size = c.SIZE.ensures ∙ g.met.L.Layout.told.size_told in
    let whole = c.whole_tiles.ensures ∙ ap (λ n. whole_tiles n c.len.result) size ∙ ap (whole_tiles l.size) c.len.ensures in
    record { counts = whole ∙ ap (whole_tiles l.size) v.ok.0 ∙ sym (image-count l (vec_items v)); whole = whole }
