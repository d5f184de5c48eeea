use Rattle.std.proofs.Common.{set, vec_items, ap, ◌∙◌}
use Rattle.stores.specs.Meaning.{tile_of}
use Rattle.stores.specs.Layouts.{image, plain_layout}
use Rattle.shelves.specs.Shelves.{Shelved, store_of, settled, wrote_if}
use Rattle.shelf.specs.Shelf.{shelved}
use Rattle.shelf_tests.specs.Made.{over, after_put}
use Rattle.shelf_tests.proofs.put_and_settle.Goals as goal

pub returns : goal.returns
returns c =
    let h = shelved c.new-shelf.result in
    let bytes = set (tile_of (store_of h) c.args.k) c.args.at.index c.args.byte in
    let e = c.put.ensures in
    ap (λ v. image plain_layout (vec_items v)) c.into_memory.ensures ∙ c.into_below.ensures.does
    ∙ ap (λ (z : Shelved). (settled z).below) (e.does.after ∙ ap (λ r. wrote_if r h c.args.k bytes) e.does.answer)
    ∙ ap (λ (z : Shelved). (settled (after_put z c.args.k c.args.at.index c.args.byte)).below) (c.new-shelf.ensures.empty ∙ ap (λ v. over (image plain_layout (vec_items v))) c.new.ensures)
