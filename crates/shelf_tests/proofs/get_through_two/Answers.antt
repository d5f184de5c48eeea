use Rattle.std.proofs.Common.{get_or, vec_items, ap, ◌∙◌}
use Rattle.stores.specs.Meaning.{Store, read, tile_of}
use Rattle.stores.specs.Layouts.{image, plain_layout}
use Rattle.shelves.specs.Shelves.{store_of, byte_if}
use Rattle.shelf_tests.specs.Made.{over}
use Rattle.shelf_tests.proofs.get_through_two.Goals as goal

pub returns : goal.returns
returns c =
    let e = c.get.ensures.does in
    let inner = c.new-2.ensures.empty ∙ ap (λ v. over (image plain_layout (vec_items v))) c.new.ensures in
    let made = ap store_of (c.new-shelf.ensures.empty ∙ ap (λ z. over (store_of z)) inner) in
    e.answer ∙ ap (λ (z : Store). byte_if (read z c.args.k) (get_or (tile_of z c.args.k) c.args.at.index 0)) made
