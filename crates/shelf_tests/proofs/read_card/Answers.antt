use Rattle.std.proofs.Common.{◌≡◌, vec_items, ap, ◌∙◌}
use Rattle.stores.specs.Meaning.{Store, read, tile_of, buffer_after}
use Rattle.stores.specs.Layouts.{image, card_layout}
use Rattle.shelves.specs.Shelves.{store_of}
use Rattle.shelf_tests.specs.Made.{over}
use Rattle.shelf_tests.proofs.read_card.Goals as goal

pub returns : goal.returns
returns c =
    let e = c.read.ensures.does in
    let made : ◌≡◌ {A = Store} _ (store_of (over (image card_layout (vec_items c.args.memory)))) = ap store_of (c.new-shelf.ensures.empty ∙ ap (λ v. over (image card_layout (vec_items v))) c.new.ensures) in
    record {
      answers = e.answer ∙ ap (λ (z : Store). read z c.args.k) made;
      copies = e.buffer ∙ ap (λ (z : Store). buffer_after c.read.result (tile_of z c.args.k) c.args.out.now) made;
    }
