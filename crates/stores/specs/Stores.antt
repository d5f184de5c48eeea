-- The stores of the code, as they mean.
use Rattle.std.specs.Prelude.{vec_items}
use Rattle.stores.specs.declared.image.Image.{Image}
use Rattle.stores.specs.declared.layout.plain.Plain.{Plain}
use Rattle.stores.specs.declared.layout.marked.Marked.{Marked}
use Rattle.stores.specs.declared.layout.bitwise.Bitwise.{Bitwise}
use Rattle.stores.specs.declared.window.Window.{Window}
use Rattle.stores.specs.Meaning.{Store}
use Rattle.stores.specs.Layers.{window}
use Rattle.stores.specs.Layouts.{image, plain_layout, card_layout, bits_layout}

-- plain memory
abbrev pub of_memory : Image Plain → Store
of_memory m = image plain_layout (vec_items m.memory)

-- a card image
abbrev pub of_card : Image Marked → Store
of_card c = image card_layout (vec_items c.memory)

-- bits
abbrev pub of_bits : Image Bitwise → Store
of_bits b = image bits_layout (vec_items b.memory)

-- a window, where meaning tells what the store below is
abbrev pub of_window : {S : Type 0} → (S → Store) → Window S → Store
of_window meaning w = window w.first w.most (meaning w.below)
