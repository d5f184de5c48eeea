-- The stores of this crate are lawful.
use Rattle.std.specs.Prelude.{vec_items}
use Rattle.stores.specs.Meaning.{Lawful}
use Rattle.stores.specs.Layouts.{plain_layout, card_layout, bits_layout}
use Rattle.stores.specs.Images.{image_lawful}
use Rattle.stores.specs.LayoutsLemmas.{plain_sound, card_sound, bits_sound}
use Rattle.stores.specs.Windows.{window_lawful}
use Rattle.piles.specs.declared.choice.AnyStore.{AnyStore}
use Rattle.piles.specs.declared.choice.AnyStore.TheVariants.{Memory, Card, Bits}
use Rattle.piles.specs.declared.choice.Pile.{Pile}
use Rattle.piles.specs.declared.choice.Pile.TheVariants.{Plain, Windowed}
use Rattle.piles.specs.Piles.{any_store_of, pile_of}

pub any_lawful : (s : AnyStore) → Lawful (any_store_of s)
any_lawful (Memory s) = image_lawful plain_layout (vec_items s.memory) plain_sound s.bytes
any_lawful (Card s) = image_lawful card_layout (vec_items s.memory) card_sound s.bytes
any_lawful (Bits s) = image_lawful bits_layout (vec_items s.memory) bits_sound s.bytes

pub pile_lawful : (p : Pile) → Lawful (pile_of p)
pile_lawful (Plain s) = any_lawful s
pile_lawful (Windowed w) = window_lawful (any_store_of w.below) w.first w.most (any_lawful w.below)
