-- The stores of this crate, as they mean.
use Rattle.std.specs.Prelude.{Bool, true, false}
use Rattle.stores.specs.Meaning.{Store}
use Rattle.stores.specs.Stores.{of_memory, of_card, of_bits, of_window}
use Rattle.piles.specs.declared.choice.AnyStore.{AnyStore}
use Rattle.piles.specs.declared.choice.AnyStore.TheVariants.{Memory, Card, Bits}
use Rattle.piles.specs.declared.choice.Pile.{Pile}
use Rattle.piles.specs.declared.choice.Pile.TheVariants.{Plain, Windowed}

abbrev pub any_store_of : AnyStore → Store
any_store_of (Memory s) = of_memory s
any_store_of (Card s) = of_card s
any_store_of (Bits s) = of_bits s

-- a store, or a window over it
abbrev pub pile_of : Pile → Store
pile_of (Plain s) = any_store_of s
pile_of (Windowed w) = of_window any_store_of w

-- whether there is a window
abbrev pub is_windowed : Pile → Bool
is_windowed (Plain s) = false
is_windowed (Windowed w) = true
