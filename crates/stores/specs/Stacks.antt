-- Windows that stand one above another over a card image, however many they are.
use Rattle.std.specs.Prelude.{◌≡◌, ℕ, ◌+◌, ◌-◌, ◌*◌, ◌<◌, min, List, [], ◌∷◌, length, Some, None, ◌≢◌, slice_index}
use Rattle.stores.specs.Meaning.{Store, count, tile_of, fault_of}
use Rattle.stores.specs.Layers.{window}
use Rattle.stores.specs.Layouts.{image, card_layout}

-- windows, the lowest first: of each the first tile that it shows, and how many at most
abbrev pub Windows : Type 0
Windows = List (ℕ × ℕ)

-- the windows over the store b
abbrev pub stacked : Windows → Store → Store
stacked [] b = b
stacked (w ∷ ws) b = stacked ws (window w.0 w.1 b)

-- how many of n tiles the windows leave
abbrev pub left : Windows → ℕ → ℕ
left [] n = n
left (w ∷ ws) n = left ws (min w.1 (n - w.0))

-- which tile of the store below is tile k of the highest window
abbrev pub below : Windows → ℕ → ℕ
below [] k = k
below (w ∷ ws) k = w.0 + below ws k

-- what a stack of windows over a card image is
pub record Stack (memory : List ℕ) (ws : Windows) : Type 0 where
  -- it has as many tiles as the windows leave
  pub counts : count (stacked ws (image card_layout memory)) ≡ left ws (count (image card_layout memory))
  -- each of them is a tile of the card
  pub within : (k : ℕ) → k < count (stacked ws (image card_layout memory)) → below ws k < count (image card_layout memory)
  -- and shows that tile's bytes
  pub shows : (k : ℕ) → k < count (stacked ws (image card_layout memory)) → tile_of (stacked ws (image card_layout memory)) k ≡ tile_of (image card_layout memory) (below ws k)
  -- it is sound if that tile's mark is 0
  pub sound : (k : ℕ) → k < count (stacked ws (image card_layout memory)) → slice_index memory (65 * below ws k) ≡ 0 → fault_of (stacked ws (image card_layout memory)) k ≡ None
  -- and else has the fault of that worn tile of the card, whose level is how many windows there are, at most 255
  pub worn : (k : ℕ) → k < count (stacked ws (image card_layout memory)) → (slice_index memory (65 * below ws k) ≢ 0) → fault_of (stacked ws (image card_layout memory)) k ≡ Some (record { cause = 11; tile = below ws k; level = min (length ws) 255 })

-- so it is for any card image and any windows
abbrev pub WindowsStack : Type 0
WindowsStack = (memory : List ℕ) (ws : Windows) → Stack memory ws
