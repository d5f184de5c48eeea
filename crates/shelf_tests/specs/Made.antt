-- A shelf as it is made.
use Rattle.std.specs.Prelude.{ℕ, [], slice_set}
use Rattle.stores.specs.Meaning.{Store, writing, tile_of}
use Rattle.shelves.specs.Shelves.{Shelved, store_of, accessed}

-- an empty shelf over the store b
abbrev pub over : Store → Shelved
over b = record { list = []; below = b; fetches = 0 }

-- a shelf after byte v is put at i in tile k: that of a write of the tile with the byte replaced
abbrev pub after_put : Shelved → ℕ → ℕ → ℕ → Shelved
after_put h k i v = accessed h (writing k (slice_set (tile_of (store_of h) k) i v))
