-- How tiles lie in raw memory.
use Rattle.std.specs.Prelude.{◌≡◌, ℕ, ◌+◌, ◌≤◌, ◌*◌, cond, List, map, length, Some, None, Ok, Err, Option, Result, ◌==◌, slice_index}
use Rattle.std.specs.List.{range_with_len}
use Rattle.refusals.specs.declared.fault.Fault.{Fault}
use Rattle.stores.specs.Meaning.{Store, worn}
use Rattle.stores.specs.Packing.{unpacked, packed}
use Rattle.stores.specs.Raw.{whole_tiles, part, overwritten}

-- how the tiles of a store lie in its memory
pub record Layout : Type 0 where
  -- the highest code
  pub top : ℕ
  -- the bytes of memory that a tile takes
  pub size : ℕ
  -- how many of these stand before those that hold its codes
  pub skip : ℕ
  -- how many hold its codes
  pub width : ℕ
  -- the codes that such bytes hold
  pub codes : List ℕ → List ℕ
  -- the bytes that hold such codes
  pub bytes : List ℕ → List ℕ
  -- the fault of tile k, by the first byte that it takes
  pub fault : ℕ → ℕ → Option Fault

-- the numbers that a program has of a layout, which are the layout's: a tile is skip bytes and then those that hold its codes
pub record Told (l : Layout) (size skip top : ℕ) : Type 0 where
  pub size_told : size ≡ l.size
  pub skip_told : skip ≡ l.skip
  pub top_told : top ≡ l.top
  pub rest : skip + l.width ≡ size
  pub some : 1 ≤ l.size

-- where the codes of tile k begin
abbrev pub start : Layout → ℕ → ℕ
start l k = l.size * k + l.skip

-- the codes of tile k
abbrev pub tile_in : Layout → List ℕ → ℕ → List ℕ
tile_in l memory k = l.codes (part memory (start l k) l.width)

-- the fault of tile k
abbrev pub fault_in : Layout → List ℕ → ℕ → Option Fault
fault_in l memory k = l.fault k (slice_index memory (l.size * k))

-- how many tiles lie in the memory
abbrev pub tiles_in : Layout → List ℕ → ℕ
tiles_in l memory = whole_tiles l.size (length memory)

-- the store that lies in the memory
abbrev pub image : Layout → List ℕ → Store
image l memory = record { top = l.top; tiles = map (tile_in l memory) (range_with_len 0 (tiles_in l memory)); faults = map (fault_in l memory) (range_with_len 0 (tiles_in l memory)) }

-- the memory after a write of codes to tile k: the bytes that hold them are replaced, and all others stay; a refused write leaves all
abbrev pub memory_after : Layout → Result (Unit {0}) Fault → List ℕ → ℕ → List ℕ → List ℕ
memory_after l (Ok u) memory k codes = overwritten memory (start l k) (l.bytes codes)
memory_after l (Err f) memory k codes = memory

-- plain memory: a tile is 64 bytes, and is sound
abbrev pub plain_layout : Layout
plain_layout = record { top = 255; size = 64; skip = 0; width = 64; codes = λ bytes. bytes; bytes = λ codes. codes; fault = λ k first. None }

-- a card image: a tile is its mark and then 64 bytes, and is worn if its mark is not 0
abbrev pub card_layout : Layout
card_layout = record { top = 255; size = 65; skip = 1; width = 64; codes = λ bytes. bytes; bytes = λ codes. codes; fault = λ k mark. cond (mark == 0) None (Some (worn k)) }

-- bits: a tile is 8 bytes, a bit for each code, and is sound
abbrev pub bits_layout : Layout
bits_layout = record { top = 1; size = 8; skip = 0; width = 8; codes = unpacked; bytes = packed; fault = λ k first. None }
