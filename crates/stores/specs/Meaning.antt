-- What a store is: one meaning for every store, and what its four calls answer and leave.
use Rattle.std.specs.Prelude.{◌≡◌, ℕ, ◌<◌, ◌≤◌, Bool, cond, List, [], ◌∷◌, length, Some, None, Ok, Err, Option, Result, nat_lt, slice_index, slice_index_or, slice_set}
use Rattle.std.specs.List.{list_any}
use Rattle.refusals.specs.declared.fault.Fault.{Fault}

-- a store, to whoever calls it
pub record Store : Type 0 where
  -- the highest byte that a tile may hold
  pub top : ℕ
  -- the bytes of each tile, tile 0 first
  pub tiles : List (List ℕ)
  -- for each tile its fault, or None if the tile is sound
  pub faults : List (Option Fault)

-- how many tiles there are
abbrev pub count : Store → ℕ
count s = length s.tiles

-- the bytes of tile k
abbrev pub tile_of : Store → ℕ → List ℕ
tile_of s k = slice_index_or s.tiles k []

-- the fault of tile k, or None if it is sound
abbrev pub fault_of : Store → ℕ → Option Fault
fault_of s k = slice_index_or s.faults k None

-- what every store keeps
pub record Lawful (s : Store) : Type 0 where
  -- a tile has 64 bytes
  pub wide : (k : ℕ) → k < count s → length (tile_of s k) ≡ 64
  -- and none of them is above the top
  pub low : (k i : ℕ) → slice_index (tile_of s k) i ≤ s.top
  -- the top is a byte
  pub byte : s.top ≤ 255
  -- there are at most 1,048,576 tiles
  pub few : count s ≤ 1048576
  -- each of them is sound or has a fault
  pub faulted : length s.faults ≡ count s

-- a refused tile number, at or past the count
abbrev pub past : ℕ → Fault
past k = record { cause = 10; tile = k; level = 0 }

-- the fault of a worn tile
abbrev pub worn : ℕ → Fault
worn k = record { cause = 11; tile = k; level = 0 }

-- refused bytes, one of them above the top
abbrev pub above : ℕ → Fault
above k = record { cause = 12; tile = k; level = 0 }

-- a sound tile is accepted, any other refused with its own fault
abbrev pub unless_fault : Option Fault → Result (Unit {0}) Fault
unless_fault None = Ok tt
unless_fault (Some f) = Err f

-- some byte is above the top
abbrev pub any_above : ℕ → List ℕ → Bool
any_above top bytes = list_any (λ b. nat_lt top b) bytes

-- what read of tile k answers: a number at or past the count is refused, then a tile that is not sound
abbrev pub read : Store → ℕ → Result (Unit {0}) Fault
read s k = cond (nat_lt k (count s)) (unless_fault (fault_of s k)) (Err (past k))

-- what write of tile k answers: a number at or past the count is refused, then a byte above the top, then a tile that is not sound
abbrev pub write : Store → ℕ → List ℕ → Result (Unit {0}) Fault
write s k bytes = cond (nat_lt k (count s)) (cond (any_above s.top bytes) (Err (above k)) (unless_fault (fault_of s k))) (Err (past k))

-- the buffer after a read: the tile's bytes, or as it was if the read was refused
abbrev pub buffer_after : Result (Unit {0}) Fault → List ℕ → List ℕ → List ℕ
buffer_after (Ok u) tile out = tile
buffer_after (Err f) tile out = out

-- the store with other bytes in tile k
abbrev pub written : Store → ℕ → List ℕ → Store
written s k bytes = record { top = s.top; tiles = slice_set s.tiles k bytes; faults = s.faults }

-- the store after a write: tile k replaced, or as it was if the write was refused
abbrev pub store_after : Result (Unit {0}) Fault → Store → ℕ → List ℕ → Store
store_after (Ok u) s k bytes = written s k bytes
store_after (Err f) s k bytes = s

-- read of tile k of the store s into a buffer that held out: its answer r, the buffer out' and the store s' after it
pub record ReadAs (s : Store) (k : ℕ) (out : List ℕ) (r : Result (Unit {0}) Fault) (out' : List ℕ) (s' : Store) : Type 0 where
  -- the one answer
  pub answer : r ≡ read s k
  -- the buffer holds the tile if the read was accepted, and else what it held
  pub buffer : out' ≡ buffer_after r (tile_of s k) out
  -- nothing of the store has changed
  pub same : s' ≡ s

-- write of bytes to tile k of the store s: its answer r and the store s' after it
pub record WrittenAs (s : Store) (k : ℕ) (bytes : List ℕ) (r : Result (Unit {0}) Fault) (s' : Store) : Type 0 where
  -- the one answer
  pub answer : r ≡ write s k bytes
  -- tile k has these bytes if the write was accepted, and nothing else has changed
  pub after : s' ≡ store_after r s k bytes

-- an access to the tiles of a store
pub data Access : Type 0 where
  reading : ℕ → Access
  writing : ℕ → List ℕ → Access

-- accesses one after the other take the value s to s', where steps tells what an access makes of a value
abbrev pub Reached : {S : Type 0} → (S → Access → S → Type 0) → S → List Access → S → Type 0
Reached {S} steps s [] s' = s' ≡ s
Reached {S} steps s (a ∷ later) s' = (m : S) × steps s a m × Reached steps m later s'
