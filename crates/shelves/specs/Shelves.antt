-- A shelf: a list of tiles by last use, front first, over the store below; what its calls answer and leave.
use Rattle.std.specs.Prelude.{◌≡◌, ℕ, zero, suc, ◌+◌, ◌<◌, ◌≤◌, min, true, false, cond, List, [], ◌∷◌, ◌++◌, map, length, get_or, take, drop, Some, None, Ok, Err, Option, Result, ◌==◌, nat_lt, slice_index, slice_index_or, slice_set}
use Rattle.std.specs.List.{range_with_len, slice_get}
use Rattle.refusals.specs.declared.fault.Fault.{Fault}
use Rattle.stores.specs.Meaning.{Store, ReadAs, Access, reading, writing, count, tile_of, fault_of, written, any_above, read, write, buffer_after, store_after}
use Rattle.stores.specs.Layers.{raised}
use Rattle.shelves.specs.declared.entry.Entry.{Entry}

-- all that a shelf is
pub record Shelved : Type 0 where
  -- its tiles by last use, front first
  pub list : List Entry
  -- the store below
  pub below : Store
  -- how many tiles it has fetched
  pub fetches : ℕ

-- no tile, where a list has none
abbrev pub blank : Entry
blank = record { tile = 0; changed = false; bytes = [] }

-- tile k as it comes from below
abbrev pub clean : ℕ → List ℕ → Entry
clean k bytes = record { tile = k; changed = false; bytes = bytes }

-- the entry at place p, if the list has that place
abbrev pub entry_at : List Entry → ℕ → Option Entry
entry_at es p = slice_get es p

abbrev pub later : Option ℕ → Option ℕ
later None = None
later (Some p) = Some (p + 1)

-- the place of tile k, if it is on the list
abbrev pub place_of : List Entry → ℕ → Option ℕ
place_of [] k = None
place_of (e ∷ es) k = cond (e.tile == k) (Some 0) (later (place_of es k))

-- the entry at place p comes to the front
abbrev pub to_front : List Entry → ℕ → List Entry
to_front es p = slice_index_or es p blank ∷ (take p es ++ drop (suc p) es)

-- the store b after the changed ones of es are written to it, first to last
abbrev pub written_back : Store → List Entry → Store
written_back b [] = b
written_back b (e ∷ es) = written_back (cond e.changed (written b e.tile e.bytes) b) es

-- one fetch more; the count stays at the greatest number of 64 bits
abbrev pub counted : ℕ → ℕ
counted n = min (n + 1) 18446744073709551615

-- a fetch of tile k: it comes from below to the front; if 64 were there, the last leaves and is written below if it was changed
abbrev pub fetched_in : Shelved → ℕ → Shelved
fetched_in h k = record {
  list = clean k (tile_of h.below k) ∷ take 63 h.list;
  below = written_back h.below (drop 63 h.list);
  fetches = counted h.fetches;
}

abbrev pub touched_at : Option ℕ → Shelved → ℕ → Shelved
touched_at None h k = fetched_in h k
touched_at (Some p) h k = record { list = to_front h.list p; below = h.below; fetches = h.fetches }

-- a touch of tile k: a tile on the shelf moves to the front, any other is fetched
abbrev pub touched : Shelved → ℕ → Shelved
touched h k = touched_at (place_of h.list k) h k

-- a refused touch moves nothing and is no fetch
abbrev pub touched_if : Result (Unit {0}) Fault → Shelved → ℕ → Shelved
touched_if (Ok u) h k = touched h k
touched_if (Err f) h k = h

abbrev pub shown_at : Option ℕ → List Entry → Store → ℕ → List ℕ
shown_at None es b j = tile_of b j
shown_at (Some p) es b j = (get_or es p blank).bytes

-- the bytes of tile j: the shelf's, or else those below
abbrev pub shown : List Entry → Store → ℕ → List ℕ
shown es b j = shown_at (place_of es j) es b j

-- the store below with the bytes of the list over it; an unsound tile's fault is one level higher
abbrev pub shelf_store : List Entry → Store → Store
shelf_store es b = record { top = b.top; tiles = map (shown es b) (range_with_len 0 (count b)); faults = map raised b.faults }

-- what a shelf means
abbrev pub store_of : Shelved → Store
store_of h = shelf_store h.list h.below

-- what a shelf keeps of each entry
pub record Good (b : Store) (e : Entry) : Type 0 where
  -- it is a tile of the store below, and sound there
  pub within : e.tile < count b
  pub sound : fault_of b e.tile ≡ None
  -- it has 64 bytes, none above the top
  pub wide : length e.bytes ≡ 64
  pub low : (i : ℕ) → slice_index e.bytes i ≤ b.top
  -- if it is not changed, they are those below
  pub same : e.changed ≡ false → e.bytes ≡ tile_of b e.tile

-- what a shelf keeps of its list: at most 64 tiles, all different
pub record Kept (b : Store) (es : List Entry) : Type 0 where
  pub few : length es ≤ 64
  pub good : (i : ℕ) → i < length es → Good b (slice_index_or es i blank)
  pub apart : (i j : ℕ) → i < length es → j < length es → (get_or es i blank).tile ≡ (get_or es j blank).tile → i ≡ j

-- a touch of tile k: its answer r and the shelf h' after it
pub record TouchedAs (h : Shelved) (k : ℕ) (r : Result (Unit {0}) Fault) (h' : Shelved) : Type 0 where
  -- what a read answers
  pub answer : r ≡ read (store_of h) k
  pub after : h' ≡ touched_if r h k
  -- no touch changes what the shelf means
  pub same : store_of h' ≡ store_of h

-- a read of tile k into a buffer that held out
pub record TileRead (h : Shelved) (k : ℕ) (out : List ℕ) (r : Result (Unit {0}) Fault) (out' : List ℕ) (h' : Shelved) : Type 0 where
  pub touches : TouchedAs h k r h'
  -- the buffer holds the tile if the read was accepted, and else what it held
  pub buffer : out' ≡ buffer_after r (tile_of (store_of h) k) out

-- the byte, if the touch was accepted
abbrev pub byte_if : Result (Unit {0}) Fault → ℕ → Result ℕ Fault
byte_if (Ok u) v = Ok v
byte_if (Err f) v = Err f

-- byte i of tile k: the touch of a read of that tile, and the byte that it shows
pub record ByteRead (h : Shelved) (k i : ℕ) (r : Result ℕ Fault) (h' : Shelved) : Type 0 where
  pub answer : r ≡ byte_if (read (store_of h) k) (slice_index (tile_of (store_of h) k) i)
  pub touches : TouchedAs h k (read (store_of h) k) h'

-- the front tile with other bytes, which changes it
abbrev pub over_front : List Entry → List ℕ → List Entry
over_front [] bytes = []
over_front (e ∷ es) bytes = record { tile = e.tile; changed = true; bytes = bytes } ∷ es

-- the front tile with one byte replaced, which changes it
abbrev pub with_byte : List Entry → ℕ → ℕ → List Entry
with_byte [] i v = []
with_byte (e ∷ es) i v = record { tile = e.tile; changed = true; bytes = slice_set e.bytes i v } ∷ es

-- a write of tile k, if it is accepted: a touch, and then other bytes in front
abbrev pub wrote_if : Result (Unit {0}) Fault → Shelved → ℕ → List ℕ → Shelved
wrote_if (Ok u) h k bytes = record { list = over_front (touched h k).list bytes; below = (touched h k).below; fetches = (touched h k).fetches }
wrote_if (Err f) h k bytes = h

-- a write of bytes to tile k
pub record TileWritten (h : Shelved) (k : ℕ) (bytes : List ℕ) (r : Result (Unit {0}) Fault) (h' : Shelved) : Type 0 where
  pub answer : r ≡ write (store_of h) k bytes
  pub after : h' ≡ wrote_if r h k bytes
  -- if it was accepted, tile k of what the shelf means has these bytes, and nothing else of it has changed
  pub means : store_of h' ≡ store_after r (store_of h) k bytes

-- byte v put at i in tile k: a write of the tile with that byte replaced
abbrev pub BytePut : Shelved → ℕ → ℕ → ℕ → Result (Unit {0}) Fault → Shelved → Type 0
BytePut h k i v r h' = TileWritten h k (slice_set (tile_of (store_of h) k) i v) r h'

-- an entry that is not changed any more
abbrev pub cleaned : Entry → Entry
cleaned e = record { tile = e.tile; changed = false; bytes = e.bytes }

-- a settle: the changed tiles are written below, front first; then none is changed
abbrev pub settled : Shelved → Shelved
settled h = record { list = map cleaned h.list; below = written_back h.below h.list; fetches = h.fetches }

-- a settle leaves below just what the shelf means, and changes no byte as seen from above
pub record SettledAs (h h' : Shelved) : Type 0 where
  pub after : h' ≡ settled h
  pub below : h'.below.tiles ≡ (store_of h).tiles
  pub same : store_of h' ≡ store_of h

-- a read of tile k of the store below, which touches nothing of the shelf
pub record BelowRead (h : Shelved) (k : ℕ) (out : List ℕ) (r : Result (Unit {0}) Fault) (out' : List ℕ) (h' : Shelved) : Type 0 where
  pub reads : ReadAs h.below k out r out' h.below
  pub same : h' ≡ h

-- the count of fetches begins anew, and nothing else changes
abbrev pub recounted : Shelved → Shelved
recounted h = record { list = h.list; below = h.below; fetches = 0 }

-- the shelf after an access to it
abbrev pub accessed : Shelved → Access → Shelved
accessed h (reading k) = touched_if (read (store_of h) k) h k
accessed h (writing k bytes) = wrote_if (write (store_of h) k bytes) h k bytes

-- Which accesses to the store below a shelf makes, and in which order.

-- the writes of the changed ones of es, first to last
abbrev pub writes_back : List Entry → List Access
writes_back [] = []
writes_back (e ∷ es) = cond e.changed (writing e.tile e.bytes ∷ writes_back es) (writes_back es)

-- a fetch reads tile k and, if that was accepted, writes the one that leaves if it was changed
abbrev pub fetch_accesses : Result (Unit {0}) Fault → Shelved → ℕ → List Access
fetch_accesses (Ok u) h k = reading k ∷ writes_back (drop 63 h.list)
fetch_accesses (Err f) h k = reading k ∷ []

abbrev pub touch_accesses_at : Option ℕ → Shelved → ℕ → List Access
touch_accesses_at None h k = cond (nat_lt k (count h.below)) (fetch_accesses (read h.below k) h k) []
touch_accesses_at (Some p) h k = []

-- a touch of a tile on the shelf, or of one past the count, makes none
abbrev pub touch_accesses : Shelved → ℕ → List Access
touch_accesses h k = touch_accesses_at (place_of h.list k) h k

-- a write makes those of a touch, and none if a byte is above the top
abbrev pub write_accesses : Shelved → ℕ → List ℕ → List Access
write_accesses h k bytes = cond (any_above h.below.top bytes) [] (touch_accesses h k)

-- those of an access to the shelf
abbrev pub accesses_below : Shelved → Access → List Access
accesses_below h (reading k) = touch_accesses h k
accesses_below h (writing k bytes) = write_accesses h k bytes
