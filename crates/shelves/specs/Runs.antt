-- Runs of calls on a shelf, of any length, refused ones among them.
use Rattle.std.specs.Prelude.{◌≡◌, ℕ, ◌+◌, ◌≤◌, min, List, [], ◌∷◌, ◌++◌, length, Ok, Err, Result}
use Rattle.refusals.specs.declared.fault.Fault.{Fault}
use Rattle.stores.specs.Meaning.{Store, Lawful, Access, read, write, store_after}
use Rattle.stores.specs.Meaning as access
use Rattle.shelves.specs.Shelves.{Shelved, Kept, store_of, accessed, settled, touch_accesses}
use Rattle.shelves.specs.Touches as touches
use Rattle.shelves.specs.Touches.{tiles_of, different, FewFetches}

-- a call that may change a shelf: a read of a tile or of a byte of it, a write of 64 bytes or of a byte among them, a settle
pub data ShelfCall : Type 0 where
  reading : ℕ → ShelfCall
  writing : ℕ → (bytes : List ℕ) → length bytes ≡ 64 → ShelfCall
  settling : ShelfCall

-- the shelf after a call
abbrev pub called : Shelved → ShelfCall → Shelved
called h (reading k) = accessed h (access.reading k)
called h (writing k bytes wide) = accessed h (access.writing k bytes)
called h settling = settled h

abbrev pub if_accepted : Result (Unit {0}) Fault → ℕ → List ℕ
if_accepted (Ok u) k = k ∷ []
if_accepted (Err f) k = []

-- the tile that a call touches: that of an accepted read or write
abbrev pub touched_by : Shelved → ShelfCall → List ℕ
touched_by h (reading k) = if_accepted (read (store_of h) k) k
touched_by h (writing k bytes wide) = if_accepted (write (store_of h) k bytes) k
touched_by h settling = []

-- the store after a call, as if there were no shelf: only an accepted write changes it
abbrev pub plainly : Store → ShelfCall → Store
plainly s (reading k) = s
plainly s (writing k bytes wide) = store_after (write s k bytes) s k bytes
plainly s settling = s

-- the shelf after a run of calls
abbrev pub ran_calls : Shelved → List ShelfCall → Shelved
ran_calls h [] = h
ran_calls h (c ∷ cs) = ran_calls (called h c) cs

-- the tiles that a run touches, in order
abbrev pub run_touches : Shelved → List ShelfCall → List ℕ
run_touches h [] = []
run_touches h (c ∷ cs) = touched_by h c ++ run_touches (called h c) cs

-- the store after a run of calls, as if there were no shelf
abbrev pub ran_plainly : Store → List ShelfCall → Store
ran_plainly s [] = s
ran_plainly s (c ∷ cs) = ran_plainly (plainly s c) cs

-- what holds of a run of calls from the shelf h
pub record Run (h : Shelved) (cs : List ShelfCall) : Type 0 where
  -- its list stays one of at most 64 different tiles, sound below, each unchanged one as it is below
  pub kept : Kept (ran_calls h cs).below (ran_calls h cs).list
  -- what the shelf means is what the calls leave of a store without a shelf
  pub means : store_of (ran_calls h cs) ≡ ran_plainly (store_of h) cs
  -- and a settle leaves that below
  pub below : (settled (ran_calls h cs)).below.tiles ≡ (ran_plainly (store_of h) cs).tiles
  -- the count of fetches rises by the touches of tiles that are not on the list
  pub fetches : (ran_calls h cs).fetches ≡ min (h.fetches + touches.fetches (tiles_of h.list) (run_touches h cs)) 18446744073709551615
  -- which, if the run touches at most 64 different tiles, are at most as many as these
  pub few : different (run_touches h cs) ≤ 64 → (ran_calls h cs).fetches ≤ h.fetches + different (run_touches h cs)

-- how many of some accesses are reads
abbrev pub reads : List Access → ℕ
reads [] = 0
reads (access.reading k ∷ later) = 1 + reads later
reads (access.writing k bytes ∷ later) = reads later

-- so it is from any list of at most 64 different tiles, over any store
pub record ShelfLaw : Type 0 where
  -- a run of touches of at most 64 different tiles fetches at most as many
  pub few : FewFetches
  -- an accepted touch reads below exactly if it is a fetch
  pub fetches : (h : Shelved) → Lawful h.below → Kept h.below h.list → (k : ℕ) → read (store_of h) k ≡ Ok tt → reads (touch_accesses h k) ≡ touches.fetched (tiles_of h.list) k
  pub runs : (h : Shelved) → Lawful h.below → Kept h.below h.list → h.fetches ≤ 18446744073709551615 → (cs : List ShelfCall) → Run h cs
