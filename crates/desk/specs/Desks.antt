-- What the commands for stores do: what is said, and the store that is left.
use Rattle.std.specs.Prelude.{◌≡◌, ℕ, ◌*◌, Bool, true, false, cond, List, [], length, replicate, Some, None, Ok, Err, Option, Result, nat_le}
use Rattle.refusals.specs.declared.fault.Fault.{Fault}
use Rattle.stores.specs.Meaning as access
use Rattle.stores.specs.Meaning.{Store, count, tile_of, read, write, store_after}
use Rattle.stores.specs.Layers as layers
use Rattle.stores.specs.Layouts.{image, plain_layout, card_layout, bits_layout}
use Rattle.piles.specs.declared.choice.Pile.{Pile}
use Rattle.piles.specs.Piles.{pile_of, is_windowed}
use Rattle.shelves.specs.declared.entry.Entry.{Entry}
use Rattle.shelves.specs.Shelves.{Shelved, store_of, accessed, settled}
use Rattle.shelf.specs.Shelf.{shelved}
use Rattle.commands.specs.Commands.{StoreAsked, memory, card, bits, window, count_asked, top_asked, reading, writing, shelf_asked, list_asked, fetches_asked, settle_asked, reading_below}
use Rattle.desk.specs.declared.desk.Desk.{Desk}
use Rattle.desk.specs.declared.desk.Stack.{Stack}
use Rattle.desk.specs.declared.desk.Stack.TheVariants as stack
use Rattle.desk.specs.declared.done.DeskDone.{DeskDone}
use Rattle.desk.specs.declared.done.DeskDone.TheVariants as done
use Rattle.desk.specs.declared.trouble.DeskTrouble.{DeskTrouble}
use Rattle.desk.specs.declared.trouble.DeskTrouble.TheVariants as trouble
use Rattle.desk.specs.Cards.{all_fit, marked}

-- no store yet, a store, a store seen through a window, or a shelf over a store
pub data DeskState : Type 0 where
  empty : DeskState
  plain : Store → DeskState
  windowed : Store → DeskState
  shelving : Shelved → DeskState

-- a store as it is seen, through a window or not
abbrev pub seen : Bool → Store → DeskState
seen true s = windowed s
seen false s = plain s

abbrev pub stack_of : Stack → DeskState
stack_of (stack.Bare p) = seen (is_windowed p) (pile_of p)
stack_of (stack.Shelved h) = shelving (shelved h)

abbrev pub seen_if : Option Stack → DeskState
seen_if None = empty
seen_if (Some s) = stack_of s

abbrev pub desk_of : Desk → DeskState
desk_of d = seen_if d.store

-- the tiles of the shelf, and none if there is no shelf
abbrev pub list_in : DeskState → List Entry
list_in empty = []
list_in (plain b) = []
list_in (windowed b) = []
list_in (shelving h) = h.list

-- what is said of a command
pub data DeskSaid : Type 0 where
  memory_made : ℕ → DeskSaid
  card_made : ℕ → ℕ → DeskSaid
  bits_made : ℕ → DeskSaid
  window_made : ℕ → ℕ → DeskSaid
  counted : ℕ → DeskSaid
  topped : ℕ → DeskSaid
  tile : ℕ → List ℕ → DeskSaid
  tile_written : ℕ → DeskSaid
  shelf_made : DeskSaid
  listed : DeskSaid
  fetched : ℕ → DeskSaid
  all_settled : DeskSaid
  tile_below : ℕ → List ℕ → DeskSaid
  faulted : Fault → DeskSaid
  no_store : DeskSaid
  window_twice : DeskSaid
  no_shelf : DeskSaid
  shelf_twice : DeskSaid
  too_many : DeskSaid
  bad_worn : DeskSaid

abbrev pub done_said : DeskDone → DeskSaid
done_said (done.MemoryMade n) = memory_made n
done_said (done.CardMade n worn) = card_made n worn
done_said (done.BitsMade n) = bits_made n
done_said (done.WindowMade s m) = window_made s m
done_said (done.Count n) = counted n
done_said (done.Top n) = topped n
done_said (done.Tile k bytes) = tile k bytes
done_said (done.Written k) = tile_written k
done_said done.ShelfMade = shelf_made
done_said done.List = listed
done_said (done.Fetches n) = fetched n
done_said done.Settled = all_settled
done_said (done.Below k bytes) = tile_below k bytes

-- None: there was not enough memory
abbrev pub desk_said_of : Result DeskDone DeskTrouble → Option DeskSaid
desk_said_of (Ok d) = Some (done_said d)
desk_said_of (Err (trouble.Faulted f)) = Some (faulted f)
desk_said_of (Err trouble.NoStore) = Some no_store
desk_said_of (Err trouble.WindowTwice) = Some window_twice
desk_said_of (Err trouble.NoShelf) = Some no_shelf
desk_said_of (Err trouble.ShelfTwice) = Some shelf_twice
desk_said_of (Err trouble.TooManyTiles) = Some too_many
desk_said_of (Err trouble.BadWorn) = Some bad_worn
desk_said_of (Err trouble.NoMemory) = None

-- what a command says, and what it leaves
pub record DeskOutcome : Type 0 where
  pub said : DeskSaid
  pub after : DeskState

abbrev pub desk_outcome : DeskSaid → DeskState → DeskOutcome
desk_outcome s d = record { said = s; after = d }

-- a new store of n tiles, of whose bytes all are 0; a store has at most 1,048,576 tiles
abbrev pub making : DeskState → ℕ → DeskSaid → Store → DeskOutcome
making d n said s = cond (nat_le n 1048576) (desk_outcome said (plain s)) (desk_outcome too_many d)

-- a window over a store that has none yet
abbrev pub windowing : DeskState → ℕ → ℕ → DeskOutcome
windowing empty s m = desk_outcome no_store empty
windowing (plain b) s m = desk_outcome (window_made s m) (windowed (layers.window s m b))
windowing (windowed b) s m = desk_outcome window_twice (windowed b)
windowing (shelving h) s m = desk_outcome shelf_twice (shelving h)

-- an empty shelf over the store
abbrev pub shelved_over : Store → DeskState
shelved_over b = shelving (record { list = []; below = b; fetches = 0 })

-- a shelf over a store that has none yet
abbrev pub putting_shelf : DeskState → DeskOutcome
putting_shelf empty = desk_outcome no_store empty
putting_shelf (plain b) = desk_outcome shelf_made (shelved_over b)
putting_shelf (windowed b) = desk_outcome shelf_made (shelved_over b)
putting_shelf (shelving h) = desk_outcome shelf_twice (shelving h)

-- a call on the shelf, if there is one
abbrev pub on_shelf : DeskState → (Shelved → DeskSaid) → (Shelved → Shelved) → DeskOutcome
on_shelf empty said after = desk_outcome no_store empty
on_shelf (plain b) said after = desk_outcome no_shelf (plain b)
on_shelf (windowed b) said after = desk_outcome no_shelf (windowed b)
on_shelf (shelving h) said after = desk_outcome (said h) (shelving (after h))

-- what a read of the store below the shelf says
abbrev pub below_said : Store → ℕ → Result (Unit {0}) Fault → DeskSaid
below_said s k (Ok u) = tile_below k (tile_of s k)
below_said s k (Err f) = faulted f

-- what a read says, and what a write says
abbrev pub read_said : Store → ℕ → Result (Unit {0}) Fault → DeskSaid
read_said s k (Ok u) = tile k (tile_of s k)
read_said s k (Err f) = faulted f

abbrev pub write_said : ℕ → Result (Unit {0}) Fault → DeskSaid
write_said k (Ok u) = tile_written k
write_said k (Err f) = faulted f

-- a call said this and left that store
pub record Called (said : Option DeskSaid) (after : Store) (defined : DeskSaid) (left : Store) : Type 0 where
  pub says : said ≡ Some defined
  pub leaves : after ≡ left

-- a call on a pile said this and left that store, and a window where there was one
pub record CalledOn (said : Option DeskSaid) (before after : Pile) (defined : DeskSaid) (left : Store) : Type 0 where
  pub called : Called said (pile_of after) defined left
  pub kind : is_windowed after ≡ is_windowed before

-- a call on the shelf said this and left that shelf
pub record ShelfCalled (said : Option DeskSaid) (after : Shelved) (defined : DeskSaid) (left : Shelved) : Type 0 where
  pub says : said ≡ Some defined
  pub leaves : after ≡ left

-- a call on the store, if there is one; through a shelf it leaves what the access to the shelf leaves
abbrev pub on_store : DeskState → (Store → DeskSaid) → (Store → Store) → (Shelved → Shelved) → DeskOutcome
on_store empty said after through = desk_outcome no_store empty
on_store (plain s) said after through = desk_outcome (said s) (plain (after s))
on_store (windowed s) said after through = desk_outcome (said s) (windowed (after s))
on_store (shelving h) said after through = desk_outcome (said (store_of h)) (shelving (through h))

-- what a command does
abbrev pub desk_obeyed : DeskState → StoreAsked → DeskOutcome
desk_obeyed d (memory n) = making d n (memory_made n) (image plain_layout (replicate (64 * n) 0))
desk_obeyed d (card n worn) = cond (nat_le n 1048576) (cond (all_fit n worn) (desk_outcome (card_made n (length worn)) (plain (image card_layout (marked n (replicate (65 * n) 0) worn)))) (desk_outcome bad_worn d)) (desk_outcome too_many d)
desk_obeyed d (bits n) = making d n (bits_made n) (image bits_layout (replicate (8 * n) 0))
desk_obeyed d (window s m) = windowing d s m
desk_obeyed d count_asked = on_store d (λ s. counted (count s)) (λ s. s) (λ h. h)
desk_obeyed d top_asked = on_store d (λ s. topped s.top) (λ s. s) (λ h. h)
desk_obeyed d (reading k) = on_store d (λ s. read_said s k (read s k)) (λ s. s) (λ h. accessed h (access.reading k))
desk_obeyed d (writing k v) =
    on_store d (λ s. write_said k (write s k (replicate 64 v))) (λ s. store_after (write s k (replicate 64 v)) s k (replicate 64 v)) (λ h. accessed h (access.writing k (replicate 64 v)))
desk_obeyed d shelf_asked = putting_shelf d
desk_obeyed d list_asked = on_shelf d (λ h. listed) (λ h. h)
desk_obeyed d fetches_asked = on_shelf d (λ h. fetched h.fetches) (λ h. h)
desk_obeyed d settle_asked = on_shelf d (λ h. all_settled) settled
desk_obeyed d (reading_below k) = on_shelf d (λ h. below_said h.below k (read h.below k)) (λ h. h)

-- only a new store takes memory
abbrev pub store_takes_memory : StoreAsked → Bool
store_takes_memory (memory n) = true
store_takes_memory (card n worn) = true
store_takes_memory (bits n) = true
store_takes_memory (window s m) = false
store_takes_memory count_asked = false
store_takes_memory top_asked = false
store_takes_memory (reading k) = false
store_takes_memory (writing k v) = false
store_takes_memory shelf_asked = false
store_takes_memory list_asked = false
store_takes_memory fetches_asked = false
store_takes_memory settle_asked = false
store_takes_memory (reading_below k) = false

-- the reply and the store after it are the defined ones; only what takes memory can want it, and then nothing has changed
abbrev pub DeskObeys : Bool → Option DeskSaid → DeskState → DeskState → DeskOutcome → Type 0
DeskObeys takes (Some said) before after defined = desk_outcome said after ≡ defined
DeskObeys takes None before after defined = (takes ≡ true) × (after ≡ before)
