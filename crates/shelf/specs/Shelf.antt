-- The shelf of the code, as it means.
use Rattle.std.specs.Prelude.{◌≡◌, ℕ, Bool, cond, List, Ok, Err, Result, nat_lt}
use Rattle.refusals.specs.declared.fault.Fault.{Fault}
use Rattle.stores.specs.Meaning.{Store, Access, Reached, count, above}
use Rattle.shelves.specs.Shelves.{Shelved, accessed, accesses_below}
use Rattle.places.specs.Places.{list_of}
use Rattle.shelf.specs.declared.shelf.Shelf.{Shelf}

-- all that a shelf is
abbrev pub shelved : {S : Type 0} {T : _} → Shelf S T → Shelved
shelved {S} {T} h = record { list = list_of h.places; below = T.meaning h.below; fetches = h.fetches }

-- what a call does: which accesses to the store below it makes, and what it answers and leaves
pub record Did (Reaches Does : Type 0) : Type 0 where
  pub reaches : Reaches
  pub does : Does

-- a call on a shelf: the accesses to the store below are these, in order, and P says what became of the shelf
abbrev pub Does : {S : Type 0} {T : _} → Shelf S T → Shelf S T → (Shelved → List Access) → (Shelved → Shelved → Type 0) → Type 0
Does {S} {T} h h' accesses P = Did (Reached T.steps h.below (accesses (shelved h)) h'.below) (P (shelved h) (shelved h'))

-- what an access makes of a shelf, and through it of the store below
pub record ShelfSteps {S : Type 0} {T : _} (h : Shelf S T) (a : Access) (h' : Shelf S T) : Type 0 where
  pub after : shelved h' ≡ accessed (shelved h) a
  pub below : Reached T.steps h.below (accesses_below (shelved h) a) h'.below

-- a byte above the top is refused if tile k exists
abbrev pub above_refused : Store → ℕ → Bool → Result (Unit {0}) Fault
above_refused b k high = cond high (cond (nat_lt k (count b)) (Err (above k)) (Ok tt)) (Ok tt)
