-- The list that the places hold, and what is done with it.
use Rattle.std.specs.Prelude.{ℕ, Bool, false, cond, List, [], ◌∷◌, length, take, ◌==◌, nat_lt, slice_index, slice_index_or, slice_set}
use Rattle.shelves.specs.declared.entry.Entry.{Entry}
use Rattle.shelves.specs.Shelves.{blank, to_front, cleaned}
use Rattle.places.specs.declared.places.Places.{Places}

-- the tiles in the places, front first
abbrev pub list_of : Places → List Entry
list_of p = p.entries.items

-- tile k is in front
abbrev pub front_is : List Entry → ℕ → Bool
front_is [] k = false
front_is (e ∷ es) k = e.tile == k

-- the entry at place p comes to the front, if there is one
abbrev pub moved_to_front : List Entry → ℕ → List Entry
moved_to_front es p = cond (nat_lt p (length es)) (to_front es p) es

-- one in front of the list; of 65 the last leaves
abbrev pub admitted : List Entry → Entry → List Entry
admitted es e = take 64 (e ∷ es)

-- the entry at place p is not changed any more
abbrev pub cleaned_at : List Entry → ℕ → List Entry
cleaned_at es p = slice_set es p (cleaned (slice_index_or es p blank))

-- the bytes of the front tile, or other ones if there is no tile
abbrev pub front_bytes : List Entry → List ℕ → List ℕ
front_bytes [] other = other
front_bytes (e ∷ es) other = e.bytes

-- byte i of the front tile, 0 if there is no tile
abbrev pub front_byte : List Entry → ℕ → ℕ
front_byte [] i = 0
front_byte (e ∷ es) i = slice_index e.bytes i
