-- The commands of a scenario, by their words.
use Rattle.std.specs.Prelude.{ℕ, ◌-◌, cond, List, [], map, Some, None, codes, Option, ◌==◌, nat_le, slice_index, slice_index_or}
use Rattle.std.specs.List.{range_with_len}
use Rattle.std.specs.Borrow.{Bor}
use Rattle.std.specs.Str.{bytes_eq}
use Rattle.commands.specs.declared.command.Command.{Command}
use Rattle.commands.specs.declared.command.Command.TheVariants as command
use Rattle.commands.specs.declared.command.StoreCommand.{StoreCommand}
use Rattle.commands.specs.declared.command.StoreCommand.TheVariants as store_command
use Rattle.commands.specs.Numerals.{numeral}

-- what a line asks of a store; a card has a list of worn tiles
pub data StoreAsked : Type 0 where
  memory : ℕ → StoreAsked
  card : ℕ → List (List ℕ) → StoreAsked
  bits : ℕ → StoreAsked
  window : ℕ → ℕ → StoreAsked
  count_asked : StoreAsked
  top_asked : StoreAsked
  reading : ℕ → StoreAsked
  writing : ℕ → ℕ → StoreAsked
  shelf_asked : StoreAsked
  list_asked : StoreAsked
  fetches_asked : StoreAsked
  settle_asked : StoreAsked
  reading_below : ℕ → StoreAsked

-- what a line asks for
pub data Asked : Type 0 where
  nothing : Asked
  life : Asked
  vehicles : ℕ → ℕ → ℕ → Asked
  plate : ℕ → ℕ → List ℕ → List ℕ → Asked
  row : ℕ → List ℕ → Asked
  sweep : ℕ → Asked
  store : StoreAsked → Asked
  unknown : Asked

abbrev pub store_asked_of : StoreCommand → StoreAsked
store_asked_of (store_command.Memory n) = memory n
store_asked_of (store_command.Card n worn) = card n (map (λ w. w.now) worn.now)
store_asked_of (store_command.Bits n) = bits n
store_asked_of (store_command.Window first tiles) = window first tiles
store_asked_of store_command.Count = count_asked
store_asked_of store_command.Top = top_asked
store_asked_of (store_command.Read k) = reading k
store_asked_of (store_command.Write k v) = writing k v
store_asked_of store_command.Shelf = shelf_asked
store_asked_of store_command.List = list_asked
store_asked_of store_command.Fetches = fetches_asked
store_asked_of store_command.Settle = settle_asked
store_asked_of (store_command.Below k) = reading_below k

-- None: no command
abbrev pub store_asked_if : Option StoreCommand → Asked
store_asked_if (Some c) = store (store_asked_of c)
store_asked_if None = unknown

abbrev pub asked_of : Command → Asked
asked_of command.Nothing = nothing
asked_of command.Life = life
asked_of (command.Vehicles a b c) = vehicles a b c
asked_of (command.Plate o) = plate o.width o.height o.edgex.now o.edgey.now
asked_of (command.Row y digits) = row y digits.now
asked_of (command.Sweep n) = sweep n
asked_of (command.Store c) = store (store_asked_of c)

-- None: no command
abbrev pub asked_if : Option Command → Asked
asked_if (Some c) = asked_of c
asked_if None = unknown

-- a line's words as they are read: the word at each place, empty past the last
abbrev pub word_at : List (Bor (List ℕ)) → ℕ → List ℕ
word_at ws i = slice_index_or (map (λ w. w.now) ws) i []

-- a word that should be a number
abbrev pub given : Option ℕ → (ℕ → Asked) → Asked
given (Some n) k = k n
given None k = unknown

-- a store whose tiles are all sound
abbrev pub plain_store_of : List ℕ → ℕ → Asked
plain_store_of kind n =
    cond (bytes_eq kind (codes "memory")) (store (memory n))
    (cond (bytes_eq kind (codes "bits")) (store (bits n))
    unknown)

-- A command is told by how many words there are and by the word at each place.
module _ (count : ℕ) (word : ℕ → List ℕ) where
  -- rule life · rule vehicles A B C
  abbrev pub rule_of : Asked
  rule_of =
      cond (count == 2) (cond (bytes_eq (word 1) (codes "life")) life unknown)
      (cond (count == 5) (cond (bytes_eq (word 1) (codes "vehicles")) (given (numeral (word 2)) (λ a. given (numeral (word 3)) (λ b. given (numeral (word 4)) (λ c. vehicles a b c)))) unknown)
      unknown)

  -- plate WIDTH HEIGHT EDGEX EDGEY
  abbrev pub plate_of : Asked
  plate_of = cond (count == 5) (given (numeral (word 1)) (λ w. given (numeral (word 2)) (λ h. plate w h (word 3) (word 4)))) unknown

  -- row NUMBER DIGITS
  abbrev pub row_of : Asked
  row_of = cond (count == 3) (given (numeral (word 1)) (λ y. row y (word 2))) unknown

  -- sweep STEPS
  abbrev pub sweep_of : Asked
  sweep_of = cond (count == 2) (given (numeral (word 1)) sweep) unknown

  -- store card TILES WORN ..
  abbrev pub card_of : Asked
  card_of = cond (nat_le 3 count) (given (numeral (word 2)) (λ n. store (card n (map word (range_with_len 3 (count - 3)))))) unknown

  -- store memory TILES · store bits TILES · store card TILES WORN ..
  abbrev pub store_of : Asked
  store_of = cond (bytes_eq (word 1) (codes "card")) card_of (cond (count == 3) (given (numeral (word 2)) (plain_store_of (word 1))) unknown)

  -- window FIRST TILES
  abbrev pub window_of : Asked
  window_of = cond (count == 3) (given (numeral (word 1)) (λ s. given (numeral (word 2)) (λ m. store (window s m)))) unknown

  -- a command that is one word
  abbrev pub alone_of : Asked → Asked
  alone_of a = cond (count == 1) a unknown

  -- read TILE
  abbrev pub read_of : Asked
  read_of = cond (count == 2) (given (numeral (word 1)) (λ k. store (reading k))) unknown

  -- write TILE BYTE
  abbrev pub write_of : Asked
  write_of = cond (count == 3) (given (numeral (word 1)) (λ k. given (numeral (word 2)) (λ v. cond (nat_le v 255) (store (writing k v)) unknown))) unknown

  -- below TILE
  abbrev pub below_of : Asked
  below_of = cond (count == 2) (given (numeral (word 1)) (λ k. store (reading_below k))) unknown

  -- the commands for a shelf
  abbrev pub shelf_verb_of : Asked
  shelf_verb_of =
      cond (bytes_eq (word 0) (codes "shelf")) (alone_of (store shelf_asked))
      (cond (bytes_eq (word 0) (codes "list")) (alone_of (store list_asked))
      (cond (bytes_eq (word 0) (codes "fetches")) (alone_of (store fetches_asked))
      (cond (bytes_eq (word 0) (codes "settle")) (alone_of (store settle_asked))
      (cond (bytes_eq (word 0) (codes "below")) below_of
      unknown))))

  -- the commands for stores
  abbrev pub store_verb_of : Asked
  store_verb_of =
      cond (bytes_eq (word 0) (codes "store")) store_of
      (cond (bytes_eq (word 0) (codes "window")) window_of
      (cond (bytes_eq (word 0) (codes "count")) (alone_of (store count_asked))
      (cond (bytes_eq (word 0) (codes "top")) (alone_of (store top_asked))
      (cond (bytes_eq (word 0) (codes "read")) read_of
      (cond (bytes_eq (word 0) (codes "write")) write_of
      shelf_verb_of)))))

  -- the first word says which command it is
  abbrev pub verb_of : Asked
  verb_of =
      cond (bytes_eq (word 0) (codes "rule")) rule_of
      (cond (bytes_eq (word 0) (codes "plate")) plate_of
      (cond (bytes_eq (word 0) (codes "row")) row_of
      (cond (bytes_eq (word 0) (codes "sweep")) sweep_of
      store_verb_of)))

  -- a line with no word, and one whose first word begins with #, ask for nothing
  abbrev pub command_of : Asked
  command_of = cond (count == 0) nothing (cond (slice_index (word 0) 0 == 35) nothing verb_of)
