-- What is printed for a command for stores.
use Rattle.std.specs.Prelude.{ℕ, ◌-◌, ◌^◌, Bool, true, false, List, [], ◌++◌, codes, decimal}
use Rattle.std.specs.List.{flat_map}
use Rattle.std.specs.Fmt.{padded_integral, format_spec, digits}
use Rattle.shelves.specs.declared.entry.Entry.{Entry}
use Rattle.refusals.specs.Written.{written_fault}
use Rattle.desk.specs.declared.done.DeskDone.{DeskDone}
use Rattle.desk.specs.declared.done.DeskDone.TheVariants as done
use Rattle.desk.specs.declared.trouble.DeskTrouble.{DeskTrouble}
use Rattle.desk.specs.declared.trouble.DeskTrouble.TheVariants as trouble

-- a byte in two lower-case hexadecimal digits, as the library says what `{:02x}` writes
abbrev pub byte_text : ℕ → List ℕ
byte_text b = padded_integral (format_spec 32 0 4 2 (2 ^ 64 - 1)) false [] (digits 16 false b)

-- the bytes of a tile
abbrev pub bytes_text : List ℕ → List ℕ
bytes_text bytes = flat_map byte_text bytes

-- what was done
abbrev pub done_text : DeskDone → List ℕ
done_text (done.MemoryMade n) = codes "store memory: " ++ (decimal n ++ codes " tiles")
done_text (done.CardMade n worn) = codes "store card: " ++ (decimal n ++ (codes " tiles, " ++ (decimal worn ++ codes " named as worn")))
done_text (done.BitsMade n) = codes "store bits: " ++ (decimal n ++ codes " tiles")
done_text (done.WindowMade s m) = codes "window: " ++ (decimal m ++ (codes " tiles from tile " ++ (decimal s ++ codes " on")))
done_text (done.Count n) = codes "count " ++ decimal n
done_text (done.Top n) = codes "top " ++ decimal n
done_text (done.Tile k bytes) = codes "tile " ++ (decimal k ++ (codes " " ++ bytes_text bytes))
done_text (done.Written k) = codes "written " ++ decimal k
done_text done.ShelfMade = codes "shelf: 64 places"
done_text done.List = codes "list"
done_text (done.Fetches n) = codes "fetches " ++ decimal n
done_text done.Settled = codes "settled"
done_text (done.Below k bytes) = codes "below " ++ (decimal k ++ (codes " " ++ bytes_text bytes))

-- why it was not done
abbrev pub trouble_text : DeskTrouble → List ℕ
trouble_text (trouble.Faulted f) = codes "fault " ++ written_fault f
trouble_text trouble.NoStore = codes "no store yet"
trouble_text trouble.WindowTwice = codes "there is a window already"
trouble_text trouble.NoShelf = codes "no shelf yet"
trouble_text trouble.ShelfTwice = codes "there is a shelf already"
trouble_text trouble.TooManyTiles = codes "a store has at most 1048576 tiles"
trouble_text trouble.BadWorn = codes "a worn tile is a number below the count"
trouble_text trouble.NoMemory = codes "not enough memory"

-- the mark of a changed tile
abbrev pub mark_text : Bool → List ℕ
mark_text true = codes "*"
mark_text false = codes ""

-- the tiles of a shelf, front first
abbrev pub tile_text : Entry → List ℕ
tile_text e = codes " " ++ (decimal e.tile ++ mark_text e.changed)

abbrev pub tiles_text : List Entry → List ℕ
tiles_text es = flat_map tile_text es
