use Rattle.std.proofs.Common.{◌≡◌, take}
use Rattle.stores.specs.Meaning.{Reached}
use Rattle.shelves.specs.Shelves.{Kept, written_back, writes_back}
use Rattle.shelf.proofs.shelf.touch.write_all_back.Given as goal

-- the first entries are written back
abbrev pub invariant-loop-entry : goal.invariant-loop-entry
invariant-loop-entry g l =
    Kept (g.S.TileStore.meaning l.initial.below) l.entries
    → Reached g.S.TileStore.steps l.initial.below (writes_back (take l.entry-index l.entries)) l.below
    × (g.S.TileStore.meaning l.below ≡ written_back (g.S.TileStore.meaning l.initial.below) (take l.entry-index l.entries))
