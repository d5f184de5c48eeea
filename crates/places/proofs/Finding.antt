-- The first entry of a tile, as a search through the list finds it.
use Rattle.std.proofs.Common.{◌≡◌, ℕ, ◌<◌, length, Some, None, List, Option, sym, arith}
use Rattle.std.specs.List.{AllWithin, HoldsAt}
use Rattle.std.specs.Option.{MatchOption}
use Rattle.shelves.specs.declared.entry.Entry.{Entry}
use Rattle.shelves.specs.Shelves.{blank, place_of}
use Rattle.shelves.proofs.Lists.{place_none, place_first}

pub found : (es : List Entry) (k : ℕ) (r : Option ℕ)
    → MatchOption r (AllWithin (λ (e : Entry). e.tile ≡ k → ⊥) es 0 (length es)) (λ i. (i < length es) × HoldsAt (λ (e : Entry). e.tile ≡ k) es i × AllWithin (λ (e : Entry). e.tile ≡ k → ⊥) es 0 i)
    → r ≡ place_of es k
found es k None h = sym (place_none es k (λ j l. h j blank (omega arith) l))
found es k (Some p) h = sym (place_first es k p h.0 (λ j l. h.2 j blank (omega arith) l) (h.1 blank))
