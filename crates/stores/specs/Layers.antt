-- Layers over a store: faults on their way up, and windows.
use Rattle.std.specs.Prelude.{ℕ, ◌+◌, min, cond, List, [], ◌∷◌, map, take, drop, Some, None, Ok, Err, Option, Result, nat_lt}
use Rattle.refusals.specs.declared.fault.Fault.{Fault}
use Rattle.stores.specs.Meaning.{Store, Access, reading, writing, count, any_above}

-- a fault one layer further up: its level is 1 more, at most 255, and the rest as it was
abbrev pub raise : Fault → Fault
raise f = record { cause = f.cause; tile = f.tile; level = min (f.level + 1) 255 }

-- the fault of a tile as a layer above shows it
abbrev pub raised : Option Fault → Option Fault
raised None = None
raised (Some f) = Some (raise f)

-- the answer of the store below as a layer above passes it on
abbrev pub passed_on : Result (Unit {0}) Fault → Result (Unit {0}) Fault
passed_on (Ok u) = Ok u
passed_on (Err f) = Err (raise f)

-- a window over the store b: m tiles from tile s on, or as many as exist; its top is that of b
abbrev pub window : ℕ → ℕ → Store → Store
window s m b = record { top = b.top; tiles = take m (drop s b.tiles); faults = map raised (take m (drop s b.faults)) }

-- the accesses to the store below that an access to a window makes: none if the window refuses it by itself, else the one to the tile that it shows
abbrev pub accesses : ℕ → ℕ → Store → Access → List Access
accesses s m b (reading k) = cond (nat_lt k (count (window s m b))) (reading (s + k) ∷ []) []
accesses s m b (writing k bytes) = cond (nat_lt k (count (window s m b))) (cond (any_above b.top bytes) [] (writing (s + k) bytes ∷ [])) []
