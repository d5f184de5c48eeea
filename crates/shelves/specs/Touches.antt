-- A shelf's list as tile numbers alone: what a run of touches leaves of it, and how many of them fetch.
use Rattle.std.specs.Prelude.{ℕ, ◌+◌, ◌≤◌, Bool, true, false, cond, List, [], ◌∷◌, map, take, ◌==◌}
use Rattle.shelves.specs.declared.entry.Entry.{Entry}

-- the tile numbers of a list, front first
abbrev pub tiles_of : List Entry → List ℕ
tiles_of es = map (λ (e : Entry). e.tile) es

-- tile k is among ts
abbrev pub on : List ℕ → ℕ → Bool
on [] k = false
on (t ∷ ts) k = cond (t == k) true (on ts k)

-- ts without tile k
abbrev pub without : List ℕ → ℕ → List ℕ
without [] k = []
without (t ∷ ts) k = cond (t == k) ts (t ∷ without ts k)

-- tile k comes to the front; of 65 the last leaves
abbrev pub touched : List ℕ → ℕ → List ℕ
touched ts k = take 64 (k ∷ without ts k)

-- a touch of a tile that is not on the list is a fetch
abbrev pub fetched : List ℕ → ℕ → ℕ
fetched ts k = cond (on ts k) 0 1

-- the list after the touches of ks, in order
abbrev pub ran : List ℕ → List ℕ → List ℕ
ran ts [] = ts
ran ts (k ∷ ks) = ran (touched ts k) ks

-- how many of the touches of ks are fetches
abbrev pub fetches : List ℕ → List ℕ → ℕ
fetches ts [] = 0
fetches ts (k ∷ ks) = fetched ts k + fetches (touched ts k) ks

-- how many different tiles of ks are not among seen
abbrev pub fresh : List ℕ → List ℕ → ℕ
fresh seen [] = 0
fresh seen (k ∷ ks) = cond (on seen k) (fresh seen ks) (1 + fresh (k ∷ seen) ks)

-- how many different tiles ks has
abbrev pub different : List ℕ → ℕ
different ks = fresh [] ks

-- from any list, a run of touches of at most 64 different tiles fetches at most as many as these
abbrev pub FewFetches : Type 0
FewFetches = (ts ks : List ℕ) → different ks ≤ 64 → fetches ts ks ≤ different ks
