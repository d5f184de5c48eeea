-- Marks that are cleared one entry after the other.
use Rattle.std.proofs.Common.{◌≡◌, ℕ, zero, suc, ◌+◌, ◌<◌, List, [], ◌∷◌, ◌++◌, map, length, get_or, take, drop, set, refl, ap, ◌∙◌, arith}
use Rattle.shelves.specs.declared.entry.Entry.{Entry}
use Rattle.shelves.specs.Shelves.{blank, cleaned}

-- the first i are cleared
abbrev pub cleared : List Entry → ℕ → List Entry
cleared es i = map cleaned (take i es) ++ drop i es

-- and one more
pub clear_next : (es : List Entry) (i : ℕ) → i < length es → set (cleared es i) i (cleaned (get_or (cleared es i) i blank)) ≡ cleared es (i + 1)
clear_next [] i h = absurd (omega arith)
clear_next (e ∷ es) zero h = refl
clear_next (e ∷ es) (suc i) h =
    let s : suc (i + 1) ≡ suc i + 1 = omega arith in
    ap (λ xs. cleaned e ∷ xs) (clear_next es i (omega arith)) ∙ ap (cleared (e ∷ es)) s
