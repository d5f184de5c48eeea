-- Codes that are at most the top, place by place.
use Rattle.std.proofs.Common.{◌≡◌, ℕ, zero, suc, ◌≤◌, true, List, [], ◌∷◌, get_or, arith}
use Rattle.std.proofs.lemmas.Bool.Decides.{nat_tests}
use Rattle.rules.specs.Codes.{within}

pub within_at : (top : ℕ) (w : List ℕ) → within top w ≡ true → (i : ℕ) → get_or w i 0 ≤ top
within_at top [] h i = omega arith
within_at top (v ∷ w) h zero = grind (arith, nat_tests)
within_at top (v ∷ w) h (suc i) = within_at top w (grind (arith, nat_tests)) i
