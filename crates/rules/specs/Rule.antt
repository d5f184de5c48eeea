-- What a rule is, and what every rule shows.
use Rattle.std.specs.Prelude.{◌≡◌, ℕ, ◌+◌, ◌*◌, ◌^◌, ◌<◌, ◌≤◌, Bool, true, false, ◌&&◌, List, length, ◌==◌}
use Rattle.rules.specs.declared.numbers.RuleNumbers.{RuleNumbers}
use Rattle.rules.specs.Codes.{within}

-- a rule's numbers and the one function that next answers
pub record RuleMeaning : Type 0 where
  -- the rule's own number, and three numbers of the rule's choice
  pub id : ℕ
  pub a : ℕ
  pub b : ℕ
  pub c : ℕ
  -- the column reach and the row reach: a window goes that far to either side
  pub rx : ℕ
  pub ry : ℕ
  -- the highest code
  pub top : ℕ
  -- of a window, the step t, the place x, y and the width
  pub next : List ℕ → ℕ → ℕ → ℕ → ℕ → ℕ

-- the numbers alone, as a rule tells them
abbrev pub numbers_of : RuleMeaning → RuleNumbers
numbers_of r = record { id = r.id; a = r.a; b = r.b; c = r.c; rx = r.rx; ry = r.ry; top = r.top }

-- a window has (2×rx+1)×(2×ry+1) codes
abbrev pub window_length : ℕ → ℕ → ℕ
window_length rx ry = (2 * rx + 1) * (2 * ry + 1)

-- a window that fits a rule: of the right length, with no code above the top
abbrev pub fits : ℕ → ℕ → ℕ → List ℕ → Bool
fits rx ry top w = length w == window_length rx ry && within top w

abbrev pub fitting : RuleMeaning → List ℕ → Bool
fitting r w = fits r.rx r.ry r.top w

-- what every rule shows
pub record LawfulRule (r : RuleMeaning) : Type 0 where
  pub id_least : 1 ≤ r.id
  pub id_most : r.id ≤ 65535
  pub a_fits : r.a < 2 ^ 32
  pub b_fits : r.b < 2 ^ 32
  pub c_fits : r.c < 2 ^ 32
  pub columns : r.rx ≤ 8
  pub rows : r.ry ≤ 2
  pub top_least : 1 ≤ r.top
  pub top_most : r.top ≤ 15
  -- a window that fits gives no code above the top
  pub keeps : (w : List ℕ) (t x y width : ℕ) → fitting r w ≡ true → r.next w t x y width ≤ r.top
  -- any other window gives 0
  pub strange : (w : List ℕ) (t x y width : ℕ) → fitting r w ≡ false → r.next w t x y width ≡ 0
