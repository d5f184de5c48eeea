-- A sweep of cells whose codes are at most the rule's top leaves such cells: every window fits its rule.
use Rattle.std.proofs.Common.{◌≡◌, ℕ, zero, suc, ◌+◌, ◌*◌, ◌≤◌, true, List, [], ◌∷◌, ◌++◌, map, length, nat_le, Some, None, Option, refl, ap, ◌∙◌, mul_comm, arith}
use Rattle.std.specs.List.{range_with_len, flat_map}
use Rattle.std.proofs.lemmas.List.{length-append}
use Rattle.std.proofs.lemmas.Bool.{le-leb, eq-eqb}
use Rattle.std.proofs.lemmas.List.Folds.{list_all-append}
use Rattle.rules.specs.Codes.{within}
use Rattle.rules.specs.Rule.{RuleMeaning, LawfulRule, fitting, window_length}
use Rattle.rules.proofs.Within.{within_at}
use Rattle.shapes.specs.declared.shape.Axis.{Axis}
use Rattle.shapes.specs.declared.shape.Shape.{Shape}
use Rattle.shapes.specs.Axis.{place, offsets}
use Rattle.shapes.specs.Shape.{columns, rows, area}
use Rattle.sweep.specs.Sweep.{cell_of, cell_at, cell_next, index, swept, sweeps}
use Rattle.sweep.specs.Window.{Cell, code, window_row, window}
use Rattle.sweep.proofs.Gathers.{offsets-length, row-length}

within-map : {A : Type 0} (top : ℕ) (f : A → ℕ) (l : List A) → ((a : A) → f a ≤ top) → within top (map f l) ≡ true
within-map top f [] h = refl
within-map top f (a ∷ l) h = rw (le-leb (f a) top (h a)) (within-map top f l h)

within-append : (top : ℕ) (v w : List ℕ) → within top v ≡ true → within top w ≡ true → within top (v ++ w) ≡ true
within-append top v w p q = rw (list_all-append (λ c. nat_le c top) v w, p, q) refl

within_joined : {A : Type 0} (top : ℕ) (f : A → List ℕ) (l : List A) → ((a : A) → within top (f a) ≡ true) → within top (flat_map f l) ≡ true
within_joined top f [] h = refl
within_joined top f (a ∷ l) h = within-append top (f a) (flat_map f l) (h a) (within_joined top f l h)

length_joined : {A : Type 0} (f : A → List ℕ) (l : List A) (n : ℕ) → ((a : A) → length (f a) ≡ n) → length (flat_map f l) ≡ length l * n
length_joined f [] n h = omega arith
length_joined f (a ∷ l) n h = length-append (f a) (flat_map f l) ∙ omega (arith, h a, length_joined f l n h)

code_low : (top : ℕ) (g : Cell → ℕ) (u v : Option ℕ) → ((c : Cell) → g c ≤ top) → code g u v ≤ top
code_low top g (Some u) (Some v) h = h (u, v)
code_low top g (Some u) None h = omega arith
code_low top g None v h = omega arith

-- a window has (2×rx+1)×(2×ry+1) codes
pub window-length : (x y : Axis) (g : Cell → ℕ) (c : Cell) → length (window x y g c) ≡ window_length x.reach y.reach
window-length x y g c =
    length_joined (λ j. window_row x g c.0 (place y c.1 j)) (offsets y.reach) (2 * x.reach + 1)
    (λ j. row-length x g c.0 (place y c.1 j))
    ∙ ap (λ n. n * (2 * x.reach + 1)) (offsets-length y.reach)
    ∙ mul_comm (2 * y.reach + 1) (2 * x.reach + 1)

-- and no code that is not a cell's, or 0
pub window_low : (top : ℕ) (x y : Axis) (g : Cell → ℕ) (c : Cell) → ((d : Cell) → g d ≤ top) → within top (window x y g c) ≡ true
window_low top x y g c h =
    within_joined top (λ j. window_row x g c.0 (place y c.1 j)) (offsets y.reach)
    (λ j. within-map top (λ i. code g (place x c.0 i) (place y c.1 j)) (offsets x.reach) (λ i. code_low top g (place x c.0 i) (place y c.1 j) h))

module _ (r : RuleMeaning) (lawful : LawfulRule r) (s : Shape) where
  pub window-fits : (cells : List ℕ) (c : Cell) → within r.top cells ≡ true → fitting r (window (columns r s) (rows r s) (cell_of s cells) c) ≡ true
  window-fits cells c h =
      rw (eq-eqb (length (window (columns r s) (rows r s) (cell_of s cells) c)) (window_length r.rx r.ry) (window-length (columns r s) (rows r s) (cell_of s cells) c))
      (window_low r.top (columns r s) (rows r s) (cell_of s cells) c (λ d. within_at r.top cells h (index s d)))

  pub swept_low : (t : ℕ) (cells : List ℕ) → within r.top cells ≡ true → within r.top (swept r s t cells) ≡ true
  swept_low t cells h =
      within-map r.top (λ i. cell_next r s t cells (cell_at s i)) (range_with_len 0 (area s))
      (λ i. lawful.keeps (window (columns r s) (rows r s) (cell_of s cells) (cell_at s i)) t (cell_at s i).0 (cell_at s i).1 s.width (window-fits cells (cell_at s i) h))

  pub sweeps_low : (t n : ℕ) (cells : List ℕ) → within r.top cells ≡ true → within r.top (sweeps r s t n cells) ≡ true
  sweeps_low t zero cells h = h
  sweeps_low t (suc n) cells h = swept_low (t + n) (sweeps r s t n cells) (sweeps_low t n cells h)
