-- Windows, code by code and row by row.
use Rattle.std.proofs.Common.{◌≡◌, ℕ, ◌+◌, ◌*◌, ◌<◌, ◌≤◌, List, [], ◌∷◌, ◌++◌, map, length, take, Option, ℤ, pos, ◌-ℤ◌, ◌∙◌, append-nil, add-mul, mul-le-mul, arith}
use Rattle.std.specs.List.{flat_map, range_with_len}
use Rattle.std.proofs.lemmas.Grind.{flat_map-append}
use Rattle.std.proofs.lemmas.List.{length-map}
use Rattle.std.proofs.lemmas.List.FromFn.{length-map-range_with_len, map-range_with_len_more}
use Rattle.std.proofs.lemmas.Slice.{take-put_mid}
use borrow.Rule.Slice.PartMut.{put_mid}
use Rattle.shapes.specs.declared.shape.Axis.{Axis}
use Rattle.shapes.specs.Axis.{place, offsets}
use Rattle.sweep.specs.Window.{Cell, code, window_row}

-- the first k offsets of a window
abbrev pub firsts : ℕ → ℕ → List ℤ
firsts r k = map (λ j. pos j -ℤ pos r) (range_with_len 0 k)

pub offsets-length : (r : ℕ) → length (offsets r) ≡ 2 * r + 1
offsets-length r = length-map-range_with_len (λ k. pos k -ℤ pos r) 0 (2 * r + 1)

pub row-length : (x : Axis) (g : Cell → ℕ) (u : ℕ) (v : Option ℕ) → length (window_row x g u v) ≡ 2 * x.reach + 1
row-length x g u v = length-map (offsets x.reach) (λ i. code g (place x u i) v) ∙ offsets-length x.reach

firsts_more : (r k : ℕ) → firsts r (k + 1) ≡ firsts r k ++ (pos k -ℤ pos r) ∷ []
firsts_more r k = map-range_with_len_more (λ j. pos j -ℤ pos r) 0 k k (omega arith)

row_more : (f : ℤ → List ℕ) (r k : ℕ) → flat_map f (firsts r (k + 1)) ≡ flat_map f (firsts r k) ++ f (pos k -ℤ pos r)
row_more f r k = rw (firsts_more r k, flat_map-append f (firsts r k) ((pos k -ℤ pos r) ∷ []), append-nil (f (pos k -ℤ pos r)))

-- one row more, written behind the rows so far
pub gathered : (f : ℤ → List ℕ) (r k start end n : ℕ) (out row : List ℕ) → take start out ≡ flat_map f (firsts r k) → row ≡ f (pos k -ℤ pos r)
    → end ≡ start + length row → start ≤ length out → take end (put_mid start n out row) ≡ flat_map f (firsts r (k + 1))
gathered f r k start end n out row e h l b = take-put_mid start n out row end l b ∙ rw (e, h, row_more f r k)

-- the largest window has 85 codes
pub fits-window : (rx ry k : ℕ) → rx ≤ 8 → ry ≤ 2 → k < 2 * ry + 1 → k * (2 * rx + 1) + (2 * rx + 1) ≤ 85
fits-window rx ry k a b h =
    let p : (k + 1) * (2 * rx + 1) ≤ 5 * 17 = mul-le-mul {n₂ = 5} {m₂ = 17} (omega arith) (omega arith) in
    omega (arith, add-mul k 1 (2 * rx + 1), p)
