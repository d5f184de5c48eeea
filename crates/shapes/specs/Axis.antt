-- An axis, its edge, and the places along it.
use Rattle.std.specs.Prelude.{ℕ, ◌+◌, ◌*◌, Bool, true, false, cond, ◌&&◌, List, map, ℤ, pos, ◌+ℤ◌, ◌-ℤ◌, Some, None, Option, int_le, int_lt, nat_le, unsigned_abs}
use Rattle.std.specs.List.{range_with_len}
use Rattle.rules.specs.Rings.{wrap}
use Rattle.shapes.specs.declared.shape.Axis.{Axis}
use Rattle.shapes.specs.declared.shape.Edge.{Edge}
use Rattle.shapes.specs.declared.shape.Edge.TheVariants.{Wall, Ring}

abbrev pub is_ring : Edge → Bool
is_ring Wall = false
is_ring Ring = true

-- the place z itself, where it lies on an axis of n places
abbrev pub inside : ℕ → ℤ → Option ℕ
inside n z = cond (int_le (pos 0) z && int_lt z (pos n)) (Some (unsigned_abs z)) None

-- the place j off u along an axis: on a ring places count modulo the length, and None is outside a wall
abbrev pub place : Axis → ℕ → ℤ → Option ℕ
place x u j = cond (is_ring x.edge) (Some (wrap x.size (pos u +ℤ j))) (inside x.size (pos u +ℤ j))

-- how far the places of a window are off its middle: −r up to r
abbrev pub offsets : ℕ → List ℤ
offsets r = map (λ k. pos k -ℤ pos r) (range_with_len 0 (2 * r + 1))

-- a ring is at least 2×reach+1 long
abbrev pub long_enough : Axis → Bool
long_enough x = cond (is_ring x.edge) (nat_le (2 * x.reach + 1) x.size) true
