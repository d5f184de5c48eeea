-- Places on a ring.
use Rattle.std.specs.Prelude.{ℕ, cond, ℤ, pos, ◌==◌, unsigned_abs}
use Rattle.std.specs.Int.{int_rem_euclid}

-- z modulo n, for a whole number z below, at or above zero; 0 where n is 0
abbrev pub wrap : ℕ → ℤ → ℕ
wrap n z = cond (n == 0) 0 (unsigned_abs (int_rem_euclid z (pos n)))
