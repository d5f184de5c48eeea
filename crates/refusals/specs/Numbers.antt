-- The five numbers of each refusal.
use Rattle.std.specs.Prelude.{ℕ}
use Rattle.refusals.specs.declared.five.FiveNumbers.{FiveNumbers}
use Rattle.refusals.specs.declared.refusal.Refusal.{Refusal}
use Rattle.refusals.specs.declared.refusal.Refusal.TheVariants.{Bare, Shape, ShortRing, FewTiles, LowTop, Unsound, Outside, HighCode, Steps, Cutoff, NoLineEnd, WrongKey, WrongValue, OtherValue, HighRowCode, ExtraBytes, ShortBuffer, VehicleLimits}

-- the number alone
abbrev only : ℕ → FiveNumbers
only n = record { number = n; line = 0; cause = 0; tile = 0; level = 0 }

-- the number, and the line of the text
abbrev in_line : ℕ → ℕ → FiveNumbers
in_line n l = record { number = n; line = l; cause = 0; tile = 0; level = 0 }

-- number, line, cause, tile and level; those that do not apply are 0
abbrev pub numbers : Refusal → FiveNumbers
numbers Bare = only 20
numbers Shape = only 21
numbers ShortRing = only 22
numbers FewTiles = only 23
numbers LowTop = only 24
numbers (Unsound f) = record { number = 25; line = 0; cause = f.cause; tile = f.tile; level = f.level }
numbers Outside = only 26
numbers HighCode = only 27
numbers Steps = only 28
numbers Cutoff = only 29
numbers (NoLineEnd l) = in_line 30 l
numbers (WrongKey l) = in_line 31 l
numbers (WrongValue l) = in_line 32 l
numbers (OtherValue l) = in_line 33 l
numbers (HighRowCode l) = in_line 34 l
numbers ExtraBytes = only 36
numbers ShortBuffer = only 37
numbers VehicleLimits = only 40
