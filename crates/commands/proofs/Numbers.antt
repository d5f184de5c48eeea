-- Numbers as words, as `parse` reads them.
use Rattle.std.proofs.Common.{◌≡◌, ℕ, ◌<◌, ◌≢◌, true, List, length, get_or, rules, Ok, Err, Result, arith, ◌^◌}
use Rattle.std.specs.Result.{OkIff, result_ok}
use Rattle.std.specs.Str.{all_ascii_digits}
use Rattle.std.specs.Str.Parse.{ParsesUnsigned}
use Rattle.std.proofs.lemmas.Bool.Decides.{nat_tests}
use Rattle.std.proofs.lemmas.Str.Parse.{IsNumeralModel, numerals_by_fold, tells_all_ascii_digits, parse_plain}
use Rattle.commands.specs.Numerals.{worth, numeral}

own : IsNumeralModel (λ ds. all_ascii_digits ds ≡ true) (worth 0)
own = numerals_by_fold _ tells_all_ascii_digits worth (search rules)

number_is : {E : Type 0} (w : List ℕ) (r : Result ℕ E) → OkIff r ((all_ascii_digits w ≡ true) × (0 < length w) × (worth 0 w < 2 ^ 32)) (worth 0 w) → result_ok r ≡ numeral w
number_is w (Ok n) h = grind (arith, nat_tests)
number_is w (Err e) h = grind (arith, nat_tests)

pub parsed : {E : Type 0} (w : List ℕ) (r : Result ℕ E) → ParsesUnsigned 32 10 w r → get_or w 0 0 ≢ 43 → result_ok r ≡ numeral w
parsed w r h plain = number_is w r (parse_plain own 32 w r h plain)
