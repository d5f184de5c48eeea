use Rattle.std.proofs.Common.{rules, arith, tests, ◌≡◌, ◌==◌, ◌≤◌, ◌^◌, ◌-◌, length}
use Rattle.std.proofs.lemmas.Iterator.{YieldsList-from_slice}
use Rattle.std.proofs.lemmas.Iterator.Adapters.{fits_from_length, at_most_from_yields_List}
use Rattle.std.proofs.lemmas.List.Sums.{count_by-le-length}
use Rattle.rules.specs.Codes.{times}
use Rattle.rules.proofs.codes.count_code.Goals as goal

-- each code counts at most 1
pub sum-requires-clause-fits : goal.sum-requires-clause-fits
sum-requires-clause-fits c =
    let few : length c.args.codes.now ≤ 2 ^ 64 - 1 = search rules in
    fits_from_length _ _ (2 ^ 64 - 1) (2 ^ 64) (at_most_from_yields_List (YieldsList-from_slice c.args.codes.now cc) few) c.map.ensures.closure (omega arith) (λ x r q k. search (rules, tests))

pub returns-clause-few : goal.returns-clause-few
returns-clause-few c =
    let is : c.sum.result ≡ times c.args.wanted c.args.codes.now = search rules in
    omega (arith, is, count_by-le-length (λ v. v == c.args.wanted) c.args.codes.now)
