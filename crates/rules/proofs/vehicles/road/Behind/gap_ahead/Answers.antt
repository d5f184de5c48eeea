use Rattle.std.proofs.Common.{◌+◌, ◌-◌, ◌==◌, arith, rules, tests, ◌∙◌, take, drop}
use Rattle.std.proofs.lemmas.Iterator.{YieldsList-from_slice}
use Rattle.std.proofs.lemmas.Iterator.Consumers.{count_from_yields_List}
use Rattle.std.proofs.lemmas.Iterator.Search.{YieldsList-from_take_while}
use Rattle.std.proofs.lemmas.List.Folds.{length-prefix_len}
use Rattle.rules.proofs.Chains.{gap_prefix}
use Rattle.rules.proofs.vehicles.road.Behind.gap_ahead.Goals as goal

pub returns : goal.returns
returns c =
    let v = c.args.self.now in
    let i = c.place-i.result in
    let ahead = take (i + 1 + c.from.result - (i + 1)) (drop (i + 1) v.window.now) in
    count_from_yields_List _ _ c.count.ensures.ran (YieldsList-from_take_while _ (λ x. x == 0) (YieldsList-from_slice ahead (search rules)) c.take_while.ensures.closure c.take_while.ensures.done (λ x b q k. search (rules, tests)))
    ∙ length-prefix_len (λ x. x == 0) ahead
    ∙ rw (c.place-i.ensures) (gap_prefix v.window.now (v.rule.a - v.d) v.rule.a _ (omega arith) (omega arith))
