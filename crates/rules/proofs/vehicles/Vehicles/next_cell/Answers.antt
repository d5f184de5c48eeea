use Rattle.std.proofs.Common.{◌≡◌, ◌+◌, rules, tests, arith, ap, ◌∙◌}
use Rattle.std.specs.Option.{option_map_or, option_map}
use Rattle.std.proofs.lemmas.Iterator.{YieldsList-from_range}
use Rattle.std.proofs.lemmas.Iterator.Search.{find_from_yields_List}
use Rattle.rules.specs.Vehicles.{arrives}
use Rattle.rules.proofs.Chains.{arrival_found}
use Rattle.rules.proofs.vehicles.Vehicles.next_cell.Goals as goal

pub returns : goal.returns
returns c =
    let v = c.args.self.now in
    let s = c.args.at in
    let found = find_from_yields_List (arrives v.a v.b v.c c.args.window.now s.t s.x s.y s.width) _ _ c.find.result c.find.ensures.ran (YieldsList-from_range 0 (v.a + 1) (v.a + 1) (cc) (omega arith)) (λ d b q k. search (rules, tests)) in
    let code : c.map_or.result ≡ option_map_or (λ d. 1 + d) (option_map (λ d. d) c.find.result) 0 = search rules in
    code ∙ ap (λ o. option_map_or (λ d. 1 + d) o 0) found ∙ arrival_found v.a v.b v.c c.args.window.now s.t s.x s.y s.width 0 (v.a + 1)
