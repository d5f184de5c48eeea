use Rattle.std.proofs.Common.{[], ◌∷◌, ◌++◌, map, string_bytes, codes, ap, ◌∙◌, append_assoc, rules, tests}
use Rattle.digits.specs.Digits.{digit}
use Rattle.digits.proofs.Rows.{extended}
use Rattle.digits.proofs.push_row.Goals as goal

pub returns : goal.returns
returns c =
    let cells = c.args.cells.now in
    let old = string_bytes c.args.out.now in
    let row = map digit cells in
    let written = extended c.map.result cells (string_bytes c.push_str.new.self) (string_bytes c.extend.new.self) c.extend.result c.extend.ensures.ran (search rules) (search rules) (λ x d q h. search (rules, tests)) in
    c.in_ok-push_str-2.ensures.bytes
    ∙ ap (λ bs. bs ++ 10 ∷ []) ((rw c.in_ok-extend.was at written) ∙ ap (λ bs. bs ++ row) c.in_ok-push_str.ensures.bytes)
    ∙ append_assoc (old ++ codes "row=") row (10 ∷ [])
    ∙ append_assoc old (codes "row=") (row ++ 10 ∷ [])
