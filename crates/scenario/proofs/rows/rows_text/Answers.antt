use Rattle.std.proofs.Common.{ap, ◌∙◌, arith}
use Rattle.shapes.specs.declared.shape.Shape.{Shape}
use Rattle.scenario.proofs.RowTexts.{one_more, no_more}
use Rattle.scenario.proofs.rows.rows_text.Goals as goal

pub loop-row-preserved : goal.loop-row-preserved
loop-row-preserved c =
    let width = ap (λ (s : Shape). s.width) c.shape-width.ensures in
    let step = c.in-Some.ensures.steps in
    record {
      sized = step.0 ∙ c.loop-row.invariant.sized;
      left = one_more _ _ _ _ _ _ _ (omega (arith, width, c.args.plate.now.some.0)) c.loop-row.invariant.left step.1.0 (step.1.1 ∙ c.loop-row.invariant.sized) c.in_ok-push_row.ensures;
    }

pub returns : goal.returns
returns c = no_more _ _ _ _ c.loop-row.invariant.left (omega (arith, c.in-None.ensures.steps.1.0, c.loop-row.invariant.sized))
