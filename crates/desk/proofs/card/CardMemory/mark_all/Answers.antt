use Rattle.std.proofs.Common.{sym, ap, ◌∙◌}
use Rattle.desk.proofs.Naming.{marked_more, marked_all}
use Rattle.desk.proofs.card.CardMemory.mark_all.Goals as goal

pub loop-word-preserved : goal.loop-word-preserved
loop-word-preserved c =
    let i = c.loop-word.invariant in
    (c.mark.ensures.tiles ∙ i.0, marked_more c.args.self.now.count.tiles c.args.worn.now _ _ _ _ c.loop-word.word-index _ c.loop-word-test.true (ap (λ z. z.tiles) i.0) c.mark.ensures.marks i.1)

pub returns : goal.returns
returns c = sym (c.loop-word.invariant.1 ∙ marked_all c.args.self.now.count.tiles c.args.worn.now _ c.loop-word.word-index c.loop-word-test.false)
