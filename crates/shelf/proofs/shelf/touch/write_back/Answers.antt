use Rattle.std.proofs.Common.{sym, refl, ◌∙◌}
use Rattle.std.proofs.lemmas.Bool.{cond-true}
use Rattle.shelves.proofs.Touching.{write_good}
use Rattle.shelf.proofs.shelf.touch.write_back.Goals as goal

pub returns-then-entry : goal.returns-then-entry
returns-then-entry g c good =
    record {
      reaches = rw c.if-entry.true (c.write.new.self, c.write.ensures.steps, refl);
      does = write_good _ _ c.args.entry.now _ good c.write.ensures.does ∙ sym (cond-true c.args.entry.now.changed _ _ c.if-entry.true);
    }
