use Rattle.std.proofs.Common.{List, sym, refl, ap, ◌∙◌, subst}
use Rattle.shelves.specs.declared.entry.Entry.{Entry}
use Rattle.shelves.specs.Shelves.{Kept, written_back}
use Rattle.shelves.proofs.Settling.{settled_as, kept_settled}
use Rattle.shelves.proofs.Touching.{shelved_same}
use Rattle.places.specs.Places.{list_of}
use Rattle.shelf.specs.Shelf.{shelved}
use Rattle.shelf.proofs.Calls.{reached_by}
use Rattle.shelves.specs.Shelves.{writes_back}
use Rattle.shelf.proofs.shelf.Shelf.settle.Goals as goal

pub invariant_of-self : goal.invariant_of-self
invariant_of-self g c =
    let b = g.S.TileStore.meaning c.args.self.now.below in
    let es = list_of c.args.self.now.places in
    let is = c.list.ensures.is in
    let back = c.write_all_back.ensures (subst (λ (z : List Entry). Kept b z) (sym is) c.args.self.now.kept) in
    let w = back.does ∙ ap (written_back b) is in
    record { kept = rw (w, c.clear_marks.ensures) (kept_settled b es c.args.self.now.kept) }

pub returns : goal.returns
returns g c =
    let b = g.S.TileStore.meaning c.args.self.now.below in
    let es = list_of c.args.self.now.places in
    let is = c.list.ensures.is in
    let back = c.write_all_back.ensures (subst (λ (z : List Entry). Kept b z) (sym is) c.args.self.now.kept) in
    let w = back.does ∙ ap (written_back b) is in
    record {
      reaches = reached_by g.S.TileStore.steps _ _ _ _ (ap writes_back is) back.reaches;
      does = settled_as (shelved c.args.self.now) _ c.args.self.now.kept (shelved_same _ _ _ _ _ _ c.clear_marks.ensures w refl);
    }
