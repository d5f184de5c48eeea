use Rattle.std.proofs.Common.{sym, ◌∙◌}
use Rattle.places.specs.Places.{list_of}
use Rattle.shelf.proofs.Calls.{front_done, moved_kept, moved_done}
use Rattle.shelf.proofs.shelf.Shelf.touch.Goals as goal

pub returns-then-front_is : goal.returns-then-front_is
returns-then-front_is g c =
    let h = c.args.self.now in
    front_done (list_of h.places) (g.S.TileStore.meaning h.below) h.fetches c.args.k (g.met.S.TileStore.lawful h.below) h.kept g.S.TileStore.steps h.below c.if-front_is.ensures

pub returns-in-Some : goal.returns-in-Some
returns-in-Some g c =
    let h = c.args.self.now in
    moved_done (list_of h.places) (g.S.TileStore.meaning h.below) h.fetches c.args.k (g.met.S.TileStore.lawful h.below) h.kept g.S.TileStore.steps h.below c.in-Some.p _ (sym c.find.ensures ∙ c.in-Some.is) c.move_to_front.ensures

pub invariant_of-self : goal.invariant_of-self
invariant_of-self g c =
    let h = c.args.self.now in
    record { kept = moved_kept (list_of h.places) (g.S.TileStore.meaning h.below) h.fetches c.args.k (g.met.S.TileStore.lawful h.below) h.kept c.in-Some.p _ (sym c.find.ensures ∙ c.in-Some.is) c.move_to_front.ensures }
