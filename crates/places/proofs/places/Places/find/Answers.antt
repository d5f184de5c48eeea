use Rattle.std.proofs.Common.{◌≡◌, rules}
use Rattle.std.proofs.lemmas.Iterator.{IsFirst-from_position, YieldsList-from_slice}
use borrow.Author.Tests.{tests}
use Rattle.shelves.specs.declared.entry.Entry.{Entry}
use Rattle.places.proofs.Finding.{found}
use Rattle.places.proofs.places.Places.find.Goals as goal

pub returns : goal.returns
returns c =
    let k = c.args.k in
    found c.args.self.now.entries.items k c.position.result
    (IsFirst-from_position _ _ c.position.result (λ (e : Entry). e.tile ≡ k) (λ (e : Entry). e.tile ≡ k → ⊥) c.position.ensures.ran
    (YieldsList-from_slice c.args.self.now.entries.items cc) (λ x q r. search (rules, tests)) (λ x q r. search (rules, tests)))
