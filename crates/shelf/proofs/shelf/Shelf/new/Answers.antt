use Rattle.shelves.proofs.Runs.{shelf_law}
use Rattle.shelf.proofs.shelf.Shelf.new.Goals as goal

pub returns-clause-law : goal.returns-clause-law
returns-clause-law g c = shelf_law
