use Rattle.shelf.specs.Shelf.{shelved}
use Rattle.shelf.proofs.Calls.{tile_read}
use Rattle.shelf.proofs.shelf.Shelf.read_whole.Goals as goal

pub returns : goal.returns
returns g c =
    let e = c.touch.ensures in
    record {
      reaches = e.reaches;
      does = tile_read (shelved c.args.self.now) (shelved c.touch.new.self) c.args.k _ e.does c.in_ok-touch.was c.args.out.now _ c.read_front.ensures;
    }
