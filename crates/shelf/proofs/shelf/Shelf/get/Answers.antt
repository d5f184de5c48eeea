use Rattle.shelf.specs.Shelf.{shelved}
use Rattle.shelf.proofs.Calls.{byte_read}
use Rattle.shelf.proofs.shelf.Shelf.get.Goals as goal

pub returns : goal.returns
returns g c =
    let e = c.touch.ensures in
    record {
      reaches = e.reaches;
      does = byte_read (shelved c.args.self.now) (shelved c.touch.new.self) c.args.k _ e.does c.in_ok-touch.was c.args.at.index _ c.front_byte.ensures;
    }
