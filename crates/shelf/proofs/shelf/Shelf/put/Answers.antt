use Rattle.std.proofs.Common.{set}
use Rattle.stores.specs.Meaning.{tile_of}
use Rattle.stores.specs.Windows.{left_by}
use Rattle.shelves.specs.Shelves.{store_of}
use Rattle.shelves.proofs.Writing.{put_wide, put_above}
use Rattle.shelf.specs.Shelf.{shelved}
use Rattle.shelf.proofs.Calls.{byte_over, top_did, touch_did, write_did, write_stays}
use Rattle.shelf.proofs.shelf.Shelf.put.Goals as goal

pub returns-in_err-check_top : goal.returns-in_err-check_top
returns-in_err-check_top g c =
    let h = shelved c.args.self.now in
    let l = g.met.S.TileStore.lawful c.args.self.now.below in
    let bytes = set (tile_of (store_of h) c.args.k) c.args.at.index c.args.byte in
    let tells = put_above h l c.args.self.now.kept c.args.k c.args.at.index c.args.byte c.args.at.inside c.top.result c.top.ensures in
    top_did h l c.args.self.now.kept c.args.k bytes _ tells c.check_top.result c.check_top.ensures g.S.TileStore.steps _ _ c.from_residual.result
    (left_by c.from_residual.result c.check_top.result _ c.from_residual.ensures.1 c.in_err-check_top.was) c.in_err-check_top.was

pub returns-in_err-touch : goal.returns-in_err-touch
returns-in_err-touch g c =
    let h = shelved c.args.self.now in
    let l = g.met.S.TileStore.lawful c.args.self.now.below in
    let bytes = set (tile_of (store_of h) c.args.k) c.args.at.index c.args.byte in
    let tells = put_above h l c.args.self.now.kept c.args.k c.args.at.index c.args.byte c.args.at.inside c.top.result c.top.ensures in
    let e = c.touch.ensures in
    touch_did h l c.args.self.now.kept c.args.k bytes _ tells c.check_top.result c.check_top.ensures c.in_ok-check_top.was c.touch.result (shelved c.touch.new.self) e.does g.S.TileStore.steps _ _ e.reaches _ c.from_residual-in_err-touch.result
    (left_by c.from_residual-in_err-touch.result c.touch.result _ c.from_residual-in_err-touch.ensures.1 c.in_err-touch.was) c.in_err-touch.was

pub returns : goal.returns
returns g c =
    let h = shelved c.args.self.now in
    let l = g.met.S.TileStore.lawful c.args.self.now.below in
    let bytes = set (tile_of (store_of h) c.args.k) c.args.at.index c.args.byte in
    let tells = put_above h l c.args.self.now.kept c.args.k c.args.at.index c.args.byte c.args.at.inside c.top.result c.top.ensures in
    let e = c.touch.ensures in
    write_did h l c.args.self.now.kept c.args.k bytes _ tells c.check_top.result c.check_top.ensures c.in_ok-check_top.was c.touch.result (shelved c.touch.new.self) e.does g.S.TileStore.steps _ _ e.reaches c.in_ok-touch.was (put_wide h l c.args.self.now.kept c.args.k c.args.at.index c.args.byte c.args.at.inside) _ (byte_over h (shelved c.touch.new.self) c.args.k c.touch.result e.does c.in_ok-touch.was c.args.at.index c.args.byte _ c.put_front.ensures)

pub invariant_of-self : goal.invariant_of-self
invariant_of-self g c =
    let h = shelved c.args.self.now in
    let l = g.met.S.TileStore.lawful c.args.self.now.below in
    let bytes = set (tile_of (store_of h) c.args.k) c.args.at.index c.args.byte in
    let tells = put_above h l c.args.self.now.kept c.args.k c.args.at.index c.args.byte c.args.at.inside c.top.result c.top.ensures in
    let e = c.touch.ensures in
    record { kept = write_stays h l c.args.self.now.kept c.args.k bytes _ tells c.check_top.result c.check_top.ensures c.in_ok-check_top.was c.touch.result (shelved c.touch.new.self) e.does c.in_ok-touch.was (put_wide h l c.args.self.now.kept c.args.k c.args.at.index c.args.byte c.args.at.inside) _ (byte_over h (shelved c.touch.new.self) c.args.k c.touch.result e.does c.in_ok-touch.was c.args.at.index c.args.byte _ c.put_front.ensures) }
