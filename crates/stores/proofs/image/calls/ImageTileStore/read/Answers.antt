use Rattle.std.proofs.Common.{◌+◌, ◌-◌, Err, vec_items, sym, ap, ◌∙◌, arith}
use Rattle.stores.specs.Meaning.{unless_fault}
use Rattle.stores.specs.Layouts.{start}
use Rattle.stores.specs.Windows.{left_as}
use Rattle.stores.specs.Images.{image-read-past, image-read-refused, image-read, first_byte, taken}
use Rattle.stores.proofs.image.calls.ImageTileStore.read.Goals as goal

pub returns-in_err-from-clause-does : goal.returns-in_err-from-clause-does
returns-in_err-from-clause-does g c =
    let e = left_as c.from_residual.result _ c.from_residual.ensures.1 in
    image-read-past g.L.Layout.form (vec_items c.args.self.now.memory) c.args.k _ _ c.in_err-from.ensures.0 (e ∙ ap Err c.in_err-from.ensures.1)

pub returns-in_err-check-clause-does : goal.returns-in_err-check-clause-does
returns-in_err-check-clause-does g c =
    let l = g.L.Layout.form in
    let v = c.args.self.now.memory in
    let at = c.in_ok-from.ensures in
    let e = left_as c.from_residual-in_err-check.result _ c.from_residual-in_err-check.ensures.1 in
    let first = first_byte l (vec_items v) c.args.k c.in_ok-from.from _ g.met.L.Layout.told.some at.1 at.0 c.index.ensures in
    image-read-refused l (vec_items v) c.args.k _ _ _ at.1 e (e ∙ sym c.in_err-check.was ∙ c.check.ensures ∙ ap unless_fault first)

pub returns-clause-does : goal.returns-clause-does
returns-clause-does g c =
    let l = g.L.Layout.form in
    let v = c.args.self.now.memory in
    let at = c.in_ok-from.ensures in
    let t = g.met.L.Layout.told in
    let skip = c.SKIP.ensures ∙ t.skip_told in
    let size = c.SIZE.ensures ∙ t.size_told in
    let tile = taken (c.in_ok-from.from + c.SKIP.result) (c.in_ok-from.from + c.SIZE.result - (c.in_ok-from.from + c.SKIP.result)) (start l c.args.k) l.width _ (vec_items v) (omega (arith, at.0, skip)) (omega (arith, c.SIZE.ensures, c.SKIP.ensures, t.rest)) c.deref.ensures.value in
    let first = first_byte l (vec_items v) c.args.k c.in_ok-from.from _ g.met.L.Layout.told.some at.1 at.0 c.index.ensures in
    image-read l (vec_items v) c.args.k _ _ _ at.1 (sym c.in_ok-check.was ∙ c.check.ensures ∙ ap unless_fault first) (c.unpack.ensures ∙ ap l.codes tile)
