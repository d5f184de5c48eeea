use Rattle.std.proofs.Common.{◌+◌, ◌-◌, Err, vec_items, sym, ap, ◌∙◌, arith}
use Rattle.stores.specs.Meaning.{unless_fault, any_above}
use Rattle.stores.specs.Calls.{each_low}
use Rattle.stores.specs.Windows.{left_as}
use Rattle.stores.specs.Images.{image-write-past, image-write-above, image-write-refused, image-write, first_byte, copied}
use Rattle.stores.proofs.image.calls.ImageTileStore.write.Goals as goal

pub returns-in_err-to-clause-does : goal.returns-in_err-to-clause-does
returns-in_err-to-clause-does g c =
    let e = left_as c.from_residual.result _ c.from_residual.ensures.1 in
    image-write-past g.L.Layout.form (vec_items c.args.self.now.memory) c.args.k _ _ c.in_err-to.ensures.0 (e ∙ ap Err c.in_err-to.ensures.1)

pub returns-then-any_above-clause-does : goal.returns-then-any_above-clause-does
returns-then-any_above-clause-does g c =
    let top = c.TOP.ensures ∙ g.met.L.Layout.told.top_told in
    let high = sym (c.if-any_above.ensures ∙ ap (λ t. any_above t c.args.bytes.now) top) in
    image-write-above g.L.Layout.form (vec_items c.args.self.now.memory) c.args.k _ _ c.in_ok-to.ensures.1 high (ap Err c.fault.ensures)

pub returns-in_err-check-clause-does : goal.returns-in_err-check-clause-does
returns-in_err-check-clause-does g c =
    let l = g.L.Layout.form in
    let v = c.args.self.now.memory in
    let at = c.in_ok-to.ensures in
    let top = c.TOP.ensures ∙ g.met.L.Layout.told.top_told in
    let low = sym (c.if-any_above.ensures ∙ ap (λ t. any_above t c.args.bytes.now) top) in
    let e = left_as c.from_residual-in_err-check.result _ c.from_residual-in_err-check.ensures.1 in
    let first = first_byte l (vec_items v) c.args.k c.in_ok-to.to _ g.met.L.Layout.told.some at.1 at.0 c.index.ensures in
    image-write-refused l (vec_items v) c.args.k _ _ _ at.1 low e (e ∙ sym c.in_err-check.was ∙ c.check.ensures ∙ ap unless_fault first)

pub invariant_of-self : goal.invariant_of-self
invariant_of-self g c =
    let l = g.L.Layout.form in
    let t = g.met.L.Layout.told in
    let at = c.in_ok-to.ensures in
    let low = each_low l.top c.args.bytes.now (sym (c.if-any_above.ensures ∙ ap (λ t. any_above t c.args.bytes.now) (c.TOP.ensures ∙ t.top_told))) in
    record { bytes = (copied l c.args.self.now.memory g.met.L.Layout.sound c.args.k at.1 c.args.bytes.now c.told-bytes low c.args.self.now.bytes (c.in_ok-to.to + c.SKIP.result) (c.in_ok-to.to + c.SIZE.result - (c.in_ok-to.to + c.SKIP.result)) _ _ (omega (arith, at.0, c.SKIP.ensures, t.skip_told)) (omega (arith, c.SIZE.ensures, c.SKIP.ensures, t.rest)) c.deref_mut.ensures.value c.pack.ensures).1 }

pub returns : goal.returns
returns g c =
    let l = g.L.Layout.form in
    let t = g.met.L.Layout.told in
    let v = c.args.self.now.memory in
    let at = c.in_ok-to.ensures in
    let low = each_low l.top c.args.bytes.now (sym (c.if-any_above.ensures ∙ ap (λ t. any_above t c.args.bytes.now) (c.TOP.ensures ∙ t.top_told))) in
    let e = (copied l v g.met.L.Layout.sound c.args.k at.1 c.args.bytes.now c.told-bytes low c.args.self.now.bytes (c.in_ok-to.to + c.SKIP.result) (c.in_ok-to.to + c.SIZE.result - (c.in_ok-to.to + c.SKIP.result)) _ _ (omega (arith, at.0, c.SKIP.ensures, t.skip_told)) (omega (arith, c.SIZE.ensures, c.SKIP.ensures, t.rest)) c.deref_mut.ensures.value c.pack.ensures).0 in
    let first = first_byte l (vec_items v) c.args.k c.in_ok-to.to _ t.some at.1 at.0 c.index.ensures in
    record {
      does = image-write l (vec_items v) g.met.L.Layout.sound c.args.k at.1 c.args.bytes.now c.told-bytes low _ _ (sym c.in_ok-check.was ∙ c.check.ensures ∙ ap unless_fault first) e;
      raw = e;
    }
