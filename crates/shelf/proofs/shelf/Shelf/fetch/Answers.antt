use Rattle.std.proofs.Common.{◌≡◌, drop, Ok, Err, sym, refl, ap, ◌∙◌}
use Rattle.stores.specs.Meaning.{Reached}
use Rattle.stores.specs.Windows.{left_by}
use Rattle.shelves.specs.Shelves.{written_back, touched_if, writes_back}
use Rattle.shelves.proofs.Touching.{ok_passed, passed_err, shelved_same, touched_kept, refused-past, fetch_refused, fetch_made}
use Rattle.places.specs.Places.{list_of}
use Rattle.shelf.specs.Shelf.{shelved}
use Rattle.shelf.proofs.Calls.{past_reaches, refused_reaches, fetch_reaches, touch_done, leaving_good, leaving_back, leaving_reaches, none_reaches, none_leaves}
use Rattle.shelf.proofs.shelf.Shelf.fetch.Goals as goal
use Rattle.shelf.proofs.shelf.Shelf.fetch.Goals.{in-Some, in_default}

pub returns-then-k-count : goal.returns-then-k-count
returns-then-k-count g c =
    let h = shelved c.args.self.now in
    let l = g.met.S.TileStore.lawful c.args.self.now.below in
    let e = ap Err c.fault.ensures in
    let past = rw c.count.ensures at c.if-k-count.true in
    touch_done h c.args.k l c.args.self.now.kept (past_reaches g.S.TileStore.steps _ h c.args.k c.requires past) _ h (e ∙ refused-past h.list h.below c.args.k l past) (sym (ap (λ z. touched_if z h c.args.k) e))

pub returns-in_err-raised : goal.returns-in_err-raised
returns-in_err-raised g c =
    let m = g.S.TileStore.meaning in
    let h = shelved c.args.self.now in
    let l = g.met.S.TileStore.lawful c.args.self.now.below in
    let a = c.read.ensures.does in
    let q = left_by c.from_residual.result c.raised.result _ c.from_residual.ensures.1 c.in_err-raised.was in
    let within = rw c.count.ensures at c.if-k-count.false in
    let failed = passed_err c.read.result _ (sym c.raised.ensures ∙ c.in_err-raised.was) in
    touch_done h c.args.k l c.args.self.now.kept (refused_reaches g.S.TileStore.steps _ h c.args.k c.requires within c.read.result a.answer _ failed.0 failed.1 c.read.ensures.steps) c.from_residual.result _
    (fetch_refused h.list h.below (m c.read.new.self) c.args.k _ _ _ l within c.requires a c.from_residual.result (q ∙ c.raised.ensures))
    (shelved_same _ _ _ _ _ _ refl a.same refl ∙ sym (ap (λ z. touched_if z h c.args.k) (q ∙ c.in_err-raised.was)))

pub returns : goal.returns
returns g c =
    let m = g.S.TileStore.meaning in
    let h = shelved c.args.self.now in
    let l = g.met.S.TileStore.lawful c.args.self.now.below in
    let a = c.read.ensures.does in
    let b1 = m c.read.new.self in
    let after : Reached g.S.TileStore.steps c.read.new.self (writes_back (drop 63 h.list)) c.match-admit.self.1.0 × (m c.match-admit.self.1.0 ≡ written_back b1 (drop 63 h.list)) =
    elim c.match-admit.branch [
      | in-Some w ↦
          let last = sym w.in-Some.is ∙ c.admit.ensures.last in
          let back = w.write_back.ensures (leaving_good h.list h.below b1 c.args.self.now.kept a.same _ last) in
          rw w.self-is (leaving_reaches g.S.TileStore.steps _ _ h.list _ c.args.self.now.kept.few last back.reaches, leaving_back h.list h.below b1 c.args.self.now.kept a.same _ last _ back.does)
      | in_default w ↦
          let last = sym w.in_default.is ∙ c.admit.ensures.last in
          rw w.self-is (none_reaches g.S.TileStore.steps _ h.list last, none_leaves h.list b1 last)
    ] in
    let within = rw c.count.ensures at c.if-k-count.false in
    let passed = sym c.raised.ensures ∙ c.in_ok-raised.was in
    touch_done h c.args.k l c.args.self.now.kept (fetch_reaches g.S.TileStore.steps _ h c.args.k c.requires within c.read.result a.answer _ _ (ok_passed c.read.result passed) c.read.ensures.steps after.0) (Ok tt) _
    (sym passed ∙ fetch_refused h.list h.below b1 c.args.k _ _ _ l within c.requires a _ refl)
    (fetch_made h.list h.below b1 c.args.k _ _ _ l within c.requires a passed _ _ h.fetches _ c.admit.ensures.leaves after.1 (c.saturating_add-self.ensures))

pub invariant_of-self-2 : goal.invariant_of-self-2
invariant_of-self-2 g c =
    let m = g.S.TileStore.meaning in
    let h = shelved c.args.self.now in
    let l = g.met.S.TileStore.lawful c.args.self.now.below in
    let a = c.read.ensures.does in
    let b1 = m c.read.new.self in
    let after : m c.match-admit.self.1.0 ≡ written_back b1 (drop 63 h.list) =
    elim c.match-admit.branch [
      | in-Some w ↦
          let last = sym w.in-Some.is ∙ c.admit.ensures.last in
          let back = w.write_back.ensures (leaving_good h.list h.below b1 c.args.self.now.kept a.same _ last) in
          rw w.self-is (leaving_back h.list h.below b1 c.args.self.now.kept a.same _ last _ back.does)
      | in_default w ↦ rw w.self-is (none_leaves h.list b1 (sym w.in_default.is ∙ c.admit.ensures.last))
    ] in
    let within = rw c.count.ensures at c.if-k-count.false in
    let passed = sym c.raised.ensures ∙ c.in_ok-raised.was in
    record {
      kept = touched_kept h c.args.k l c.args.self.now.kept (Ok tt) (record { list = list_of c.admit.new.self; below = m c.match-admit.self.1.0; fetches = c.saturating_add-self.result })
          (sym passed ∙ fetch_refused h.list h.below b1 c.args.k _ _ _ l within c.requires a _ refl)
          (fetch_made h.list h.below b1 c.args.k _ _ _ l within c.requires a passed _ _ h.fetches _ c.admit.ensures.leaves after (c.saturating_add-self.ensures));
    }
