use Rattle.std.proofs.Common.{vec_items, ap}
use Rattle.sweep.specs.Plain.{Plain}
use Rattle.sweep.proofs.Low.{sweeps_low}
use Rattle.sweep.proofs.plate.Plate.sweep.Goals as goal

pub returns-clause-low : goal.returns-clause-low
returns-clause-low g c =
    let plate = c.args.self.now in
    λ h. rw (ap (λ (p : Plain). p.cells) c.loop-k.invariant.0) (sweeps_low (g.R.Rule.meaning plate.rule) (g.met.R.Rule.lawful plate.rule) plate.shape plate.step c.loop-k._k (vec_items plate.cells) h)
