-- A plate of the code, as the plain rules see it.
use Rattle.std.specs.Prelude.{◌≡◌, Result, vec_items}
use Rattle.refusals.specs.declared.five.FiveNumbers.{FiveNumbers}
use Rattle.sweep.specs.declared.plate.Plate.{Plate}
use Rattle.sweep.specs.Plain.{Plain, Out, Does}

abbrev pub plain_of : {R : Type 0} → Plate R → Plain
plain_of p = record { shape = p.shape; step = p.step; cells = vec_items p.cells }

abbrev pub rule_of : {R : Type 0} → Plate R → R
rule_of p = p.rule

-- a call on a plate answered as defined, left the lattice as defined, and kept the rule
pub record AsDefined {A R : Type 0} (answer : Result A FiveNumbers) (before after : Plate R) (defined : Out A) : Type 0 where
  pub does : Does answer (plain_of after) defined
  pub rule : after.rule ≡ before.rule
