-- The rules of this crate, as their values in the code mean them.
use Rattle.rules.specs.declared.choice.AnyRule.{AnyRule}
use Rattle.rules.specs.declared.choice.AnyRule.TheVariants as choice
use Rattle.rules.specs.declared.vehicles.Vehicles.{Vehicles}
use Rattle.rules.specs.Rule.{RuleMeaning}
use Rattle.rules.specs.Life as subject
use Rattle.rules.specs.Vehicles as road

abbrev pub vehicles_of : Vehicles → RuleMeaning
vehicles_of s = road.vehicles s.a s.b s.c

abbrev pub any_of : AnyRule → RuleMeaning
any_of (choice.Life s) = subject.life
any_of (choice.Vehicles s) = vehicles_of s
