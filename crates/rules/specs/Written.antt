-- A rule in print: its name and the numbers that were chosen.
use Rattle.std.specs.Prelude.{ℕ, List, ◌++◌, codes, decimal}
use Rattle.rules.specs.declared.choice.AnyRule.{AnyRule}
use Rattle.rules.specs.declared.choice.AnyRule.TheVariants as choice
use Rattle.rules.specs.Meant.{vehicles_of}

abbrev pub written : AnyRule → List ℕ
written (choice.Life r) = codes "life"
written (choice.Vehicles r) = codes "vehicles " ++ (decimal (vehicles_of r).a ++ (codes " " ++ (decimal (vehicles_of r).b ++ (codes " " ++ decimal (vehicles_of r).c))))
