-- The rules of this crate show what every rule shows.
use Rattle.std.specs.Prelude.{◌+◌, ◌≤◌}
use Rattle.std.proofs.Common.{arith}
use Rattle.std.proofs.lemmas.Bool.{cond_both, cond-false}
use Rattle.std.proofs.lemmas.Bool.Decides.{nat_tests}
use Rattle.rules.specs.declared.vehicles.Vehicles.{Vehicles}
use Rattle.rules.specs.Rule.{LawfulRule, fits}
use Rattle.rules.specs.Life.{life, life_cell}
use Rattle.rules.specs.Vehicles.{arrival}
use Rattle.rules.specs.Meant.{vehicles_of}
use Rattle.rules.specs.Roads.{arrival_le}

pub life_lawful : LawfulRule life
life_lawful = record {
  id_least = omega arith;
  id_most = omega arith;
  a_fits = omega arith;
  b_fits = omega arith;
  c_fits = omega arith;
  columns = omega arith;
  rows = omega arith;
  top_least = omega arith;
  top_most = omega arith;
  keeps = λ w t x y width h. grind (arith, nat_tests);
  strange = λ w t x y width h. cond-false (fits 1 1 1 w) (life_cell w) 0 h;
}

pub vehicles_lawful : (v : Vehicles) → LawfulRule (vehicles_of v)
vehicles_lawful v = record {
  id_least = omega arith;
  id_most = omega arith;
  a_fits = omega arith;
  b_fits = omega arith;
  c_fits = omega arith;
  columns = omega arith;
  rows = omega arith;
  top_least = omega arith;
  top_most = omega arith;
  keeps = λ w t x y width h. cond_both (fits v.a 0 (v.a + 1) w) (arrival v.a v.b v.c w t x y width 0 (v.a + 1)) 0 (λ n. n ≤ v.a + 1) (λ _. omega (arith, arrival_le v.a v.b v.c w t x y width 0 (v.a + 1))) (λ _. omega arith);
  strange = λ w t x y width h. cond-false (fits v.a 0 (v.a + 1) w) (arrival v.a v.b v.c w t x y width 0 (v.a + 1)) 0 h;
}
