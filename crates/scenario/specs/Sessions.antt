-- What a scenario's commands do: what is said, and how far the scenario has come.
use Rattle.std.specs.Prelude.{◌≡◌, ℕ, Bool, true, false, cond, List, length, Some, None, Ok, Err, Option, Result, ◌==◌}
use Rattle.refusals.specs.declared.five.FiveNumbers.{FiveNumbers}
use Rattle.refusals.specs.declared.failure.Failure.{Failure}
use Rattle.refusals.specs.declared.failure.Failure.TheVariants as failure
use Rattle.refusals.specs.declared.refusal.Refusal.TheVariants as refusal
use Rattle.refusals.specs.Numbers.{numbers}
use Rattle.rules.specs.Codes.{busy}
use Rattle.rules.specs.Rule.{RuleMeaning}
use Rattle.rules.specs.Life as rules
use Rattle.rules.specs.Vehicles.{vehicles_made}
use Rattle.rules.specs.Meant.{any_of}
use Rattle.shapes.specs.declared.shape.Shape.{Shape}
use Rattle.sweep.specs.Plain.{Plain, laid, puts_row, sweeps_on}
use Rattle.sweep.specs.Plate.{plain_of, rule_of}
use Rattle.digits.specs.Digits.{row_read}
use Rattle.scenario.specs.declared.done.Done.{Done}
use Rattle.scenario.specs.declared.done.Done.TheVariants as done
use Rattle.scenario.specs.declared.trouble.Trouble.{Trouble}
use Rattle.scenario.specs.declared.trouble.Trouble.TheVariants as trouble
use Rattle.scenario.specs.declared.session.Session.{Session}
use Rattle.scenario.specs.declared.session.Session.TheVariants as session
use Rattle.commands.specs.Commands as command
use Rattle.commands.specs.Commands.{Asked}

-- no rule yet, a rule, or a plate with its rule
pub data State : Type 0 where
  fresh : State
  ruled : RuleMeaning → State
  plated : RuleMeaning → Plain → State

abbrev pub state_of : Session → State
state_of session.Fresh = fresh
state_of (session.Ruled r) = ruled (any_of r)
state_of (session.Laid p) = plated (any_of (rule_of p)) (plain_of p)

-- what is said of a command
pub data Said : Type 0 where
  nothing : Said
  rule_set : RuleMeaning → Said
  plate_made : Shape → Said
  row_set : ℕ → ℕ → ℕ → Said
  swept : ℕ → ℕ → ℕ → ℕ → Said
  refused : FiveNumbers → Said
  no_rule : Said
  row_length : ℕ → ℕ → Said
  not_understood : Said

-- why a call that takes memory failed
abbrev pub trouble_of : Failure → Trouble
trouble_of (failure.Refused r) = trouble.Refused r
trouble_of failure.Memory = trouble.NoMemory

-- None: there was not enough memory
abbrev pub said_of : Result Done Trouble → Option Said
said_of (Ok done.Nothing) = Some nothing
said_of (Ok (done.Ruled r)) = Some (rule_set (any_of r))
said_of (Ok (done.Plated s)) = Some (plate_made s)
said_of (Ok (done.RowSet y cells b)) = Some (row_set y cells b)
said_of (Ok (done.Swept n updates before after)) = Some (swept n updates before after)
said_of (Err (trouble.Refused r)) = Some (refused (numbers r))
said_of (Err trouble.NoRule) = Some no_rule
said_of (Err (trouble.RowLength cells columns)) = Some (row_length cells columns)
said_of (Err trouble.NotUnderstood) = Some not_understood
said_of (Err trouble.NoMemory) = None

-- what a command says, and what it leaves
pub record Outcome : Type 0 where
  pub said : Said
  pub after : State

abbrev pub outcome : Said → State → Outcome
outcome s t = record { said = s; after = t }

-- a new rule; the plate of the old one is gone
abbrev pub ruling : State → Result RuleMeaning FiveNumbers → Outcome
ruling s (Ok r) = outcome (rule_set r) (ruled r)
ruling s (Err n) = outcome (refused n) s

-- a new plate for the rule r
abbrev pub plating : RuleMeaning → State → Result Plain FiveNumbers → Outcome
plating r s (Ok p) = outcome (plate_made p.shape) (plated r p)
plating r s (Err n) = outcome (refused n) s

-- the rule, if there is one
abbrev pub rule_in : State → Option RuleMeaning
rule_in fresh = None
rule_in (ruled r) = Some r
rule_in (plated r p) = Some r

abbrev pub plating_in : Option RuleMeaning → State → ℕ → ℕ → List ℕ → List ℕ → Outcome
plating_in None s w h ex ey = outcome no_rule s
plating_in (Some r) s w h ex ey = plating r s (laid r w h ex ey)

-- a row of the plate set, or refused
abbrev pub row_said : RuleMeaning → ℕ → List ℕ → Result (Unit {0}) FiveNumbers → Plain → Outcome
row_said r y codes (Ok u) p = outcome (row_set y (length codes) (busy codes)) (plated r p)
row_said r y codes (Err n) p = outcome (refused n) (plated r p)

abbrev pub rowing : RuleMeaning → Plain → ℕ → List ℕ → Outcome
rowing r p y codes =
    cond (length codes == p.shape.width)
    (row_said r y codes (puts_row r p y codes).answer (puts_row r p y codes).after)
    (outcome (row_length (length codes) p.shape.width) (plated r p))

abbrev pub rowing_if : RuleMeaning → Plain → ℕ → Option (List ℕ) → Outcome
rowing_if r p y (Some codes) = rowing r p y codes
rowing_if r p y None = outcome not_understood (plated r p)

abbrev pub rowing_in : State → ℕ → List ℕ → Outcome
rowing_in fresh y digits = outcome (refused (numbers refusal.Bare)) fresh
rowing_in (ruled r) y digits = outcome (refused (numbers refusal.Bare)) (ruled r)
rowing_in (plated r p) y digits = rowing_if r p y (row_read digits)

-- so many sweeps of the plate, or refused
abbrev pub sweep_said : RuleMeaning → ℕ → ℕ → Result ℕ FiveNumbers → Plain → Outcome
sweep_said r n before (Ok updates) p = outcome (swept n updates before (busy p.cells)) (plated r p)
sweep_said r n before (Err e) p = outcome (refused e) (plated r p)

abbrev pub sweeping_in : State → ℕ → Outcome
sweeping_in fresh n = outcome (refused (numbers refusal.Bare)) fresh
sweeping_in (ruled r) n = outcome (refused (numbers refusal.Bare)) (ruled r)
sweeping_in (plated r p) n = sweep_said r n (busy p.cells) (sweeps_on r p n).answer (sweeps_on r p n).after

-- the state, if it has a plate
abbrev pub plate_in : State → Option State
plate_in fresh = None
plate_in (ruled r) = None
plate_in (plated r p) = Some (plated r p)

-- what a command does; commands for stores leave the plates alone
abbrev pub obeyed : State → Asked → Outcome
obeyed s command.nothing = outcome nothing s
obeyed s command.life = ruling s (Ok rules.life)
obeyed s (command.vehicles a b c) = ruling s (vehicles_made a b c)
obeyed s (command.plate w h ex ey) = plating_in (rule_in s) s w h ex ey
obeyed s (command.row y digits) = rowing_in s y digits
obeyed s (command.sweep n) = sweeping_in s n
obeyed s (command.store c) = outcome nothing s
obeyed s command.unknown = outcome not_understood s

-- only a new plate and a row take memory
abbrev pub takes_memory : Asked → Bool
takes_memory command.nothing = false
takes_memory command.life = false
takes_memory (command.vehicles a b c) = false
takes_memory (command.plate w h ex ey) = true
takes_memory (command.row y digits) = true
takes_memory (command.sweep n) = false
takes_memory (command.store c) = false
takes_memory command.unknown = false

-- the reply and the state after it are the defined ones; only what takes memory can want it, and then nothing has changed
abbrev pub Obeys : Bool → Option Said → State → State → Outcome → Type 0
Obeys memory (Some said) before after defined = outcome said after ≡ defined
Obeys memory None before after defined = (memory ≡ true) × (after ≡ before)
