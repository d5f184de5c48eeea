-- What a bench does with a line of a scenario: plates and stores side by side.
use Rattle.std.specs.Prelude.{◌≡◌, ℕ, ◌⊎◌, List, [], length, Err, Result, IsUtf8, slice_index_or}
use Rattle.commands.specs.Commands as command
use Rattle.commands.specs.Commands.{Asked, StoreAsked, command_of}
use Rattle.commands.specs.Words.{Words}
use Rattle.desk.specs.declared.done.DeskDone.{DeskDone}
use Rattle.desk.specs.declared.trouble.DeskTrouble.{DeskTrouble}
use Rattle.desk.specs.Desks.{DeskState, desk_of, desk_said_of, store_takes_memory, desk_obeyed, DeskObeys}
use Rattle.scenario.specs.declared.answer.BenchReply.{BenchReply}
use Rattle.scenario.specs.declared.answer.BenchReply.TheVariants.{Plates, Stores}
use Rattle.scenario.specs.declared.bench.Bench.{Bench}
use Rattle.scenario.specs.declared.done.Done.{Done}
use Rattle.scenario.specs.declared.trouble.Trouble.{Trouble}
use Rattle.scenario.specs.declared.trouble.Trouble.TheVariants as trouble
use Rattle.scenario.specs.Sessions.{State, state_of, said_of, takes_memory, obeyed, Obeys}

pub record BenchState : Type 0 where
  pub plates : State
  pub stores : DeskState

abbrev pub bench_of : Bench → BenchState
bench_of b = record { plates = state_of b.plates; stores = desk_of b.stores }

-- a command for plates was obeyed, and the store is as it was
pub record PlatesObey (r : BenchReply) (before after : BenchState) (q : Asked) : Type 0 where
  pub replied : Result Done Trouble
  pub says : r ≡ Plates replied
  pub obeys : Obeys (takes_memory q) (said_of replied) before.plates after.plates (obeyed before.plates q)
  pub kept : after.stores ≡ before.stores

-- a command for stores was obeyed, and the plates are as they were
pub record StoresObey (r : BenchReply) (before after : BenchState) (q : StoreAsked) : Type 0 where
  pub replied : Result DeskDone DeskTrouble
  pub says : r ≡ Stores replied
  pub obeys : DeskObeys (store_takes_memory q) (desk_said_of replied) before.stores after.stores (desk_obeyed before.stores q)
  pub kept : after.plates ≡ before.plates

abbrev pub BenchObeys : BenchReply → BenchState → BenchState → Asked → Type 0
BenchObeys r before after command.nothing = PlatesObey r before after command.nothing
BenchObeys r before after command.life = PlatesObey r before after command.life
BenchObeys r before after (command.vehicles a b c) = PlatesObey r before after (command.vehicles a b c)
BenchObeys r before after (command.plate w h ex ey) = PlatesObey r before after (command.plate w h ex ey)
BenchObeys r before after (command.row y digits) = PlatesObey r before after (command.row y digits)
BenchObeys r before after (command.sweep n) = PlatesObey r before after (command.sweep n)
BenchObeys r before after (command.store q) = StoresObey r before after q
BenchObeys r before after command.unknown = PlatesObey r before after command.unknown

-- nothing was done: the line is no text, or there was no memory to read it
pub record Idle (r : BenchReply) (before after : BenchState) (replied : Result Done Trouble) : Type 0 where
  pub says : r ≡ Plates replied
  pub kept : after ≡ before

-- a line is answered: it is no text and not understood, or its words are obeyed, or there was no memory to read it
abbrev pub Answers : List ℕ → BenchReply → BenchState → BenchState → Type 0
Answers line r before after =
    ((IsUtf8 line → ⊥) × Idle r before after (Err trouble.NotUnderstood))
    ⊎ (((ws : List (List ℕ)) × Words line ws × BenchObeys r before after (command_of (length ws) (λ i. slice_index_or ws i [])))
    ⊎ Idle r before after (Err trouble.NoMemory))
