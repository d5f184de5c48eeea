use Rattle.std.proofs.Common.{ap, ◌∙◌, arith}
use Rattle.commands.specs.Commands.{store, card}
use Rattle.commands.proofs.Choosing.{chosen, words_from}
use Rattle.commands.proofs.read.read_store_command.Goals.{in_default-via-then-words-lt1, in_default-via-else-words-lt1+then-words-lt2+in_default, in_default-via-else-words-lt1+else-words-lt2+then-words-lt3+in_default, in_default-via-else-words-lt1+else-words-lt2+else-words-lt3+then-words-lt4+in-store+in_default, in_default-via-else-words-lt1+else-words-lt2+else-words-lt3+then-words-lt4+in_default, in_default-via-else-words-lt1+else-words-lt2+else-words-lt3+else-words-lt4+in-store+in_default, in_default-via-else-words-lt1+else-words-lt2+else-words-lt3+else-words-lt4+in_default, then-words-lt4+in-store+in-card-1, else-words-lt4+in-store+in-card-1}
use Rattle.commands.proofs.read.read_store_command.Goals as goal

pub returns-in_ok-read_number-in-store : goal.returns-in_ok-read_number-in-store
returns-in_ok-read_number-in-store c =
    let worn = ap (λ worn. store (card c.in_ok-read_number-in-store.field-0 worn)) (words_from c.args.words.now 3) in
    elim c.in-store-1.branch [
      | then-words-lt4+in-store+in-card-1 w ↦ worn ∙ grind (arith, chosen)
      | else-words-lt4+in-store+in-card-1 w ↦ worn ∙ grind (arith, chosen)
    ]

pub returns-in_default : goal.returns-in_default
returns-in_default c =
    elim c.in_default.branch [
      | in_default-via-then-words-lt1 w ↦ grind (arith, chosen)
      | in_default-via-else-words-lt1+then-words-lt2+in_default w ↦ grind (arith, chosen)
      | in_default-via-else-words-lt1+else-words-lt2+then-words-lt3+in_default w ↦ grind (arith, chosen)
      | in_default-via-else-words-lt1+else-words-lt2+else-words-lt3+then-words-lt4+in-store+in_default w ↦ grind (arith, chosen)
      | in_default-via-else-words-lt1+else-words-lt2+else-words-lt3+then-words-lt4+in_default w ↦ grind (arith, chosen)
      | in_default-via-else-words-lt1+else-words-lt2+else-words-lt3+else-words-lt4+in-store+in_default w ↦ grind (arith, chosen)
      | in_default-via-else-words-lt1+else-words-lt2+else-words-lt3+else-words-lt4+in_default w ↦ grind (arith, chosen)
    ]
