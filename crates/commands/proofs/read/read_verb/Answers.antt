use Rattle.std.proofs.Common.{arith}
use Rattle.commands.proofs.Choosing.{chosen}
use Rattle.commands.proofs.read.read_verb.Goals.{in_default-via-then-words-lt2, in_default-via-else-words-lt2+then-words-lt3+in-rule+in_default, in_default-via-else-words-lt2+then-words-lt3+in_default, in_default-via-else-words-lt2+else-words-lt3+then-words-lt4+in_default, in_default-via-else-words-lt2+else-words-lt3+else-words-lt4+then-words-lt5, in_default-via-else-words-lt2+else-words-lt3+else-words-lt4+else-words-lt5+then-words-lt6+in-rule+in_default, in_default-via-else-words-lt2+else-words-lt3+else-words-lt4+else-words-lt5+then-words-lt6+in_default, in_default-via-else-words-lt2+else-words-lt3+else-words-lt4+else-words-lt5+else-words-lt6}
use Rattle.commands.proofs.read.read_verb.Goals as goal

pub returns-in_err-read_store_command-in_default : goal.returns-in_err-read_store_command-in_default
returns-in_err-read_store_command-in_default c =
    elim c.in_default.branch [
      | in_default-via-then-words-lt2 w ↦ grind (arith, chosen)
      | in_default-via-else-words-lt2+then-words-lt3+in-rule+in_default w ↦ grind (arith, chosen)
      | in_default-via-else-words-lt2+then-words-lt3+in_default w ↦ grind (arith, chosen)
      | in_default-via-else-words-lt2+else-words-lt3+then-words-lt4+in_default w ↦ grind (arith, chosen)
      | in_default-via-else-words-lt2+else-words-lt3+else-words-lt4+then-words-lt5 w ↦ grind (arith, chosen)
      | in_default-via-else-words-lt2+else-words-lt3+else-words-lt4+else-words-lt5+then-words-lt6+in-rule+in_default w ↦ grind (arith, chosen)
      | in_default-via-else-words-lt2+else-words-lt3+else-words-lt4+else-words-lt5+then-words-lt6+in_default w ↦ grind (arith, chosen)
      | in_default-via-else-words-lt2+else-words-lt3+else-words-lt4+else-words-lt5+else-words-lt6 w ↦ grind (arith, chosen)
    ]
