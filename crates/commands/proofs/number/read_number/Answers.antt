use Rattle.std.proofs.Common.{◌∙◌, rules}
use Rattle.commands.proofs.Numbers.{parsed}
use Rattle.commands.proofs.number.read_number.Goals as goal

pub returns : goal.returns
returns c = c.ok.ensures.value ∙ parsed c.args.word.now c.parse.result c.parse.ensures.value.0 (search rules)
