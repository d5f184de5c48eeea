use Rattle.commands.proofs.Splits.{words_drained}
use Rattle.commands.proofs.words.split_words.Goals as goal

pub returns : goal.returns
returns c =
    let ran = c.in_ok-words.ensures.ran in
    words_drained _ c.split_whitespace.result ran.0 c.in_ok-words.words.items c.split_whitespace.ensures.rest ran.1 ran.2.0
