use Rattle.std.proofs.Common.{subst}
use Rattle.scenario.specs.Benches.{bench_of, BenchObeys}
use Rattle.scenario.proofs.Answering.{answered}
use Rattle.scenario.proofs.bench.Bench.answer.Goals as goal

pub returns : goal.returns
returns c =
    let before = bench_of c.args.self.now in
    let after = bench_of c.obey.new.self in
    answered c.args.line.now c.as_slice.result.now c.obey.result before after
    (rw (← c.in-Ok.ensures.cases.0, c.as_slice.ensures.value) c.in-Ok-split_words.ensures)
    (subst (BenchObeys c.obey.result before after) c.read_command.ensures c.obey.ensures)
