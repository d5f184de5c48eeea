use Rattle.commands.specs.Commands.{asked_of}
use Rattle.scenario.specs.Sessions.{state_of, said_of, takes_memory}
use Rattle.scenario.proofs.Kept.{refused_keeps}
use Rattle.scenario.proofs.session.Session.obey.Goals as goal

pub returns : goal.returns
returns c = record {
  obeys = c.run.ensures;
  kept = λ n e. refused_keeps (takes_memory (asked_of c.args.command)) (said_of c.run.result) (state_of c.args.self.now) (state_of c.run.new.self) (asked_of c.args.command) n c.run.ensures e;
}
