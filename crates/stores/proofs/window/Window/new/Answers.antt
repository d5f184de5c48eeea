use Rattle.std.proofs.Common.{refl}
use Rattle.stores.proofs.Stacked.{windows_stack}
use Rattle.stores.proofs.window.Window.new.Goals as goal

pub returns : goal.returns
returns g c = record { stacks = windows_stack; over = refl; means = refl }
