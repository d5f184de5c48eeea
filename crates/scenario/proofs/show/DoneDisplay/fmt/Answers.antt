use Rattle.scenario.proofs.show.DoneDisplay.fmt.Goals as goal

pub returns-in-Ruled-clause-writes : goal.returns-in-Ruled-clause-writes
returns-in-Ruled-clause-writes g c = λ p k. rw c.in-Ruled.is (rw c.numbers-numbers.ensures at (c.write.ensures.writes p k))

pub returns-in-Plated-clause-writes : goal.returns-in-Plated-clause-writes
returns-in-Plated-clause-writes g c = λ p k. rw c.in-Plated.is (c.write-in-Plated.ensures.writes p k)

pub returns-in-Swept-clause-writes : goal.returns-in-Swept-clause-writes
returns-in-Swept-clause-writes g c = λ p k. rw c.in-Swept.is (c.write-in-Swept.ensures.writes p k)
