use Rattle.std.proofs.Common.{◌≡◌, map, drop}
use Rattle.desk.specs.Cards.{marked}
use Rattle.desk.proofs.card.CardMemory.mark_all.Given as goal

-- the marks set so far, and those to come
abbrev pub invariant-loop-word : goal.invariant-loop-word
invariant-loop-word l =
    (l.self.count ≡ l.initial.self.count)
    × (marked l.initial.self.count.tiles l.initial.self.bytes.items (map (λ w. w.now) l.worn) ≡ marked l.initial.self.count.tiles l.self.bytes.items (map (λ w. w.now) (drop l.word-index l.worn)))
