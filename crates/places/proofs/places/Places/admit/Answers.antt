use Rattle.std.proofs.Common.{◌≡◌, ◌-◌, ◌∷◌, length, take, sym, ap, ◌∙◌, arith}
use Rattle.std.specs.List.{slice_get}
use Rattle.std.proofs.lemmas.Bool.{eqb-true, eqb-false}
use Rattle.std.proofs.lemmas.List.{take_all}
use Rattle.shelves.proofs.Lists.{entry_past}
use Rattle.places.proofs.places.Places.admit.Goals as goal
use Rattle.places.proofs.places.Places.admit.Goals.{then-is_full, else-is_full}

pub returns-clause-leaves : goal.returns-clause-leaves
returns-clause-leaves c =
    let es = c.args.self.now.entries.items in
    c.insert.ensures.items ∙ ap (λ xs. c.args.entry ∷ xs) (elim c.if-is_full.branch [
      | then-is_full w ↦ let full : length es ≡ 64 = eqb-true (length es) 64 (sym w.if-is_full.ensures.value) in
          let n : length es - 1 ≡ 63 = omega arith in
          ap (λ s. s.entries.items) w.self-is ∙ w.pop-last.ensures.rest ∙ ap (λ m. take m es) n
      | else-is_full w ↦ let free = eqb-false (length es) 64 (sym w.if-is_full.ensures.value) in
          ap (λ s. s.entries.items) w.self-is ∙ sym (take_all 63 es (omega (arith, c.is_full.ensures.fits)))
    ])

pub returns-clause-last : goal.returns-clause-last
returns-clause-last c =
    let es = c.args.self.now.entries.items in
    elim c.if-is_full.branch [
      | then-is_full w ↦ let full : length es ≡ 64 = eqb-true (length es) 64 (sym w.if-is_full.ensures.value) in
          let n : length es - 1 ≡ 63 = omega arith in
          w.last-is ∙ w.pop-last.ensures.value ∙ ap (slice_get es) n
      | else-is_full w ↦ let free = eqb-false (length es) 64 (sym w.if-is_full.ensures.value) in
          w.last-is ∙ sym (entry_past es 63 (omega (arith, c.is_full.ensures.fits)))
    ]
