use Rattle.std.proofs.Common.{ℕ, ◌*◌, map, replicate, vec_items, sym, ap, ◌∙◌}
use Rattle.desk.specs.Cards.{marked}
use Rattle.desk.specs.Desks.{desk_of}
use Rattle.desk.proofs.Naming.{fit_texts, card_is, bad_words}
use Rattle.desk.proofs.desk.Desk.set_card.Goals as goal

pub returns-then-not-all_name_tiles : goal.returns-then-not-all_name_tiles
returns-then-not-all_name_tiles c =
    bad_words (desk_of c.args.self.now) c.args.n c.args.worn.now c.in_ok-count.ensures.1
    (sym (c.if-not-all_name_tiles.ensures ∙ fit_texts c.args.n c.args.worn.now))

pub returns : goal.returns
returns c =
    card_is (desk_of c.args.self.now) c.args.n c.args.worn.now (vec_items c.new-2.result.memory) c.in_ok-count.ensures.1
    (sym (c.if-not-all_name_tiles.ensures ∙ fit_texts c.args.n c.args.worn.now))
    (ap vec_items c.new-2.ensures ∙ c.in_ok-bytes.ensures ∙ ap (λ (z : ℕ). marked z (replicate (65 * z) 0) (map (λ w. w.now) c.args.worn.now)) c.in_ok-count.ensures.0)
