-- Words that name tiles, one after the other.
use Rattle.std.proofs.Common.{◌≡◌, ℕ, ◌+◌, ◌*◌, ◌<◌, ◌≤◌, true, ◌&&◌, List, [], ◌∷◌, map, length, get_or, drop, replicate, false, sym, refl, ap, ◌∙◌, ap₂, Bor}
use Rattle.std.proofs.lemmas.List.{drop_more, drop_all, length-map}
use Rattle.std.proofs.lemmas.Bool.{le-leb}
use Rattle.stores.specs.Layouts.{image, card_layout}
use Rattle.std.specs.List.{list_all}
use Rattle.commands.specs.Commands.{card}
use Rattle.desk.specs.Cards.{worn_fits, all_fit, marked_one, marked}
use Rattle.desk.specs.Desks.{DeskState, plain, bad_worn, card_made, desk_outcome, desk_obeyed}

abbrev texts : List (Bor (List ℕ)) → List (List ℕ)
texts ws = map (λ w. w.now) ws

texts_more : (ws : List (Bor (List ℕ))) (i : ℕ) (d : Bor (List ℕ)) → i < length ws → texts (drop i ws) ≡ (get_or ws i d).now ∷ texts (drop (i + 1) ws)
texts_more ws i d l = ap texts (drop_more ws i d l)

texts_all : (ws : List (Bor (List ℕ))) (i : ℕ) → length ws ≤ i → texts (drop i ws) ≡ []
texts_all ws i l = ap texts (drop_all i ws l)

-- the words, and the texts behind them
pub fit_texts : (n : ℕ) (ws : List (Bor (List ℕ))) → list_all (λ w. worn_fits n w.now) ws ≡ all_fit n (texts ws)
fit_texts n [] = refl
fit_texts n (w ∷ ws) = ap (λ b. worn_fits n w.now && b) (fit_texts n ws)

module _ (n : ℕ) (ws : List (Bor (List ℕ))) where
  pub marked_more : (start memory next : List ℕ) (tiles i : ℕ) (d : Bor (List ℕ)) → i < length ws → tiles ≡ n → next ≡ marked_one tiles memory (get_or ws i d).now
      → start ≡ marked n memory (texts (drop i ws)) → start ≡ marked n next (texts (drop (i + 1) ws))
  marked_more start memory next tiles i d l t e s = s ∙ ap (marked n memory) (texts_more ws i d l) ∙ ap (λ m. marked n m (texts (drop (i + 1) ws))) (sym (e ∙ ap (λ z. marked_one z memory (get_or ws i d).now) t))

  pub marked_all : (memory : List ℕ) (i : ℕ) → length ws ≤ i → marked n memory (texts (drop i ws)) ≡ memory
  marked_all memory i l = ap (marked n memory) (texts_all ws i l)

-- a card whose memory is marked so is the one asked for
pub card_is : (d : DeskState) (n : ℕ) (ws : List (Bor (List ℕ))) (memory : List ℕ) → n ≤ 1048576 → all_fit n (texts ws) ≡ true → memory ≡ marked n (replicate (65 * n) 0) (texts ws)
    → desk_outcome (card_made n (length ws)) (plain (image card_layout memory)) ≡ desk_obeyed d (card n (texts ws))
card_is d n ws memory l f e =
    ap₂ (λ k m. desk_outcome (card_made n k) (plain (image card_layout m))) (sym (length-map ws (λ w. w.now))) e
    ∙ rw (le-leb n 1048576 l, f) refl

-- and one of whose words one names no tile is refused
pub bad_words : (d : DeskState) (n : ℕ) (ws : List (Bor (List ℕ))) → n ≤ 1048576 → all_fit n (texts ws) ≡ false → desk_outcome bad_worn d ≡ desk_obeyed d (card n (texts ws))
bad_words d n ws l f = rw (le-leb n 1048576 l, f) refl
