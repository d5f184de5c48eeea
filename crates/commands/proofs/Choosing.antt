-- Words at their places, and words that are no command.
use Rattle.std.proofs.Common.{◌≡◌, ℕ, zero, suc, ◌+◌, ◌-◌, false, List, [], ◌∷◌, map, length, get_or, take, drop, sym, ap, ◌∙◌, ap₂, arith, Bor, rules}
use Rattle.std.specs.List.{range_with_len}
use Rattle.std.specs.Str.{bytes_eq}
use Rattle.std.proofs.Math.ListN.{get_or-map}
use Rattle.std.proofs.lemmas.Slice.Eq.{bytes_eq-Decides}
use Rattle.std.proofs.lemmas.List.{take_all, drop_all, drop_more, length-drop}
use Rattle.std.proofs.lemmas.Bool.Decides.{nat_tests}
use Rattle.commands.specs.Commands.{word_at}

pub other_word : (w x : List ℕ) → (w ≡ x → ⊥) → bytes_eq w x ≡ false
other_word w x n = search (rules, bytes_eq-Decides)

abbrev pub no_word : Bor (List ℕ)
no_word = record { ref_ptr = (0, 0); now = [] }

pub word_is : (ws : List (Bor (List ℕ))) (i : ℕ) → (get_or ws i no_word).now ≡ word_at ws i
word_is ws i = sym (get_or-map (λ (w : Bor (List ℕ)). w.now) ws i no_word)

words_on : (ws : List (Bor (List ℕ))) (i n : ℕ) → n ≡ length ws - i → map (λ w. w.now) (drop i ws) ≡ map (word_at ws) (range_with_len i n)
words_on ws i zero e = ap (map (λ w. w.now)) (drop_all i ws (omega arith))
words_on ws i (suc n) e =
    ap (map (λ w. w.now)) (drop_more ws i no_word (omega arith))
    ∙ ap₂ (λ w rest. w ∷ rest) (word_is ws i) (words_on ws (i + 1) n (omega arith))

-- the words from one place on
pub words_from : (ws : List (Bor (List ℕ))) (i : ℕ) → map (λ w. w.now) (take (length ws - i) (drop i ws)) ≡ map (word_at ws) (range_with_len i (length ws - i))
words_from ws i = ap (map (λ w. w.now)) (take_all (length ws - i) (drop i ws) (omega (arith, length-drop i ws))) ∙ words_on ws i (length ws - i) (omega arith)

-- what tells the words of a command from all others
pub ruleset chosen = (other_word, word_is, words_from, nat_tests)
