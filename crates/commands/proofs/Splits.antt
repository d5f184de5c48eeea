-- Words, one after the other.
use Rattle.std.proofs.Common.{◌≡◌, ℕ, List, [], ◌∷◌, map, None, Bor, sym, subst}
use Rattle.std.specs.Iterator.{Yields, DrainsIf}
use Rattle.std.specs.Str.Iter.{split_whitespace_rest, split_whitespace_steps}
use Rattle.std.specs.declared.str.SplitWhitespace.{SplitWhitespace}
use Rattle.commands.specs.Words.{Words}

words_taken : (xs : List (Bor (List ℕ))) (s t u : SplitWhitespace) → Yields split_whitespace_steps s xs t → split_whitespace_steps t None u → Words (split_whitespace_rest s) (map (λ w. w.now) xs)
words_taken [] s t u e none = subst (λ z. Words (split_whitespace_rest z) []) (sym e) none.1
words_taken (x ∷ xs) s t u (j, (gap, cut, some, blank, solid, ends), more) none =
    (split_whitespace_rest j, record { gap = gap; cut = cut; some = some; blank = blank; solid = solid; ends = ends }, words_taken xs j t u more none)

pub words_drained : (line : List ℕ) (s : SplitWhitespace) (xs items : List (Bor (List ℕ))) → split_whitespace_rest s ≡ line → DrainsIf split_whitespace_steps (Unit {0}) s xs → items ≡ xs → Words line (map (λ w. w.now) items)
words_drained line s xs items r d e = rw (← r, e) (words_taken xs s d.0 (d.2 tt).0 d.1 (d.2 tt).1)
