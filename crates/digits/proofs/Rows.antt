-- A row's digits, as a text holds them.
use Rattle.std.proofs.Common.{◌≡◌, ℕ, ◌<◌, List, [], ◌∷◌, ◌++◌, map, Result, OnOk, Iter, Bor, encode_utf8_all, refl, sym, ap, ap₂, ◌∙◌, map-id, arith}
use denote.Param.Members.{Mut}
use Rattle.std.specs.declared.iter.Map.{Map}
use Rattle.std.specs.Fn.{Called}
use Rattle.std.specs.Iterator.{Drains, Yields}
use Rattle.std.specs.Slice.Iter.{iter_rest}
use Rattle.std.specs.Iterator.Adapters.{map_source, map_callee}
use Rattle.std.proofs.lemmas.Fn.{fronts}
use Rattle.std.proofs.lemmas.Iterator.{maps}
use Rattle.std.specs.Result.{MatchResult}
use Rattle.std.proofs.lemmas.Bool.Decides.{nat_tests}
use Rattle.std.proofs.lemmas.Str.{encode_ascii}
use Rattle.std.proofs.lemmas.Iterator.{YieldsList-from_map, YieldsList-from_slice}
use Rattle.std.proofs.lemmas.Iterator.Adapters.{fact_from_extend}
use Rattle.digits.specs.Digits.{digit}

digit_ascii : (v : ℕ) → digit v < 128
digit_ascii v = grind (arith, nat_tests)

-- each digit is one byte
digits_encoded : (cells : List ℕ) → encode_utf8_all (map digit cells) ≡ map digit cells
digits_encoded [] = refl
digits_encoded (v ∷ vs) = ap₂ (λ a b. a ++ b) (encode_ascii (digit v) (digit_ascii v)) (digits_encoded vs)

-- a text that was extended by the digits of some cells
pub extended : {F E : Type 0} {f : F} {g : Mut F (Bor ℕ × Unit {0}) ℕ} (m : Map (Iter ℕ) F) (cells old new : List ℕ) (r : Result (Unit {0}) E)
    → ((it : Map (Iter ℕ) F) × (xs : List ℕ) × (it ≡ m) × (new ≡ old ++ encode_utf8_all xs) × MatchResult r (λ _. Drains (maps fronts g) it xs) (λ _. (t : Map (Iter ℕ) F) × Yields (maps fronts g) it xs t))
    → iter_rest (map_source m) ≡ cells → map_callee m ≡ f
    → ((x : Bor ℕ) (d : ℕ) (q : F) → Called g f (x, tt) d q → (q ≡ f) × (d ≡ digit x.now))
    → OnOk r (new ≡ old ++ map digit cells)
extended {g = g} m cells old new r ran source callee closure =
    fact_from_extend {steps = maps fronts g} {all = map digit cells} {B = λ it. it ≡ m} {P = λ xs. new ≡ old ++ encode_utf8_all xs} (λ d. d) r ran
    (λ it b. rw b (YieldsList-from_map g digit (YieldsList-from_slice cells source) callee closure))
    (λ xs e p. p ∙ ap (λ bs. old ++ bs) (ap encode_utf8_all (sym (map-id xs) ∙ e) ∙ digits_encoded cells))
