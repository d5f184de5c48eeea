-- A line whose words are read and obeyed is answered.
use Rattle.std.proofs.Common.{ℕ, List, map, length, sym, subst, inl, inr, Bor}
use Rattle.std.proofs.lemmas.List.{length-map}
use Rattle.commands.specs.Commands.{word_at, command_of}
use Rattle.commands.specs.Words.{Words}
use Rattle.scenario.specs.declared.answer.BenchReply.{BenchReply}
use Rattle.scenario.specs.Benches.{BenchState, BenchObeys, Answers}

pub answered : (line : List ℕ) (refs : List (Bor (List ℕ))) (r : BenchReply) (s t : BenchState)
    → Words line (map (λ w. w.now) refs) → BenchObeys r s t (command_of (length refs) (word_at refs)) → Answers line r s t
answered line refs r s t words h =
    inr (inl (map (λ w. w.now) refs, words, subst (λ n. BenchObeys r s t (command_of n (word_at refs))) (sym (length-map refs (λ w. w.now))) h))
