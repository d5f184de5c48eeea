-- How a contract speaks of an answer that may be a refusal.
use Rattle.std.specs.Prelude.{◌≡◌, true, is_ok, Ok, Err, Result}
use Rattle.refusals.specs.declared.five.FiveNumbers.{FiveNumbers}
use Rattle.refusals.specs.declared.failure.Failure.{Failure}
use Rattle.refusals.specs.declared.failure.Failure.TheVariants.{Refused, Memory}
use Rattle.refusals.specs.declared.refusal.Refusal.{Refusal}
use Rattle.refusals.specs.Numbers.{numbers}

-- what f says of the accepted value, or the five numbers of the refusal
abbrev pub reported : {A B : Type 0} → (A → B) → Result A Refusal → Result B FiveNumbers
reported f (Ok a) = Ok (f a)
reported f (Err r) = Err (numbers r)

-- a definition refuses
abbrev pub refuse : {A : Type 0} → Refusal → Result A FiveNumbers
refuse r = Err (numbers r)

-- the answer of a call that takes memory is the defined one; only where that accepts can memory be wanting
abbrev pub Answers : {A B : Type 0} → (A → B) → Result A Failure → Result B FiveNumbers → Type 0
Answers f (Ok a) defined = Ok (f a) ≡ defined
Answers f (Err (Refused r)) defined = Err (numbers r) ≡ defined
Answers f (Err Memory) defined = is_ok defined ≡ true
