-- What a refused call leaves.
use Rattle.std.proofs.Common.{◌≡◌, ℕ, ◌+◌, ◌*◌, Bool, true, false, cond, ◌&&◌, leb, List, Err, refl, arith}
use Rattle.refusals.specs.declared.five.FiveNumbers.{FiveNumbers}
use Rattle.refusals.specs.declared.refusal.Refusal.TheVariants.{Steps}
use Rattle.rules.specs.Codes.{within}
use Rattle.rules.specs.Rule.{RuleMeaning}
use Rattle.shapes.specs.Shape.{area}
use Rattle.sweep.specs.Sweep.{sweeps}
use Rattle.sweep.specs.Plain.{Plain, Out, accepted, refused, puts_row, sweeps_on}

-- a call that refuses leaves the lattice p
abbrev pub Keeps : {A : Type 0} → Plain → Out A → Type 0
Keeps p o = (n : FiveNumbers) → o.answer ≡ Err n → o.after ≡ p

pub keeps_accepted : {A : Type 0} (p q : Plain) (a : A) → Keeps p (accepted q a)
keeps_accepted p q a n e = let z : ◌≡◌ {A = ℕ} 0 1 = cc in absurd (omega arith)

pub keeps_if : {A : Type 0} (p : Plain) (b : Bool) (x y : Out A) → Keeps p x → Keeps p y → Keeps p (cond b x y)
keeps_if p true x y f g = f
keeps_if p false x y f g = g

pub puts_row_keeps : (r : RuleMeaning) (p : Plain) (y : ℕ) (codes : List ℕ) → Keeps p (puts_row r p y codes)
puts_row_keeps r p y codes =
    keeps_if p _ _ _
    (keeps_if p (within r.top codes) _ _ (keeps_accepted p _ tt) (λ n e. refl))
    (λ n e. refl)

pub sweeps_keeps : (r : RuleMeaning) (p : Plain) (n : ℕ) → Keeps p (sweeps_on r p n)
sweeps_keeps r p n =
    let after : Plain = record { shape = p.shape; step = p.step + n; cells = sweeps r p.shape p.step n p.cells } in
    keeps_if p (leb n 1024 && leb (p.step + n) 2147483647) (accepted after (n * area p.shape)) (refused p Steps) (keeps_accepted p after (n * area p.shape)) (λ n e. refl)
