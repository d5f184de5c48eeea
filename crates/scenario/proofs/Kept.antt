-- A refused command changes nothing.
use Rattle.std.proofs.Common.{◌≡◌, ℕ, Bool, true, false, cond, eqb, List, length, Some, None, Ok, Err, Option, Result, sym, refl, ap, ◌∙◌}
use Rattle.refusals.specs.declared.five.FiveNumbers.{FiveNumbers}
use Rattle.rules.specs.Codes.{busy}
use Rattle.rules.specs.Rule.{RuleMeaning}
use Rattle.rules.specs.Life as rules
use Rattle.rules.specs.Vehicles.{vehicles_made}
use Rattle.digits.specs.Digits.{row_read}
use Rattle.sweep.specs.Plain.{Plain, laid, puts_row, sweeps_on}
use Rattle.sweep.proofs.Calls.{puts_row_keeps, sweeps_keeps}
use Rattle.commands.specs.Commands as command
use Rattle.commands.specs.Commands.{Asked}
use Rattle.scenario.specs.Sessions.{State, fresh, ruled, plated, Said, refused, Outcome, ruling, plating, plating_in, rule_in, rowing_if, rowing_in, row_said, sweep_said, sweeping_in, obeyed, Obeys}

-- an outcome that is a refusal leaves the state s
abbrev Keeps : State → Outcome → Type 0
Keeps s o = (n : FiveNumbers) → o.said ≡ refused n → o.after ≡ s

ruling_keeps : (s : State) (m : Result RuleMeaning FiveNumbers) → Keeps s (ruling s m)
ruling_keeps s (Ok r) n e = cc
ruling_keeps s (Err m) n e = refl

plating_keeps : (r : RuleMeaning) (s : State) (m : Result Plain FiveNumbers) → Keeps s (plating r s m)
plating_keeps r s (Ok p) n e = cc
plating_keeps r s (Err m) n e = refl

plating_in_keeps : (o : Option RuleMeaning) (s : State) (w h : ℕ) (ex ey : List ℕ) → Keeps s (plating_in o s w h ex ey)
plating_in_keeps None s w h ex ey n e = refl
plating_in_keeps (Some r) s w h ex ey n e = plating_keeps r s (laid r w h ex ey) n e

row_said_keeps : (r : RuleMeaning) (p q : Plain) (y : ℕ) (codes : List ℕ) (m : Result (Unit {0}) FiveNumbers) → ((n : FiveNumbers) → m ≡ Err n → q ≡ p) → Keeps (plated r p) (row_said r y codes m q)
row_said_keeps r p q y codes (Ok u) h n e = cc
row_said_keeps r p q y codes (Err m) h n e = ap (plated r) (h m refl)

keeps_if : (s : State) (b : Bool) (x y : Outcome) → Keeps s x → Keeps s y → Keeps s (cond b x y)
keeps_if s true x y f g = f
keeps_if s false x y f g = g

rowing_in_keeps : (s : State) (y : ℕ) (digits : List ℕ) → Keeps s (rowing_in s y digits)
rowing_in_keeps fresh y digits = λ n e. refl
rowing_in_keeps (ruled r) y digits = λ n e. refl
rowing_in_keeps (plated r p) y digits = go (row_read digits)
  where
    go : (o : Option (List ℕ)) → Keeps (plated r p) (rowing_if r p y o)
    go None = λ n e. refl
    go (Some codes) =
        keeps_if (plated r p) (eqb (length codes) p.shape.width) _ _
        (row_said_keeps r p (puts_row r p y codes).after y codes (puts_row r p y codes).answer (puts_row_keeps r p y codes))
        (λ n e. refl)

sweep_said_keeps : (r : RuleMeaning) (p q : Plain) (k before : ℕ) (m : Result ℕ FiveNumbers) → ((n : FiveNumbers) → m ≡ Err n → q ≡ p) → Keeps (plated r p) (sweep_said r k before m q)
sweep_said_keeps r p q k before (Ok updates) h n e = cc
sweep_said_keeps r p q k before (Err m) h n e = ap (plated r) (h m refl)

sweeping_in_keeps : (s : State) (k : ℕ) → Keeps s (sweeping_in s k)
sweeping_in_keeps fresh k = λ n e. refl
sweeping_in_keeps (ruled r) k = λ n e. refl
sweeping_in_keeps (plated r p) k = sweep_said_keeps r p (sweeps_on r p k).after k (busy p.cells) (sweeps_on r p k).answer (sweeps_keeps r p k)

obeyed_keeps : (s : State) (q : Asked) → Keeps s (obeyed s q)
obeyed_keeps s command.nothing = λ n e. refl
obeyed_keeps s command.life = ruling_keeps s (Ok rules.life)
obeyed_keeps s (command.vehicles a b c) = ruling_keeps s (vehicles_made a b c)
obeyed_keeps s (command.plate w h ex ey) = plating_in_keeps (rule_in s) s w h ex ey
obeyed_keeps s (command.row y digits) = rowing_in_keeps s y digits
obeyed_keeps s (command.sweep k) = sweeping_in_keeps s k
obeyed_keeps s (command.store c) = λ n e. refl
obeyed_keeps s command.unknown = λ n e. refl

pub refused_keeps : (m : Bool) (o : Option Said) (s t : State) (q : Asked) (n : FiveNumbers) → Obeys m o s t (obeyed s q) → o ≡ Some (refused n) → t ≡ s
refused_keeps m None s t q n h e = h.1
refused_keeps m (Some said) s t q n h e =
    let is : said ≡ refused n = cc in
    ap (λ (x : Outcome). x.after) h ∙ obeyed_keeps s q n (sym (ap (λ (x : Outcome). x.said) h) ∙ is)
