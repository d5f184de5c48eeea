-- The gap and the arrival, as the chains of the code find them.
use Rattle.std.proofs.Common.{◌≡◌, ℕ, zero, suc, ◌+◌, ◌<◌, cond, ◌==◌, List, length, get_or, take, drop, refl, ap, add-one, arith, drop-cons, Some, true, false}
use Rattle.std.specs.List.{prefix_len, find, range_with_len}
use Rattle.std.specs.Option.{option_map_or}
use Rattle.rules.specs.Vehicles.{gap, arrives, arrival}

-- the leading empty cells of the n ahead are the gap
gap_within : (w : List ℕ) (i n : ℕ) → i + n < length w → prefix_len (λ c. c == 0) (take n (drop (i + 1) w)) ≡ gap w i n
gap_within w i zero h = refl
gap_within w i (suc n) h =
    let l : i + 1 < length w = omega arith in
    let e : prefix_len (λ c. c == 0) (take n (drop (suc (i + 1)) w)) ≡ gap w (i + 1) n = rw (← add-one (i + 1)) (gap_within w (i + 1) n (omega arith)) in
    rw (drop-cons w (i + 1) 0) (ap (λ m. cond (get_or w (i + 1) 0 == 0) m 0) (omega (arith, e)))

-- the cells ahead are taken as a slice takes them, to an end that is n places on
pub gap_prefix : (w : List ℕ) (i n m : ℕ) → m ≡ n → i + n < length w → prefix_len (λ c. c == 0) (take m (drop (i + 1) w)) ≡ gap w i n
gap_prefix w i n m e h = rw e (gap_within w i n h)

-- the first distance found from which a vehicle arrives, counted from 1, is the arrival
pub arrival_found : (a b c : ℕ) (w : List ℕ) (t x y width d k : ℕ) → option_map_or (λ d. 1 + d) (find (arrives a b c w t x y width) (range_with_len d k)) 0 ≡ arrival a b c w t x y width d k
arrival_found a b c w t x y width d zero = refl
arrival_found a b c w t x y width d (suc k) =
    elim (arrives a b c w t x y width d) as (λ z. option_map_or (λ d. 1 + d) (cond z (Some d) (find (arrives a b c w t x y width) (range_with_len (d + 1) k))) 0 ≡ cond z (1 + d) (arrival a b c w t x y width (d + 1) k))
    [ true ↦ refl | false ↦ arrival_found a b c w t x y width (d + 1) k ]
