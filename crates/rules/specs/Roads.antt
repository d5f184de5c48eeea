-- Gaps and arrivals on a road, and why at most one vehicle lands on a cell.
use Rattle.std.specs.Prelude.{◌≡◌, ℕ, zero, suc, ◌+◌, ◌-◌, ◌<◌, ◌≤◌, Bool, true, false, cond, ◌⊎◌, List, ◌==◌, ◌≢◌, slice_index, slice_index_or, refl}
use Rattle.std.proofs.Common.{sym, ap, subst, ◌∙◌, inl, inr, ⊎_elim, true≢false, arith}
use Rattle.std.proofs.lemmas.Bool.{eq-eqb, ne_eqb, cond_both, cond-true, cond-false, cases_eq, cases_order}
use Rattle.std.proofs.lemmas.Bool.Decides.{nat_tests}
use Rattle.rules.specs.Vehicles.{gap, v3, column_behind, arrives, arrival, Lands, Moved}

pub gap_empty : (w : List ℕ) (i n g : ℕ) → g < n → slice_index w (i + g + 1) ≡ 0 → gap w (i + g) (n - g) ≡ 1 + gap w (i + (g + 1)) (n - (g + 1))
gap_empty w i n g h z =
    let e : n - g ≡ suc (n - (g + 1)) = omega arith in
    let a : i + g + 1 ≡ i + (g + 1) = omega arith in
    rw e (cond-true _ _ _ (eq-eqb _ _ z) ∙ rw a (omega arith))

pub gap-busy : (w : List ℕ) (i n g : ℕ) → g < n → (slice_index w (i + g + 1) ≢ 0) → gap w (i + g) (n - g) ≡ 0
gap-busy w i n g h z =
    let e : n - g ≡ suc (n - (g + 1)) = omega arith in
    rw e (cond-false _ _ _ (ne_eqb _ _ z))

-- every cell of a gap is empty
pub gap_clear : (w : List ℕ) (i n j : ℕ) → 1 ≤ j → j ≤ gap w i n → slice_index w (i + j) ≡ 0
gap_clear w i zero j l h = absurd (omega arith)
gap_clear w i (suc n) j l h = go (slice_index w (i + 1) == 0) refl h j refl (λ k l h. gap_clear w (i + 1) n k l h)
  where
    go : (b : Bool) → (slice_index w (i + 1) == 0) ≡ b → j ≤ cond b (suc (gap w (i + 1) n)) 0 → (k : ℕ) → k ≡ j → ((k : ℕ) → 1 ≤ k → k ≤ gap w (i + 1) n → slice_index w (i + 1 + k) ≡ 0) → slice_index w (i + j) ≡ 0
    go false e h k q ahead = absurd (omega arith)
    go true e h zero q ahead = absurd (omega arith)
    go true e h (suc zero) q ahead = ap (λ m. slice_index w (i + m)) (sym q) ∙ grind (arith, nat_tests)
    go true e h (suc (suc k)) q ahead =
        let s : i + 1 + (suc k) ≡ i + j = omega arith in
        ap (λ m. slice_index w m) (sym s) ∙ ahead (suc k) (omega arith) (omega arith)

-- braking never makes a vehicle faster, and it never goes further than its gap
pub slower : (a b c : ℕ) (w : List ℕ) (t column y i : ℕ) → v3 a b c w t column y i ≤ gap w i a
slower a b c w t column y i = grind (arith, nat_tests)

module _ (a b c : ℕ) (w : List ℕ) (t x y width : ℕ) where
  abbrev Here : ℕ → Type 0
  Here d = Lands a b c w t x y width d

  abbrev found : ℕ → ℕ → ℕ
  found d k = arrival a b c w t x y width d k

  pub arrival_here : (d m : ℕ) → d < m → arrives a b c w t x y width d ≡ true → found d (m - d) ≡ 1 + d
  arrival_here d m h z =
      let e : m - d ≡ suc (m - (d + 1)) = omega arith in
      rw e (cond-true _ _ _ z)

  pub arrival-later : (d m : ℕ) → d < m → arrives a b c w t x y width d ≡ false → found d (m - d) ≡ found (d + 1) (m - (d + 1))
  arrival-later d m h z =
      let e : m - d ≡ suc (m - (d + 1)) = omega arith in
      rw e (cond-false _ _ _ z)

  pub arrival_le : (d k : ℕ) → found d k ≤ d + k
  arrival_le d zero = omega arith
  arrival_le d (suc k) =
      let i = arrival_le (d + 1) k in
      cond_both (arrives a b c w t x y width d) (1 + d) (found (d + 1) k) (λ n. n ≤ d + suc k) (λ _. omega arith) (λ _. omega arith)

  lands_arrives : (d : ℕ) → Here d → arrives a b c w t x y width d ≡ true
  lands_arrives d h = let s = h.stands in let g = h.goes in grind (arith, nat_tests)

  arrives_lands : (d : ℕ) → d ≤ a → arrives a b c w t x y width d ≡ true → Here d
  arrives_lands d l e = record { reach = l; stands = grind (arith, nat_tests); goes = grind (arith, nat_tests) }

  -- a vehicle that lands from e columns behind has crossed every cell nearer than that, so none stands there
  clear : (d e : ℕ) → Here d → Here e → d < e → ⊥
  clear d e p q l =
      let far : e ≤ gap w (a - e) a = subst (λ n. n ≤ gap w (a - e) a) q.goes (slower a b c w t (column_behind x width e) y (a - e)) in
      let s : (a - e) + (e - d) ≡ a - d = omega (arith, q.reach) in
      let z : slice_index_or w (a - d) 0 ≡ 0 = ap (λ m. slice_index w m) (sym s) ∙ gap_clear w (a - e) a (e - d) (omega arith) (omega arith) in
      omega (arith, p.stands)

  pub alone : (d e : ℕ) → Here d → Here e → d ≡ e
  alone d e p q = ⊎_elim (λ s. s) (λ o. absurd (⊎_elim (clear d e p q) (clear e d q p) o)) (cases_order d e)

  -- what is found among the k from d on
  found_lands : (d k : ℕ) → d + k ≡ a + 1 → (e : ℕ) → found d k ≡ 1 + e → Here e
  found_lands d zero s e q = absurd (omega arith)
  found_lands d (suc k) s e q = go (arrives a b c w t x y width d) refl q (λ q. found_lands (d + 1) k (omega arith) e q)
    where
      go : (z : Bool) → arrives a b c w t x y width d ≡ z → cond z (1 + d) (found (d + 1) k) ≡ 1 + e → (found (d + 1) k ≡ 1 + e → Here e) → Here e
      go true z q later = let same : d ≡ e = omega arith in subst Here same (arrives_lands d (omega arith) z)
      go false z q later = later q

  found_nobody : (d k : ℕ) → d + k ≡ a + 1 → ((e : ℕ) → ¬ (Here e)) → found d k ≡ 0
  found_nobody d zero s n = refl
  found_nobody d (suc k) s n = go (arrives a b c w t x y width d) refl (found_nobody (d + 1) k (omega arith) n)
    where
      go : (z : Bool) → arrives a b c w t x y width d ≡ z → found (d + 1) k ≡ 0 → cond z (1 + d) (found (d + 1) k) ≡ 0
      go true z later = absurd (n d (arrives_lands d (omega arith) z))
      go false z later = later

  found_some : (d k : ℕ) → d + k ≡ a + 1 → (e : ℕ) → d ≤ e → Here e → 1 ≤ found d k
  found_some d zero s e l h = absurd (omega (arith, h.reach))
  found_some d (suc k) s e l h = go (arrives a b c w t x y width d) refl (λ l. found_some (d + 1) k (omega arith) e l h)
    where
      go : (z : Bool) → arrives a b c w t x y width d ≡ z → (d + 1 ≤ e → 1 ≤ found (d + 1) k) → 1 ≤ cond z (1 + d) (found (d + 1) k)
      go true z later = omega arith
      go false z later = later (further (cases_eq d e))
        where
          further : (d ≡ e) ⊎ (d ≢ e) → d + 1 ≤ e
          further (inl q) = absurd (true≢false (sym (subst (λ n. arrives a b c w t x y width n ≡ true) (sym q) (lands_arrives e h)) ∙ z))
          further (inr n) = omega arith

  pub moved : Moved a b c w t x y width (found 0 (a + 1))
  moved = record {
    landed = λ d h. landed d h (found 0 (a + 1)) refl;
    lands = λ d l e. found_lands 0 (a + 1) (omega arith) d e;
    nobody = found_nobody 0 (a + 1) (omega arith);
    empty = λ e d h. omega (arith, found_some 0 (a + 1) (omega arith) d (omega arith) h);
    alone = alone;
  }
    where
      landed : (d : ℕ) → Here d → (n : ℕ) → found 0 (a + 1) ≡ n → found 0 (a + 1) ≡ 1 + d
      landed d h zero e = absurd (omega (arith, found_some 0 (a + 1) (omega arith) d (omega arith) h))
      landed d h (suc n) e =
          let f : found 0 (a + 1) ≡ 1 + n = omega arith in
          f ∙ ap (λ m. 1 + m) (alone n d (found_lands 0 (a + 1) (omega arith) n f) h)
