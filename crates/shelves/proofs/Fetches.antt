-- A run of touches of at most 64 different tiles fetches each of them at most once: those touched so far are the first of the list.
use Rattle.std.proofs.Common.{◌≡◌, ℕ, zero, suc, ◌+◌, ◌≤◌, true, false, eqb, List, [], ◌∷◌, ◌++◌, length, take, sym, refl, ◌∙◌, inl, inr, arith}
use Rattle.std.proofs.lemmas.Bool.{cases_Bool, eqb-true, eqb-false, ne_eqb, true≢false}
use Rattle.std.proofs.lemmas.List.{take-take}
use Rattle.shelves.specs.Touches.{on, without, touched, fetched, ran, fetches, fresh, FewFetches}

-- of the first d that are not k, each is among the first d without k
kept_new : (ts : List ℕ) (d k x : ℕ) → (k ≡ x → ⊥) → on (take d ts) x ≡ true → on (take d (without ts k)) x ≡ true
kept_new ts zero k x ne h = h
kept_new [] (suc d) k x ne h = h
kept_new (t ∷ ts) (suc d) k x ne h =
    elim (cases_Bool (eqb t k)) [
      | inl e ↦ rw e (more ts d x (rw (ne_eqb t x (λ q. ne (sym (eqb-true t k e) ∙ q))) at h))
      | inr e ↦ rw e (elim (cases_Bool (eqb t x)) [ inl q ↦ rw q refl | inr q ↦ rw q (kept_new ts d k x ne (rw q at h)) ])
    ]
  where
    more : (ts : List ℕ) (d x : ℕ) → on (take d ts) x ≡ true → on (take (suc d) ts) x ≡ true
    more [] zero x h = h
    more [] (suc d) x h = h
    more (t ∷ ts) zero x h = absurd (true≢false (sym h))
    more (t ∷ ts) (suc d) x h = elim (cases_Bool (eqb t x)) [ inl q ↦ rw q refl | inr q ↦ rw q (more ts d x (rw q at h)) ]

-- where k is among the first d + 1, the others of these are the first d without k
kept_old : (ts : List ℕ) (d k x : ℕ) → (k ≡ x → ⊥) → on (take (suc d) ts) k ≡ true → on (take (suc d) ts) x ≡ true → on (take d (without ts k)) x ≡ true
kept_old [] d k x ne hk hx = absurd (true≢false (sym hk))
kept_old (t ∷ ts) zero k x ne hk hx =
    elim (cases_Bool (eqb t k)) [
      | inl e ↦ rw (ne_eqb t x (λ q. ne (sym (eqb-true t k e) ∙ q))) at hx
      | inr e ↦ absurd (true≢false (sym (rw e at hk)))
    ]
kept_old (t ∷ ts) (suc d) k x ne hk hx =
    elim (cases_Bool (eqb t k)) [
      | inl e ↦ rw e (rw (ne_eqb t x (λ q. ne (sym (eqb-true t k e) ∙ q))) at hx)
      | inr e ↦ rw e (elim (cases_Bool (eqb t x)) [ inl q ↦ rw q refl | inr q ↦ rw q (kept_old ts d k x ne (rw e at hk) (rw q at hx)) ])
    ]

-- what is among the first d is on the list
on-take : (ts : List ℕ) (d x : ℕ) → on (take d ts) x ≡ true → on ts x ≡ true
on-take ts zero x h = absurd (true≢false (sym h))
on-take [] (suc d) x h = h
on-take (t ∷ ts) (suc d) x h = elim (cases_Bool (eqb t x)) [ inl q ↦ rw q refl | inr q ↦ rw q (on-take ts d x (rw q at h)) ]

-- the tiles touched so far in this run are the first of the list
Front : List ℕ → List ℕ → Type 0
Front seen ts = (x : ℕ) → on seen x ≡ true → on (take (length seen) ts) x ≡ true

nonempty : (seen : List ℕ) (k : ℕ) → on seen k ≡ true → (d : ℕ) × (length seen ≡ suc d)
nonempty [] k h = absurd (true≢false (sym h))
nonempty (t ∷ ts) k h = (length ts, refl)

again : (seen ts : List ℕ) (k : ℕ) → length seen ≤ 64 → on seen k ≡ true → Front seen ts → Front seen (touched ts k)
unfolding Front
again seen ts k few h f x hx =
    let p = nonempty seen k h in
    let d : ℕ = p.0 in
    let q : length seen ≡ suc d = p.1 in
    let le : d ≤ 63 = omega arith in
    rw q
    (elim (cases_Bool (eqb k x)) [
      | inl e ↦ rw e refl
      | inr e ↦ rw (e, take-take d 63 (without ts k) le) (kept_old ts d k x (eqb-false k x e) (rw q at (f k h)) (rw q at (f x hx)))
    ])

anew : (seen ts : List ℕ) (k : ℕ) → suc (length seen) ≤ 64 → on seen k ≡ false → Front seen ts → Front (k ∷ seen) (touched ts k)
unfolding Front
anew seen ts k few h f x hx =
    let le : length seen ≤ 63 = omega arith in
    (elim (cases_Bool (eqb k x)) [
      | inl e ↦ rw e refl
      | inr e ↦ rw (e, take-take (length seen) 63 (without ts k) le) (kept_new ts (length seen) k x (eqb-false k x e) (f x (rw e at hx)))
    ])

pub fetched_le : (ts : List ℕ) (k : ℕ) → fetched ts k ≤ 1
fetched_le ts k = elim (cases_Bool (on ts k)) [ inl e ↦ rw e (omega arith) | inr e ↦ rw e (omega arith) ]

bound : (seen ts ks : List ℕ) → length seen + fresh seen ks ≤ 64 → Front seen ts → fetches ts ks ≤ fresh seen ks
unfolding Front
bound seen ts [] few f = omega arith
bound seen ts (k ∷ ks) few f =
    elim (cases_Bool (on seen k)) [
      | inl e ↦ let few' : length seen + fresh seen ks ≤ 64 = rw e at few in
          let old : on ts k ≡ true = on-take ts (length seen) k (f k e) in
          let n : length seen ≤ 64 = omega arith in
          let ih = bound seen (touched ts k) ks few' (again seen ts k n e f) in
          rw (old, e) (omega (arith, ih))
      | inr e ↦ let few' : length seen + (1 + fresh (k ∷ seen) ks) ≤ 64 = rw e at few in
          let n : suc (length seen) ≤ 64 = omega arith in
          let m : length (k ∷ seen) + fresh (k ∷ seen) ks ≤ 64 = omega arith in
          let ih = bound (k ∷ seen) (touched ts k) ks m (anew seen ts k n e f) in
          rw e (omega (arith, ih, fetched_le ts k))
    ]

pub few_fetches : FewFetches
unfolding Front
few_fetches ts ks few = bound [] ts ks (omega arith) (λ x h. absurd (true≢false (sym h)))

-- a run after a run
pub ran_append : (ts ks ls : List ℕ) → ran ts (ks ++ ls) ≡ ran (ran ts ks) ls
ran_append ts [] ls = refl
ran_append ts (k ∷ ks) ls = ran_append (touched ts k) ks ls

pub fetches-append : (ts ks ls : List ℕ) → fetches ts (ks ++ ls) ≡ fetches ts ks + fetches (ran ts ks) ls
fetches-append ts [] ls = omega arith
fetches-append ts (k ∷ ks) ls = omega (arith, fetches-append (touched ts k) ks ls)
