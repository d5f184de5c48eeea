-- The list of a shelf: where a tile is, and what coming to the front leaves.
use Rattle.std.proofs.Common.{◌≡◌, ℕ, zero, suc, ◌+◌, ◌-◌, ◌<◌, ◌≤◌, cond, eqb, ltb, List, [], ◌∷◌, length, get_or, take, drop, Some, None, Option, refl, ap, ◌∙◌, subst, inl, inr, arith}
use Rattle.std.proofs.lemmas.Bool.{cases_Bool, eqb-true, eqb-false, eq-eqb, ne_eqb, ltb-true, ltb-false}
use Rattle.std.proofs.lemmas.List.{length-take, length-drop, length-append, get_or-take, get_or-drop, get_or_append_left, get_or-append_right}
use Rattle.shelves.specs.declared.entry.Entry.{Entry}
use Rattle.shelves.specs.Shelves.{blank, entry_at, later, place_of, to_front}

-- the tile at place i
abbrev pub tile_in : List Entry → ℕ → ℕ
tile_in es i = (get_or es i blank).tile

-- where a tile is
pub place_none : (es : List Entry) (k : ℕ) → ((j : ℕ) → j < length es → tile_in es j ≡ k → ⊥) → place_of es k ≡ None
place_none [] k h = refl
place_none (e ∷ es) k h = rw (ne_eqb e.tile k (h 0 (omega arith)), place_none es k (λ j l. h (suc j) (omega arith))) refl

pub place_first : (es : List Entry) (k p : ℕ) → p < length es → ((j : ℕ) → j < p → tile_in es j ≡ k → ⊥) → tile_in es p ≡ k → place_of es k ≡ Some p
place_first [] k p l h e = absurd (omega arith)
place_first (x ∷ es) k zero l h e = rw (eq-eqb x.tile k e) refl
place_first (x ∷ es) k (suc p) l h e =
    let s : p + 1 ≡ suc p = omega arith in
    rw (ne_eqb x.tile k (h 0 (omega arith)), place_first es k p (omega arith) (λ j l. h (suc j) (omega arith)) e) (ap Some s)

-- what an answer of place_of says
Placed : List Entry → ℕ → Option ℕ → Type 0
Placed es k None = (j : ℕ) → j < length es → tile_in es j ≡ k → ⊥
Placed es k (Some p) = (p < length es) × (tile_in es p ≡ k) × ((j : ℕ) → j < p → tile_in es j ≡ k → ⊥)

place_cons : (e : Entry) (es : List Entry) (k : ℕ) (o : Option ℕ) → (e.tile ≡ k → ⊥) → Placed es k o → Placed (e ∷ es) k (later o)
unfolding Placed
place_cons e es k None ne h = all
  where
    all : (j : ℕ) → j < length (e ∷ es) → tile_in (e ∷ es) j ≡ k → ⊥
    all zero l q = ne q
    all (suc j) l q = h j (omega arith) q
place_cons e es k (Some p) ne h =
    let s : suc p ≡ p + 1 = omega arith in
    (omega (arith, h.0), subst (λ n. tile_in (e ∷ es) n ≡ k) s h.1, earlier)
  where
    earlier : (j : ℕ) → j < p + 1 → tile_in (e ∷ es) j ≡ k → ⊥
    earlier zero l q = ne q
    earlier (suc j) l q = h.2 j (omega arith) q

placed : (es : List Entry) (k : ℕ) → Placed es k (place_of es k)
unfolding Placed
placed [] k = λ j l q. omega arith
placed (e ∷ es) k = elim (cases_Bool (eqb e.tile k)) [
  | inl t ↦ rw t (omega arith, eqb-true e.tile k t, λ j l q. omega arith)
  | inr t ↦ rw t (place_cons e es k (place_of es k) (eqb-false e.tile k t) (placed es k))
]

pub placed_some : (es : List Entry) (k p : ℕ) → place_of es k ≡ Some p → (p < length es) × (tile_in es p ≡ k) × ((j : ℕ) → j < p → tile_in es j ≡ k → ⊥)
unfolding Placed
placed_some es k p e = subst (λ (o : Option ℕ). Placed es k o) e (placed es k)

pub placed_none : (es : List Entry) (k : ℕ) → place_of es k ≡ None → (j : ℕ) → j < length es → tile_in es j ≡ k → ⊥
unfolding Placed
placed_none es k e = subst (λ (o : Option ℕ). Placed es k o) e (placed es k)

-- the entry at a place, if there is one
pub entry_at_lem : (es : List Entry) (p : ℕ) → p < length es → entry_at es p ≡ Some (get_or es p blank)
entry_at_lem [] p h = absurd (omega arith)
entry_at_lem (e ∷ es) zero h = refl
entry_at_lem (e ∷ es) (suc p) h = entry_at_lem es p (omega arith)

pub entry_past : (es : List Entry) (p : ℕ) → length es ≤ p → entry_at es p ≡ None
entry_past [] p h = refl
entry_past (e ∷ es) zero h = absurd (omega arith)
entry_past (e ∷ es) (suc p) h = entry_past es p (omega arith)

-- where the entry at place i of to_front es p stood
pub from : ℕ → ℕ → ℕ
from p zero = p
from p (suc i) = cond (ltb i p) i (suc i)

pub from_same : (p i j : ℕ) → from p i ≡ from p j → i ≡ j
unfolding from
from_same p zero zero e = refl
from_same p zero (suc j) e = elim (cases_Bool (ltb j p)) [
  | inl t ↦ absurd (omega (arith, ltb-true j p t, rw t at e))
  | inr t ↦ absurd (omega (arith, ltb-false j p t, rw t at e))
]
from_same p (suc i) zero e = elim (cases_Bool (ltb i p)) [
  | inl t ↦ absurd (omega (arith, ltb-true i p t, rw t at e))
  | inr t ↦ absurd (omega (arith, ltb-false i p t, rw t at e))
]
from_same p (suc i) (suc j) e = elim (cases_Bool (ltb i p)) [
  | inl t ↦ elim (cases_Bool (ltb j p)) [
    | inl u ↦ omega (arith, ltb-true i p t, ltb-true j p u, rw (t, u) at e)
    | inr u ↦ absurd (omega (arith, ltb-true i p t, ltb-false j p u, rw (t, u) at e))
  ]
  | inr t ↦ elim (cases_Bool (ltb j p)) [
    | inl u ↦ absurd (omega (arith, ltb-false i p t, ltb-true j p u, rw (t, u) at e))
    | inr u ↦ omega (arith, ltb-false i p t, ltb-false j p u, rw (t, u) at e)
  ]
]

pub from_below : (p i n : ℕ) → p < n → i < n → from p i < n
unfolding from
from_below p zero n l h = l
from_below p (suc i) n l h = elim (cases_Bool (ltb i p)) [ inl t ↦ rw t (omega arith) | inr t ↦ rw t h ]

pub front_length : (es : List Entry) (p : ℕ) → p < length es → length (to_front es p) ≡ length es
front_length es p h = simp (length-append, length-take, length-drop) (omega arith)

pub front_at : (es : List Entry) (p i : ℕ) → p < length es → get_or (to_front es p) i blank ≡ get_or es (from p i) blank
unfolding from
front_at es p zero h = refl
front_at es p (suc i) h = elim (cases_Bool (ltb i p)) [
  | inl t ↦ let l : i < p = ltb-true i p t in
      let m : i < length (take p es) = simp length-take (omega arith) in
      rw t (get_or_append_left (take p es) (drop (suc p) es) blank i m ∙ get_or-take p es i blank l)
  | inr t ↦ let l : p ≤ i = ltb-false i p t in
      let m : length (take p es) ≡ p = length-take p es ∙ omega arith in
      let s : suc p + (i - p) ≡ suc i = omega arith in
      rw t (get_or-append_right (take p es) (drop (suc p) es) p i blank m l ∙ get_or-drop (suc p) es (i - p) blank ∙ ap (λ n. get_or es n blank) s)
]

-- the front of a list comes to its own front
pub front_again : (es : List Entry) → 0 < length es → to_front es 0 ≡ es
front_again [] h = absurd (omega arith)
front_again (e ∷ es) h = refl
