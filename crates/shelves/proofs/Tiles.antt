-- A shelf's touch by tile numbers alone.
use Rattle.std.proofs.Common.{◌≡◌, ℕ, suc, ◌+◌, ◌≤◌, cond, eqb, List, [], ◌∷◌, ◌++◌, map, length, take, drop, is_some, Some, None, Option, sym, refl, ap, ◌∙◌, inl, inr, arith}
use Rattle.std.proofs.lemmas.Bool.{cases_Bool}
use Rattle.std.proofs.lemmas.List.{length-map, take-map, take_all}
use Rattle.shelves.specs.declared.entry.Entry.{Entry}
use Rattle.shelves.specs.Shelves as shelves
use Rattle.shelves.specs.Shelves.{Shelved, later, place_of, to_front, touched_at, counted, cleaned, over_front}
use Rattle.shelves.specs.Touches.{on, without, touched, tiles_of}
use Rattle.shelves.proofs.Lists.{placed_some, front_length}

abbrev removed_at : Option ℕ → List Entry → List Entry
removed_at None es = es
removed_at (Some p) es = take p es ++ drop (suc p) es

removed_later : (o : Option ℕ) (e : Entry) (es : List Entry) → removed_at (later o) (e ∷ es) ≡ e ∷ removed_at o es
removed_later None e es = refl
removed_later (Some p) e es = let s : p + 1 ≡ suc p = omega arith in rw s refl

removed_tiles : (es : List Entry) (k : ℕ) → tiles_of (removed_at (place_of es k) es) ≡ without (tiles_of es) k
removed_tiles [] k = refl
removed_tiles (e ∷ es) k = elim (cases_Bool (eqb e.tile k)) [
  | inl t ↦ rw t refl
  | inr t ↦ rw t (ap tiles_of (removed_later (place_of es k) e es) ∙ ap (λ z. e.tile ∷ z) (removed_tiles es k))
]

some_later : (o : Option ℕ) → is_some (later o) ≡ is_some o
some_later None = refl
some_later (Some p) = refl

pub on-place : (es : List Entry) (k : ℕ) → on (tiles_of es) k ≡ is_some (place_of es k)
on-place [] k = refl
on-place (e ∷ es) k = elim (cases_Bool (eqb e.tile k)) [
  | inl t ↦ rw t refl
  | inr t ↦ rw t (on-place es k ∙ sym (some_later (place_of es k)))
]

at_place : (o : Option ℕ) (h : Shelved) (k : ℕ) → length h.list ≤ 64 → place_of h.list k ≡ o
    → (tiles_of (touched_at o h k).list ≡ touched (tiles_of h.list) k) × ((touched_at o h k).fetches ≡ cond (on (tiles_of h.list) k) h.fetches (counted h.fetches))
at_place None h k few e =
    let r : tiles_of h.list ≡ without (tiles_of h.list) k = ap (λ o. tiles_of (removed_at o h.list)) (sym e) ∙ removed_tiles h.list k in (
      ap (λ z. k ∷ z) (sym (take-map (λ (e : Entry). e.tile) 63 h.list) ∙ ap (take 63) r),
      ap (λ z. cond z h.fetches (counted h.fetches)) (sym (on-place h.list k ∙ ap is_some e)),
    )
at_place (Some p) h k few e =
    let q = placed_some h.list k p e in
    let r : tiles_of (removed_at (Some p) h.list) ≡ without (tiles_of h.list) k = ap (λ o. tiles_of (removed_at o h.list)) (sym e) ∙ removed_tiles h.list k in
    let f : tiles_of (to_front h.list p) ≡ k ∷ without (tiles_of h.list) k = ap (λ n. n ∷ tiles_of (removed_at (Some p) h.list)) q.1 ∙ ap (λ z. k ∷ z) r in
    let n : length (k ∷ without (tiles_of h.list) k) ≤ 64 = omega (arith, ap length (sym f) ∙ length-map (to_front h.list p) (λ (e : Entry). e.tile) ∙ front_length h.list p q.0) in (
      f ∙ sym (take_all 64 (k ∷ without (tiles_of h.list) k) n),
      ap (λ z. cond z h.fetches (counted h.fetches)) (sym (on-place h.list k ∙ ap is_some e)),
    )

module _ (h : Shelved) (k : ℕ) (few : length h.list ≤ 64) where
  pub touched_tiles : tiles_of (shelves.touched h k).list ≡ touched (tiles_of h.list) k
  touched_tiles = (at_place (place_of h.list k) h k few refl).0

  pub touched-fetches : (shelves.touched h k).fetches ≡ cond (on (tiles_of h.list) k) h.fetches (counted h.fetches)
  touched-fetches = (at_place (place_of h.list k) h k few refl).1

-- other bytes and cleared marks leave the tile numbers
pub over_tiles : (es : List Entry) (bytes : List ℕ) → tiles_of (over_front es bytes) ≡ tiles_of es
over_tiles [] bytes = refl
over_tiles (e ∷ es) bytes = refl

pub cleaned_tiles : (es : List Entry) → tiles_of (map cleaned es) ≡ tiles_of es
cleaned_tiles [] = refl
cleaned_tiles (e ∷ es) = ap (λ z. e.tile ∷ z) (cleaned_tiles es)
