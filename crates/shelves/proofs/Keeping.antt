-- What a shelf keeps of its list, as tiles come and go.
use Rattle.std.proofs.Common.{◌≡◌, ℕ, zero, suc, ◌+◌, ◌-◌, ◌<◌, ◌≤◌, min, List, [], ◌∷◌, length, get_or, take, drop, sym, refl, ap, ◌∙◌, inl, inr, arith}
use Rattle.std.proofs.lemmas.Bool.{cases_Bool}
use Rattle.std.proofs.lemmas.List.{length-take, length-drop, length-set, get_or-take, get_or-drop, get_or-set_other}
use Rattle.stores.specs.Meaning.{Store, written}
use Rattle.shelves.specs.declared.entry.Entry.{Entry}
use Rattle.shelves.specs.Shelves.{blank, to_front, written_back, Good, Kept}
use Rattle.shelves.proofs.Lists.{tile_in, from, from_same, from_below, front_length, front_at}

pub kept_front : (b : Store) (es : List Entry) (p : ℕ) → Kept b es → p < length es → Kept b (to_front es p)
kept_front b es p k h =
    let n = front_length es p h in
    record {
      few = rw n k.few;
      good = λ i l. let m : i < length es = omega arith in rw (front_at es p i h) (k.good (from p i) (from_below p i (length es) h m));
      apart = λ i j li lj e.
          let mi : i < length es = omega arith in
          let mj : j < length es = omega arith in
          from_same p i j (k.apart (from p i) (from p j) (from_below p i (length es) h mi) (from_below p j (length es) h mj)
          (ap (λ (x : Entry). x.tile) (sym (front_at es p i h)) ∙ e ∙ ap (λ (x : Entry). x.tile) (front_at es p j h)));
    }

-- writing other tiles below
good_written : (b : Store) (t : ℕ) (bs : List ℕ) (e : Entry) → Good b e → (t ≡ e.tile → ⊥) → Good (written b t bs) e
good_written b t bs e g ne = record {
  within = rw (length-set b.tiles t bs) g.within;
  sound = g.sound;
  wide = g.wide;
  low = g.low;
  same = λ c. g.same c ∙ sym (get_or-set_other b.tiles t e.tile bs [] (λ q. ne (sym q)));
}

pub good_written_back : (b : Store) (xs : List Entry) (e : Entry) → Good b e → ((j : ℕ) → j < length xs → tile_in xs j ≡ e.tile → ⊥) → Good (written_back b xs) e
good_written_back b [] e g h = g
good_written_back b (x ∷ xs) e g h =
    let rest : (j : ℕ) → j < length xs → tile_in xs j ≡ e.tile → ⊥ = λ j l. h (suc j) (omega arith) in
    elim (cases_Bool x.changed) [
      | inl t ↦ rw t (good_written_back (written b x.tile x.bytes) xs e (good_written b x.tile x.bytes e g (h 0 (omega arith))) rest)
      | inr t ↦ rw t (good_written_back b xs e g rest)
    ]

-- the last one is none of those before it
last_apart : (es : List Entry) (i : ℕ) → ((i j : ℕ) → i < length es → j < length es → tile_in es i ≡ tile_in es j → i ≡ j) → i < 63 → i < length es → (j : ℕ) → j < length (drop 63 es) → tile_in (drop 63 es) j ≡ tile_in es i → ⊥
last_apart es i apart l h j m q =
    let w : 63 + j < length es = omega (arith, simp length-drop at m) in
    let e : 63 + j ≡ i = apart (63 + j) i w h (ap (λ (x : Entry). x.tile) (sym (get_or-drop 63 es j blank)) ∙ q) in
    omega arith

-- the first 63 stay as the last one is written below
pub kept_roomy : (b : Store) (es : List Entry) → Kept b es → Kept (written_back b (drop 63 es)) (take 63 es)
kept_roomy b es k = record {
  few = simp length-take (omega arith);
  good = λ i l. let m : i < min 63 (length es) = simp length-take at l in
      let l1 : i < 63 = omega arith in
      let l2 : i < length es = omega arith in
      rw (get_or-take 63 es i blank l1) (good_written_back b (drop 63 es) (get_or es i blank) (k.good i l2) (last_apart es i k.apart l1 l2));
  apart = λ i j li lj e.
      let mi : i < min 63 (length es) = simp length-take at li in
      let mj : j < min 63 (length es) = simp length-take at lj in
      let i1 : i < 63 = omega arith in
      let j1 : j < 63 = omega arith in
      k.apart i j (omega arith) (omega arith) (ap (λ (x : Entry). x.tile) (sym (get_or-take 63 es i blank i1)) ∙ e ∙ ap (λ (x : Entry). x.tile) (get_or-take 63 es j blank j1));
}

-- one more in front
pub kept_more : (b : Store) (es : List Entry) (e : Entry) → length es ≤ 63 → Kept b es → Good b e → ((j : ℕ) → j < length es → tile_in es j ≡ e.tile → ⊥) → Kept b (e ∷ es)
kept_more b es e few k g off = record { few = omega arith; good = good; apart = apart }
  where
    good : (i : ℕ) → i < length (e ∷ es) → Good b (get_or (e ∷ es) i blank)
    good zero l = g
    good (suc i) l = k.good i (omega arith)

    apart : (i j : ℕ) → i < length (e ∷ es) → j < length (e ∷ es) → tile_in (e ∷ es) i ≡ tile_in (e ∷ es) j → i ≡ j
    apart zero zero li lj q = refl
    apart zero (suc j) li lj q = absurd (off j (omega arith) (sym q))
    apart (suc i) zero li lj q = absurd (off i (omega arith) q)
    apart (suc i) (suc j) li lj q = ap suc (k.apart i j (omega arith) (omega arith) q)

pub kept_drop : (b : Store) (es : List Entry) (d : ℕ) → Kept b es → Kept b (drop d es)
kept_drop b es d k = record {
  few = simp length-drop (omega (arith, k.few));
  good = λ i l. let m : i < length es - d = simp length-drop at l in rw (get_or-drop d es i blank) (k.good (d + i) (omega arith));
  apart = λ i j li lj q.
      let mi : i < length es - d = simp length-drop at li in
      let mj : j < length es - d = simp length-drop at lj in
      let e : d + i ≡ d + j = k.apart (d + i) (d + j) (omega arith) (omega arith) (ap (λ (x : Entry). x.tile) (sym (get_or-drop d es i blank)) ∙ q ∙ ap (λ (x : Entry). x.tile) (get_or-drop d es j blank)) in
      omega arith;
}
