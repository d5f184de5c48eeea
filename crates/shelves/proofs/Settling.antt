-- What a settle leaves.
use Rattle.std.proofs.Common.{◌≡◌, ℕ, ◌+◌, ◌-◌, ◌<◌, ◌≤◌, min, List, [], ◌∷◌, ◌++◌, map, length, get_or, take, drop, set, Some, None, Option, sym, refl, ap, ◌∙◌, arith}
use Rattle.std.proofs.lemmas.List.{length-map, length-take, length-append, length-drop, get_or-map, get_or-take, get_or-drop, get_or-append_right, get_or_default, take_more, take_all, drop_all, append-nil}
use Rattle.std.proofs.lemmas.List.Edits.{map_over_more}
use Rattle.std.proofs.lemmas.List.FromFn.{fill_by_all}
use Rattle.stores.specs.Meaning.{Store, count}
use Rattle.shelves.specs.declared.entry.Entry.{Entry}
use Rattle.shelves.specs.Shelves.{Shelved, blank, entry_at, place_of, written_back, cleaned, settled, shown, shown_at, store_of, Good, Kept, SettledAs}
use Rattle.shelves.proofs.Lists.{tile_in, place_first, placed_some, entry_at_lem}
use Rattle.shelves.proofs.Keeping.{good_written_back}
use Rattle.shelves.proofs.Showing.{written_back_top, written_back_count, written_back_faults, written_back_shown, shelf_same}

shown_at_lem : (b : Store) (es : List Entry) (i : ℕ) → Kept b es → i < length es → shown es b (tile_in es i) ≡ (get_or es i blank).bytes
shown_at_lem b es i k l = rw (place_first es (tile_in es i) i l (λ j lj q. let e : j ≡ i = k.apart j i (omega arith) l q in omega arith) refl) refl

pub kept_settled : (b : Store) (es : List Entry) → Kept b es → Kept (written_back b es) (map cleaned es)
kept_settled b es k =
    let n : length (map cleaned es) ≡ length es = length-map es cleaned in
    record {
      few = rw n k.few;
      good = λ i l.
          let m : i < length es = rw n at l in
          let g = k.good i m in
          rw (get_or-map cleaned es i blank blank m) (record {
            within = rw (written_back_count b es) g.within;
            sound = ap (λ fs. get_or fs (tile_in es i) None) (written_back_faults b es) ∙ g.sound;
            wide = g.wide;
            low = λ j. rw (written_back_top b es) (g.low j);
            same = λ _. sym (written_back_shown b es (tile_in es i) k ∙ shown_at_lem b es i k m);
          });
      apart = λ i j li lj q.
          let mi : i < length es = rw n at li in
          let mj : j < length es = rw n at lj in
          k.apart i j mi mj (ap (λ (x : Entry). x.tile) (sym (get_or-map cleaned es i blank blank mi)) ∙ q ∙ ap (λ (x : Entry). x.tile) (get_or-map cleaned es j blank blank mj));
    }

place-cleaned : (es : List Entry) (k : ℕ) → place_of (map cleaned es) k ≡ place_of es k
place-cleaned [] k = refl
place-cleaned (e ∷ es) k = rw (place-cleaned es k) refl

-- a settled shelf shows what it showed
shown-cleaned : (o : Option ℕ) (es : List Entry) (b : Store) (j : ℕ) → Kept b es → place_of es j ≡ o → shown_at o (map cleaned es) (written_back b es) j ≡ shown_at o es b j
shown-cleaned None es b j k e = written_back_shown b es j k ∙ rw e refl
shown-cleaned (Some p) es b j k e = ap (λ (x : Entry). x.bytes) (get_or-map cleaned es p blank blank (placed_some es j p e).0)

pub settled_same : (h : Shelved) → Kept h.below h.list → store_of (settled h) ≡ store_of h
settled_same h k =
    shelf_same h.list (map cleaned h.list) h.below (written_back h.below h.list) (written_back_top h.below h.list) (written_back_count h.below h.list) (written_back_faults h.below h.list)
    (λ j l. ap (λ o. shown_at o (map cleaned h.list) (written_back h.below h.list) j) (place-cleaned h.list j) ∙ shown-cleaned (place_of h.list j) h.list h.below j k refl)

-- what is below after it is what the shelf means
pub settled-below : (h : Shelved) → Kept h.below h.list → (settled h).below.tiles ≡ (store_of h).tiles
settled-below h k =
    fill_by_all (shown h.list h.below) (written_back h.below h.list).tiles (count h.below) [] (written_back_count h.below h.list)
    (λ j l. written_back_shown h.below h.list j k)

pub settled_as : (h h' : Shelved) → Kept h.below h.list → h' ≡ settled h → SettledAs h h'
settled_as h h' k e = record { after = e; below = ap (λ (z : Shelved). z.below.tiles) e ∙ settled-below h k; same = ap store_of e ∙ settled_same h k }

written_back_push : (b : Store) (xs : List Entry) (x : Entry) → written_back b (xs ++ x ∷ []) ≡ written_back (written_back b xs) (x ∷ [])
written_back_push b [] x = refl
written_back_push b (y ∷ xs) x = written_back_push (written_back b (y ∷ [])) xs x

-- a settle on its way: the first p tiles are written below
module _ (b0 b : Store) (es : List Entry) (p : ℕ) (kept : Kept b0 es) (lt : p < length es) (eb : b ≡ written_back b0 (take p es)) where
  -- the next tile
  pub next_good : Good b (get_or es p blank)
  next_good =
      rw eb (good_written_back b0 (take p es) (get_or es p blank) (kept.good p lt)
      (λ j lj q. let m : j < min p (length es) = simp length-take at lj in
      let m1 : j < p = omega arith in
      let e : j ≡ p = kept.apart j p (omega arith) lt (ap (λ (x : Entry). x.tile) (sym (get_or-take p es j blank m1)) ∙ q) in omega arith))

  pub next-below : (b' : Store) → b' ≡ written_back b (get_or es p blank ∷ []) → b' ≡ written_back b0 (take (p + 1) es)
  next-below b' w =
      w ∙ ap (λ z. written_back z (get_or es p blank ∷ [])) eb
      ∙ sym (ap (written_back b0) (take_more es p blank lt) ∙ written_back_push b0 (take p es) (get_or es p blank))
