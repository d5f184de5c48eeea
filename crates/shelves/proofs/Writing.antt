-- A write: what it answers, what it leaves and what it keeps.
use Rattle.std.proofs.Common.{◌≡◌, ℕ, zero, suc, ◌<◌, ◌≤◌, true, false, ltb, ◌⊎◌, List, [], ◌∷◌, map, length, get_or, set, Ok, Err, Result, sym, refl, ap, ◌∙◌, subst, inl, inr, arith}
use Rattle.std.specs.List.{range_with_len}
use Rattle.std.proofs.lemmas.Bool.{cases_Bool, cases_eq, cases_lt, lt-ltb, le-ltb, true≢false}
use Rattle.std.proofs.lemmas.List.{length-set, get_or-set_other, get_or-set_same}
use Rattle.std.proofs.lemmas.List.FromFn.{length-map-range_with_len, get_or-map-range_with_len, fill_by_all}
use Rattle.refusals.specs.declared.fault.Fault.{Fault}
use Rattle.stores.specs.Meaning.{Store, Lawful, ReadAs, WrittenAs, count, tile_of, above, any_above, read, write, store_after, written}
use Rattle.stores.specs.Layers.{raised}
use Rattle.stores.specs.Calls.{none_above, each_low}
use Rattle.shelves.specs.declared.entry.Entry.{Entry}
use Rattle.shelves.specs.Shelves.{Shelved, blank, touched, touched_if, wrote_if, over_front, with_byte, shown, shelf_store, store_of, Good, Kept, TouchedAs, TileRead, TileWritten}
use Rattle.shelves.proofs.Lists.{tile_in}
use Rattle.shelves.proofs.Showing.{shelf_count, shown_here, shown_rest, touched_top, touch_same, shelf_lawful}
use Rattle.shelves.proofs.Touching.{ok_within, kept_touched, touched_some, touched_tile, touched_bytes}

-- other bytes in front
kept_over : (b : Store) (es : List Entry) (bytes : List ℕ) → length bytes ≡ 64 → ((i : ℕ) → get_or bytes i 0 ≤ b.top) → Kept b es → Kept b (over_front es bytes)
kept_over b [] bytes w low k = k
kept_over b (e ∷ es) bytes w low k = record { few = k.few; good = good; apart = λ i j li lj q. k.apart i j li lj (sym (tiles i) ∙ q ∙ tiles j) }
  where
    good : (j : ℕ) → j < length (over_front (e ∷ es) bytes) → Good b (get_or (over_front (e ∷ es) bytes) j blank)
    good zero l = let g = k.good 0 (omega arith) in record {
      within = g.within;
      sound = g.sound;
      wide = w;
      low = low;
      same = λ q. absurd (true≢false q);
    }
    good (suc j) l = k.good (suc j) l

    tiles : (j : ℕ) → tile_in (over_front (e ∷ es) bytes) j ≡ tile_in (e ∷ es) j
    tiles zero = refl
    tiles (suc j) = refl

shelf_over : (b : Store) (es : List Entry) (bytes : List ℕ) (k : ℕ) → 0 < length es → tile_in es 0 ≡ k → k < count b → shelf_store (over_front es bytes) b ≡ written (shelf_store es b) k bytes
shelf_over b [] bytes k pos te h = absurd (omega arith)
shelf_over b (e ∷ es) bytes k pos te h =
    let y : Entry = record { tile = e.tile; changed = true; bytes = bytes } in
    let old : List (List ℕ) = map (shown (e ∷ es) b) (range_with_len 0 (count b)) in
    let n : length old ≡ count b = length-map-range_with_len (shown (e ∷ es) b) 0 (count b) in
    let ts : set old k bytes ≡ map (shown (y ∷ es) b) (range_with_len 0 (count b)) =
    fill_by_all (shown (y ∷ es) b) (set old k bytes) (count b) [] (length-set old k bytes ∙ n)
    (λ j l. elim (cases_eq j k) [
      | inl q ↦ rw q (get_or-set_same old k bytes [] (rw n h) ∙ sym (shown_here y es b k te))
      | inr q ↦ get_or-set_other old k j bytes [] q ∙ get_or-map-range_with_len (shown (e ∷ es) b) 0 (count b) j j [] l (omega arith)
          ∙ shown_rest e es b j (λ u. q (sym u ∙ te)) ∙ sym (shown_rest y es b j (λ u. q (sym u ∙ te)))
    ]) in
    ap (λ z. record { top = b.top; tiles = z; faults = map raised b.faults }) (sym ts)

-- what a write answers that was accepted
ok_unless : (s : Store) (k : ℕ) (bytes : List ℕ) → write s k bytes ≡ Ok tt → (any_above s.top bytes ≡ false) × (read s k ≡ Ok tt)
ok_unless s k bytes e = elim (cases_Bool (ltb k (count s))) [
  | inl t ↦ elim (cases_Bool (any_above s.top bytes)) [
    | inl u ↦ let q : ◌≡◌ {A = Result (Unit {0}) Fault} (Err (above k)) (Ok tt) = rw (t, u) at e in
        let z : ◌≡◌ {A = ℕ} 0 1 = cc in absurd (omega arith)
    | inr u ↦ (u, rw t (rw (t, u) at e))
  ]
  | inr t ↦ let q : ◌≡◌ {A = Result (Unit {0}) Fault} (Err _) (Ok tt) = rw t at e in
      let z : ◌≡◌ {A = ℕ} 0 1 = cc in absurd (omega arith)
]

-- unless a byte is above the top, a write answers as a read
write_read : (s : Store) (k : ℕ) (bytes : List ℕ) → (any_above s.top bytes ≡ false) ⊎ (count s ≤ k) → write s k bytes ≡ read s k
write_read s k bytes (inl low) = elim (cases_Bool (ltb k (count s))) [ inl t ↦ rw (t, low) refl | inr t ↦ rw t refl ]
write_read s k bytes (inr past) = rw (le-ltb k (count s) past) refl

module _ (h : Shelved) (l : Lawful h.below) (kept : Kept h.below h.list) (k : ℕ) (bytes : List ℕ) (wide : length bytes ≡ 64) where
  module _ (ok : write (store_of h) k bytes ≡ Ok tt) where
    accepted : read (store_of h) k ≡ Ok tt
    accepted = (ok_unless (store_of h) k bytes ok).1

    low : (i : ℕ) → get_or bytes i 0 ≤ h.below.top
    low = each_low h.below.top bytes (ok_unless (store_of h) k bytes ok).0

    kept_wrote : Kept (touched h k).below (over_front (touched h k).list bytes)
    kept_wrote = kept_over (touched h k).below (touched h k).list bytes wide (λ i. rw (touched_top h k) (low i)) (kept_touched h k l kept accepted)

    wrote_within : k < count (touched h k).below
    wrote_within = rw (shelf_count (touched h k).list (touched h k).below) at (subst (λ (z : Store). k < count z) (sym (touch_same h k kept)) (ok_within (store_of h) k accepted))

    wrote_means : shelf_store (over_front (touched h k).list bytes) (touched h k).below ≡ written (store_of h) k bytes
    wrote_means = shelf_over (touched h k).below (touched h k).list bytes k (touched_some h k) (touched_tile h k) wrote_within ∙ ap (λ (z : Store). written z k bytes) (touch_same h k kept)

  kept_if : (r : Result (Unit {0}) Fault) → r ≡ write (store_of h) k bytes → Kept (wrote_if r h k bytes).below (wrote_if r h k bytes).list
  kept_if (Ok u) e = kept_wrote (sym e)
  kept_if (Err f) e = kept

  means_if : (r : Result (Unit {0}) Fault) → r ≡ write (store_of h) k bytes → store_of (wrote_if r h k bytes) ≡ store_after r (store_of h) k bytes
  means_if (Ok u) e = wrote_means (sym e)
  means_if (Err f) e = refl

  module _ (r : Result (Unit {0}) Fault) (h' : Shelved) (answer : r ≡ write (store_of h) k bytes) (after : h' ≡ wrote_if r h k bytes) where
    pub wrote_as : TileWritten h k bytes r h'
    wrote_as = record { answer = answer; after = after; means = ap store_of after ∙ means_if r answer }

    pub wrote_kept : Kept h'.below h'.list
    wrote_kept = subst (λ (z : Shelved). Kept z.below z.list) (sym after) (kept_if r answer)

-- one byte of a tile replaced
low_set : (bs : List ℕ) (i v j top : ℕ) → v ≤ top → ((j : ℕ) → get_or bs j 0 ≤ top) → get_or (set bs i v) j 0 ≤ top
low_set [] i v j top le h = h j
low_set (x ∷ bs) zero v zero top le h = le
low_set (x ∷ bs) zero v (suc j) top le h = h (suc j)
low_set (x ∷ bs) (suc i) v zero top le h = h 0
low_set (x ∷ bs) (suc i) v (suc j) top le h = low_set bs i v j top le (λ m. h (suc m))

some_above : (top : ℕ) (bs : List ℕ) (i v : ℕ) → i < length bs → top < v → any_above top (set bs i v) ≡ true
some_above top [] i v l h = absurd (omega arith)
some_above top (x ∷ bs) zero v l h = rw (lt-ltb top v h) refl
some_above top (x ∷ bs) (suc i) v l h = elim (cases_Bool (ltb top x)) [ inl t ↦ rw t refl | inr t ↦ rw t (some_above top bs i v (omega arith) h) ]

module _ (h : Shelved) (l : Lawful h.below) (kept : Kept h.below h.list) (k i v : ℕ) (inside : i < 64) where
  shelf_law : Lawful (store_of h)
  shelf_law = shelf_lawful h.list h.below l kept

  put_low : v ≤ h.below.top → any_above h.below.top (set (tile_of (store_of h) k) i v) ≡ false
  put_low le = none_above h.below.top (set (tile_of (store_of h) k) i v) (λ j. low_set (tile_of (store_of h) k) i v j h.below.top le (shelf_law.low k))

  tile_wide : k < count h.below → length (tile_of (store_of h) k) ≡ 64
  tile_wide w = shelf_law.wide k (rw (shelf_count h.list h.below) w)

  pub put_wide : k < count h.below → length (set (tile_of (store_of h) k) i v) ≡ 64
  put_wide w = length-set (tile_of (store_of h) k) i v ∙ tile_wide w

  -- of the tile with the byte v only v can be above the top
  pub put_above : (top : ℕ) → top ≡ h.below.top → k < count h.below → ltb top v ≡ any_above h.below.top (set (tile_of (store_of h) k) i v)
  put_above top e w = ap (λ n. ltb n v) e ∙ elim (cases_lt h.below.top v) [
    | inl lt ↦ lt-ltb h.below.top v lt ∙ sym (some_above h.below.top (tile_of (store_of h) k) i v (omega (arith, tile_wide w)) lt)
    | inr le ↦ le-ltb h.below.top v le ∙ sym (put_low le)
  ]

with_over : (es : List Entry) (i v : ℕ) (tile : List ℕ) → (get_or es 0 blank).bytes ≡ tile → with_byte es i v ≡ over_front es (set tile i v)
with_over [] i v tile e = refl
with_over (x ∷ es) i v tile e = ap (λ t. record { tile = x.tile; changed = true; bytes = set t i v } ∷ es) e

pub put_over : (h : Shelved) (k i v : ℕ) → k < count h.below → with_byte (touched h k).list i v ≡ over_front (touched h k).list (set (tile_of (store_of h) k) i v)
put_over h k i v w = with_over (touched h k).list i v (tile_of (store_of h) k) (touched_bytes h k w)

-- a read and a write of the shelf are those of the store that it means
pub read_as : (h h' : Shelved) (k : ℕ) (out out' : List ℕ) (r : Result (Unit {0}) Fault) → TileRead h k out r out' h' → ReadAs (store_of h) k out r out' (store_of h')
read_as h h' k out out' r t = record { answer = t.touches.answer; buffer = t.buffer; same = t.touches.same }

pub written_as : (h h' : Shelved) (k : ℕ) (bytes : List ℕ) (r : Result (Unit {0}) Fault) → TileWritten h k bytes r h' → WrittenAs (store_of h) k bytes r (store_of h')
written_as h h' k bytes r t = record { answer = t.answer; after = t.means }

-- a write of a byte above the top, as the program refuses it
pub refused-above : (h : Shelved) (k : ℕ) (bytes : List ℕ) (r : Result (Unit {0}) Fault) → k < count h.below → any_above h.below.top bytes ≡ true → r ≡ Err (above k) → TileWritten h k bytes r h
refused-above h k bytes r w high e = record {
  answer = e ∙ sym (rw (lt-ltb k (count (store_of h)) (rw (shelf_count h.list h.below) w), high) refl);
  after = rw e refl;
  means = rw e refl;
}

-- any other write, as the program makes it: a touch, and then other bytes in front if it was accepted
module _ (h : Shelved) (l : Lawful h.below) (kept : Kept h.below h.list) (k : ℕ) (bytes : List ℕ) (low : (any_above h.below.top bytes ≡ false) ⊎ (count h.below ≤ k)) (r : Result (Unit {0}) Fault) (h1 : Shelved) (t : TouchedAs h k r h1) where
  past : (any_above h.below.top bytes ≡ false) ⊎ (count h.below ≤ k) → (any_above (store_of h).top bytes ≡ false) ⊎ (count (store_of h) ≤ k)
  past (inl e) = inl e
  past (inr e) = inr (rw (shelf_count h.list h.below) e)

  answered : r ≡ write (store_of h) k bytes
  answered = t.answer ∙ sym (write_read (store_of h) k bytes (past low))

  pub write-refused : (f : Fault) (q : Result (Unit {0}) Fault) → q ≡ r → r ≡ Err f → TileWritten h k bytes q h1
  write-refused f q p e = record {
    answer = p ∙ answered;
    after = t.after ∙ ap (λ z. touched_if z h k) e ∙ sym (ap (λ z. wrote_if z h k bytes) (p ∙ e));
    means = t.same ∙ sym (ap (λ z. store_after z (store_of h) k bytes) (p ∙ e));
  }

  module _ (ok : r ≡ Ok tt) where
    write-touched : h1 ≡ touched h k
    write-touched = t.after ∙ ap (λ z. touched_if z h k) ok

    module _ (wide : length bytes ≡ 64) (es : List Entry) (over : es ≡ over_front h1.list bytes) where
      after : ◌≡◌ {A = Shelved} (record { list = es; below = h1.below; fetches = h1.fetches }) (wrote_if (Ok tt) h k bytes)
      after = ap (λ (z : List Entry). record { list = z; below = h1.below; fetches = h1.fetches }) over
          ∙ ap (λ (z : Shelved). record { list = over_front z.list bytes; below = z.below; fetches = z.fetches }) write-touched

      pub write-accepted : TileWritten h k bytes (Ok tt) (record { list = es; below = h1.below; fetches = h1.fetches })
      write-accepted = wrote_as h l kept k bytes wide (Ok tt) (record { list = es; below = h1.below; fetches = h1.fetches }) (sym ok ∙ answered) after

      pub write_keeps : Kept h1.below es
      write_keeps = wrote_kept h l kept k bytes wide (Ok tt) (record { list = es; below = h1.below; fetches = h1.fetches }) (sym ok ∙ answered) after
