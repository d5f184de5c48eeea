-- A touch: what it answers, what it leaves and what it keeps.
use Rattle.std.proofs.Common.{◌≡◌, ℕ, ◌+◌, ◌<◌, ◌≤◌, min, List, [], ◌∷◌, length, get_or, take, drop, Some, None, Ok, Err, Option, Result, sym, refl, ap, ◌∙◌, subst, inl, inr, arith}
use Rattle.std.proofs.lemmas.Bool.{cases_lt, le-ltb}
use Rattle.std.proofs.lemmas.List.{length-take, length-drop, get_or-take, get_or-drop, get_or-map, drop_more, drop_all}
use Rattle.refusals.specs.declared.fault.Fault.{Fault}
use Rattle.stores.specs.Meaning.{Store, Lawful, ReadAs, WrittenAs, count, tile_of, fault_of, past, read, unless_fault, buffer_after, store_after, written}
use Rattle.stores.specs.Layers.{raised, passed_on}
use Rattle.stores.specs.Calls.{read-within, write-within, none_above}
use Rattle.stores.specs.Windows.{passed_fault}
use Rattle.shelves.specs.declared.entry.Entry.{Entry}
use Rattle.shelves.specs.Shelves.{Shelved, blank, clean, entry_at, place_of, to_front, written_back, counted, touched_at, touched, touched_if, shown_at, shelf_store, store_of, Good, Kept, TouchedAs}
use Rattle.shelves.proofs.Lists.{tile_in, placed_some, placed_none, place_first, entry_at_lem, entry_past}
use Rattle.shelves.proofs.Keeping.{good_written_back, kept_front, kept_roomy, kept_more}
use Rattle.shelves.proofs.Showing.{shelf_count, shelf_tile, touch_same}

-- what a read answers that was accepted
pub ok_within : (s : Store) (k : ℕ) → read s k ≡ Ok tt → k < count s
ok_within s k e = elim (cases_lt k (count s)) [
  | inl l ↦ l
  | inr h ↦ let q : ◌≡◌ {A = Result (Unit {0}) Fault} (Err (past k)) (Ok tt) = sym (rw (le-ltb k (count s) h) refl) ∙ e in
      let z : ◌≡◌ {A = ℕ} 0 1 = cc in absurd (omega arith)
]

pub passed_err : (r : Result (Unit {0}) Fault) (f : Fault) → passed_on r ≡ Err f → (e : Fault) × (r ≡ Err e)
passed_err (Ok u) f e = let z : ◌≡◌ {A = ℕ} 0 1 = cc in absurd (omega arith)
passed_err (Err g) f e = (g, refl)

pub ok_passed : (r : Result (Unit {0}) Fault) → passed_on r ≡ Ok tt → r ≡ Ok tt
ok_passed (Ok u) e = refl
ok_passed (Err f) e = let z : ◌≡◌ {A = ℕ} 0 1 = cc in absurd (omega arith)

ok_sound : (o : Option Fault) → unless_fault o ≡ Ok tt → o ≡ None
ok_sound None e = refl
ok_sound (Some f) e = let z : ◌≡◌ {A = ℕ} 0 1 = cc in absurd (omega arith)

-- within the count the shelf answers as the store below, one level higher
pub shelf_read : (es : List Entry) (b : Store) (k : ℕ) → Lawful b → k < count b → read (shelf_store es b) k ≡ passed_on (read b k)
shelf_read es b k l h =
    let f : k < length b.faults = rw l.faulted h in
    read-within (shelf_store es b) k (rw (shelf_count es b) h)
    ∙ ap unless_fault (get_or-map raised b.faults k None None f)
    ∙ passed_fault (fault_of b k) ∙ ap passed_on (sym (read-within b k h))

pub read_sound : (b : Store) (k : ℕ) → k < count b → fault_of b k ≡ None → read b k ≡ Ok tt
read_sound b k h f = read-within b k h ∙ ap unless_fault f

module _ (es : List Entry) (b : Store) (k : ℕ) (l : Lawful b) where
  pub accepted-within : read (shelf_store es b) k ≡ Ok tt → k < count b
  accepted-within e = rw (shelf_count es b) at (ok_within (shelf_store es b) k e)

  pub accepted_sound : read (shelf_store es b) k ≡ Ok tt → fault_of b k ≡ None
  accepted_sound e =
      let h = accepted-within e in
      ok_sound (fault_of b k) (sym (read-within b k h) ∙ ok_passed (read b k) (sym (shelf_read es b k l h) ∙ e))

  -- past the count the shelf refuses by itself
  pub refused-past : count b ≤ k → Err (past k) ≡ read (shelf_store es b) k
  refused-past h = sym (rw (le-ltb k (count (shelf_store es b)) (rw (shelf_count es b) h)) refl)

  -- a tile on the shelf is accepted
  pub hit_read : (p : ℕ) → Kept b es → place_of es k ≡ Some p → read (shelf_store es b) k ≡ Ok tt
  hit_read p kept e =
      let q = placed_some es k p e in
      let g = kept.good p q.0 in
      let w : k < count b = subst (λ n. n < count b) q.1 g.within in
      let s : fault_of b k ≡ None = subst (λ n. fault_of b n ≡ None) q.1 g.sound in
      shelf_read es b k l w ∙ ap passed_on (read_sound b k w s)

-- a tile that is fetched is good, and none of the list
module _ (es : List Entry) (b : Store) (k : ℕ) (l : Lawful b) (kept : Kept b es) (h : k < count b) (sound : fault_of b k ≡ None) (absent : place_of es k ≡ None) where
  fresh : Good (written_back b (drop 63 es)) (clean k (tile_of b k))
  fresh =
      let g : Good b (clean k (tile_of b k)) = record { within = h; sound = sound; wide = l.wide k h; low = l.low k; same = λ _. refl } in
      good_written_back b (drop 63 es) (clean k (tile_of b k)) g
      (λ j lj q. placed_none es k absent (63 + j) (omega (arith, simp length-drop at lj)) (ap (λ (x : Entry). x.tile) (sym (get_or-drop 63 es j blank)) ∙ q))

  kept_fetched : Kept (written_back b (drop 63 es)) (clean k (tile_of b k) ∷ take 63 es)
  kept_fetched =
      let few : length (take 63 es) ≤ 63 = simp length-take (omega arith) in
      kept_more (written_back b (drop 63 es)) (take 63 es) (clean k (tile_of b k)) few (kept_roomy b es kept) fresh
      (λ j lj q. let m : j < min 63 (length es) = simp length-take at lj in
      let m1 : j < 63 = omega arith in
      placed_none es k absent j (omega arith) (ap (λ (x : Entry). x.tile) (sym (get_or-take 63 es j blank m1)) ∙ q))

kept_at : (o : Option ℕ) (h : Shelved) (k : ℕ) → Lawful h.below → Kept h.below h.list → place_of h.list k ≡ o → k < count h.below → fault_of h.below k ≡ None → Kept (touched_at o h k).below (touched_at o h k).list
kept_at None h k l kept e w s = kept_fetched h.list h.below k l kept w s e
kept_at (Some p) h k l kept e w s = kept_front h.below h.list p kept (placed_some h.list k p e).0

module _ (h : Shelved) (k : ℕ) (l : Lawful h.below) (kept : Kept h.below h.list) where
  -- an accepted touch keeps the list
  pub kept_touched : read (store_of h) k ≡ Ok tt → Kept (touched h k).below (touched h k).list
  kept_touched e = kept_at (place_of h.list k) h k l kept refl (accepted-within h.list h.below k l e) (accepted_sound h.list h.below k l e)

  kept_if : (r : Result (Unit {0}) Fault) → r ≡ read (store_of h) k → Kept (touched_if r h k).below (touched_if r h k).list
  kept_if (Ok u) e = kept_touched (sym e)
  kept_if (Err f) e = kept

  same_if : (r : Result (Unit {0}) Fault) → store_of (touched_if r h k) ≡ store_of h
  same_if (Ok u) = touch_same h k kept
  same_if (Err f) = refl

  module _ (r : Result (Unit {0}) Fault) (h' : Shelved) (answer : r ≡ read (store_of h) k) (after : h' ≡ touched_if r h k) where
    pub touched_as : TouchedAs h k r h'
    touched_as = record { answer = answer; after = after; same = ap store_of after ∙ same_if r }

    pub touched_kept : Kept h'.below h'.list
    touched_kept = subst (λ (z : Shelved). Kept z.below z.list) (sym after) (kept_if r answer)

pub shelved_same : (es es' : List Entry) (b b' : Store) (n n' : ℕ) → es ≡ es' → b ≡ b' → n ≡ n' → ◌≡◌ {A = Shelved} (record { list = es; below = b; fetches = n }) (record { list = es'; below = b'; fetches = n' })
shelved_same es es' b b' n n' p q r = cc

-- the front tile after a touch
front_bytes_lem : (o : Option ℕ) (h : Shelved) (k : ℕ) → (get_or (touched_at o h k).list 0 blank).bytes ≡ shown_at o h.list h.below k
front_bytes_lem None h k = refl
front_bytes_lem (Some p) h k = refl

front_some : (o : Option ℕ) (h : Shelved) (k : ℕ) → 0 < length (touched_at o h k).list
front_some None h k = omega arith
front_some (Some p) h k = omega arith

front_tile : (o : Option ℕ) (h : Shelved) (k : ℕ) → place_of h.list k ≡ o → tile_in (touched_at o h k).list 0 ≡ k
front_tile None h k e = refl
front_tile (Some p) h k e = (placed_some h.list k p e).1

module _ (h : Shelved) (k : ℕ) where
  pub touched_some : 0 < length (touched h k).list
  touched_some = front_some (place_of h.list k) h k

  pub touched_tile : tile_in (touched h k).list 0 ≡ k
  touched_tile = front_tile (place_of h.list k) h k refl

  pub touched_bytes : k < count h.below → (get_or (touched h k).list 0 blank).bytes ≡ tile_of (store_of h) k
  touched_bytes w = front_bytes_lem (place_of h.list k) h k ∙ sym (shelf_tile h.list h.below k w)

-- the touch of a tile that is in front, or elsewhere on the shelf, as the program makes it
pub touched_hit : (es es' : List Entry) (b : Store) (n k p : ℕ) → place_of es k ≡ Some p → es' ≡ to_front es p → ◌≡◌ {A = Shelved} (record { list = es'; below = b; fetches = n }) (touched (record { list = es; below = b; fetches = n }) k)
touched_hit es es' b n k p e f = rw (e, f) refl

pub place_front : (es : List Entry) (k : ℕ) → 0 < length es → tile_in es 0 ≡ k → place_of es k ≡ Some 0
place_front es k h e = place_first es k 0 h (λ j lj q. omega arith) e

-- the last of 64, which leaves
pub last_some : (es : List Entry) (e : Entry) → length es ≤ 64 → entry_at es 63 ≡ Some e → (63 < length es) × (get_or es 63 blank ≡ e) × (drop 63 es ≡ e ∷ [])
last_some es e few q = elim (cases_lt 63 (length es)) [
  | inl l ↦ let s : ◌≡◌ {A = Option Entry} (Some (get_or es 63 blank)) (Some e) = sym (entry_at_lem es 63 l) ∙ q in
      let g : get_or es 63 blank ≡ e = cc in
      (l, g, drop_more es 63 blank l ∙ ap (λ z. get_or es 63 blank ∷ z) (drop_all 64 es few) ∙ ap (λ (z : Entry). z ∷ []) g)
  | inr l ↦ let s : ◌≡◌ {A = Option Entry} None (Some e) = sym (entry_past es 63 l) ∙ q in
      let z : ◌≡◌ {A = ℕ} 0 1 = cc in absurd (omega arith)
]

pub last_none : (es : List Entry) → entry_at es 63 ≡ None → drop 63 es ≡ []
last_none es q = elim (cases_lt 63 (length es)) [
  | inl l ↦ let s : ◌≡◌ {A = Option Entry} (Some (get_or es 63 blank)) None = sym (entry_at_lem es 63 l) ∙ q in
      let z : ◌≡◌ {A = ℕ} 0 1 = cc in absurd (omega arith)
  | inr l ↦ drop_all 63 es l
]

-- a good entry's bytes are accepted below
pub write_good : (b b' : Store) (e : Entry) (r : Result (Unit {0}) Fault) → Good b e → WrittenAs b e.tile e.bytes r b' → b' ≡ written b e.tile e.bytes
write_good b b' e r g w =
    let ok : r ≡ Ok tt = w.answer ∙ write-within b e.tile e.bytes g.within (none_above b.top e.bytes g.low) ∙ ap unless_fault g.sound in
    w.after ∙ ap (λ z. store_after z b e.tile e.bytes) ok

-- the touch of a tile that is fetched, as the program makes it: b1 is the store below after the read
module _ (es : List Entry) (b b1 : Store) (k : ℕ) (out bytes : List ℕ) (r : Result (Unit {0}) Fault) (l : Lawful b) (h : k < count b) (absent : place_of es k ≡ None) (a : ReadAs b k out r bytes b1) where
  pub fetch_refused : (q : Result (Unit {0}) Fault) → q ≡ passed_on r → q ≡ read (shelf_store es b) k
  fetch_refused q e = e ∙ ap passed_on a.answer ∙ sym (shelf_read es b k l h)

  pub fetch_made : passed_on r ≡ Ok tt → (es' : List Entry) (b2 : Store) (n n2 : ℕ) → es' ≡ clean k bytes ∷ take 63 es → b2 ≡ written_back b1 (drop 63 es) → n2 ≡ counted n
      → ◌≡◌ {A = Shelved} (record { list = es'; below = b2; fetches = n2 }) (touched (record { list = es; below = b; fetches = n }) k)
  fetch_made ok es' b2 n n2 ee eb en =
      let bytes-are : bytes ≡ tile_of b k = a.buffer ∙ ap (λ z. buffer_after z (tile_of b k) out) (ok_passed r ok) in
      rw absent (shelved_same _ _ _ _ _ _ (ee ∙ ap (λ z. clean k z ∷ take 63 es) bytes-are) (eb ∙ ap (λ z. written_back z (drop 63 es)) a.same) en)
