-- What the calls of the shelf do, from what its places and the store below do.
use Rattle.std.proofs.Common.{◌≡◌, ℕ, ◌+◌, ◌<◌, ◌≤◌, Bool, true, false, ltb, ◌⊎◌, List, [], ◌∷◌, ◌++◌, length, get_or, take, drop, set, Some, None, Ok, Err, Result, sym, refl, ap, ◌∙◌, subst, inl, inr, arith}
use Rattle.std.proofs.lemmas.Bool.{cases_Bool, cases_lt, eqb-true, true≢false, cond-true, cond-false, lt-ltb, le-ltb, ltb-true}
use Rattle.std.proofs.lemmas.List.{take_more}
use Rattle.refusals.specs.declared.fault.Fault.{Fault}
use Rattle.stores.specs.Meaning.{Store, Lawful, Access, reading, writing, Reached, count, tile_of, read, above, any_above}
use Rattle.shelves.specs.declared.entry.Entry.{Entry}
use Rattle.shelves.specs.Shelves.{Shelved, blank, entry_at, place_of, to_front, written_back, touched, touched_if, with_byte, over_front, store_of, byte_if, Good, Kept, TouchedAs, TileRead, TileWritten, ByteRead, writes_back, fetch_accesses, touch_accesses_at, touch_accesses, write_accesses}
use Rattle.shelves.proofs.Lists.{tile_in, place_none, placed_some, front_again}
use Rattle.shelves.proofs.Showing.{shelf_count}
use Rattle.shelves.proofs.Touching.{ok_within, hit_read, place_front, touched_hit, touched_as, touched_kept, touched_some, touched_bytes, last_some, last_none}
use Rattle.shelves.proofs.Writing.{put_over, refused-above, write-refused, write-accepted, write_keeps}
use Rattle.shelf.specs.Shelf.{Did, above_refused}
use Rattle.places.specs.Places.{front_is, moved_to_front, front_bytes, front_byte}

-- the front tile
front_place : (es : List Entry) (k : ℕ) → true ≡ front_is es k → (0 < length es) × (tile_in es 0 ≡ k)
front_place [] k e = absurd (true≢false e)
front_place (x ∷ es) k e = (omega arith, eqb-true x.tile k (sym e))

front_byte_lem : (es : List Entry) (i : ℕ) → front_byte es i ≡ get_or (get_or es 0 blank).bytes i 0
front_byte_lem [] i = refl
front_byte_lem (x ∷ es) i = refl

front_bytes_lem : (es : List Entry) (out : List ℕ) → 0 < length es → front_bytes es out ≡ (get_or es 0 blank).bytes
front_bytes_lem [] out h = absurd (omega arith)
front_bytes_lem (x ∷ es) out h = refl

-- accesses one after the other
module _ {S : Type 0} (steps : S → Access → S → Type 0) where
  pub reached_then : (x y z : S) (first more : List Access) → Reached steps x first y → Reached steps y more z → Reached steps x (first ++ more) z
  reached_then x y z [] more e r = subst (λ (w : S). Reached steps w more z) e r
  reached_then x y z (a ∷ first) more e r = (e.0, e.1, reached_then e.0 y z first more e.2 r)

  pub reached_by : (x y : S) (is more : List Access) → is ≡ more → Reached steps x is y → Reached steps x more y
  reached_by x y is more e r = subst (λ (w : List Access). Reached steps x w y) e r

  -- of a touch of a tile on the shelf, or past the count
  module _ (x : S) (h : Shelved) (k : ℕ) where
    pub hit_reaches : (p : ℕ) → place_of h.list k ≡ Some p → Reached steps x (touch_accesses h k) x
    hit_reaches p e = reached_by x x [] (touch_accesses h k) (ap (λ o. touch_accesses_at o h k) (sym e)) refl

    module _ (absent : place_of h.list k ≡ None) where
      pub past_reaches : count h.below ≤ k → Reached steps x (touch_accesses h k) x
      past_reaches w = reached_by x x [] (touch_accesses h k) (sym (cond-false _ _ _ (le-ltb k (count h.below) w)) ∙ ap (λ o. touch_accesses_at o h k) (sym absent)) refl

      -- and of one that is read below
      module _ (w : k < count h.below) (r : Result (Unit {0}) Fault) (answer : r ≡ read h.below k) where
        fetch_by : fetch_accesses r h k ≡ touch_accesses h k
        fetch_by = ap (λ z. fetch_accesses z h k) answer ∙ sym (cond-true _ _ _ (lt-ltb k (count h.below) w)) ∙ ap (λ o. touch_accesses_at o h k) (sym absent)

        pub refused_reaches : (y : S) (f : Fault) → r ≡ Err f → steps x (reading k) y → Reached steps x (touch_accesses h k) y
        refused_reaches y f e s = reached_by x y (reading k ∷ []) (touch_accesses h k) (ap (λ z. fetch_accesses z h k) (sym e) ∙ fetch_by) (y, s, refl)

        pub fetch_reaches : (y z : S) → r ≡ Ok tt → steps x (reading k) y → Reached steps y (writes_back (drop 63 h.list)) z → Reached steps x (touch_accesses h k) z
        fetch_reaches y z e s t = reached_by x z (reading k ∷ writes_back (drop 63 h.list)) (touch_accesses h k) (ap (λ z. fetch_accesses z h k) (sym e) ∙ fetch_by) (y, s, t)

writes_append : (xs ys : List Entry) → writes_back xs ++ writes_back ys ≡ writes_back (xs ++ ys)
writes_append [] ys = refl
writes_append (x ∷ xs) ys = elim (cases_Bool x.changed) [
  | inl t ↦ rw t (ap (λ z. writing x.tile x.bytes ∷ z) (writes_append xs ys))
  | inr t ↦ rw t (writes_append xs ys)
]

-- of entries written back, one further
pub back_reaches : {S : Type 0} (steps : S → Access → S → Type 0) (x y z : S) (es : List Entry) (p : ℕ) → p < length es → Reached steps x (writes_back (take p es)) y → Reached steps y (writes_back (get_or es p blank ∷ [])) z → Reached steps x (writes_back (take (p + 1) es)) z
back_reaches steps x y z es p lt r t =
    reached_by steps x z (writes_back (take p es) ++ writes_back (get_or es p blank ∷ [])) (writes_back (take (p + 1) es))
    (writes_append (take p es) (get_or es p blank ∷ []) ∙ ap writes_back (sym (take_more es p blank lt)))
    (reached_then steps x y z (writes_back (take p es)) (writes_back (get_or es p blank ∷ [])) r t)

-- an answer and a shelf after a touch, if they are those of the definition
pub touch_done : {R : Type 0} (h : Shelved) (k : ℕ) → Lawful h.below → Kept h.below h.list → R → (r : Result (Unit {0}) Fault) (h' : Shelved) → r ≡ read (store_of h) k → h' ≡ touched_if r h k → Did R (TouchedAs h k r h')
touch_done h k l kept reaches r h' answer after = record { reaches = reaches; does = touched_as h k l kept r h' answer after }

module _ (es : List Entry) (b : Store) (n k : ℕ) (l : Lawful b) (kept : Kept b es) where
  abbrev before : Shelved
  before = record { list = es; below = b; fetches = n }

  -- a tile elsewhere on the shelf moves to the front
  module _ (p : ℕ) (es' : List Entry) (e : place_of es k ≡ Some p) (q : es' ≡ moved_to_front es p) where
    front : es' ≡ to_front es p
    front = q ∙ cond-true _ _ _ (lt-ltb p (length es) (placed_some es k p e).0)

    pub moved_kept : Kept b es'
    moved_kept = touched_kept before k l kept (Ok tt) (record { list = es'; below = b; fetches = n }) (sym (hit_read es b k l p kept e)) (touched_hit es es' b n k p e front)

  module _ {S : Type 0} (steps : S → Access → S → Type 0) (x : S) where
    hit_done : (p : ℕ) (es' : List Entry) → place_of es k ≡ Some p → es' ≡ to_front es p → Did (Reached steps x (touch_accesses before k) x) (TouchedAs before k (Ok tt) (record { list = es'; below = b; fetches = n }))
    hit_done p es' e q = touch_done before k l kept (hit_reaches steps x before k p e) (Ok tt) (record { list = es'; below = b; fetches = n }) (sym (hit_read es b k l p kept e)) (touched_hit es es' b n k p e q)

    -- a tile in front stays there
    pub front_done : true ≡ front_is es k → Did (Reached steps x (touch_accesses before k) x) (TouchedAs before k (Ok tt) before)
    front_done e =
        let f = front_place es k e in
        hit_done 0 es (place_front es k f.0 f.1) (sym (front_again es f.0))

    pub moved_done : (p : ℕ) (es' : List Entry) → place_of es k ≡ Some p → es' ≡ moved_to_front es p → Did (Reached steps x (touch_accesses before k) x) (TouchedAs before k (Ok tt) (record { list = es'; below = b; fetches = n }))
    moved_done p es' e q = hit_done p es' e (front p es' e q)

-- the tile that leaves, in the store b1 that the read has left
module _ (es : List Entry) (b b1 : Store) (kept : Kept b es) (same : b1 ≡ b) where
  pub leaving_good : (e : Entry) → Some e ≡ entry_at es 63 → Good b1 e
  leaving_good e q = let s = last_some es e kept.few (sym q) in rw same (subst (λ (z : Entry). Good b z) s.1 (kept.good 63 s.0))

  pub leaving_back : (e : Entry) → Some e ≡ entry_at es 63 → (b2 : Store) → b2 ≡ written_back b1 (e ∷ []) → b2 ≡ written_back b1 (drop 63 es)
  leaving_back e q b2 w = w ∙ ap (written_back b1) (sym (last_some es e kept.few (sym q)).2)

pub leaving_reaches : {S : Type 0} (steps : S → Access → S → Type 0) (x y : S) (es : List Entry) (e : Entry) → length es ≤ 64 → Some e ≡ entry_at es 63 → Reached steps x (writes_back (e ∷ [])) y → Reached steps x (writes_back (drop 63 es)) y
leaving_reaches steps x y es e few q r = reached_by steps x y (writes_back (e ∷ [])) (writes_back (drop 63 es)) (ap writes_back (sym (last_some es e few (sym q)).2)) r

pub none_reaches : {S : Type 0} (steps : S → Access → S → Type 0) (x : S) (es : List Entry) → None ≡ entry_at es 63 → Reached steps x (writes_back (drop 63 es)) x
none_reaches steps x es q = reached_by steps x x [] (writes_back (drop 63 es)) (ap writes_back (sym (last_none es (sym q)))) refl

pub none_leaves : (es : List Entry) (b1 : Store) → None ≡ entry_at es 63 → b1 ≡ written_back b1 (drop 63 es)
none_leaves es b1 q = ap (written_back b1) (sym (last_none es (sym q)))

-- an accepted touch has the tile in front
module _ (h h1 : Shelved) (k : ℕ) (r : Result (Unit {0}) Fault) (t : TouchedAs h k r h1) (ok : r ≡ Ok tt) where
  list_is : h1.list ≡ (touched h k).list
  list_is = ap (λ (z : Shelved). z.list) (t.after ∙ ap (λ z. touched_if z h k) ok)

  within : k < count h.below
  within = rw (shelf_count h.list h.below) at (ok_within (store_of h) k (sym t.answer ∙ ok))

  shown_front : (get_or h1.list 0 blank).bytes ≡ tile_of (store_of h) k
  shown_front = ap (λ (z : List Entry). (get_or z 0 blank).bytes) list_is ∙ touched_bytes h k within

  pub byte_read : (i v : ℕ) → v ≡ front_byte h1.list i → ByteRead h k i (Ok v) h1
  byte_read i v e =
      let b : v ≡ get_or (tile_of (store_of h) k) i 0 = e ∙ front_byte_lem h1.list i ∙ ap (λ z. get_or z i 0) shown_front in
      record {
        answer = ap Ok b ∙ ap (λ z. byte_if z (get_or (tile_of (store_of h) k) i 0)) (sym ok ∙ t.answer);
        touches = subst (λ z. TouchedAs h k z h1) t.answer t;
      }

  pub tile_read : (out out' : List ℕ) → out' ≡ front_bytes h1.list out → TileRead h k out (Ok tt) out' h1
  tile_read out out' e = record {
    touches = subst (λ z. TouchedAs h k z h1) ok t;
    buffer = e ∙ front_bytes_lem h1.list out (subst (λ (z : List Entry). 0 < length z) (sym list_is) (touched_some h k)) ∙ shown_front;
  }

  pub byte_over : (i v : ℕ) (es : List Entry) → es ≡ with_byte h1.list i v → es ≡ over_front h1.list (set (tile_of (store_of h) k) i v)
  byte_over i v es e = e ∙ ap (λ (z : List Entry). with_byte z i v) list_is ∙ put_over h k i v within ∙ ap (λ (z : List Entry). over_front z (set (tile_of (store_of h) k) i v)) (sym list_is)

-- a write as the program makes it: s is what the test of the top answered, of which high says whether a byte is above it
module _ (h : Shelved) (l : Lawful h.below) (kept : Kept h.below h.list) (k : ℕ) (bytes : List ℕ) (high : Bool) (tells : k < count h.below → high ≡ any_above h.below.top bytes) (s : Result (Unit {0}) Fault) (tested : s ≡ above_refused h.below k high) where
  refused : (b : Bool) (f : Fault) → Err f ≡ above_refused h.below k b → (b ≡ true) × (k < count h.below) × (f ≡ above k)
  refused true f e = elim (cases_Bool (ltb k (count h.below))) [
    | inl t ↦ let q : ◌≡◌ {A = Result (Unit {0}) Fault} (Err f) (Err (above k)) = rw t at e in (refl, ltb-true k (count h.below) t, cc)
    | inr t ↦ let q : ◌≡◌ {A = Result (Unit {0}) Fault} (Err f) (Ok tt) = rw t at e in
        let z : ◌≡◌ {A = ℕ} 0 1 = cc in absurd (omega arith)
  ]
  refused false f e = let z : ◌≡◌ {A = ℕ} 0 1 = cc in absurd (omega arith)

  -- the test refuses, and then nothing below is reached
  pub top_did : {S : Type 0} (steps : S → Access → S → Type 0) (x : S) (f : Fault) (q : Result (Unit {0}) Fault) → q ≡ s → s ≡ Err f → Did (Reached steps x (write_accesses h k bytes) x) (TileWritten h k bytes q h)
  top_did steps x f q p e =
      let t = refused high f (sym e ∙ tested) in
      record {
        reaches = reached_by steps x x [] (write_accesses h k bytes) (sym (cond-true _ _ _ (sym (tells t.1) ∙ t.0))) refl;
        does = refused-above h k bytes q t.1 (sym (tells t.1) ∙ t.0) (p ∙ e ∙ ap Err t.2);
      }

  accepted : (b : Bool) → Ok tt ≡ above_refused h.below k b → k < count h.below → b ≡ false
  accepted true e w =
      let q : ◌≡◌ {A = Result (Unit {0}) Fault} (Ok tt) (Err (above k)) = rw (lt-ltb k (count h.below) w) at e in
      let z : ◌≡◌ {A = ℕ} 0 1 = cc in absurd (omega arith)
  accepted false e w = refl

  -- or accepts
  module _ (passes : s ≡ Ok tt) (r : Result (Unit {0}) Fault) (h1 : Shelved) (t : TouchedAs h k r h1) where
    low : (any_above h.below.top bytes ≡ false) ⊎ (count h.below ≤ k)
    low = elim (cases_lt k (count h.below)) [
      | inl w ↦ inl (sym (tells w) ∙ accepted high (sym passes ∙ tested) w)
      | inr w ↦ inr w
    ]

    past_none : count h.below ≤ k → touch_accesses h k ≡ []
    past_none w = ap (λ o. touch_accesses_at o h k) (place_none h.list k (λ j lj e. omega (arith, (kept.good j lj).within, e))) ∙ cond-false _ _ _ (le-ltb k (count h.below) w)

    by_touch : (any_above h.below.top bytes ≡ false) ⊎ (count h.below ≤ k) → touch_accesses h k ≡ write_accesses h k bytes
    by_touch (inl e) = sym (cond-false _ _ _ e)
    by_touch (inr w) = elim (cases_Bool (any_above h.below.top bytes)) [
      | inl e ↦ past_none w ∙ sym (cond-true _ _ _ e)
      | inr e ↦ sym (cond-false _ _ _ e)
    ]

    -- else the touch's accesses are the write's
    write_reaches : {S : Type 0} (steps : S → Access → S → Type 0) (x y : S) → Reached steps x (touch_accesses h k) y → Reached steps x (write_accesses h k bytes) y
    write_reaches steps x y t = reached_by steps x y (touch_accesses h k) (write_accesses h k bytes) (by_touch low) t

    module _ {S : Type 0} (steps : S → Access → S → Type 0) (x y : S) (reached : Reached steps x (touch_accesses h k) y) where
      -- a touch that is refused
      pub touch_did : (f : Fault) (q : Result (Unit {0}) Fault) → q ≡ r → r ≡ Err f → Did (Reached steps x (write_accesses h k bytes) y) (TileWritten h k bytes q h1)
      touch_did f q p e = record { reaches = write_reaches steps x y reached; does = write-refused h l kept k bytes low r h1 t f q p e }

      -- and one that is accepted, with other bytes then in front
      pub write_did : r ≡ Ok tt → (k < count h.below → length bytes ≡ 64) → (es : List Entry) → es ≡ over_front h1.list bytes → Did (Reached steps x (write_accesses h k bytes) y) (TileWritten h k bytes (Ok tt) (record { list = es; below = h1.below; fetches = h1.fetches }))
      write_did ok wide es over = record { reaches = write_reaches steps x y reached; does = write-accepted h l kept k bytes low r h1 t ok (wide (within h h1 k r t ok)) es over }

    pub write_stays : r ≡ Ok tt → (k < count h.below → length bytes ≡ 64) → (es : List Entry) → es ≡ over_front h1.list bytes → Kept h1.below es
    write_stays ok wide es over = write_keeps h l kept k bytes low r h1 t ok (wide (within h h1 k r t ok)) es over
