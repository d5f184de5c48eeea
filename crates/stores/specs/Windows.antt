-- A window over a lawful store is a lawful store, and answers by the store below.
use Rattle.std.specs.Prelude.{◌≡◌, ℕ, zero, suc, ◌+◌, ◌-◌, ◌^◌, ◌<◌, min, false, List, [], ◌∷◌, map, length, take, drop, IsErrAnd, Some, None, Ok, Err, Option, Result, slice_set, refl}
use Rattle.std.proofs.Common.{sym, ap, subst, ◌∙◌, inl, inr, arith}
use Rattle.std.proofs.lemmas.List.{length-take, length-drop, length-map, get_or-take, get_or-drop, get_or-map, get_or_past, drop-set-add}
use Rattle.std.proofs.lemmas.Bool.{cases_lt, lt-ltb}
use Rattle.std.proofs.lemmas.Result.{err_from_is_err_and}
use Rattle.refusals.specs.declared.fault.Fault.{Fault}
use Rattle.stores.specs.Meaning.{Store, Lawful, Access, reading, writing, Reached, ReadAs, WrittenAs, count, tile_of, fault_of, any_above, unless_fault, buffer_after, store_after}
use Rattle.stores.specs.Layers.{raised, passed_on, window, accesses}
use Rattle.stores.specs.Calls.{read-within, write-within}

-- an answer that is passed on is accepted or refused as it was
pub passed_fault : (o : Option Fault) → unless_fault (raised o) ≡ passed_on (unless_fault o)
passed_fault None = refl
passed_fault (Some f) = refl

passed_buffer : (r : Result (Unit {0}) Fault) (tile out : List ℕ) → buffer_after (passed_on r) tile out ≡ buffer_after r tile out
passed_buffer (Ok u) tile out = refl
passed_buffer (Err f) tile out = refl

passed_store : (r : Result (Unit {0}) Fault) (s : Store) (k : ℕ) (bytes : List ℕ) → store_after (passed_on r) s k bytes ≡ store_after r s k bytes
passed_store (Ok u) s k bytes = refl
passed_store (Err f) s k bytes = refl

set-take : {A : Type 0} (m : ℕ) (xs : List A) (k : ℕ) (x : A) → take m (slice_set xs k x) ≡ slice_set (take m xs) k x
set-take zero xs k x = refl
set-take (suc m) [] k x = refl
set-take (suc m) (y ∷ xs) zero x = refl
set-take (suc m) (y ∷ xs) (suc k) x = ap (λ ys. y ∷ ys) (set-take m xs k x)

module _ (b : Store) (s m : ℕ) where
  pub window-count : count (window s m b) ≡ min m (count b - s)
  window-count = simp (length-take, length-drop)

  module _ (k : ℕ) (h : k < count (window s m b)) where
    shown : k < min m (count b - s)
    shown = simp (length-take, length-drop) at h

    -- tile k of the window is tile s+k below
    pub window-below : s + k < count b
    window-below = omega (arith, shown)

    pub window_tile : tile_of (window s m b) k ≡ tile_of b (s + k)
    window_tile = get_or-take m (drop s b.tiles) k [] (omega (arith, shown)) ∙ get_or-drop s b.tiles k []

    -- with its fault one level higher
    pub window_fault : length b.faults ≡ count b → fault_of (window s m b) k ≡ raised (fault_of b (s + k))
    window_fault e =
        get_or-map raised (take m (drop s b.faults)) k None None (simp (length-take, length-drop) (omega (arith, shown)))
        ∙ ap raised (get_or-take m (drop s b.faults) k None (omega (arith, shown)) ∙ get_or-drop s b.faults k None)

  pub window_lawful : Lawful b → Lawful (window s m b)
  window_lawful l = record {
    wide = λ k h. ap length (window_tile k h) ∙ l.wide (s + k) (window-below k h);
    low = λ k i. elim (cases_lt k (count (window s m b))) [
      | inl h ↦ rw (window_tile k h) (l.low (s + k) i)
      | inr h ↦ rw (get_or_past (window s m b).tiles k [] h) (omega arith)
    ];
    byte = l.byte;
    few = rw window-count (omega (arith, l.few));
    faulted = simp (length-map, length-take, length-drop) (rw l.faulted refl);
  }

  module _ (l : Lawful b) (k : ℕ) (h : k < count (window s m b)) (at : ℕ) (e : at ≡ min (s + k) (2 ^ 32 - 1)) where
    -- the sum that the program makes is that of the two
    at_below : at ≡ s + k
    at_below = omega (arith, window-below k h, l.few)

    passed_on_lem : (r : Result (Unit {0}) Fault) → r ≡ unless_fault (fault_of b at) → passed_on r ≡ unless_fault (fault_of (window s m b) k)
    passed_on_lem r a = ap passed_on (a ∙ ap (λ j. unless_fault (fault_of b j)) at_below) ∙ sym (passed_fault (fault_of b (s + k))) ∙ ap unless_fault (sym (window_fault k h l.faulted))

    window-read : (out out' : List ℕ) (r q : Result (Unit {0}) Fault) (b' : Store) → ReadAs b at out r out' b' → q ≡ passed_on r → ReadAs (window s m b) k out q out' (window s m b')
    window-read out out' r q b' a p = record {
      answer = p ∙ passed_on_lem r (a.answer ∙ read-within b at (omega (arith, at_below, window-below k h))) ∙ sym (read-within (window s m b) k h);
      buffer = a.buffer ∙ ap (λ j. buffer_after r (tile_of b j) out) at_below ∙ ap (λ t. buffer_after r t out) (sym (window_tile k h)) ∙ sym (passed_buffer r (tile_of (window s m b) k) out) ∙ ap (λ z. buffer_after z (tile_of (window s m b) k) out) (sym p);
      same = ap (window s m) a.same;
    }

    -- a write below is a write of the window
    window_store : (r : Result (Unit {0}) Fault) (bytes : List ℕ) → window s m (store_after r b at bytes) ≡ store_after r (window s m b) k bytes
    window_store (Ok u) bytes =
        ap (λ ts. record { top = b.top; tiles = ts; faults = map raised (take m (drop s b.faults)) })
        (ap (λ j. take m (drop s (slice_set b.tiles j bytes))) at_below ∙ ap (take m) (drop-set-add s b.tiles k bytes) ∙ set-take m (drop s b.tiles) k bytes)
    window_store (Err f) bytes = refl

    window-write : (bytes : List ℕ) → any_above b.top bytes ≡ false → (r q : Result (Unit {0}) Fault) (b' : Store) → WrittenAs b at bytes r b' → q ≡ passed_on r → WrittenAs (window s m b) k bytes q (window s m b')
    window-write bytes low r q b' a p = record {
      answer = p ∙ passed_on_lem r (a.answer ∙ write-within b at bytes (omega (arith, at_below, window-below k h)) low) ∙ sym (write-within (window s m b) k bytes h low);
      after = ap (window s m) a.after ∙ window_store r bytes ∙ sym (passed_store r (window s m b) k bytes) ∙ ap (λ z. store_after z (window s m b) k bytes) (sym p);
    }

    -- and the store below has changed in that tile only
    below-after : (bytes : List ℕ) (r q : Result (Unit {0}) Fault) (b' : Store) → WrittenAs b at bytes r b' → q ≡ passed_on r → b' ≡ store_after q b (s + k) bytes
    below-after bytes r q b' a p = a.after ∙ ap (λ j. store_after r b j bytes) at_below ∙ sym (passed_store r b (s + k) bytes) ∙ ap (λ z. store_after z b (s + k) bytes) (sym p)

-- a refusal that leaves a call by a `?` is the one that came
pub left_as : (q : Result (Unit {0}) Fault) (f : Fault) → IsErrAnd q (λ e. e ≡ f) → q ≡ Err f
left_as q f e = let z = err_from_is_err_and q e in z.1 ∙ ap Err z.2

pub left_by : (q r : Result (Unit {0}) Fault) (f : Fault) → IsErrAnd q (λ e. e ≡ f) → r ≡ Err f → q ≡ r
left_by q r f e p = left_as q f e ∙ sym p

-- the calls of a window over the lawful store b, as the program makes them
module _ (b : Store) (s m k n at : ℕ) (l : Lawful b) (counted : n ≡ count (window s m b)) (h : k < n) (sum : at ≡ min (s + k) (2 ^ 32 - 1)) where
  abbrev held : k < count (window s m b)
  held = rw counted at h

  -- the one access to the store below that each of them makes
  pub reads_step : {S : Type 0} (steps : S → Access → S → Type 0) (x y : S) → steps x (reading at) y → Reached steps x (accesses s m b (reading k)) y
  reads_step steps x y did = rw (lt-ltb k (count (window s m b)) held) (y, subst (λ n. steps x (reading n) y) (at_below b s m l k held at sum) did, refl)

  pub writes_step : {S : Type 0} (steps : S → Access → S → Type 0) (x y : S) (bytes : List ℕ) (top : ℕ) → top ≡ b.top → any_above top bytes ≡ false → steps x (writing at bytes) y → Reached steps x (accesses s m b (writing k bytes)) y
  writes_step steps x y bytes top topped low did =
      rw (lt-ltb k (count (window s m b)) held, rw topped at low) (y, subst (λ n. steps x (writing n bytes) y) (at_below b s m l k held at sum) did, refl)

  -- and what they answer and leave
  module _ (b' : Store) (r q : Result (Unit {0}) Fault) (p : q ≡ passed_on r) where
    pub reads_through : (out out' : List ℕ) → ReadAs b at out r out' b' → ReadAs (window s m b) k out q out' (window s m b')
    reads_through out out' did = window-read b s m l k held at sum out out' r q b' did p

    module _ (bytes : List ℕ) (did : WrittenAs b at bytes r b') where
      pub writes_through : (top : ℕ) → top ≡ b.top → any_above top bytes ≡ false → WrittenAs (window s m b) k bytes q (window s m b')
      writes_through top topped low = window-write b s m l k held at sum bytes (rw topped at low) r q b' did p

      pub writes_below : b' ≡ store_after q b (s + k) bytes
      writes_below = below-after b s m l k held at sum bytes r q b' did p
