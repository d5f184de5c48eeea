-- What the calls of any store answer and leave, case by case.
use Rattle.std.specs.Prelude.{◌≡◌, ℕ, zero, suc, ◌+◌, ◌<◌, ◌≤◌, Bool, true, false, ◌||◌, cond, List, [], ◌∷◌, length, drop, Err, Result, nat_lt, slice_index, refl}
use Rattle.std.proofs.Common.{◌∙◌, arith, inl, inr}
use Rattle.std.proofs.lemmas.List.{at_drop_more}
use Rattle.std.proofs.lemmas.Bool.{cases_Bool, lt-ltb, le-ltb, ltb-false, true≢false, cond-true, cond-false}
use Rattle.refusals.specs.declared.fault.Fault.{Fault}
use Rattle.stores.specs.Meaning.{Store, ReadAs, WrittenAs, count, fault_of, past, above, any_above, unless_fault, read, write}

-- within the count read answers by the tile's fault alone
pub read-within : (s : Store) (k : ℕ) → k < count s → read s k ≡ unless_fault (fault_of s k)
read-within s k h = rw (lt-ltb k (count s) h)

-- and so does write, if no byte is above the top
pub write-within : (s : Store) (k : ℕ) (bytes : List ℕ) → k < count s → any_above s.top bytes ≡ false → write s k bytes ≡ unless_fault (fault_of s k)
write-within s k bytes h low = rw (lt-ltb k (count s) h, low)

pub read_past : (s : Store) (k : ℕ) (out : List ℕ) (r : Result (Unit {0}) Fault) → count s ≤ k → r ≡ Err (past k) → ReadAs s k out r out s
read_past s k out r h e = record { answer = rw (le-ltb k (count s) h) e; buffer = rw e; same = refl }

pub write-past : (s : Store) (k : ℕ) (bytes : List ℕ) (r : Result (Unit {0}) Fault) → count s ≤ k → r ≡ Err (past k) → WrittenAs s k bytes r s
write-past s k bytes r h e = record { answer = rw (le-ltb k (count s) h) e; after = rw e }

pub write-above : (s : Store) (k : ℕ) (bytes : List ℕ) (r : Result (Unit {0}) Fault) → k < count s → any_above s.top bytes ≡ true → r ≡ Err (above k) → WrittenAs s k bytes r s
write-above s k bytes r h high e = record { answer = rw (lt-ltb k (count s) h, high) e; after = rw e }

-- no byte is above the top, place by place
pub none_above : (top : ℕ) (bytes : List ℕ) → ((i : ℕ) → slice_index bytes i ≤ top) → any_above top bytes ≡ false
none_above top [] low = refl
none_above top (b ∷ bytes) low = rw (le-ltb top b (low 0)) (none_above top bytes (λ i. low (suc i)))

pub each_low : (top : ℕ) (bytes : List ℕ) → any_above top bytes ≡ false → (i : ℕ) → slice_index bytes i ≤ top
each_low top [] h i = omega arith
each_low top (b ∷ bytes) h zero = elim (cases_Bool (nat_lt top b)) [ inl e ↦ absurd (true≢false (rw e at h)) | inr e ↦ ltb-false top b e ]
each_low top (b ∷ bytes) h (suc i) = elim (cases_Bool (nat_lt top b)) [ inl e ↦ absurd (true≢false (rw e at h)) | inr e ↦ each_low top bytes (rw e at h) i ]

-- one byte after the other
pub above-drop : (top : ℕ) (bytes : List ℕ) (i : ℕ) → i < length bytes → any_above top (drop i bytes) ≡ cond (nat_lt top (slice_index bytes i)) true (any_above top (drop (i + 1) bytes))
above-drop top bytes i h = at_drop_more (any_above top) bytes i 0 h ∙ either (nat_lt top (slice_index bytes i)) (any_above top (drop (i + 1) bytes))
  where
    either : (b c : Bool) → (b || c) ≡ cond b true c
    either true c = refl
    either false c = refl

pub above_low : (top : ℕ) (bytes : List ℕ) (i : ℕ) → i < length bytes → slice_index bytes i ≤ top → any_above top (drop i bytes) ≡ any_above top (drop (i + 1) bytes)
above_low top bytes i h low = above-drop top bytes i h ∙ cond-false _ _ _ (le-ltb top (slice_index bytes i) low)

pub above_high : (top : ℕ) (bytes : List ℕ) (i : ℕ) → i < length bytes → top < slice_index bytes i → any_above top (drop i bytes) ≡ true
above_high top bytes i h high = above-drop top bytes i h ∙ cond-true _ _ _ (lt-ltb top (slice_index bytes i) high)
