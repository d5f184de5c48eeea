-- What a write into the midst of memory leaves.
use Rattle.std.specs.Prelude.{◌≡◌, ℕ, ◌+◌, ◌-◌, ◌*◌, ◌/◌, ◌<◌, ◌≤◌, List, ◌++◌, length, take, drop, slice_index, refl}
use Rattle.std.proofs.Common.{sym, ap, subst, ◌∙◌, inl, inr, arith, mul-add, mul-one, mul_comm}
use borrow.Rule.Slice.PartMut.{put_mid}
use Rattle.std.proofs.lemmas.Nat.{mul-le, div-add-mod'}
use Rattle.std.proofs.lemmas.List.{length-take, length-drop, length-append, get_or-take, get_or-drop, get_or_past, drop-drop, drop-take}
use Rattle.std.proofs.lemmas.Slice.{take-put_mid_below, drop-put_mid, between-put_mid}
use Rattle.std.proofs.lemmas.Bool.{cases_lt}
use Rattle.stores.specs.Raw.{whole_tiles, part, overwritten}

-- a tile ends before the next begins
pub tile_ends : (size j k : ℕ) → j < k → size * j + size ≤ size * k
tile_ends size j k h = omega (arith, mul-le size (j + 1) size k (omega arith) (omega arith), mul-add size j 1, mul-one size)

-- and a whole tile ends within the memory
pub tile_within : (size bytes k : ℕ) → k < whole_tiles size bytes → size * k + size ≤ bytes
tile_within size bytes k h = omega (arith, tile_ends size k (bytes / size) (omega arith), div-add-mod' bytes size, mul_comm size (bytes / size))

-- any part of memory holds bytes, if the memory does
pub part_low : (memory : List ℕ) (start n top : ℕ) → ((i : ℕ) → slice_index memory i ≤ top) → (i : ℕ) → slice_index (part memory start n) i ≤ top
part_low memory start n top low i = elim (cases_lt i n) [
  | inl h ↦ rw (get_or-take n (drop start memory) i 0 h, get_or-drop start memory i 0) (low (start + i))
  | inr h ↦ rw (get_or_past (take n (drop start memory)) i 0 (simp length-take (omega arith))) (omega arith)
]

-- a byte is a part of one byte
byte_part : (xs : List ℕ) (i : ℕ) → slice_index xs i ≡ slice_index (part xs i 1) 0
byte_part xs i =
    let z : i + 0 ≡ i = omega arith in
    sym (get_or-take 1 (drop i xs) 0 0 (omega arith) ∙ get_or-drop i xs 0 0 ∙ ap (λ j. slice_index xs j) z)

module _ (memory : List ℕ) (start : ℕ) (bytes : List ℕ) where
  abbrev after : List ℕ
  after = overwritten memory start bytes

  -- as the program writes it
  pub overwritten_mid : overwritten memory start bytes ≡ put_mid start (length bytes) memory bytes
  overwritten_mid = ap (λ rest. take start memory ++ (bytes ++ rest)) (sym (drop-drop (length bytes) start memory))

  module _ (fits : start + length bytes ≤ length memory) where
    pub length-overwritten : length after ≡ length memory
    length-overwritten = simp (length-append, length-take, length-drop) (omega arith)

    pub part-before : (from n : ℕ) → from + n ≤ start → part after from n ≡ part memory from n
    part-before from n h =
        ap (λ m. part m from n) overwritten_mid
        ∙ sym (drop-take from n (put_mid start (length bytes) memory bytes))
        ∙ ap (drop from) (take-put_mid_below start (length bytes) memory bytes (from + n) h (omega arith))
        ∙ drop-take from n memory

    pub part_here : part after start (length bytes) ≡ bytes
    part_here =
        let w : start + length bytes - start ≡ length bytes = omega arith in
        ap (λ m. part m start (length bytes)) overwritten_mid
        ∙ (rw w at (between-put_mid start (length bytes) memory bytes (start + length bytes) (omega arith) (omega arith)))

    pub part_behind : (from n : ℕ) → start + length bytes ≤ from → part after from n ≡ part memory from n
    part_behind from n h =
        ap (λ m. part m from n) overwritten_mid
        ∙ ap (take n) (drop-put_mid start (length bytes) memory bytes from h (omega arith) refl)

    -- a byte that is not written over stays
    pub byte_before : (i : ℕ) → i < start → slice_index after i ≡ slice_index memory i
    byte_before i h = byte_part after i ∙ ap (λ xs. slice_index xs 0) (part-before i 1 (omega arith)) ∙ sym (byte_part memory i)

    pub byte_behind : (i : ℕ) → start + length bytes ≤ i → slice_index after i ≡ slice_index memory i
    byte_behind i h = byte_part after i ∙ ap (λ xs. slice_index xs 0) (part_behind i 1 h) ∙ sym (byte_part memory i)

    byte_here : (i : ℕ) → i < length bytes → slice_index after (start + i) ≡ slice_index bytes i
    byte_here i h = sym (get_or-take (length bytes) (drop start after) i 0 h ∙ get_or-drop start after i 0) ∙ ap (λ xs. slice_index xs i) part_here

    -- memory stays bytes, if bytes are written
    pub overwritten_low : (top : ℕ) → ((i : ℕ) → slice_index memory i ≤ top) → ((i : ℕ) → slice_index bytes i ≤ top) → (i : ℕ) → slice_index after i ≤ top
    overwritten_low top old new i = elim (cases_lt i start) [
      | inl h ↦ rw (byte_before i h) (old i)
      | inr h ↦ elim (cases_lt (i - start) (length bytes)) [
        | inl g ↦ let e : start + (i - start) ≡ i = omega arith in
            subst (λ j. slice_index after j ≤ top) e (rw (byte_here (i - start) g) (new (i - start)))
        | inr g ↦ rw (byte_behind i (omega arith)) (old i)
      ]
    ]
