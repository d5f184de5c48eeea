-- Codes of one bit each are read as they were packed.
use Rattle.std.specs.Prelude.{◌≡◌, ℕ, zero, suc, ◌+◌, ◌*◌, ◌/◌, ◌%◌, ◌^◌, ◌<◌, ◌≤◌, List, [], ◌∷◌, length, drop, slice_index}
use Rattle.std.proofs.Common.{sym, ap, ◌∙◌, inl, inr, arith, pow_mono}
use Rattle.std.proofs.Math.Nat.{pow-succ', zero-div}
use Rattle.std.proofs.lemmas.Nat.{shr-shr}
use Rattle.std.proofs.lemmas.List.FromFn.{length-map-range_with_len, get_or-map-range_with_len, fill_by_all}
use Rattle.std.proofs.lemmas.List.{length-take, length-drop, get_or-take, get_or-drop, get_or_past}
use Rattle.std.proofs.lemmas.Bool.{cases_lt}
use Rattle.stores.specs.Raw.{part}
use Rattle.stores.specs.Packing.{bit, code_in, unpacked, byte_of, packed}
use Rattle.stores.specs.Overwriting.{part_low}

pub length-unpacked : (bytes : List ℕ) → length (unpacked bytes) ≡ 64
unfolding unpacked
length-unpacked bytes = length-map-range_with_len (code_in bytes) 0 64

pub length-packed : (codes : List ℕ) → length (packed codes) ≡ 8
unfolding packed
length-packed codes = length-map-range_with_len (λ j. byte_of (part codes (8 * j) 8)) 0 8

-- a bit is 0 or 1
pub unpacked_low : (bytes : List ℕ) (i : ℕ) → slice_index (unpacked bytes) i ≤ 1
unfolding unpacked
unpacked_low bytes i = elim (cases_lt i 64) [
  | inl h ↦ rw (get_or-map-range_with_len (code_in bytes) 0 64 i i 0 h (omega arith)) (omega arith)
  | inr h ↦ rw (get_or_past (unpacked bytes) i 0 (rw (length-unpacked bytes) h)) (omega arith)
]

-- 64 codes that are those of the bytes one by one
pub unpacked_all : (bytes codes : List ℕ) → length codes ≡ 64 → ((n : ℕ) → n < 64 → slice_index codes n ≡ code_in bytes n) → codes ≡ unpacked bytes
unfolding unpacked
unpacked_all bytes codes long each = fill_by_all (code_in bytes) codes 64 0 long each

-- and 8 bytes that are those of the codes one by one
pub packed_all : (codes bytes : List ℕ) → length bytes ≡ 8 → ((j : ℕ) → j < 8 → slice_index bytes j ≡ byte_of (part codes (8 * j) 8)) → bytes ≡ packed codes
unfolding packed
packed_all codes bytes long each = fill_by_all (λ j. byte_of (part codes (8 * j) 8)) bytes 8 0 long each

-- n codes of one bit make a number below 2 ^ n
byte_below : (codes : List ℕ) → ((i : ℕ) → slice_index codes i ≤ 1) → byte_of codes < 2 ^ length codes
byte_below [] low = omega arith
byte_below (c ∷ codes) low = omega (arith, low 0, byte_below codes (λ i. low (suc i)), pow-succ' 2 (length codes))

-- so n or fewer do
byte_fits : (codes : List ℕ) (n : ℕ) → ((i : ℕ) → slice_index codes i ≤ 1) → length codes ≤ n → byte_of codes < 2 ^ n
byte_fits codes n low few = omega (arith, byte_below codes low, pow_mono few)

-- eight codes without the first have room for one more
pub rest_small : (codes : List ℕ) (i : ℕ) → length codes ≡ 8 → ((i : ℕ) → slice_index codes i ≤ 1) → 0 < i → byte_of (drop i codes) < 128
rest_small codes i eight low h = byte_fits (drop i codes) 7 (λ j. rw (get_or-drop i codes j 0) (low (i + j))) (simp length-drop (omega arith))

-- bit i of the byte is code i
bit_of_byte : (codes : List ℕ) (i : ℕ) → ((i : ℕ) → slice_index codes i ≤ 1) → bit i (byte_of codes) ≡ slice_index codes i
bit_of_byte [] i low = ap (λ n. n % 2) (zero-div (2 ^ i))
bit_of_byte (c ∷ codes) zero low = let c1 = low 0 in omega arith
bit_of_byte (c ∷ codes) (suc i) low =
    let s : 1 + i ≡ suc i = omega arith in
    let half : (c + 2 * byte_of codes) / 2 ≡ byte_of codes = omega (arith, low 0) in
    ap (λ n. (c + 2 * byte_of codes) / 2 ^ n % 2) (sym s)
    ∙ ap (λ n. n % 2) (sym (shr-shr (c + 2 * byte_of codes) 1 i))
    ∙ ap (λ n. n / 2 ^ i % 2) half
    ∙ bit_of_byte codes i (λ j. low (suc j))

packed_at : (codes : List ℕ) (j : ℕ) → j < 8 → slice_index (packed codes) j ≡ byte_of (part codes (8 * j) 8)
unfolding packed
packed_at codes j h = get_or-map-range_with_len (λ j. byte_of (part codes (8 * j) 8)) 0 8 j j 0 h (omega arith)

pub packed_low : (codes : List ℕ) → length codes ≡ 64 → ((i : ℕ) → slice_index codes i ≤ 1) → (i : ℕ) → slice_index (packed codes) i ≤ 255
packed_low codes long low i = elim (cases_lt i 8) [
  | inl h ↦ rw (packed_at codes i h) (omega (arith, byte_fits (part codes (8 * i) 8) 8 (part_low codes (8 * i) 8 1 low) (simp length-take (omega arith))))
  | inr h ↦ rw (get_or_past (packed codes) i 0 (rw (length-packed codes) h)) (omega arith)
]

-- code n of what was packed
code-packed : (codes : List ℕ) → ((i : ℕ) → slice_index codes i ≤ 1) → (n : ℕ) → n < 64 → slice_index codes n ≡ code_in (packed codes) n
code-packed codes low n h =
    let q : n / 8 < 8 = omega arith in
    let m : n % 8 < 8 = omega arith in
    let e : 8 * (n / 8) + n % 8 ≡ n = omega arith in
    sym (ap (bit (n % 8)) (packed_at codes (n / 8) q)
    ∙ bit_of_byte (part codes (8 * (n / 8)) 8) (n % 8) (part_low codes (8 * (n / 8)) 8 1 low)
    ∙ get_or-take 8 (drop (8 * (n / 8)) codes) (n % 8) 0 m ∙ get_or-drop (8 * (n / 8)) codes (n % 8) 0 ∙ ap (λ i. slice_index codes i) e)

pub unpacked-packed : (codes : List ℕ) → length codes ≡ 64 → ((i : ℕ) → slice_index codes i ≤ 1) → unpacked (packed codes) ≡ codes
unpacked-packed codes long low = sym (unpacked_all (packed codes) codes long (code-packed codes low))
