-- The store that lies in raw memory, for any layout.
use Rattle.std.specs.Prelude.{◌≡◌, ℕ, ◌+◌, ◌*◌, ◌<◌, ◌≤◌, true, false, List, [], map, length, take, drop, set, None, Ok, Err, vec_items, Result, Vec, ◌≢◌, slice_index, slice_index_or, slice_set, refl}
use Rattle.std.proofs.Common.{sym, ap, ◌∙◌, inl, inr, arith}
use borrow.Rule.Slice.PartMut.{put_mid}
use Rattle.std.specs.Vec.{with_items}
use Rattle.std.specs.List.{range_with_len}
use Rattle.std.proofs.lemmas.List.FromFn.{length-map-range_with_len, get_or-map-range_with_len, fill_by_all}
use Rattle.std.proofs.lemmas.List.{length-take, length-drop, length-set, get_or_past, get_or_default, get_or-set_same, get_or-set_other, with_items_is}
use Rattle.std.proofs.lemmas.Bool.{cases_lt, cases_eq, cases_order}
use Rattle.refusals.specs.declared.fault.Fault.{Fault}
use Rattle.stores.specs.Meaning.{Lawful, ReadAs, WrittenAs, count, tile_of, fault_of, past, above, any_above, unless_fault, buffer_after, store_after, written}
use Rattle.stores.specs.Raw.{whole_tiles, part, overwritten}
use Rattle.stores.specs.Layouts.{Layout, start, tile_in, fault_in, tiles_in, image, memory_after}
use Rattle.stores.specs.Calls.{read-within, write-within, read_past, write-past, write-above, none_above}
use Rattle.stores.specs.Overwriting.{tile_ends, tile_within, part_low, overwritten_mid, length-overwritten, part-before, part_here, part_behind, byte_before, byte_behind, overwritten_low}

-- what a layout shows, so that the memory in it is a store
pub record Sound (l : Layout) : Type 0 where
  pub byte : l.top ≤ 255
  -- the bytes that hold a tile's codes lie among those that it takes
  pub room : l.skip + l.width ≤ l.size
  -- they hold 64 codes, none above the top
  pub wide : (bytes : List ℕ) → length bytes ≡ l.width → length (l.codes bytes) ≡ 64
  pub low : (bytes : List ℕ) → ((i : ℕ) → slice_index bytes i ≤ 255) → (i : ℕ) → slice_index (l.codes bytes) i ≤ l.top
  -- 64 codes of which none is above the top are held by as many bytes, and read again from them
  pub narrow : (codes : List ℕ) → length codes ≡ 64 → length (l.bytes codes) ≡ l.width
  pub bytes : (codes : List ℕ) → length codes ≡ 64 → ((i : ℕ) → slice_index codes i ≤ l.top) → (i : ℕ) → slice_index (l.bytes codes) i ≤ 255
  pub held : (codes : List ℕ) → length codes ≡ 64 → ((i : ℕ) → slice_index codes i ≤ l.top) → l.codes (l.bytes codes) ≡ codes
  -- the first byte tells a fault only where it holds no code
  pub marks : l.skip ≡ 0 → (k a b : ℕ) → l.fault k a ≡ l.fault k b

module _ (l : Layout) (memory : List ℕ) where
  pub image-count : count (image l memory) ≡ tiles_in l memory
  image-count = length-map-range_with_len (tile_in l memory) 0 (tiles_in l memory)

  image_tile : (k : ℕ) → k < tiles_in l memory → tile_of (image l memory) k ≡ tile_in l memory k
  image_tile k h = get_or-map-range_with_len (tile_in l memory) 0 (tiles_in l memory) k k [] h (omega arith)

  pub image_fault : (k : ℕ) → k < tiles_in l memory → fault_of (image l memory) k ≡ fault_in l memory k
  image_fault k h = get_or-map-range_with_len (fault_in l memory) 0 (tiles_in l memory) k k None h (omega arith)

  module _ (sound : Sound l) where
    -- the bytes of a tile lie within the memory
    pub image-within : (k : ℕ) → k < tiles_in l memory → start l k + l.width ≤ length memory
    image-within k h = omega (arith, tile_within l.size (length memory) k h, sound.room)

    pub image_lawful : ((i : ℕ) → slice_index memory i ≤ 255) → Lawful (image l memory)
    image_lawful bytes = record {
      wide = λ k h. let h1 : k < tiles_in l memory = rw image-count at h in
          rw (image_tile k h1) (sound.wide (part memory (start l k) l.width) (simp (length-take, length-drop) (omega (arith, image-within k h1))));
      low = λ k i. elim (cases_lt k (tiles_in l memory)) [
        | inl h ↦ rw (image_tile k h) (sound.low (part memory (start l k) l.width) (part_low memory (start l k) l.width 255 bytes) i)
        | inr h ↦ rw (get_or_past (image l memory).tiles k [] (rw image-count h)) (omega arith)
      ];
      byte = sound.byte;
      few = rw image-count (omega arith);
      faulted = length-map-range_with_len (fault_in l memory) 0 (tiles_in l memory) ∙ sym image-count;
    }

  pub image-read-past : (k : ℕ) (out : List ℕ) (r : Result (Unit {0}) Fault) → tiles_in l memory ≤ k → r ≡ Err (past k) → ReadAs (image l memory) k out r out (image l memory)
  image-read-past k out r h e = read_past (image l memory) k out r (rw image-count h) e

  pub image-write-past : (k : ℕ) (codes : List ℕ) (r : Result (Unit {0}) Fault) → tiles_in l memory ≤ k → r ≡ Err (past k) → WrittenAs (image l memory) k codes r (image l memory)
  image-write-past k codes r h e = write-past (image l memory) k codes r (rw image-count h) e

  pub image-write-above : (k : ℕ) (codes : List ℕ) (r : Result (Unit {0}) Fault) → k < tiles_in l memory → any_above l.top codes ≡ true → r ≡ Err (above k) → WrittenAs (image l memory) k codes r (image l memory)
  image-write-above k codes r h high e = write-above (image l memory) k codes r (rw image-count h) high e

  pub image-read : (k : ℕ) (out out' : List ℕ) (r : Result (Unit {0}) Fault) → k < tiles_in l memory → r ≡ unless_fault (fault_in l memory k) → out' ≡ buffer_after r (tile_in l memory k) out → ReadAs (image l memory) k out r out' (image l memory)
  image-read k out out' r h e o = record {
    answer = e ∙ sym (read-within (image l memory) k (rw image-count h) ∙ ap unless_fault (image_fault k h));
    buffer = o ∙ ap (λ t. buffer_after r t out) (sym (image_tile k h));
    same = refl;
  }

  -- a refusal by the first byte of the tile
  pub image-read-refused : (k : ℕ) (out : List ℕ) (r : Result (Unit {0}) Fault) (f : Fault) → k < tiles_in l memory → r ≡ Err f → r ≡ unless_fault (fault_in l memory k) → ReadAs (image l memory) k out r out (image l memory)
  image-read-refused k out r f h e a = image-read k out out r h a (rw e)

  pub image-write-refused : (k : ℕ) (codes : List ℕ) (r : Result (Unit {0}) Fault) (f : Fault) → k < tiles_in l memory → any_above l.top codes ≡ false → r ≡ Err f → r ≡ unless_fault (fault_in l memory k) → WrittenAs (image l memory) k codes r (image l memory)
  image-write-refused k codes r f h low e a = record {
    answer = a ∙ sym (write-within (image l memory) k codes (rw image-count h) low ∙ ap unless_fault (image_fault k h));
    after = rw e;
  }

  -- the first byte of tile k, as the program reads it
  pub first_byte : (k at first : ℕ) → 1 ≤ l.size → k < tiles_in l memory → at ≡ l.size * k → first ≡ slice_index_or memory at first → l.fault k first ≡ fault_in l memory k
  first_byte k at first some h p e = ap (l.fault k) (e ∙ get_or_default memory at first 0 (omega (arith, tile_within l.size (length memory) k h)) ∙ ap (slice_index memory) p)

  module _ (sound : Sound l) (k : ℕ) (h : k < tiles_in l memory) (codes : List ℕ) (long : length codes ≡ 64) (low : (i : ℕ) → slice_index codes i ≤ l.top) where
    abbrev after : List ℕ
    after = overwritten memory (start l k) (l.bytes codes)

    fits : start l k + length (l.bytes codes) ≤ length memory
    fits = omega (arith, image-within sound k h, sound.narrow codes long)

    tile_here : tile_in l after k ≡ codes
    tile_here =
        let w : l.width ≡ length (l.bytes codes) = sym (sound.narrow codes long) in
        ap (λ n. l.codes (part after (start l k) n)) w ∙ ap l.codes (part_here memory (start l k) (l.bytes codes) fits) ∙ sound.held codes long low

    tile_left : (j : ℕ) → (j ≢ k) → tile_in l after j ≡ tile_in l memory j
    tile_left j ne = ap l.codes (elim (cases_order j k) [
      | inl e ↦ absurd (ne e)
      | inr q ↦ elim q [
        | inl lt ↦ part-before memory (start l k) (l.bytes codes) fits (start l j) l.width (omega (arith, tile_ends l.size j k lt, sound.room))
        | inr gt ↦ part_behind memory (start l k) (l.bytes codes) fits (start l j) l.width (omega (arith, tile_ends l.size k j gt, sound.room, sound.narrow codes long))
      ]
    ])

    fault_left : (j : ℕ) → fault_in l after j ≡ fault_in l memory j
    fault_left j = elim (cases_eq l.skip 0) [
      | inl e ↦ sound.marks e j _ _
      | inr ne ↦ ap (l.fault j) (elim (cases_lt k j) [
        | inl lt ↦ byte_behind memory (start l k) (l.bytes codes) fits (l.size * j) (omega (arith, tile_ends l.size k j lt, sound.room, sound.narrow codes long))
        | inr le ↦ byte_before memory (start l k) (l.bytes codes) fits (l.size * j) (before ne j le)
      ])
    ]
      where
        before : (l.skip ≢ 0) → (j : ℕ) → j ≤ k → l.size * j < l.size * k + l.skip
        before some j le = elim (cases_eq j k) [
          | inl e ↦ rw e (omega (arith, some))
          | inr ne ↦ omega (arith, tile_ends l.size j k (omega arith))
        ]

    same_tiles : tiles_in l after ≡ tiles_in l memory
    same_tiles = ap (λ n. whole_tiles l.size n) (length-overwritten memory (start l k) (l.bytes codes) fits)

    image-written : image l after ≡ written (image l memory) k codes
    image-written =
        let n : ℕ = tiles_in l memory in
        let old : List (List ℕ) = map (tile_in l memory) (range_with_len 0 n) in
        let ts : set old k codes ≡ map (tile_in l after) (range_with_len 0 n) =
        fill_by_all (tile_in l after) (slice_set old k codes) n [] (length-set old k codes ∙ image-count)
        (λ j hj. elim (cases_eq j k) [
          | inl q ↦ rw q (get_or-set_same old k codes [] (rw image-count h) ∙ sym tile_here)
          | inr ne ↦ get_or-set_other old k j codes [] ne ∙ image_tile j hj ∙ sym (tile_left j ne)
        ]) in
        let fs : map (fault_in l memory) (range_with_len 0 n) ≡ map (fault_in l after) (range_with_len 0 n) =
        fill_by_all (fault_in l after) (map (fault_in l memory) (range_with_len 0 n)) n None (length-map-range_with_len (fault_in l memory) 0 n)
        (λ j hj. image_fault j hj ∙ sym (fault_left j)) in
        let s : tiles_in l after ≡ n = same_tiles in
        ap (λ m. record { top = l.top; tiles = map (tile_in l after) (range_with_len 0 m); faults = map (fault_in l after) (range_with_len 0 m) }) s
        ∙ ap (λ z. record { top = l.top; tiles = z; faults = map (fault_in l after) (range_with_len 0 n) }) (sym ts)
        ∙ ap (λ z. record { top = l.top; tiles = slice_set old k codes; faults = z }) (sym fs)

    image-after : (r : Result (Unit {0}) Fault) → image l (memory_after l r memory k codes) ≡ store_after r (image l memory) k codes
    image-after (Ok u) = image-written
    image-after (Err f) = refl

    pub image-write : (r : Result (Unit {0}) Fault) (memory' : List ℕ) → r ≡ unless_fault (fault_in l memory k) → memory' ≡ memory_after l r memory k codes → WrittenAs (image l memory) k codes r (image l memory')
    image-write r memory' e m = record {
      answer = e ∙ sym (write-within (image l memory) k codes (rw image-count h) (none_above l.top codes low) ∙ ap unless_fault (image_fault k h));
      after = ap (image l) m ∙ image-after r;
    }

    -- the memory stays bytes
    written_low : ((i : ℕ) → slice_index memory i ≤ 255) → (i : ℕ) → slice_index after i ≤ 255
    written_low bytes = overwritten_low memory (start l k) (l.bytes codes) fits 255 bytes (sound.bytes codes long low)

    written-length : length after ≡ length memory
    written-length = length-overwritten memory (start l k) (l.bytes codes) fits

-- a part of the memory, as the program takes it
pub taken : (from n start width : ℕ) (xs memory : List ℕ) → from ≡ start → n ≡ width → xs ≡ memory → take n (drop from xs) ≡ part memory start width
taken from n start width xs memory p q r = cc

-- what the program's copy into the midst of its memory leaves: the bytes that hold the codes are written over, and the memory stays bytes
pub copied : {Z : Type 0} (l : Layout) (v : Vec ℕ Z) → Sound l → (k : ℕ) → k < tiles_in l (vec_items v)
    → (codes : List ℕ) → length codes ≡ 64 → ((i : ℕ) → slice_index codes i ≤ l.top) → ((i : ℕ) → slice_index (vec_items v) i ≤ 255)
    → (from n : ℕ) (xs ys : List ℕ) → from ≡ start l k → n ≡ l.width → xs ≡ vec_items v → ys ≡ l.bytes codes
    → (vec_items (with_items v (put_mid from n xs ys)) ≡ overwritten (vec_items v) (start l k) (l.bytes codes))
    × ((i : ℕ) → slice_index (vec_items (with_items v (put_mid from n xs ys))) i ≤ 255)
copied l v sound k h codes long low bytes from n xs ys p q e w =
    let w1 : l.width ≡ length (l.bytes codes) = sym (sound.narrow codes long) in
    let mid : put_mid from n xs ys ≡ overwritten (vec_items v) (start l k) (l.bytes codes) =
    same from (start l k) n (length (l.bytes codes)) xs (vec_items v) ys (l.bytes codes) p (q ∙ w1) e w ∙ sym (overwritten_mid (vec_items v) (start l k) (l.bytes codes)) in
    let filled : vec_items (with_items v (put_mid from n xs ys)) ≡ overwritten (vec_items v) (start l k) (l.bytes codes) =
    with_items_is v (put_mid from n xs ys) (ap length mid ∙ written-length l (vec_items v) sound k h codes long low ∙ sym v.ok.0) ∙ mid in
    (filled, λ i. rw filled (written_low l (vec_items v) sound k h codes long low bytes i))
  where
    same : (a a' n n' : ℕ) (xs xs' ys ys' : List ℕ) → a ≡ a' → n ≡ n' → xs ≡ xs' → ys ≡ ys' → put_mid a n xs ys ≡ put_mid a' n' xs' ys'
    same a a' n n' xs xs' ys ys' p q r s = cc
