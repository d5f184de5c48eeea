-- The layouts of this crate are sound.
use Rattle.std.specs.Prelude.{◌≡◌, ℕ, ◌*◌, ◌<◌, List, length, get_or, Ok, Err, Result, ◌≢◌, slice_index, slice_index_or, refl}
use Rattle.std.proofs.Common.{sym, ap, ◌∙◌, arith}
use Rattle.std.proofs.lemmas.List.{get_or_default}
use Rattle.std.proofs.lemmas.Bool.{eq-eqb, ne_eqb}
use Rattle.refusals.specs.declared.fault.Fault.{Fault}
use Rattle.stores.specs.Meaning.{worn, unless_fault}
use Rattle.stores.specs.Layouts.{Told, plain_layout, card_layout, bits_layout, tiles_in, fault_in}
use Rattle.stores.specs.Images.{Sound}
use Rattle.stores.specs.Overwriting.{tile_within}
use Rattle.stores.specs.Packed.{length-unpacked, unpacked_low, length-packed, packed_low, unpacked-packed}

pub plain_sound : Sound plain_layout
plain_sound = record {
  byte = omega arith;
  room = omega arith;
  wide = λ bytes e. e;
  low = λ bytes h. h;
  narrow = λ codes e. e;
  bytes = λ codes e h. h;
  held = λ codes e h. refl;
  marks = λ e k a b. refl;
}

pub card_sound : Sound card_layout
card_sound = record {
  byte = omega arith;
  room = omega arith;
  wide = λ bytes e. e;
  low = λ bytes h. h;
  narrow = λ codes e. e;
  bytes = λ codes e h. h;
  held = λ codes e h. refl;
  marks = λ e k a b. absurd (omega arith);
}

pub bits_sound : Sound bits_layout
bits_sound = record {
  byte = omega arith;
  room = omega arith;
  wide = λ bytes e. length-unpacked bytes;
  low = λ bytes h. unpacked_low bytes;
  narrow = λ codes e. length-packed codes;
  bytes = packed_low;
  held = unpacked-packed;
  marks = λ e k a b. refl;
}

pub plain_told : Told plain_layout 64 0 255
plain_told = record { size_told = refl; skip_told = refl; top_told = refl; rest = refl; some = omega arith }

pub card_told : Told card_layout 65 1 255
card_told = record { size_told = refl; skip_told = refl; top_told = refl; rest = refl; some = omega arith }

pub bits_told : Told bits_layout 8 0 1
bits_told = record { size_told = refl; skip_told = refl; top_told = refl; rest = refl; some = omega arith }

-- the mark of tile k, as the program reads it
module _ (memory : List ℕ) (k at mark : ℕ) where
  read_mark : k < tiles_in card_layout memory → at ≡ 65 * k → mark ≡ slice_index_or memory at mark → mark ≡ slice_index memory (65 * k)
  read_mark h p e = e ∙ ap (λ i. get_or memory i mark) p ∙ get_or_default memory (65 * k) mark 0 (omega (arith, tile_within 65 (length memory) k h))

  -- a tile of mark 0 is sound
  pub mark_sound : k < tiles_in card_layout memory → at ≡ 65 * k → mark ≡ slice_index_or memory at mark → mark ≡ 0 → Ok tt ≡ unless_fault (fault_in card_layout memory k)
  mark_sound h p e z = rw (eq-eqb (slice_index memory (65 * k)) 0 (sym (read_mark h p e) ∙ z))

  -- and any other is worn
  pub mark_worn : (r : Result (Unit {0}) Fault) → k < tiles_in card_layout memory → at ≡ 65 * k → mark ≡ slice_index_or memory at mark → (mark ≢ 0) → r ≡ Err (worn k) → r ≡ unless_fault (fault_in card_layout memory k)
  mark_worn r h p e z q = q ∙ rw (ne_eqb (slice_index memory (65 * k)) 0 (λ y. z (read_mark h p e ∙ y)))
