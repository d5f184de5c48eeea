-- Codes of one bit each, eight in a byte.
use Rattle.std.specs.Prelude.{ℕ, ◌+◌, ◌*◌, ◌/◌, ◌%◌, ◌^◌, List, [], ◌∷◌, map, slice_index}
use Rattle.std.specs.List.{range_with_len}
use Rattle.stores.specs.Raw.{part}

-- bit i of a byte, where bit 0 is the lowest
abbrev pub bit : ℕ → ℕ → ℕ
bit i byte = byte / 2 ^ i % 2

-- code n is bit n modulo 8 of byte n/8
abbrev pub code_in : List ℕ → ℕ → ℕ
code_in bytes n = bit (n % 8) (slice_index bytes (n / 8))

-- the 64 codes that eight bytes hold
unfoldable pub unpacked : List ℕ → List ℕ
unpacked bytes = map (code_in bytes) (range_with_len 0 64)

-- the byte whose bits are these codes, the first its lowest
abbrev pub byte_of : List ℕ → ℕ
byte_of [] = 0
byte_of (code ∷ codes) = code + 2 * byte_of codes

-- the eight bytes that hold 64 codes
unfoldable pub packed : List ℕ → List ℕ
packed codes = map (λ j. byte_of (part codes (8 * j) 8)) (range_with_len 0 8)
