-- Raw memory, and the tiles that lie in it one after another.
use Rattle.std.specs.Prelude.{ℕ, ◌+◌, ◌/◌, min, List, ◌++◌, length, take, drop}

-- how many whole tiles of size bytes lie in so many bytes, at most 1,048,576
abbrev pub whole_tiles : ℕ → ℕ → ℕ
whole_tiles size bytes = min (bytes / size) 1048576

-- n bytes of memory, the first of them at start
abbrev pub part : List ℕ → ℕ → ℕ → List ℕ
part memory start n = take n (drop start memory)

-- memory with other bytes from start on
abbrev pub overwritten : List ℕ → ℕ → List ℕ → List ℕ
overwritten memory start bytes = take start memory ++ (bytes ++ drop (start + length bytes) memory)
