-- A list that is gone through from its end.
use Rattle.std.proofs.Common.{◌≡◌, ℕ, ◌+◌, ◌*◌, ◌<◌, List, [], ◌∷◌, ◌++◌, length, drop, slice_index, append_assoc, sym, ap, ◌∙◌, arith}
use Rattle.std.specs.List.{push}
use Rattle.std.proofs.Math.Seq.{drop-append_seam, get_or-append_seam}
use Rattle.std.proofs.lemmas.List.{length_push}
use Rattle.stores.specs.Packing.{byte_of}

-- v is the last of those that were left, and left are the others
module _ (codes were left : List ℕ) (v byte : ℕ) (split : codes ≡ were ++ drop (length were) codes) (last : were ≡ push left v) (packed : byte ≡ byte_of (drop (length were) codes)) where
  abbrev passed : List ℕ
  passed = drop (length were) codes

  whole : codes ≡ left ++ (v ∷ passed)
  whole = split ∙ ap (λ z. z ++ passed) last ∙ append_assoc left (v ∷ []) passed

  rest : drop (length left) codes ≡ v ∷ passed
  rest = ap (drop (length left)) whole ∙ drop-append_seam left (v ∷ passed)

  pub some_were : 0 < length were
  some_were = omega (arith, ap length last, length_push left v)

  pub last_of : v ≡ slice_index codes (length left)
  last_of = sym (ap (λ z. slice_index z (length left)) whole ∙ get_or-append_seam left v passed 0)

  pub step_back : (codes ≡ left ++ drop (length left) codes) × (2 * byte + v ≡ byte_of (drop (length left) codes))
  step_back =
      let b : byte_of (drop (length left) codes) ≡ v + 2 * byte_of passed = ap byte_of rest in
      (whole ∙ ap (λ z. left ++ z) (sym rest), omega (arith, b, packed))
