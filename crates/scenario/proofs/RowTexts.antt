-- The rows of a plate in print, one after the other.
use Rattle.std.proofs.Common.{◌≡◌, ℕ, zero, suc, ◌+◌, ◌*◌, ◌<◌, List, [], ◌++◌, length, take, drop, refl, sym, ap, ap₂, ◌∙◌, append_assoc, append-nil, arith}
use Rattle.std.proofs.Math.Nat.{mul_comm}
use Rattle.std.proofs.Math.Seq.{take-append_seam, drop-append_seam}
use Rattle.std.proofs.lemmas.List.{length-append}
use Rattle.digits.specs.Digits.{row_line, row_lines}

-- the text so far, and the rows that are still to come
pub record Left (w : ℕ) (rest text all : List ℕ) : Type 0 where
  pub rows : ℕ
  pub sized : length rest ≡ rows * w
  pub written : text ++ row_lines w rows rest ≡ all

pub none_yet : (w h : ℕ) (cells rest text : List ℕ) → rest ≡ cells → length cells ≡ w * h → text ≡ [] → Left w rest text (row_lines w h cells)
none_yet w h cells rest text r e t = record { rows = h; sized = ap length r ∙ e ∙ mul_comm w h; written = rw (t, r) refl }

pub one_more : (w : ℕ) (rest next row text more all : List ℕ) → 0 < w → Left w rest text all → rest ≡ row ++ next → length row ≡ w → more ≡ text ++ row_line row → Left w next more all
one_more w rest next row text more all some l cut size e = go l.rows l.sized l.written
  where
    long : length rest ≡ w + length next
    long = ap length cut ∙ length-append row next ∙ ap (λ n. n + length next) size

    taken : take w rest ≡ row
    taken = rw (cut, ← size) (take-append_seam row next)

    dropped : drop w rest ≡ next
    dropped = rw (cut, ← size) (drop-append_seam row next)

    go : (n : ℕ) → length rest ≡ n * w → text ++ row_lines w n rest ≡ all → Left w next more all
    go zero s h = absurd (omega (arith, long, s))
    go (suc n) s h = record {
      rows = n;
      sized = omega (arith, long, s);
      written =
          ap (λ t. t ++ row_lines w n next) e
          ∙ append_assoc text (row_line row) (row_lines w n next)
          ∙ ap₂ (λ a b. text ++ (row_line a ++ row_lines w n b)) (sym taken) (sym dropped)
          ∙ h;
    }

pub no_more : (w : ℕ) (rest text all : List ℕ) → Left w rest text all → length rest < w → text ≡ all
no_more w rest text all l few = go l.rows l.sized l.written
  where
    go : (n : ℕ) → length rest ≡ n * w → text ++ row_lines w n rest ≡ all → text ≡ all
    go zero s h = sym (append-nil text) ∙ h
    go (suc n) s h = absurd (omega (arith, s))
