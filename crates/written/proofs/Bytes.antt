-- Numbers as bytes: how long they are, and that each is read from where it stands in a list.
use Rattle.std.proofs.Common.{ℕ, zero, suc, ◌+◌, ◌/◌, ◌^◌, ◌<◌, ◌≡◌, refl, sym, ap, ◌∙◌}
use Rattle.std.proofs.Common.{List, ◌++◌, length, drop, add_assoc, add-zero}
use Rattle.std.proofs.lemmas.List.{drop_at, drop-drop, get_or-drop}
use Rattle.fields.specs.Le.{le}
use Rattle.fields.specs.LeBytes.{le_bytes}
use Rattle.fields.specs.declared.RecordNumber.{RecordNumber}
use Rattle.fields.proofs.Width.{read-back}
use Rattle.written.specs.Layout.{header_bytes, row_bytes}

pub le_bytes_long : (w n : ℕ) → length (le_bytes w n) ≡ w
unfolding le_bytes
le_bytes_long zero n = refl
le_bytes_long (suc w) n = ap suc (le_bytes_long w (n / 256))

pub header_long : (size base k : ℕ) → length (header_bytes size base k) ≡ 20
unfolding header_bytes le_bytes
header_long size base k = refl

pub row_long : (n : RecordNumber) (at : ℕ) → length (row_bytes n at) ≡ 12
unfolding row_bytes le_bytes
row_long n at = refl

le_behind : (w : ℕ) (s : List ℕ) (i j : ℕ) → le w (drop i s) j ≡ le w s (i + j)
unfolding le
le_behind zero s i j = refl
le_behind (suc w) s i j = rw (get_or-drop i s j 0, le_behind w s i (j + 1), add_assoc) refl

-- a number is read from where it stands
pub read_at : (w n : ℕ) (s more : List ℕ) (i : ℕ) → n < 256 ^ w → drop i s ≡ le_bytes w n ++ more → le w s i ≡ n
read_at w n s more i l e =
    ap (le w s) (sym (add-zero i))
    ∙ sym (le_behind w s i 0)
    ∙ ap (λ (x : List ℕ). le w x 0) e
    ∙ read-back w n more l

-- behind m bytes more
pub drop_on : (s front more : List ℕ) (i m : ℕ) → length front ≡ m → drop i s ≡ front ++ more → drop (i + m) s ≡ more
drop_on s front more i m l e = sym (drop-drop m i s) ∙ ap (drop m) e ∙ drop_at front more m l
