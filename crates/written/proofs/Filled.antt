-- A list filled from its front, one piece behind another: so a header and a row come to their bytes.
use Rattle.std.proofs.Common.{ℕ, ◌+◌, ◌≤◌, ◌≡◌, refl, sym, ap, ap₂, ◌∙◌, arith}
use Rattle.std.proofs.Common.{List, [], ◌++◌, length, take, drop, append_assoc, append-nil}
use Rattle.std.proofs.Common.{take_at, drop_at, drop_of_length-le, length-append, w32, w64}
use Rattle.std.proofs.lemmas.List.{drop-drop}
use native.Mathlib.Nat.{div-div-eq-div-mul}
use Rattle.std.specs.Int.{to_le_bytes}
use Rattle.fields.specs.LeBytes.{le_bytes}
use Rattle.fields.specs.declared.RecordNumber.{RecordNumber}
use Rattle.written.specs.Layout.{header_bytes, row_bytes, records_from}
use Rattle.table.specs.Layout.{header_size}
use Rattle.written.specs.Over.{over}
use Rattle.written.proofs.Bytes.{le_bytes_long}

-- the bytes that std writes are the definition's
four_bytes : (n : ℕ) → to_le_bytes w32 n ≡ le_bytes 4 n
unfolding le_bytes
four_bytes n = simp div-div-eq-div-mul

eight_bytes : (n : ℕ) → to_le_bytes w64 n ≡ le_bytes 8 n
unfolding le_bytes
eight_bytes n = simp div-div-eq-div-mul

-- a piece more, behind a front that is filled up to a place
filled : (front bytes s x y : List ℕ) (at m : ℕ) → length front ≡ at → length bytes ≡ m → x ≡ front ++ drop at s
    → y ≡ over at bytes x → y ≡ (front ++ bytes) ++ drop (at + m) s
filled front bytes s x y at m l k e h =
    let a : take at x ≡ front = ap (take at) e ∙ take_at front (drop at s) at l in
    let b : drop at x ≡ drop at s = ap (drop at) e ∙ drop_at front (drop at s) at l in
    let c : drop (at + length bytes) x ≡ drop (at + m) s =
    ap (λ (n : ℕ). drop (at + n) x) k ∙ sym (drop-drop m at x) ∙ ap (drop m) b ∙ drop-drop m at s in
    h ∙ ap₂ (λ (p q : List ℕ). p ++ (bytes ++ q)) a c ∙ sym (append_assoc front bytes (drop (at + m) s))

-- where all of a list is filled, nothing of it is left
full : (front s y : List ℕ) (m : ℕ) → length s ≡ m → y ≡ front ++ drop m s → y ≡ front
full front s y m l e =
    let k : length s ≤ m = omega arith in
    e ∙ ap (λ (r : List ℕ). front ++ r) (drop_of_length-le s k) ∙ append-nil front

pub row_filled : (n : RecordNumber) (at : ℕ) (a b s x y : List ℕ) → length s ≡ 12
    → a ≡ to_le_bytes w64 n.0 → b ≡ to_le_bytes w32 at → x ≡ over 0 a s → y ≡ over 8 b x → y ≡ row_bytes n at
unfolding row_bytes
row_filled n at a b s x y l ea eb ex ey =
    let pa : a ≡ le_bytes 8 n.0 = ea ∙ eight_bytes n.0 in
    let pb : b ≡ le_bytes 4 at = eb ∙ four_bytes at in
    let la : length a ≡ 8 = ap length pa ∙ le_bytes_long 8 n.0 in
    let lb : length b ≡ 4 = ap length pb ∙ le_bytes_long 4 at in
    let fx = filled [] a s s x 0 8 refl la refl ex in
    let fy = filled a b s x y 8 4 la lb fx ey in
    full (a ++ b) s y 12 l fy ∙ ap₂ ◌++◌ pa pb

pub header_filled : (size base k : ℕ) (a b c d e s u v w x y : List ℕ) → length s ≡ 20
    → a ≡ to_le_bytes w32 k → b ≡ to_le_bytes w32 size → c ≡ to_le_bytes w32 header_size
    → d ≡ to_le_bytes w32 (records_from k) → e ≡ to_le_bytes w32 base
    → u ≡ over 0 a s → v ≡ over 4 b u → w ≡ over 8 c v → x ≡ over 12 d w → y ≡ over 16 e x
    → y ≡ header_bytes size base k
unfolding header_bytes
header_filled size base k a b c d e s u v w x y l ea eb ec ed ee eu ev ew ex ey =
    let pa : a ≡ le_bytes 4 k = ea ∙ four_bytes k in
    let pb : b ≡ le_bytes 4 size = eb ∙ four_bytes size in
    let pc : c ≡ le_bytes 4 header_size = ec ∙ four_bytes header_size in
    let pd : d ≡ le_bytes 4 (records_from k) = ed ∙ four_bytes (records_from k) in
    let pe : e ≡ le_bytes 4 base = ee ∙ four_bytes base in
    let la : length a ≡ 4 = ap length pa ∙ le_bytes_long 4 k in
    let lb : length b ≡ 4 = ap length pb ∙ le_bytes_long 4 size in
    let lc : length c ≡ 4 = ap length pc ∙ le_bytes_long 4 header_size in
    let ld : length d ≡ 4 = ap length pd ∙ le_bytes_long 4 (records_from k) in
    let le : length e ≡ 4 = ap length pe ∙ le_bytes_long 4 base in
    let fu = filled [] a s s u 0 4 refl la refl eu in
    let fv = filled a b s u v 4 4 la lb fu ev in
    let fw = filled (a ++ b) c s v w 8 4 (simp length-append (omega arith)) lc fv ew in
    let fx = filled ((a ++ b) ++ c) d s w x 12 4 (simp length-append (omega arith)) ld fw ex in
    let fy = filled (((a ++ b) ++ c) ++ d) e s x y 16 4 (simp length-append (omega arith)) le fx ey in
    let f = full ((((a ++ b) ++ c) ++ d) ++ e) s y 20 l fy in
    let g : (((a ++ b) ++ c) ++ d) ++ e ≡ a ++ (b ++ (c ++ (d ++ e))) = simp append_assoc in
    f ∙ g ∙ ap₂ ◌++◌ pa (ap₂ ◌++◌ pb (ap₂ ◌++◌ pc (ap₂ ◌++◌ pd pe)))
