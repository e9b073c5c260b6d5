-- How a table comes to stand piece by piece: what a write at a place leaves, and what one more row adds.
use Rattle.std.specs.Prelude.{ℕ, suc, ◌+◌, ◌-◌, ◌*◌, ◌<◌, ◌≤◌, ◌≡◌, List, [], ◌∷◌, ◌++◌, length, take, drop}
use Rattle.std.proofs.Common.{arith, refl, sym, ap, subst, ◌∙◌, append_assoc, length-append}
use Rattle.std.proofs.Math.Nat.{mul-le-mul_left, mul-zero}
use Rattle.std.proofs.lemmas.List.{append-nil, length-take-le, length-drop, length_push, take-append-drop, take_at}
use Rattle.std.proofs.lemmas.List.{take-take, drop-drop, drop-take, drop_at, drop-append-le, take-append-le}
use Rattle.table.specs.Held.{Held}
use Rattle.written.specs.Layout.{records_from, table_length, header_bytes, row_bytes}
use Rattle.written.specs.Layout.{directory_bytes, record_bytes, written}
use Rattle.written.specs.Over.{over}
use Rattle.written.specs.Stands.{Stands}
use Rattle.written.proofs.Bytes.{header_long, row_long}

-- one more row
one_more_row : (size at : ℕ) (rows : List Held) (r : Held)
    → directory_bytes size at (rows ++ (r ∷ []))
    ≡ directory_bytes size at rows ++ row_bytes r.number (at + size * length rows)
unfolding directory_bytes
one_more_row size at [] r =
    let e : at ≡ at + size * 0 = omega arith in
    append-nil (row_bytes r.number at) ∙ ap (row_bytes r.number) e
one_more_row size at (x ∷ xs) r =
    let e : at + size + size * length xs ≡ at + size * suc (length xs) = omega arith in
    ap (λ (b : List ℕ). row_bytes x.number at ++ b)
    (one_more_row size (at + size) xs r
    ∙ ap (λ (a : ℕ). directory_bytes size (at + size) xs ++ row_bytes r.number a) e)
    ∙ sym (append_assoc (row_bytes x.number at) (directory_bytes size (at + size) xs) _)

one_more_record : (rows : List Held) (r : Held) → record_bytes (rows ++ (r ∷ [])) ≡ record_bytes rows ++ r.bytes
unfolding record_bytes
one_more_record [] r = append-nil r.bytes
one_more_record (x ∷ xs) r =
    ap (λ (b : List ℕ). x.bytes ++ b) (one_more_record xs r) ∙ sym (append_assoc x.bytes (record_bytes xs) r.bytes)

-- a write at a place, inside of what stands
module _ (at : ℕ) (bytes s : List ℕ) (inside : at + length bytes ≤ length s) where
  front_long : length (take at s) ≡ at
  front_long = length-take-le at s (omega arith)

  over_long : length (over at bytes s) ≡ length s
  over_long =
      let a = front_long in
      simp (length-append, length-drop) (omega arith)

  before : (n : ℕ) → n ≤ at → take n (over at bytes s) ≡ take n s
  before n l =
      let a = front_long in
      take-append-le n (take at s) (bytes ++ drop (at + length bytes) s) (omega arith) ∙ take-take n at s l

  through : (n : ℕ) → n ≡ at + length bytes → take n (over at bytes s) ≡ take at s ++ bytes
  through n e =
      let a = front_long in
      ap (take n) (sym (append_assoc (take at s) bytes (drop (at + length bytes) s)))
      ∙ take_at (take at s ++ bytes) (drop (at + length bytes) s) n (omega (arith, length-append (take at s) bytes))

  end_of : drop (at + length bytes) (over at bytes s) ≡ drop (at + length bytes) s
  end_of =
      let a = front_long in
      ap (drop (at + length bytes)) (sym (append_assoc (take at s) bytes (drop (at + length bytes) s)))
      ∙ drop_at (take at s ++ bytes) (drop (at + length bytes) s) (at + length bytes)
      (omega (arith, length-append (take at s) bytes))

  behind : (n : ℕ) → at + length bytes ≤ n → drop n (over at bytes s) ≡ drop n s
  behind n l =
      let m = n - (at + length bytes) in
      let e : n ≡ at + length bytes + m = omega arith in
      ap (λ (x : ℕ). drop x (over at bytes s)) e
      ∙ sym (drop-drop m (at + length bytes) (over at bytes s))
      ∙ ap (drop m) end_of
      ∙ drop-drop m (at + length bytes) s
      ∙ ap (λ (x : ℕ). drop x s) (sym e)

  -- the bytes from a place before it to its end
  up_to : (n k m : ℕ) → at ≡ n + k → m ≡ k + length bytes
      → take m (drop n (over at bytes s)) ≡ take k (drop n s) ++ bytes
  up_to n k m e f =
      let a = front_long in
      let g : n + m ≡ at + length bytes = omega arith in
      sym (drop-take n m (over at bytes s))
      ∙ ap (drop n) (through (n + m) g)
      ∙ drop-append-le n (take at s) bytes (omega arith)
      ∙ ap (λ (x : ℕ). drop n (take x s) ++ bytes) e
      ∙ ap (λ (x : List ℕ). x ++ bytes) (drop-take n k s)

-- the header alone
pub begin : (size base k : ℕ) (old : List ℕ) → table_length size k ≤ length old
    → Stands size base k [] old (over 0 (header_bytes size base k) old)
unfolding directory_bytes record_bytes
begin size base k old fits =
    let h = header_bytes size base k in
    let l = header_long size base k in
    let inside : 0 + length h ≤ length old = omega arith in
    record {
      long = over_long 0 h old inside;
      front = through 0 h old inside (records_from 0) (omega arith) ∙ sym (append-nil h);
      records = ap (λ (x : ℕ). take x (drop (records_from k) (over 0 h old))) (mul-zero size);
      rest = behind 0 h old inside (table_length size k) (omega arith);
    }

-- the next row, and its record
module _ (size base k : ℕ) (rows : List Held) (r : Held) (old s : List ℕ) where
  abbrev at_row : ℕ
  at_row = records_from (length rows)

  abbrev at_record : ℕ
  at_record = records_from k + size * length rows

  abbrev row : List ℕ
  row = row_bytes r.number at_record

  abbrev with_row : List ℕ
  with_row = over at_row row s

  abbrev next : List ℕ
  next = over at_record r.bytes with_row

  module _ (fits : table_length size k ≤ length old) (t : Stands size base k rows old s) (more : length rows < k)
      (long : length r.bytes ≡ size) where
    one_longer : length (rows ++ (r ∷ [])) ≡ length rows + 1
    one_longer = length_push rows r

    product : size * (length rows + 1) ≤ size * k
    product = mul-le-mul_left size (omega arith)

    row_inside : at_row + length row ≤ length s
    row_inside =
        let a = row_long r.number at_record in
        let b = t.long in
        omega arith

    with_row_long : length with_row ≡ length s
    with_row_long = over_long at_row row s row_inside

    record_inside : at_record + length r.bytes ≤ length with_row
    record_inside =
        let a = with_row_long in
        let b = t.long in
        let c = product in
        omega arith

    front : take (records_from (length (rows ++ (r ∷ [])))) next
        ≡ header_bytes size base k ++ directory_bytes size (records_from k) (rows ++ (r ∷ []))
    front =
        let a = row_long r.number at_record in
        let b = one_longer in
        let n = records_from (length (rows ++ (r ∷ []))) in
        before at_record r.bytes with_row record_inside n (omega arith)
        ∙ through at_row row s row_inside n (omega arith)
        ∙ ap (λ (x : List ℕ). x ++ row) t.front
        ∙ append_assoc (header_bytes size base k) (directory_bytes size (records_from k) rows) row
        ∙ ap (λ (x : List ℕ). header_bytes size base k ++ x) (sym (one_more_row size (records_from k) rows r))

    records : take (size * length (rows ++ (r ∷ []))) (drop (records_from k) next) ≡ record_bytes (rows ++ (r ∷ []))
    records =
        let a = row_long r.number at_record in
        let b = one_longer in
        let e : size * length (rows ++ (r ∷ [])) ≡ size * length rows + length r.bytes
        = ap (λ (x : ℕ). size * x) b ∙ omega arith in
        up_to at_record r.bytes with_row record_inside (records_from k) (size * length rows)
        (size * length (rows ++ (r ∷ []))) refl e
        ∙ ap (λ (x : List ℕ). take (size * length rows) x ++ r.bytes)
        (behind at_row row s row_inside (records_from k) (omega arith))
        ∙ ap (λ (x : List ℕ). x ++ r.bytes) t.records
        ∙ sym (one_more_record rows r)

    rest : drop (table_length size k) next ≡ drop (table_length size k) old
    rest =
        let a = row_long r.number at_record in
        let b = product in
        behind at_record r.bytes with_row record_inside (table_length size k) (omega arith)
        ∙ behind at_row row s row_inside (table_length size k) (omega arith)
        ∙ t.rest

    pub follow : Stands size base k (rows ++ (r ∷ [])) old next
    follow =
        record {
          long = over_long at_record r.bytes with_row record_inside ∙ with_row_long ∙ t.long;
          front = front;
          records = records;
          rest = rest;
        }

-- all rows
all_rows : (size base : ℕ) (rows : List Held) (old s : List ℕ) → Stands size base (length rows) rows old s
    → s ≡ written size base rows ++ drop (table_length size (length rows)) old
unfolding written
all_rows size base rows old s t =
    let n = records_from (length rows) in
    let m = size * length rows in
    let h = header_bytes size base (length rows) in
    let d = directory_bytes size n rows in
    let r = record_bytes rows in
    let o = drop (table_length size (length rows)) old in
    let behind_records : drop n s ≡ r ++ o =
    sym (take-append-drop m (drop n s))
    ∙ ap (λ (x : List ℕ). x ++ drop m (drop n s)) t.records
    ∙ ap (λ (x : List ℕ). r ++ x) (drop-drop m n s ∙ t.rest) in
    sym (take-append-drop n s)
    ∙ ap (λ (x : List ℕ). x ++ drop n s) t.front
    ∙ ap (λ (x : List ℕ). (h ++ d) ++ x) behind_records
    ∙ sym (append_assoc (h ++ d) r o)
    ∙ ap (λ (x : List ℕ). x ++ o) (append_assoc h d r)

pub end : (size base k : ℕ) (rows : List Held) (old s : List ℕ) → Stands size base k rows old s → length rows ≡ k
    → s ≡ written size base rows ++ drop (table_length size k) old
end size base k rows old s t e =
    subst
    (λ (x : ℕ). Stands size base x rows old s → s ≡ written size base rows ++ drop (table_length size x) old)
    e (all_rows size base rows old s) t

-- the header alone
pub header_stands : (size base k : ℕ) (old b : List ℕ) → b ≡ header_bytes size base k → table_length size k ≤ length old
    → Stands size base k [] old (b ++ drop 20 old)
header_stands size base k old b e fits =
    let h = header_bytes size base k in let l : 0 + length h ≡ 20 = omega (arith, header_long size base k) in
    subst (λ (t : List ℕ). Stands size base k [] old (t ++ drop 20 old)) (sym e)
    (subst (λ (n : ℕ). Stands size base k [] old (h ++ drop n old)) l (begin size base k old fits))
