-- A written table passes its check, and holds its rows.
use Rattle.std.proofs.Common.{ℕ, ◌+◌, ◌*◌, ◌<◌, ◌≤◌, ◌≡◌, refl, sym, ap, ◌∙◌, arith}
use Rattle.std.proofs.Common.{List, [], ◌∷◌, ◌++◌, length, drop, true, All}
use Rattle.std.proofs.Common.{append_assoc, length-append, mul-le-mul_right}
use Rattle.std.proofs.lemmas.List.Elements.{All-head, All-tail}
use Rattle.std.proofs.lemmas.Bool.Decides.{nat_tests}
use Rattle.fields.specs.Answer.{gives}
use Rattle.fields.proofs.Lengths.{good_sized}
use Rattle.fields.proofs.Answers.{onward}
use Rattle.table.specs.Layout.{numbers_at, row_size}
use Rattle.table.specs.Check.{good_numbers, head_of, rows_of, table_of}
use Rattle.table.specs.Held.{Held, held_from, held_of}
use Rattle.table.specs.declared.check.TableHeader.{TableHeader}
use Rattle.table.proofs.Rows.{none_checked, first_least, last_row}
use Rattle.written.specs.Layout.{records_from, table_length, header_bytes, row_bytes}
use Rattle.written.specs.Layout.{directory_bytes, record_bytes, written}
use Rattle.written.specs.Laws.{Fit, numbers_of}
use Rattle.written.proofs.Bytes.{header_long, row_long, drop_on}
use Rattle.written.proofs.Header.{numbers_back}
use Rattle.written.proofs.Rest.{Rest}
use Rattle.written.proofs.Holds.{rows_held}
use Rattle.written.proofs.Passes.{rows_pass}

directory_long : (size at : ℕ) (rows : List Held) → length (directory_bytes size at rows) ≡ row_size * length rows
unfolding directory_bytes
directory_long size at [] = refl
directory_long size at (r ∷ rs) =
    let a = length-append (row_bytes r.number at) (directory_bytes size (at + size) rs) in
    let b = row_long r.number at in
    let c = directory_long size (at + size) rs in
    omega arith

records_long : (size : ℕ) (rows : List Held) → All (λ r. length r.bytes ≡ size) rows
    → length (record_bytes rows) ≡ size * length rows
unfolding record_bytes
records_long size [] l = omega arith
records_long size (r ∷ rs) l =
    let a = length-append r.bytes (record_bytes rs) in
    let b = All-head (λ (x : Held). length x.bytes ≡ size) r rs l in
    let c = records_long size rs (All-tail (λ (x : Held). length x.bytes ≡ size) r rs l) in
    omega arith

pub table_long : (size base : ℕ) (rows : List Held) → All (λ r. length r.bytes ≡ size) rows
    → length (written size base rows) ≡ table_length size (length rows)
unfolding written
table_long size base rows l =
    let k = length rows in
    let rs = directory_bytes size (records_from k) rows in
    let a = length-append (header_bytes size base k) (rs ++ record_bytes rows) in
    let b = length-append rs (record_bytes rows) in
    let c = header_long size base k in
    let d = directory_long size (records_from k) rows in
    let e = records_long size rows l in
    omega arith

module _ (size base : ℕ) (rows : List Held) (rest : List ℕ) (f : Fit size base rows) where
  abbrev k : ℕ
  k = length rows

  abbrev o : ℕ
  o = records_from k

  abbrev t : List ℕ
  t = written size base rows ++ rest

  abbrev h : TableHeader
  h = numbers_of size base k

  parts : t ≡ header_bytes size base k ++ (directory_bytes size o rows ++ (record_bytes rows ++ rest))
  unfolding written
  parts = simp append_assoc

  ends : length t ≡ table_length size k + length rest
  ends =
      let a = length-append (written size base rows) rest in
      let b = table_long size base rows f.long in
      omega arith

  product : size * k ≤ 4096 * k
  product = mul-le-mul_right k (good_sized size f.good).most

  near : o + size * k < 4294967296
  near = let p = product in let few = f.few in omega arith

  behind_header : drop 20 t ≡ directory_bytes size o rows ++ (record_bytes rows ++ rest)
  behind_header = drop_on t (header_bytes size base k) _ 0 20 (header_long size base k) parts

  all_there : Rest t size 20 o rows
  all_there =
      let n = near in
      let e = ends in
      record {
        after_rows = record_bytes rows ++ rest;
        after_records = rest;
        directory = behind_header;
        records =
            drop_on t (directory_bytes size o rows) _ 20 (row_size * k) (directory_long size o rows) behind_header;
        long = f.long;
        near = n;
        inside = omega arith;
      }

  pub header_back : numbers_at t ≡ h
  header_back =
      let s = (good_sized size f.good).most in
      let few = f.few in
      let based = f.based in
      ap numbers_at parts
      ∙ numbers_back size base k (directory_bytes size o rows ++ (record_bytes rows ++ rest))
      (omega arith) (omega arith) (omega arith) (omega arith)

  numbers_good : good_numbers (length t) h ≡ true
  unfolding good_numbers
  numbers_good =
      let e = ends in
      let few = f.few in
      let based = f.based in
      let good = f.good in
      grind (arith, nat_tests)

  head_passes : head_of t ≡ gives h
  unfolding head_of
  head_passes =
      let e = ends in
      let q = header_back in
      let g = numbers_good in
      let l : 20 ≤ length t = omega arith in
      rw q (grind (arith, nat_tests))

  pub table_passes : table_of t ≡ gives h
  unfolding table_of
  table_passes =
      let e : 20 ≡ 20 + row_size * 0 = omega arith in
      let r = rows_pass t h 0 20 o 0 rows all_there e (omega arith) f.rising (first_least t h) (none_checked t h) in
      let all : 0 + length rows ≡ h.count = omega arith in
      sym (onward (rows_of t) (sym head_passes) (last_row t h (0 + length rows) all r))

  pub table_holds : held_of t ≡ rows
  unfolding held_of
  table_holds =
      let e : 20 ≡ 20 + row_size * 0 = omega arith in
      ap (λ (x : TableHeader). held_from t x x.count 0) header_back
      ∙ rows_held t h 0 20 o 0 rows all_there e f.rising
