-- Rows in a list of bytes: what is read of the first, and that the others stand behind it.
use Rattle.std.proofs.Common.{ℕ, ◌+◌, ◌*◌, ◌^◌, ◌<◌, ◌≤◌, ◌≡◌, refl, ap, ◌∙◌, arith}
use Rattle.std.proofs.Common.{List, ◌∷◌, ◌++◌, length, take, drop, All, append_assoc, take_at}
use Rattle.std.proofs.lemmas.List.Elements.{All-head, All-tail}
use Rattle.fields.specs.LeBytes.{le_bytes}
use Rattle.table.specs.Layout.{row_in}
use Rattle.table.specs.Check.{number_end}
use Rattle.table.specs.Held.{Held}
use Rattle.written.specs.Layout.{row_bytes, directory_bytes, record_bytes}
use Rattle.written.proofs.Bytes.{le_bytes_long, row_long, read_at, drop_on}

-- the directory has these rows from d on, and their records stand from o on
pub record Rest (t : List ℕ) (size d o : ℕ) (rows : List Held) : Type 0 where
  pub after_rows : List ℕ
  pub after_records : List ℕ
  pub directory : drop d t ≡ directory_bytes size o rows ++ after_rows
  pub records : drop o t ≡ record_bytes rows ++ after_records
  pub long : All (λ r. length r.bytes ≡ size) rows
  pub near : o + size * length rows < 4294967296
  pub inside : o + size * length rows ≤ length t

module _ (t : List ℕ) (size d o : ℕ) (r : Held) (rs : List Held) (s : Rest t size d o (r ∷ rs)) where
  first_long : length r.bytes ≡ size
  first_long = All-head (λ (x : Held). length x.bytes ≡ size) r rs s.long

  first_row : drop d t ≡ row_bytes r.number o ++ (directory_bytes size (o + size) rs ++ s.after_rows)
  unfolding directory_bytes
  first_row = s.directory ∙ append_assoc (row_bytes r.number o) (directory_bytes size (o + size) rs) s.after_rows

  first_record : drop o t ≡ r.bytes ++ (record_bytes rs ++ s.after_records)
  unfolding record_bytes
  first_record = s.records ∙ append_assoc r.bytes (record_bytes rs) s.after_records

  first_number : drop d t
      ≡ le_bytes 8 r.number.0 ++ (le_bytes 4 o ++ (directory_bytes size (o + size) rs ++ s.after_rows))
  unfolding row_bytes
  first_number =
      first_row
      ∙ append_assoc (le_bytes 8 r.number.0) (le_bytes 4 o) (directory_bytes size (o + size) rs ++ s.after_rows)

  -- the first row and its record, read
  pub row_back : r.number.0 < number_end → row_in t d ≡ record { place = d; number = r.number; offset = o }
  unfolding row_in
  row_back l =
      let near = s.near in
      let small : r.number.0 < 256 ^ 8 = omega arith in
      let low : o < 256 ^ 4 = omega arith in
      let n = read_at 8 r.number.0 t _ d small first_number in
      let e = drop_on t (le_bytes 8 r.number.0) _ d 8 (le_bytes_long 8 r.number.0) first_number in
      let q = read_at 4 o t _ (d + 8) low e in
      rw (n, q) refl

  pub record_back : take size (drop o t) ≡ r.bytes
  record_back = ap (take size) first_record ∙ take_at r.bytes (record_bytes rs ++ s.after_records) size first_long

  -- what is behind them
  pub others : Rest t size (d + 12) (o + size) rs
  others =
      let near = s.near in
      let inside = s.inside in
      record {
        after_rows = s.after_rows;
        after_records = s.after_records;
        directory = drop_on t (row_bytes r.number o) _ d 12 (row_long r.number o) first_row;
        records = drop_on t r.bytes _ o size first_long first_record;
        long = All-tail (λ (x : Held). length x.bytes ≡ size) r rs s.long;
        near = omega arith;
        inside = omega arith;
      }
