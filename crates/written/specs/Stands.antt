-- A table of k rows while it is written: its first rows stand, over a buffer that held other bytes.
use Rattle.std.specs.Prelude.{ℕ, ◌*◌, ◌≡◌, List, ◌++◌, length, take, drop}
use Rattle.table.specs.Held.{Held}
use Rattle.written.specs.Layout.{records_from, table_length, header_bytes, directory_bytes, record_bytes}

-- s, which was old, has the header and these rows; what is behind the whole table is as it was
pub record Stands (size base k : ℕ) (rows : List Held) (old s : List ℕ) : Type 0 where
  pub long : length s ≡ length old
  pub front : take (records_from (length rows)) s
      ≡ header_bytes size base k ++ directory_bytes size (records_from k) rows
  pub records : take (size * length rows) (drop (records_from k) s) ≡ record_bytes rows
  pub rest : drop (table_length size k) s ≡ drop (table_length size k) old
