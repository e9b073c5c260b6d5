-- RULES 22: a table that is written, over its record size, its base row and the rows that it is to hold.
use Rattle.std.specs.Prelude.{ℕ, ◌+◌, ◌*◌, List, [], ◌∷◌, ◌++◌, length}
use Rattle.fields.specs.LeBytes.{le_bytes}
use Rattle.fields.specs.declared.RecordNumber.{RecordNumber}
use Rattle.table.specs.Layout.{header_size, row_size}
use Rattle.table.specs.Held.{Held}

-- the records stand straight behind a directory of k rows, and that straight behind the header
abbrev pub records_from : ℕ → ℕ
records_from k = header_size + row_size * k

-- how many bytes a table of k rows takes
abbrev pub table_length : ℕ → ℕ → ℕ
table_length size k = records_from k + size * k

-- the header: how many rows, the record size, where the directory and the records begin, the base row
unfoldable pub header_bytes : ℕ → ℕ → ℕ → List ℕ
header_bytes size base k =
    le_bytes 4 k ++ (le_bytes 4 size ++ (le_bytes 4 header_size ++ (le_bytes 4 (records_from k) ++ le_bytes 4 base)))

-- a row: its record's number, and where that record stands
unfoldable pub row_bytes : RecordNumber → ℕ → List ℕ
row_bytes n at = le_bytes 8 n.0 ++ le_bytes 4 at

-- the rows of a directory, where the first one's record stands at an offset, and each next one's straight behind
unfoldable pub directory_bytes : ℕ → ℕ → List Held → List ℕ
directory_bytes size at [] = []
directory_bytes size at (r ∷ rs) = row_bytes r.number at ++ directory_bytes size (at + size) rs

-- the records, in the order of their rows
unfoldable pub record_bytes : List Held → List ℕ
record_bytes [] = []
record_bytes (r ∷ rs) = r.bytes ++ record_bytes rs

-- the table that holds these rows
unfoldable pub written : ℕ → ℕ → List Held → List ℕ
written size base rows =
    header_bytes size base (length rows)
    ++ (directory_bytes size (records_from (length rows)) rows ++ record_bytes rows)
