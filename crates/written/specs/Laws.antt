-- RULES 22: what a written table is; src/laws.rt has the functions whose contracts these are.
use Rattle.std.specs.Prelude.{ℕ, suc, true, ◌+◌, ◌*◌, ◌<◌, ◌≤◌, ◌≡◌, List, [], ◌∷◌, ◌++◌, length, drop}
use Rattle.std.specs.List.{All}
use Rattle.fields.specs.Answer.{gives}
use Rattle.fields.specs.Length.{good_length}
use Rattle.table.specs.Layout.{header_size}
use Rattle.table.specs.Check.{most_rows, number_end, table_of}
use Rattle.table.specs.Held.{Held, held_of}
use Rattle.table.specs.declared.check.TableHeader.{TableHeader}
use Rattle.written.specs.Layout.{records_from, table_length, header_bytes, row_bytes, written}
use Rattle.written.specs.Over.{over}
use Rattle.written.specs.Stands.{Stands}

-- record numbers rise from row to row, from `least` on, and are below 2^48
abbrev pub Rising : ℕ → List Held → Type 0
Rising least [] = Unit {0}
Rising least (r ∷ rs) = (least ≤ r.number.0) × (r.number.0 < number_end) × Rising (suc r.number.0) rs

-- rows that a table may have
pub record Fit (size base : ℕ) (rows : List Held) : Type 0 where
  pub good : good_length size ≡ true
  pub long : All (λ r. length r.bytes ≡ size) rows
  pub few : length rows ≤ most_rows
  pub rising : Rising 0 rows
  pub based : base ≤ length rows

-- the numbers of its header
abbrev pub numbers_of : ℕ → ℕ → ℕ → TableHeader
numbers_of size base k =
    record { count = k; size = size; directory = header_size; records = records_from k; base = base }

-- a written table passes the check, whatever stands behind it
abbrev pub TablesPass : Type 0
TablesPass = (size base : ℕ) (rows : List Held) (rest : List ℕ) → Fit size base rows
    → table_of (written size base rows ++ rest) ≡ gives (numbers_of size base (length rows))

-- and holds exactly its rows
abbrev pub RowsAreHeld : Type 0
RowsAreHeld = (size base : ℕ) (rows : List Held) (rest : List ℕ) → Fit size base rows
    → held_of (written size base rows ++ rest) ≡ rows

-- a table's own length
abbrev pub TablesAreLong : Type 0
TablesAreLong = (size base : ℕ) (rows : List Held) → All (λ r. length r.bytes ≡ size) rows
    → length (written size base rows) ≡ table_length size (length rows)

-- a buffer that is long enough for k rows, and the header at its front: none of the rows stands yet
abbrev pub TablesBegin : Type 0
TablesBegin = (size base k : ℕ) (old : List ℕ) → table_length size k ≤ length old
    → Stands size base k [] old (over 0 (header_bytes size base k) old)

-- the next row in its place of the directory, and its record in its own
abbrev pub RowsFollow : Type 0
RowsFollow = (size base k : ℕ) (rows : List Held) (r : Held) (old s : List ℕ) → table_length size k ≤ length old
    → Stands size base k rows old s → length rows < k → length r.bytes ≡ size
    → (let at = records_from k + size * length rows in
    Stands size base k (rows ++ (r ∷ [])) old
    (over at r.bytes (over (records_from (length rows)) (row_bytes r.number at) s)))

-- where all rows stand, so does the table, and what was behind it is as it was
abbrev pub TablesEnd : Type 0
TablesEnd = (size base k : ℕ) (rows : List Held) (old s : List ℕ) → Stands size base k rows old s → length rows ≡ k
    → s ≡ written size base rows ++ drop (table_length size k) old
