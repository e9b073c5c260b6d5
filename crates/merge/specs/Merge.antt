-- RULES 27.2 to 27.4: what is refused of two tables, and what is written of them.
use Rattle.std.specs.Prelude.{ℕ, List, length, eqb, Option, Some, None, option_map, unwrap_or, Result, Ok, Err}
use Rattle.fields.specs.Pick.{pick}
use Rattle.fields.specs.Answer.{Outcome, gives, refuses, refusal}
use Rattle.fields.specs.declared.Refusal.{Refusal}
use Rattle.fields.specs.declared.Cause.TheVariants.{SizesDiffer, RecordsDiffer}
use Rattle.fields.specs.declared.RecordNumber.{RecordNumber}
use Rattle.table.specs.Layout.{numbers_at}
use Rattle.table.specs.Check.{table_of}
use Rattle.table.specs.Held.{Held, held_of}
use Rattle.table.specs.Row.{first_row}
use Rattle.written.specs.Layout.{table_length, written}
use Rattle.written.specs.Refused.{rows_checked, room_checked}
use Rattle.merge.specs.Rows.{merged, clash}
use Rattle.merge.specs.declared.Merged.{Merged}
use Rattle.merge.specs.declared.unmerged.Unmerged.{Unmerged}
use Rattle.merge.specs.declared.unmerged.Unmerged.TheVariants.{First, Second, Clash, Both}

-- what a table holds: the size of its records, and its rows
pub record Contents : Type 0 where
  pub size : ℕ
  pub rows : List Held

abbrev pub contents : List ℕ → Contents
contents t = record { size = (numbers_at t).size; rows = held_of t }

-- what goes on from a value, or is refused by a test of these
abbrev pub tested : {A B : Type 0} → (Refusal → Unmerged) → Outcome A → (A → Result B Unmerged) → Result B Unmerged
tested whose (gives x) next = next x
tested whose (refuses r) next = Err (whose r)

-- 32: in neither record, so 0 is told
unfoldable pub sizes_checked : ℕ → ℕ → Outcome Unit
sizes_checked m n = pick (eqb m n) (gives tt) (refuses (refusal SizesDiffer (record { 0 = 0 }) 0))

-- 33: the number, and where its row stands in the second table
abbrev pub clashing : RecordNumber → ℕ → Unmerged
clashing n place = Clash n (refusal RecordsDiffer (record { 0 = 0 }) place)

abbrev pub agreed : {B : Type 0} → (RecordNumber → ℕ) → Option RecordNumber → Result B Unmerged → Result B Unmerged
agreed place None next = next
agreed place (Some n) next = Err (clashing n (place n))

-- what two tables hold together: 32, then 33, then 34
unfoldable pub joined : (RecordNumber → ℕ) → Contents → Contents → Result Contents Unmerged
joined place x y =
    tested Both (sizes_checked x.size y.size) λ _.
    agreed place (clash x.rows y.rows) (
    tested Both (rows_checked (length (merged x.rows y.rows))) λ _.
    Ok (record { size = x.size; rows = merged x.rows y.rows }))

-- its table, which has no base row
abbrev pub table_of_contents : Contents → List ℕ
table_of_contents z = written z.size (length z.rows) z.rows

-- where the row of a number stands in a table that has it
abbrev pub place_in : List ℕ → RecordNumber → ℕ
place_in t n = unwrap_or (option_map (λ r. r.place) (first_row t (numbers_at t) n)) 0

-- 35, with a buffer of m bytes; else how many bytes are written, and how many rows
abbrev pub report_of : Contents → Merged
report_of z = record { length = table_length z.size (length z.rows); written = length z.rows }

abbrev pub fitted : ℕ → Result Contents Unmerged → Result Merged Unmerged
fitted m (Err why) = Err why
fitted m (Ok z) = tested Both (room_checked z.size (length z.rows) m) λ _. Ok (report_of z)

-- the answer to two tables and a buffer of m bytes: 21 of the first, 21 of the second, and then the rest
unfoldable pub merge_of : List ℕ → List ℕ → ℕ → Result Merged Unmerged
merge_of s t m =
    tested First (table_of s) λ _. tested Second (table_of t) λ _.
    fitted m (joined (place_in t) (contents s) (contents t))

-- what is written
abbrev pub rows_of : List ℕ → List ℕ → List Held
rows_of s t = merged (held_of s) (held_of t)

abbrev pub table_of_merge : List ℕ → List ℕ → List ℕ
table_of_merge s t = table_of_contents (record { size = (numbers_at s).size; rows = rows_of s t })
