-- A table's base record is opened.
use Rattle.std.specs.Prelude.{ℕ, ◌≡◌, List, Result, IfOk}
use Rattle.fields.specs.Told.{told_as}
use Rattle.fields.specs.declared.RecordNumber.{RecordNumber}
use Rattle.fields.specs.declared.Refusal.{Refusal}
use Rattle.record.specs.Open.{open_in}
use Rattle.items.specs.Told.{shown_base}
use Rattle.items.specs.declared.File.{File}

-- the file that a record with these bytes and this number begins, in a table whose records have so many bytes; or why
-- the record is refused
abbrev pub IsFile : Result File Refusal → ℕ → List ℕ → RecordNumber → List ℕ → Type 0
IsFile r size b n t = (told_as shown_base r ≡ open_in b n size) × IfOk r (λ f. f.table.bytes.now ≡ t)
