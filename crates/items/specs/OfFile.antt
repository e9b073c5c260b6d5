-- A definition at a file: of its base record's bytes and number, and of the lookup in its table.
use Rattle.std.specs.Prelude.{ℕ, List, Option}
use Rattle.fields.specs.declared.RecordNumber.{RecordNumber}
use Rattle.table.specs.Held.{record_of}
use Rattle.items.specs.declared.File.{File}

abbrev pub of_file : {A : Type 0} → (List ℕ → RecordNumber → (RecordNumber → Option (List ℕ)) → A) → File → A
of_file says f = says f.base.bytes.now f.base.number (record_of f.table.bytes.now)
