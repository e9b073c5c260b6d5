-- RULES 24.5: two lookups that agree on what the lists of a record refer to.
use Rattle.std.specs.Prelude.{ℕ, ◌≡◌, List, Option, All}
use Rattle.fields.specs.declared.RecordNumber.{RecordNumber}
use Rattle.references.specs.References.{references_of}

abbrev pub Agree : List ℕ → RecordNumber → (RecordNumber → Option (List ℕ)) → (RecordNumber → Option (List ℕ)) → Type 0
Agree s n look peek = All (λ m. look m ≡ peek m) (references_of s n).numbers
