-- RULES 24.1: the entries of all lists of a record, as the raw walk comes to them.
use Rattle.std.specs.Prelude.{ℕ, ◌+◌, List, [], ◌∷◌, eqb}
use Rattle.fields.specs.Pick.{pick}
use Rattle.fields.specs.Answer.{Outcome, gives, refuses}
use Rattle.fields.specs.Known.{attribute_list}
use Rattle.fields.specs.declared.RecordNumber.{RecordNumber}
use Rattle.list.specs.declared.Entry.{Entry}
use Rattle.record.specs.Walk.{attributes_of}
use Rattle.record.specs.Value.{list_in}
use Rattle.record.specs.declared.layout.Attribute.{Attribute}
use Rattle.record.specs.declared.layout.Span.{Span}
use Rattle.items.specs.Items.{entries_of}

-- some answers, and others behind them; a refusal is the last
unfoldable pub before : {A : Type 0} → List (Outcome A) → List (Outcome A) → List (Outcome A)
before [] ys = ys
before (gives x ∷ xs) ys = gives x ∷ before xs ys
before (refuses r ∷ xs) ys = refuses r ∷ []

module _ (s : List ℕ) (n : RecordNumber) where
  -- the entries of a list that an attribute opens, or why it opens none (RULES 8)
  unfoldable pub list_entries : Outcome Span → List (Outcome Entry)
  list_entries (gives p) = entries_of s n (p.from + p.bytes) p.from
  list_entries (refuses r) = refuses r ∷ []

  -- over raw attributes: any that is no list has none
  unfoldable pub entries_by : List (Outcome Attribute) → List (Outcome Entry)
  entries_by [] = []
  entries_by (refuses r ∷ hs) = refuses r ∷ []
  entries_by (gives h ∷ hs) =
      pick (eqb h.ty attribute_list) (before (list_entries (list_in s n h)) (entries_by hs)) (entries_by hs)

  unfoldable pub all_entries : List (Outcome Entry)
  all_entries = entries_by (attributes_of s n)
