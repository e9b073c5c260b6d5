-- RULES 25.3: the entries of all lists of a record, each with its place in the record.
use Rattle.std.specs.Prelude.{ℕ, ◌+◌, List, [], ◌∷◌, eqb}
use Rattle.fields.specs.Pick.{pick}
use Rattle.fields.specs.Answer.{Outcome, gives, refuses}
use Rattle.fields.specs.Known.{attribute_list}
use Rattle.fields.specs.declared.RecordNumber.{RecordNumber}
use Rattle.list.specs.declared.Entry.{Entry}
use Rattle.record.specs.Walk.{attributes_of}
use Rattle.record.specs.Value.{list_in}
use Rattle.record.specs.declared.layout.Attribute.{Attribute}
use Rattle.record.specs.declared.layout.Span.{Span}
use Rattle.items.specs.Items.{entries_of}
use Rattle.references.specs.Entries.{before}

pub record Placed : Type 0 where
  pub place : ℕ
  pub entry : Entry

abbrev pub at_place : ℕ → Entry → Placed
at_place at e = record { place = at; entry = e }

-- entries from a place on
unfoldable pub placed : ℕ → List (Outcome Entry) → List (Outcome Placed)
placed at [] = []
placed at (refuses r ∷ es) = refuses r ∷ []
placed at (gives e ∷ es) = gives (at_place at e) ∷ placed (at + e.length) es

module _ (s : List ℕ) (n : RecordNumber) where
  -- of a list that an attribute opens, or why it opens none (RULES 8)
  unfoldable pub list_placed : Outcome Span → List (Outcome Placed)
  list_placed (gives p) = placed p.from (entries_of s n (p.from + p.bytes) p.from)
  list_placed (refuses r) = refuses r ∷ []

  -- over raw attributes: any that is no list has none
  unfoldable pub placed_by : List (Outcome Attribute) → List (Outcome Placed)
  placed_by [] = []
  placed_by (refuses r ∷ hs) = refuses r ∷ []
  placed_by (gives h ∷ hs) =
      pick (eqb h.ty attribute_list) (before (list_placed (list_in s n h)) (placed_by hs)) (placed_by hs)

  unfoldable pub all_placed : List (Outcome Placed)
  all_placed = placed_by (attributes_of s n)
