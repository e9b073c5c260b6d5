-- What a search says of the part that an entry leads to.
use Rattle.std.proofs.Common.{ℕ, ◌≡◌, List, length, sym, ap, ◌∙◌}
use Rattle.std.specs.Prelude.{Option}
use Rattle.fields.specs.Answer.{Outcome, gives, refuses, Report, report, ◌⟫◌}
use Rattle.fields.specs.declared.RecordNumber.{RecordNumber}
use Rattle.fields.specs.declared.Refusal.{Refusal}
use Rattle.list.specs.declared.Entry.{Entry}
use Rattle.record.specs.Open.{Lent}
use Rattle.record.specs.Search.{count_of}
use Rattle.record.specs.declared.layout.Attribute.{Attribute}
use Rattle.items.specs.Lookup.{lookup_of}
use Rattle.items.specs.Items.{sought_of}
use Rattle.parts.specs.declared.Part.{Part}
use Rattle.parts.specs.Part.{part_in, part_of}

module _ (s : List ℕ) (n : RecordNumber) (look : RecordNumber → Option (List ℕ)) (e : Entry) (place : ℕ)
    (c : Report Attribute) (i : c ≡ count_of (sought_of s n look e place)) where
  abbrev judge : Attribute → Outcome Part
  judge h = lookup_of s n look e.file place ⟫ λ t. part_in e t h

  by_answer : (a : Outcome Attribute) → a ≡ c.answer → report (a ⟫ judge) c.reads ≡ report (part_of s n look e place)
      (length (sought_of s n look e place).read)
  unfolding part_of
  by_answer a g =
      ap (λ (a : Outcome Attribute). report (a ⟫ judge) c.reads) g
      ∙ ap (λ (x : Report Attribute). report (x.answer ⟫ judge) x.reads) i

  pub missed : (r : Refusal) → refuses r ≡ c.answer → report (refuses r) c.reads ≡ report (part_of s n look e place)
      (length (sought_of s n look e place).read)
  missed r g = by_answer (refuses r) g

  pub led : (h : Attribute) → gives h ≡ c.answer → (t : Lent) → lookup_of s n look e.file place ≡ gives t
      → (a : Outcome Part) → a ≡ part_in e t h
      → report a c.reads ≡ report (part_of s n look e place) (length (sought_of s n look e place).read)
  led h g t q a m =
      ap (λ (x : Outcome Part). report x c.reads) (m ∙ ap (λ (y : Outcome Lent). y ⟫ λ t. part_in e t h) (sym q))
      ∙ by_answer (gives h) g

pub ruleset leads = (missed, led)
