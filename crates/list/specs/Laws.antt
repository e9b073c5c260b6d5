-- What holds of the list step whatever the bytes; src/laws.rt has the functions whose contracts these are.
use Rattle.std.specs.Prelude.{ℕ, ◌+◌, ◌-◌, ◌*◌, ◌<◌, ◌≤◌, ◌≡◌, List, length, take, drop, replicate}
use Rattle.fields.specs.Answer.{gives}
use Rattle.fields.specs.Told.{told_step}
use Rattle.fields.specs.declared.RecordNumber.{RecordNumber}
use Rattle.list.specs.Entry.{header_size, entry_at, entry_of}
use Rattle.list.specs.Named.{most_name, name_in}
use Rattle.list.specs.declared.Entry.{Entry}
use Rattle.list.specs.declared.Listed.{Listed}

-- what the list step with a name promises, both clauses of it
pub record Steps (rest : List ℕ) (base : RecordNumber) (place : ℕ) (l : Listed) : Type 0 where
  pub answer : told_step l.answer ≡ entry_of rest base place
  pub name : l.name ≡ name_in rest (entry_of rest base place)

-- RULES 2: two results of one step are equal
abbrev pub StepsSettle : Type 0
StepsSettle = (rest : List ℕ) (base : RecordNumber) (place : ℕ) (l m : Listed) → Steps rest base place l
    → Steps rest base place m → l ≡ m

-- RULES 9: an entry that is given is what the part's first bytes say, has its header inside it and its name, if it has
-- one, between that and its end, and ends inside the part
pub record Stands (rest : List ℕ) (e : Entry) : Type 0 where
  pub is : e ≡ entry_at rest
  pub least : header_size ≤ e.length
  pub behind : 0 < e.name_units → header_size ≤ e.name_offset
  pub inside : 0 < e.name_units → e.name_offset + 2 * e.name_units ≤ e.length
  pub most : e.length ≤ length rest

abbrev pub EntriesStand : Type 0
EntriesStand = (rest : List ℕ) (base : RecordNumber) (place : ℕ) (e : Entry) → entry_of rest base place ≡ gives e
    → Stands rest e

-- RULES 9: the name that goes with an entry is the bytes at its name offset, all of which the part has, and else zeros,
-- up to 510
pub record NameStands (rest : List ℕ) (e : Entry) : Type 0 where
  pub bytes : take (2 * e.name_units) (name_in rest (gives e)) ≡ take (2 * e.name_units) (drop e.name_offset rest)
  pub tail : drop (2 * e.name_units) (name_in rest (gives e)) ≡ replicate (most_name - 2 * e.name_units) 0

abbrev pub NamesStand : Type 0
NamesStand = (rest : List ℕ) (base : RecordNumber) (place : ℕ) (e : Entry) → entry_of rest base place ≡ gives e
    → NameStands rest e

-- RULES 9: padding tells nothing. A part that is as long, has the same header, and has the same bytes where the name
-- stands gives the same entry with the same name, whatever stands between the two and behind the name
abbrev pub PaddingTellsNothing : Type 0
PaddingTellsNothing = (rest other : List ℕ) (base : RecordNumber) (place : ℕ) (e : Entry)
    → entry_of rest base place ≡ gives e
    → length other ≡ length rest
    → take header_size other ≡ take header_size rest
    → take (2 * e.name_units) (drop e.name_offset other) ≡ take (2 * e.name_units) (drop e.name_offset rest)
    → (entry_of other base place ≡ gives e) × (name_in other (gives e) ≡ name_in rest (gives e))

-- RULES 9: an entry without a name is refused by 14 and 15 alone, wherever its name offset points
abbrev pub EmptyNamesPass : Type 0
EmptyNamesPass = (rest : List ℕ) (base : RecordNumber) (place : ℕ) → (entry_at rest).name_units ≡ 0
    → header_size ≤ (entry_at rest).length → (entry_at rest).length ≤ length rest
    → entry_of rest base place ≡ gives (entry_at rest)
