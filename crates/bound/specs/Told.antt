-- RULES 17, 18: what a listing of a table tells in the end. The table is refused, or its base record is, or it is the
-- count of that very listing.
use Rattle.std.specs.Prelude.{◌≡◌, ℕ, List, Some}
use Rattle.fields.specs.Answer.{gives, refuses}
use Rattle.fields.specs.declared.Refusal.{Refusal}
use Rattle.table.specs.Check.{table_of}
use Rattle.table.specs.Held.{Held, record_of, base_of}
use Rattle.table.specs.declared.check.TableHeader.{TableHeader}
use Rattle.items.specs.Told.{Lent, file_of_bytes}
use Rattle.lines.specs.Listing.{most_parts}
use Rattle.bound.specs.Calls.{Counts}
use Rattle.bound.specs.declared.Told.{Told}
use Rattle.bound.specs.declared.Told.TheVariants as told

-- how many parts the listing has room for (18.1)
abbrev pub room : ℕ → ℕ
room k = most_parts

-- a table that passed its check, and its base record
pub record Based (t : List ℕ) (b : Held) : Type 0 where
  pub header : TableHeader
  pub passed : table_of t ≡ gives header
  pub base : base_of t ≡ Some b

pub record BaseRefused (t : List ℕ) : Type 0 where
  pub base : Held
  pub based : Based t base
  pub refusal : Refusal
  pub refused : file_of_bytes t base.bytes base.number ≡ refuses refusal

pub record Reads (t : List ℕ) (c : ℕ) : Type 0 where
  pub base : Held
  pub based : Based t base
  pub file : Lent
  pub opened : file_of_bytes t base.bytes base.number ≡ gives file
  pub count : Counts base.bytes base.number (record_of t) room c

-- each exactly when
abbrev pub Tells : List ℕ → Told → Type 0
Tells t told.TableRefused = (b : Held) → Based t b → ⊥
Tells t told.BaseRefused = BaseRefused t
Tells t (told.Reads c) = Reads t c
