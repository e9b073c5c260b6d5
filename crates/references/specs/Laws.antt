-- RULES 24: what holds of references whatever the bytes; src/laws.rt has the functions whose contracts these are.
use Rattle.std.specs.Prelude.{ℕ, suc, ◌*◌, ◌≤◌, ◌≡◌, List, [], ◌∷◌, map, length, eqb}
use Rattle.fields.specs.Pick.{pick}
use Rattle.fields.specs.Answer.{Outcome, gives, refuses}
use Rattle.fields.specs.declared.RecordNumber.{RecordNumber}
use Rattle.list.specs.declared.Entry.{Entry}
use Rattle.list.specs.Entry.{header_size}
use Rattle.references.specs.Entries.{all_entries}
use Rattle.references.specs.References.{among, references_of}
use Rattle.references.specs.Rising.{sorted}
use Rattle.references.specs.Shown.{shown, shown_rising}
use Rattle.references.specs.declared.References.{References}
use Rattle.references.specs.declared.Rising.{Rising}

-- the entries that are given, in front of a refusal
unfoldable pub given : List (Outcome Entry) → List Entry
given [] = []
given (gives e ∷ es) = e ∷ given es
given (refuses r ∷ es) = []

-- numbers without one of them
unfoldable pub without : RecordNumber → List RecordNumber → List RecordNumber
without m [] = []
without m (x ∷ xs) = pick (eqb x.0 m.0) (without m xs) (x ∷ without m xs)

-- each number once, where it comes first
unfoldable pub once : List RecordNumber → List RecordNumber
once [] = []
once (x ∷ xs) = x ∷ without x (once xs)

-- the numbers told are those of the entries given, each once, without the record's own
abbrev pub NumbersOfEntries : Type 0
NumbersOfEntries = (s : List ℕ) (n : RecordNumber)
    → (references_of s n).numbers ≡ once (without n (map (λ e. e.file) (given (all_entries s n))))

-- there are no more of them than a record has room for entries
abbrev pub ReferencesAreFew : Type 0
ReferencesAreFew = (s : List ℕ) (n : RecordNumber) → header_size * length (references_of s n).numbers ≤ length s

-- numbers that rise, from a number on
abbrev pub Rises : ℕ → List RecordNumber → Type 0
Rises least [] = Unit {0}
Rises least (x ∷ xs) = (least ≤ x.0) × Rises (suc x.0) xs

-- RULES 24.4: the record's own number and those told rise when they are sorted, and are the same numbers
abbrev pub SortedRise : Type 0
SortedRise = (s : List ℕ) (n : RecordNumber) → Rises 0 (sorted (n ∷ (references_of s n).numbers))

abbrev pub SortedAreTheSame : Type 0
SortedAreTheSame = (ms : List RecordNumber) (m : RecordNumber)
    → (among (sorted ms) m ≡ among ms m) × (length (sorted ms) ≡ length ms)

-- RULES 2: two results that tell the same are the same in each place, since 0 stands behind the numbers told. The
-- arrays are as long as their types say
pub record SameTold (j k : ℕ) (xs ys : List RecordNumber) : Type 0 where
  pub count : j ≡ k
  pub numbers : xs ≡ ys

abbrev pub ReferencesSettle : Type 0
ReferencesSettle = (r t : References) → length r.numbers ≡ 157 → length t.numbers ≡ 157 → shown r ≡ shown t
    → SameTold r.count t.count r.numbers t.numbers × (r.answer ≡ t.answer)

abbrev pub RisingSettle : Type 0
RisingSettle = (r t : Rising) → length r.numbers ≡ 158 → length t.numbers ≡ 158 → shown_rising r ≡ shown_rising t
    → SameTold r.count t.count r.numbers t.numbers
