-- One table of two (RULES 27), or why there is none.
use Rattle.std.specs.Prelude.{ℕ, ◌≡◌, ◌⊎◌, ⊤, List, eqb, Option, Some, None, option_map, Result, Ok, Err}
use Rattle.fields.specs.Pick.{pick}
use Rattle.fields.specs.Answer.{Outcome, gives, refuses}
use Rattle.fields.specs.Told.{number_of}
use Rattle.fields.specs.declared.Cause.TheVariants as cause
use Rattle.fields.specs.declared.Refusal.{Refusal}
use Rattle.table.specs.Check.{table_of}
use Rattle.table.specs.declared.check.TableHeader.{TableHeader}
use Rattle.merge.specs.Merge.{merge_of, table_of_merge}
use Rattle.merge.specs.declared.unmerged.Unmerged.{Unmerged}
use Rattle.merge.specs.declared.unmerged.Unmerged.TheVariants as call
use Rattle.command.specs.Flaw.{flaw_of}
use Rattle.command.specs.declared.merge_failure.Side.{Side}
use Rattle.command.specs.declared.merge_failure.Side.TheVariants as side
use Rattle.command.specs.declared.merge_failure.MergeFailure.{MergeFailure}
use Rattle.command.specs.declared.merge_failure.MergeFailure.TheVariants.{
  NoTable,
  Sizes,
  Clash,
  TooManyRows,
  Unreadable,
  OutOfMemory,
}
use Rattle.command.specs.declared.merging.MergedTable.{MergedTable}

-- the record sizes of two tables
abbrev pub sizes_of : Outcome TableHeader → Outcome TableHeader → Option MergeFailure
sizes_of (gives g) (gives h) = Some (Sizes g.size h.size)
sizes_of (gives g) (refuses r) = None
sizes_of (refuses r) b = None

-- 32 and 34, of both together
abbrev pub both_of : List ℕ → List ℕ → Refusal → Option MergeFailure
both_of s t r =
    pick (eqb (number_of r.cause) (number_of cause.SizesDiffer)) (sizes_of (table_of s) (table_of t))
    (pick (eqb (number_of r.cause) (number_of cause.TooManyRows)) (Some TooManyRows) None)

-- why two tables are not merged, by what refuses them; none for 35, by which only a short buffer is refused
unfoldable pub failure_of : List ℕ → List ℕ → Unmerged → Option MergeFailure
failure_of s t (call.First r) = option_map (λ flaw. NoTable side.First flaw) (flaw_of s)
failure_of s t (call.Second r) = option_map (λ flaw. NoTable side.Second flaw) (flaw_of t)
failure_of s t (call.Clash n r) = Some (Clash n)
failure_of s t (call.Both r) = both_of s t r

-- a failure for which nothing is judged, since an input is not there
abbrev pub IsUnread : MergeFailure → Type 0
IsUnread (Unreadable s error) = ⊤
IsUnread OutOfMemory = ⊤
IsUnread (NoTable s flaw) = ⊥
IsUnread (Sizes m n) = ⊥
IsUnread (Clash n) = ⊥
IsUnread TooManyRows = ⊥

-- the same of one of them
abbrev pub IsUnreadOf : Side → MergeFailure → Type 0
IsUnreadOf s (Unreadable of error) = of ≡ s
IsUnreadOf s OutOfMemory = ⊤
IsUnreadOf s (NoTable of flaw) = ⊥
IsUnreadOf s (Sizes m n) = ⊥
IsUnreadOf s (Clash n) = ⊥
IsUnreadOf s TooManyRows = ⊥

-- what the call answers to two tables and a buffer of m bytes, with the table; or why there is none
abbrev pub Joins : List ℕ → List ℕ → ℕ → Result MergedTable MergeFailure → Type 0
Joins s t m (Ok made) = (merge_of s t m ≡ Ok made.merged) × (made.table.items ≡ table_of_merge s t)
Joins s t m (Err why) = (u : Unmerged) × (merge_of s t m ≡ Err u) × (failure_of s t u ≡ Some why)

-- what is made of two tables, in a buffer that is long enough, unless there is no memory for it
abbrev pub Merges : List ℕ → List ℕ → Result MergedTable MergeFailure → Type 0
Merges s t result = (result ≡ Err OutOfMemory) ⊎ ((m : ℕ) × Joins s t m result)
