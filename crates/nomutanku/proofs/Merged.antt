-- What is made of two tables is answered.
use Rattle.std.proofs.Common.{ℕ, ◌≡◌, Bool, List, [], Result, Ok, Err, IsErrAnd, inl, inr, subst, sym}
use Rattle.command.specs.Merging.{IsUnread, IsUnreadOf, Merges}
use Rattle.command.specs.declared.merge_failure.Side.{Side}
use Rattle.command.specs.declared.merge_failure.MergeFailure.{MergeFailure}
use Rattle.command.specs.declared.merge_failure.MergeFailure.TheVariants.{
  NoTable,
  Sizes,
  Clash,
  TooManyRows,
  Unreadable,
  OutOfMemory,
}
use Rattle.command.specs.declared.merging.MergedTable.{MergedTable}
use Rattle.command.specs.declared.status.Status.{Status}
use Rattle.nomutanku.specs.Merging.{AnswersMade, IsMade, IsMerged}
use Rattle.nomutanku.specs.declared.failed.Failed.{Failed}

pub merged_by : (named : Bool) (made : Result MergedTable MergeFailure) (result : Result Status Failed)
    → ((s t : List ℕ) × IsMade s t made) → AnswersMade named made result → IsMerged named result
merged_by named made result (s, t, m) a = (s, t, (made, m, a))

-- what is made of what was read
pub made_of : (s t : List ℕ) (made : Result MergedTable MergeFailure) → Merges s t made → IsMade s t made
made_of s t (Ok made) merges = merges
made_of s t (Err why) merges = inr merges

unread_either : (side : Side) (why : MergeFailure) → IsUnreadOf side why → IsUnread why
unread_either side (Unreadable s error) u = tt
unread_either side OutOfMemory u = tt
unread_either side (NoTable s flaw) u = u
unread_either side (Sizes m n) u = u
unread_either side (Clash n) u = u
unread_either side TooManyRows u = u

-- an input that can't be read
pub unmade : (side : Side) (why : MergeFailure) (made : Result MergedTable MergeFailure) → IsUnreadOf side why
    → IsErrAnd made (λ x. x ≡ why) → IsMade [] [] made
unmade side why (Err x) unread e = inl (unread_either side x (subst (IsUnreadOf side) (sym e) unread))
unmade side why (Ok made) unread e = absurd e
