-- The cases of RULES 20, by evaluation.
use Rattle.std.proofs.Common.{ℕ, ◌≡◌, length, refl, sym, ap, ◌∙◌}
use Rattle.std.specs.Prelude.{Option, Result, Ok}
use Rattle.fields.specs.Answer.{Outcome, gives}
use Rattle.fields.specs.declared.RecordNumber.{RecordNumber}
use Rattle.fields.proofs.Cases.{eq-y}
use Rattle.fields.specs.Le.{le}
use Rattle.fields.specs.LeBytes.{le_bytes}
use Rattle.fields.specs.Length.{good_length}
use Rattle.table.specs.Layout.{numbers_at, row_in, row_at}
use Rattle.table.specs.Check as table
use Rattle.table.specs.Check.{good_numbers, head_of, rises, good_row, row_checked, rows_of, table_of}
use Rattle.table.specs.Row.{first_from, first_row}
use Rattle.table.specs.Held.{record_at, held_at, held_from, held_of, record_in}
use Rattle.written.specs.Layout.{header_bytes, row_bytes, directory_bytes, record_bytes, written}
use Rattle.written.specs.Refused.{rows_checked, room_checked}
use Rattle.merge.specs.Rows.{put, merged, clash}
use Rattle.merge.specs.Merge.{Contents, tested, sizes_checked, agreed, joined, merge_of}
use Rattle.merge.specs.Cases.{SizeLimits, MergeLimits, ClashLimits, ClashFirst, OrderLimits, RoomLimits}
use Rattle.merge.specs.declared.unmerged.Unmerged.{Unmerged}
use Rattle.merge.specs.declared.unmerged.Unmerged.TheVariants.{Both}

pub size_limits : SizeLimits
unfolding sizes_checked
size_limits = refl

pub merge_limits : MergeLimits
unfolding put merged
merge_limits = refl

pub clash_limits : ClashLimits
unfolding clash record_in
clash_limits = refl

same_size : (n : ℕ) → gives tt ≡ sizes_checked n n
unfolding sizes_checked
same_size n = eq-y n n _ _ refl refl

pub clash_first : ClashFirst
unfolding joined
clash_first place size xs ys n e =
    let w : Result Contents Unmerged =
    tested Both (rows_checked (length (merged xs ys))) λ _. Ok (record { size = size; rows = merged xs ys }) in
    let f : Outcome (Unit {0}) → Result Contents Unmerged = λ o. tested Both o λ _. agreed place (clash xs ys) w in
    sym (ap f (same_size size)) ∙ ap (λ (o : Option RecordNumber). agreed place o w) e

-- calls on tables that are written out
pub call_limits : OrderLimits × RoomLimits
unfolding merge_of joined sizes_checked clash merged put table_of head_of rows_of table.rows_checked row_checked
    good_row rises good_numbers good_length numbers_at row_at row_in le held_of held_from held_at record_at record_in
    first_row first_from written header_bytes row_bytes directory_bytes record_bytes le_bytes rows_checked room_checked
call_limits = (refl, refl)
