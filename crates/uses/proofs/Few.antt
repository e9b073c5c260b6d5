-- A file has few items: at most one more than what is left to read as its walk begins.
use Rattle.std.proofs.Common.{ℕ, zero, suc, ◌*◌, ◌≤◌, List, length, arith}
use Rattle.std.specs.Prelude.{Option}
use Rattle.fields.specs.Answer.{Answer, gives, ends, refuses}
use Rattle.fields.specs.declared.RecordNumber.{RecordNumber}
use Rattle.table.specs.Held.{record_of}
use Rattle.items.specs.State.{fresh_of, weight}
use Rattle.items.specs.Items.{next_of}
use Rattle.items.specs.Calls.{onward, calls, calls_from, answered, items_in, items_from, items_of}
use Rattle.items.specs.OfFile.{of_file}
use Rattle.items.specs.declared.File.{File}
use Rattle.items.specs.declared.walk.Item.{Item}
use Rattle.items.specs.declared.walk.State.{State}
use Rattle.items.proofs.Firsts.{fresh_weight}

module _ (s : List ℕ) (n : RecordNumber) (look : RecordNumber → Option (List ℕ)) where
  few_behind : (f : ℕ) → ((v : State) → length (items_in (calls s n look f v)) ≤ f) → (v : State) (a : Answer Item)
      → length (answered a (items_in (onward s n look (calls s n look f) v a))) ≤ suc f
  unfolding onward answered
  few_behind f ih v (gives i) = let few : length (items_in (calls s n look f v)) ≤ f = ih v in omega arith
  few_behind f ih v ends = omega arith
  few_behind f ih v (refuses r) = omega arith

  few_calls : (f : ℕ) (w : State) → length (items_in (calls s n look f w)) ≤ f
  unfolding calls items_in
  few_calls zero w = omega arith
  few_calls (suc f) w = few_behind f (few_calls f) (next_of s n look w).left (next_of s n look w).answer

  few_of : length (items_of s n look) ≤ suc (2 * length s)
  unfolding items_of items_from calls_from
  few_of =
      let few : length (items_from s n look (fresh_of s)) ≤ suc (weight (length s) (fresh_of s)) =
      few_calls (suc (weight (length s) (fresh_of s))) (fresh_of s) in
      let fresh : weight (length s) (fresh_of s) ≤ 2 * length s = fresh_weight s in
      omega arith

pub few_items : (f : File) → length (of_file items_of f) ≤ suc (2 * length f.base.bytes.now)
few_items f = few_of f.base.bytes.now f.base.number (record_of f.table.bytes.now)
