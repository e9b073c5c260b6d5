-- A list whose entries are none left is read to its end.
use Rattle.std.proofs.Common.{ℕ, ◌≡◌, List, [], refl, sym, ◌∙◌}
use Rattle.std.specs.Prelude.{Option}
use Rattle.fields.specs.Answer.{Answer, gives, ends, refuses}
use Rattle.fields.specs.declared.RecordNumber.{RecordNumber}
use Rattle.list.specs.Entry.{entry_of}
use Rattle.list.specs.declared.Entry.{Entry}
use Rattle.items.specs.State.{list_at, rest_of}
use Rattle.items.specs.Items.{entries_of}
use Rattle.items.proofs.Steps.{first_entry, bad_entry}
use Rattle.bound.specs.Replay.{no_list, Done}

module _ (s : List ℕ) (n : RecordNumber) (look : RecordNumber → Option (List ℕ)) where
  pub none_done : Done s n look no_list
  unfolding entry_of
  none_done = refl

  module _ (to from : ℕ) where
    by-none : (a : Answer Entry) → entry_of (rest_of s (list_at from to)) n from ≡ a → [] ≡ entries_of s n to from
        → a ≡ ends
    by-none (gives e) q i = let t = i ∙ first_entry s n (list_at from to) e (sym q) in absurd (cc)
    by-none ends q i = refl
    by-none (refuses r) q i = let t = i ∙ bad_entry s n (list_at from to) r (sym q) in absurd (cc)

    pub none_left : [] ≡ entries_of s n to from → Done s n look (list_at from to)
    none_left i = by-none _ refl i
