-- The first of a list's entries stands at its front, and the others are the entries from behind it.
use Rattle.std.proofs.Common.{ℕ, ◌+◌, ◌≤◌, ◌≡◌, List, ◌∷◌}
use Rattle.fields.specs.Answer.{gives, Outcome}
use Rattle.fields.specs.declared.RecordNumber.{RecordNumber}
use Rattle.list.specs.Entry.{entry_of}
use Rattle.list.specs.declared.Entry.{Entry}
use Rattle.list.proofs.Given as entries
use Rattle.record.proofs.Peel.{first}
use Rattle.items.specs.State.{list_at, rest_of}
use Rattle.items.specs.Items.{entries_of}
use Rattle.items.proofs.Steps.{entry_moves}

module _ (s : List ℕ) (n : RecordNumber) where
  pub record Listed (to at : ℕ) (e : Entry) (es : List (Outcome Entry)) : Type 0 where
    pub stands : entry_of (rest_of s (list_at at to)) n at ≡ gives e
    pub tail : es ≡ entries_of s n to (at + e.length)
    pub least : 26 ≤ e.length
    pub most : at + e.length ≤ to

  pub peel : (to at : ℕ) (e : Entry) (es : List (Outcome Entry)) → gives e ∷ es ≡ entries_of s n to at
      → Listed to at e es
  unfolding entries_of
  peel to at e es q =
      let f = first (λ at. entry_of (rest_of s (list_at at to)) n at) (λ e. e.length) to
      (entry_moves s n to) at e es q in
      let k = entry_moves s n to at e f.stands in
      record {
        stands = f.stands;
        tail = f.tail;
        least = (entries.given
            (rest_of s (list_at at to)) n at e f.stands).least;
        most = k.most;
      }
