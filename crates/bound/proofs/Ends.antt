-- A listing comes to its end: each item lowers the weight of the walk's state. And there is but one.
use Rattle.std.proofs.Common.{ℕ, zero, suc, ◌+◌, ◌≤◌, ◌<◌, ◌≡◌, List, [], length, refl, sym, ap, ◌∙◌, arith}
use Rattle.std.specs.Prelude.{Option}
use Rattle.fields.specs.Answer.{Answer, gives, ends, refuses}
use Rattle.fields.specs.declared.RecordNumber.{RecordNumber}
use Rattle.items.specs.Read.{Read}
use Rattle.items.specs.State.{fresh_of, weight}
use Rattle.items.specs.declared.walk.Item.{Item}
use Rattle.items.specs.declared.walk.State.{State}
use Rattle.bound.specs.Listing.{called, Listed, fresh, item, Whole}
use Rattle.bound.specs.Ends.{Same, Ends}
use Rattle.items.proofs.Falls.{falls}
use Rattle.bound.proofs.Runs.{counted, stands, read_by, no_later}

module _ (s : List ℕ) (n : RecordNumber) (look : RecordNumber → Option (List ℕ)) (room : ℕ → ℕ) where
  -- a listing that stops is a whole one
  abbrev pub stopping : (k c : ℕ) (read : List Read) (w : State) → Listed s n look room k c read w
      → ((i : Item) → (called s n look room w).answer ≡ gives i → ⊥) → Whole s n look room
  stopping k c read w l stop = record {
    items = k;
    count = c;
    read = read;
    last = w;
    listed = l;
    stops = stop;
  }

  record Soon : Type 0 where
    whole : Whole s n look room
    soon : whole.items ≤ weight (length s) (fresh_of s)

  abbrev Light : ℕ → State → Type 0
  Light k w = k + weight (length s) w ≤ weight (length s) (fresh_of s)

  to-next : (fuel k c : ℕ) (read : List Read) (w : State) → Listed s n look room k c read w
      → weight (length s) w ≤ fuel → Light k w
      → ((k c : ℕ) (read : List Read) (v : State) → Listed s n look room k c read v → weight (length s) v < fuel
      → Light k v → Soon)
      → (a : Answer Item) → (called s n look room w).answer ≡ a → Soon
  to-next fuel k c read w l h y on (gives i) e =
      let g = falls s n look w i e in on (suc k) _ _ (called s n look room w).left (item k c read w i l e)
      (omega arith) (omega arith)
  to-next fuel k c read w l h y on ends e =
      record { whole = stopping k c read w l (λ i q. let d = sym e ∙ q in absurd (cc)); soon = omega arith }
  to-next fuel k c read w l h y on (refuses r) e =
      record { whole = stopping k c read w l (λ i q. let d = sym e ∙ q in absurd (cc)); soon = omega arith }

  to-end : (fuel k c : ℕ) (read : List Read) (w : State) → Listed s n look room k c read w
      → weight (length s) w ≤ fuel → Light k w → Soon
  to-end zero k c read w l h y = to-next 0 k c read w l h y (λ k c read v m o. absurd (omega arith))
      (called s n look room w).answer refl
  to-end (suc fuel) k c read w l h y =
      to-next (suc fuel) k c read w l h y (λ k c read v m o y. to-end fuel k c read v m (omega arith) y)
      (called s n look room w).answer refl

  soon_ends : Soon
  soon_ends = to-end (weight (length s) (fresh_of s)) 0 0 [] (fresh_of s) fresh (omega arith) (omega arith)

  same-read : (k c d : ℕ) (read other : List Read) (w v : State) → Listed s n look room k c read w
      → Listed s n look room k d other v → read ≡ other
  same-read k c d read other w v l m = read_by s n look room l ∙ sym (read_by s n look room m)

  pub same : (k c d : ℕ) (read other : List Read) (w v : State) → Listed s n look room k c read w
      → Listed s n look room k d other v
      → Same s n look room c d read other w v
  same k c d read other w v l m = record {
    counts = counted s n look room l ∙ ap (λ (x : List Read). length x) (same-read k c d read other w v l m)
        ∙ sym (counted s n look room m);
    reads = same-read k c d read other w v l m;
    states = stands s n look room l ∙ sym (stands s n look room m);
  }

  pub one : (v w : Whole s n look room) → v.items ≡ w.items
  one v w = let a = no_later s n look room w v.listed in let b = no_later s n look room v w.listed in omega arith

  pub ends_so : Ends s n look room
  ends_so =
      let u = soon_ends in
      record {
        whole = u.whole;
        soon = u.soon;
        same = same;
        no_more = λ k c read w l. no_later s n look room u.whole l;
        one = λ v. one v u.whole;
      }

  pub whole : Whole s n look room
  whole = ends_so.whole
