-- The calls of a listing, one behind the other: where the walk stands, what was reported and what was read after each
-- item.
use Rattle.std.proofs.Common.{ℕ, zero, suc, ◌≤◌, ◌<◌, ◌≡◌, List, [], ◌∷◌, ◌++◌, length, refl, sym, ap, subst}
use Rattle.std.proofs.Common.{◌∙◌, arith, length-append}
use mathlib.Core.Logic.{◌⊎◌, inl, inr, ⊎_elim}
use Rattle.std.specs.Prelude.{Option}
use Rattle.fields.specs.Answer.{Answer, gives, ends, refuses}
use Rattle.fields.specs.declared.RecordNumber.{RecordNumber}
use Rattle.record.specs.Header.{first_attribute}
use Rattle.record.proofs.Given.{of-step}
use Rattle.items.specs.Read.{Read, own, entry, sought, joined}
use Rattle.items.specs.State.{fresh_of}
use Rattle.items.specs.Items.{Left}
use Rattle.items.specs.Walked.{report_of}
use Rattle.items.specs.declared.walk.Item.{Item}
use Rattle.items.specs.declared.walk.State.{State}
use Rattle.bound.specs.Replay.{Heads, start, behind as on, Replay, onward, Keeps}
use Rattle.bound.specs.Listing.{own_of, called, reported, asked, Listed, fresh, item, Follow, Whole}
use Rattle.bound.proofs.Finished.{none_done}
use Rattle.bound.proofs.Replays as replays

pub split : (i k : ℕ) → i < suc k → (i < k) ⊎ (i ≡ k)
split zero zero h = inr refl
split zero (suc k) h = inl (omega arith)
split (suc i) zero h = absurd (omega arith)
split (suc i) (suc k) h = ⊎_elim (λ (l : i < k). inl (omega arith)) (λ (e : i ≡ k). inr (ap suc e))
    (split i k (omega arith))

pub order : (i j : ℕ) → ((i < j) ⊎ (j < i)) ⊎ (i ≡ j)
order zero zero = inr refl
order zero (suc j) = inl (inl (omega arith))
order (suc i) zero = inl (inr (omega arith))
order (suc i) (suc j) =
    ⊎_elim (⊎_elim (λ (h : i < j). inl (inl (omega arith))) (λ (h : j < i). inl (inr (omega arith))))
    (λ (e : i ≡ j). inr (ap suc e)) (order i j)

module _ (s : List ℕ) (n : RecordNumber) (look : RecordNumber → Option (List ℕ)) (room : ℕ → ℕ) where
  abbrev call : State → Left
  call w = called s n look room w

  abbrev Run : ℕ → ℕ → List Read → State → Type 0
  Run k c read w = Listed s n look room k c read w

  pub reports : (w : State) → reported s n look room w ≡ length (call w).reads
  unfolding report_of
  reports w = refl

  pub counted : {k c : ℕ} {read : List Read} {w : State} → Run k c read w → c ≡ length read
  counted fresh = refl
  counted (item k c read w i l e) =
      omega (
        arith,
        counted l,
        reports w,
        length-append (read ++ (call w).reads)
            (asked s n look room k i).reads,
        length-append read (call w).reads,
      )

  -- reading in turn
  pub record Turned (read : List Read) (w : State) : Type 0 where
    pub replay : Replay s n look (start s) read
    pub keeps : Keeps s n look (onward s n look (start s) read) w

  pub turned : {k c : ℕ} {read : List Read} {w : State} → Run k c read w → Turned read w
  unfolding fresh_of
  turned fresh = record { replay = tt; keeps = record { raw = refl; list = none_done s n look } }
  turned (item k c read w i l e) =
      let t = turned l in
      let ws = (call w).reads in
      let ps = (asked s n look room k i).reads in
      let h = onward s n look (start s) read in
      let u = replays.call-told s n look h w t.keeps in
      let v = onward s n look h ws in
      let b = subst (λ (a : Answer Item). replays.Begins s n look v a) e u.begin in
      let a = replays.asked-told s n look v (room k) i.rest b in
      let o = replays.onward-append s n look (start s) read ws in
      let q = replays.onward-append s n look (start s) (read ++ ws) ps
      ∙ ap (λ (y : Heads). onward s n look y ps) o ∙ a.same in
      record {
        replay = replays.replay-append s n look (start s) (read ++ ws) ps
            (replays.replay-append s n look (start s) read ws t.replay u.replay)
            (subst (λ (y : Heads). Replay s n look y ps) (sym o) a.replay);
        keeps = subst (λ (y : Heads). Keeps s n look y (call w).left) (sym q)
            (record { raw = u.keeps.raw; list = u.keeps.list });
      }

  -- with the call behind it
  pub turned-on : {k c : ℕ} {read : List Read} {w : State} → Run k c read w
      → Turned (read ++ (call w).reads) (call w).left
  turned-on {k} {c} {read} {w} l =
      let t = turned l in
      let u = replays.call-told s n look (onward s n look (start s) read) w t.keeps in
      let o = replays.onward-append s n look (start s) read (call w).reads in
      record {
        replay = replays.replay-append s n look (start s) read (call w).reads t.replay u.replay;
        keeps = subst (λ (y : Heads). Keeps s n look y (call w).left) (sym o) u.keeps;
      }

  pub follow : (rs : List Read) (h : Heads) → Replay s n look h rs
      → Follow s n look room h.raw (own_of rs) (onward s n look h rs).raw
  follow [] h r = refl
  follow (own a ∷ rs) h r = let g = of-step s n h.raw a r.0.1 in
      (r.0.1, g.least, g.most, follow rs (on s n look h (own a)) r.1)
  follow (entry x e ∷ rs) h r = follow rs (on s n look h (entry x e)) r.1
  follow (sought k a ∷ rs) h r = follow rs (on s n look h (sought k a)) r.1
  follow (joined p e ∷ rs) h r = follow rs (on s n look h (joined p e)) r.1

  pub follows : {k c : ℕ} {read : List Read} {w : State} → Run k c read w
      → Follow s n look room (first_attribute s) (own_of (read ++ (call w).reads)) (call w).left.raw
  follows {k} {c} {read} {w} l =
      let t = turned-on l in
      subst (Follow s n look room (first_attribute s) (own_of (read ++ (call w).reads))) t.keeps.raw
      (follow (read ++ (call w).reads) (start s) t.replay)

  -- where the walk stands before call k, whatever was read; and what was read and counted by then
  pub at : ℕ → State
  at zero = fresh_of s
  at (suc k) = (call (at k)).left

  pub stands : {k c : ℕ} {read : List Read} {w : State} → Run k c read w → w ≡ at k
  unfolding at
  stands fresh = refl
  stands (item k c read w i l e) = ap (λ (x : State). (call x).left) (stands l)

  pub reads_for : ℕ → Answer Item → List Read
  reads_for k (gives i) = (asked s n look room k i).reads
  reads_for k ends = []
  reads_for k (refuses r) = []

  pub reads_at : ℕ → List Read
  reads_at zero = []
  reads_at (suc k) = reads_at k ++ (call (at k)).reads ++ reads_for k (call (at k)).answer

  pub read_by : {k c : ℕ} {read : List Read} {w : State} → Run k c read w → read ≡ reads_at k
  unfolding reads_at reads_for
  read_by fresh = refl
  read_by (item k c read w i l e) =
      let q : (call w).reads ≡ (call (at k)).reads = ap (λ (x : State). (call x).reads) (stands l) in
      let r : (asked s n look room k i).reads ≡ reads_for k (call (at k)).answer = ap (reads_for k) (sym e)
      ∙ ap (λ (x : State). reads_for k (call x).answer) (stands l) in
      ap (λ (x : List Read). x ++ (call w).reads ++ (asked s n look room k i).reads) (read_by l)
      ∙ ap (λ (x : List Read). reads_at k ++ x ++ (asked s n look room k i).reads) q
      ∙ ap (λ (x : List Read). reads_at k ++ (call (at k)).reads ++ x) r

  -- a listing of more items had an item to go on with
  pub goes_on : {k c : ℕ} {read : List Read} {w : State} → Run k c read w → (i : ℕ) → i < k
      → (y : Item) × ((call (at i)).answer ≡ gives y)
  goes_on fresh i h = absurd (omega arith)
  goes_on (item k c read w y l e) i h =
      ⊎_elim (λ (m : i < k). goes_on l i m) (λ (m : i ≡ k). (
        y,
        ap (λ (x : State). (call x).answer)
            (ap at m ∙ sym (stands l)) ∙ e,
      )) (split i k h)

  -- and one that stops has as many as any that stops
  pub no_later : (w : Whole s n look room) {k c : ℕ} {read : List Read} {v : State} → Run k c read v → k ≤ w.items
  no_later w {k} l =
      ⊎_elim
      (⊎_elim (λ (h : w.items < k). let g = goes_on l w.items h in absurd
      (w.stops g.0 (ap (λ (x : State). (call x).answer) (stands w.listed) ∙ g.1)))
      (λ (h : k < w.items). omega arith))
      (λ (e : w.items ≡ k). omega arith)
      (order w.items k)
