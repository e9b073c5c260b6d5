-- The theorem: what a listing reads is paid, and the entries that give parts come one behind the other.
use Rattle.std.proofs.Common.{ℕ, zero, suc, ◌+◌, ◌≤◌, ◌<◌, ◌≡◌, List, [], ◌∷◌, ◌++◌, map, length, refl}
use Rattle.std.proofs.Common.{sym, ap, subst, ◌∙◌, arith, length-append, append_assoc}
use mathlib.Core.Logic.{inr, ⊎_elim}
use native.Mathlib.Nat.{le_refl}
use Rattle.std.specs.Prelude.{Option, Some, None, slice_index_or}
use Rattle.std.specs.List.{AllByRecursion, Contains}
use Rattle.fields.specs.Answer.{Answer, gives, ends, refuses}
use Rattle.fields.specs.declared.RecordNumber.{RecordNumber}
use Rattle.items.specs.Read.{Read, Spot, spot}
use Rattle.items.specs.State.{fresh_of}
use Rattle.items.specs.Items.{Left}
use Rattle.items.specs.declared.walk.Rest.{Rest}
use Rattle.items.specs.declared.walk.Item.{Item}
use Rattle.items.specs.declared.walk.State.{State}
use Rattle.parts.specs.Parts.{Given}
use Rattle.bound.specs.Listing.{most, called, asked, Listed, fresh, item, Sized, ReadSo, PartBy}
use Rattle.bound.specs.Listing.{Gave as By, Whole, Demanded}
use Rattle.bound.proofs.Value.{val-fresh}
use Rattle.bound.proofs.Before.{Before, before-trans, behind, not_behind}
use Rattle.bound.proofs.Stretch.{Within}
use Rattle.bound.proofs.Pays.{shut, worth, reached, Gave, Answered, call-good}
use Rattle.bound.proofs.Runs.{split, order, reports, counted, turned-on, follows, at, stands}
use Rattle.bound.proofs.Leads.{LedBy, asked-led}
use Rattle.bound.proofs.Begun.{begun, came}

-- a part stands between the two places
contained : (gs : List Given) (k x lo hi : ℕ) → Within lo hi gs → k < length (map (λ (g : Given). g.place) gs)
    → slice_index_or (map (λ (g : Given). g.place) gs) k x ≡ x → (lo ≤ x) × (x + 26 ≤ hi)
contained [] k x lo hi w h e = absurd (omega arith)
contained (g ∷ gs) zero x lo hi w h e = (omega (arith, w.0), omega (arith, w.1))
contained (g ∷ gs) (suc k) x lo hi w h e = contained gs k x lo hi w.2 (omega arith) e

module _ (s : List ℕ) (n : RecordNumber) (look : RecordNumber → Option (List ℕ)) (room : ℕ → ℕ)
    (z : Sized s look) where
  abbrev call : State → Left
  call w = called s n look room w

  -- what an item's call gave
  the-item : (k : ℕ) (c : ℕ) (lo : Spot) (i : Item) (l : Left) → l.answer ≡ gives i
      → Answered s n look z (room k) c lo (length l.reads) l.answer l.left
      → Gave s n look z (room k) c lo (length l.reads) i l.left
  the-item k c lo i l e a = subst (λ (x : Answer Item). Answered s n look z (room k) c lo (length l.reads) x l.left) e
      a

  gave : (k : ℕ) (w : State) (i : Item) → (call w).answer ≡ gives i
      → Gave s n look z (room k) (worth s n w) (reached s n w) (length (call w).reads) i (call w).left
  gave k w i e = the-item k (worth s n w) (reached s n w) i (call w) e
      (call-good s n look z (room k) w (reached s n w) (inr (refl, le_refl _)))

  few-by : (c k : ℕ) (lo : Spot) (a : Answer Item) (w : State) → Answered s n look z (room 0) c lo k a w → k ≤ c
  few-by c k lo (gives i) w g = omega (arith, g.paid)
  few-by c k lo ends w g = g
  few-by c k lo (refuses r) w g = g

  few : (w : State) → length (call w).reads ≤ worth s n w
  few w = few-by (worth s n w) (length (call w).reads) (reached s n w) (call w).answer (call w).left
      (call-good s n look z (room 0) w (reached s n w) (inr (refl, le_refl _)))

  fresh-worth : worth s n (fresh_of s) ≤ most (length s)
  unfolding worth fresh_of shut
  fresh-worth = val-fresh (length s) _ _ _ (omega arith) (omega arith) (omega arith)

  paid : {k c : ℕ} {read : List Read} {w : State} → Listed s n look room k c read w
      → c + worth s n w ≤ most (length s)
  paid fresh = omega (arith, fresh-worth)
  paid (item k c read w i l e) = omega (arith, paid l, (gave k w i e).paid, reports s n look room w)

  pub reads : (k c : ℕ) (read : List Read) (w : State) → Listed s n look room k c read w
      → ReadSo s n look room c read w
  reads k c read w l = record {
    bound = omega (arith, paid l, few w, reports s n look room w);
    count = omega (arith, counted s n look room l, reports s n look room w, length-append read (call w).reads);
    once = (turned-on s n look room l).replay;
    stands = (turned-on s n look room l).keeps;
    follow = follows s n look room l;
  }

  -- the entries that give an item's parts come behind those of earlier items, and before where its call left off
  record Placed (x : Spot) (w : State) : Type 0 where
    after : Before (reached s n w) x
    before : Before (behind x) (reached s n (call w).left)

  placed : (k : ℕ) (x : Spot) (p : PartBy s n look room k x) → Placed x p.from
  placed k x p =
      let g = gave k p.from p.item_of p.given in
      let c = contained (asked s n look room k p.item_of).given p.place.0 x.place g.begin g.end g.within p.place.1
      p.place.2 in
      let v = (call p.from).left in
      record {
        after = before-trans (reached s n p.from) (spot v.raw g.begin) x g.rises (inr (sym p.list, c.0));
        before = before-trans (behind x) (spot v.raw g.end) (reached s n v) (inr (p.list, c.1)) g.ends;
      }

  past : {k c : ℕ} {read : List Read} {w : State} → Listed s n look room k c read w → (i : ℕ) (x : Spot) → i < k
      → PartBy s n look room i x → Before (behind x) (reached s n w)
  past fresh i x h p = absurd (omega arith)
  past (item k c read w y l e) i x h p =
      let g = gave k w y e in
      let v = (call w).left in
      ⊎_elim
      (λ (m : i < k). before-trans (behind x) (reached s n w) (reached s n v) (past l i x m p)
      (before-trans (reached s n w) (spot v.raw g.begin) (reached s n v) g.rises
      (before-trans (spot v.raw g.begin) (spot v.raw g.end) (reached s n v) (inr (refl, g.order)) g.ends)))
      (λ (m : i ≡ k). let same : p.from ≡ w = stands s n look room p.listed ∙ ap (at s n look room) m
      ∙ sym (stands s n look room l) in
      subst (λ (u : State). Before (behind x) (reached s n (call u).left)) same (placed i x p).before)
      (split i k h)

  apart-by : (i j : ℕ) (x : Spot) → PartBy s n look room i x → PartBy s n look room j x → i < j → ⊥
  apart-by i j x p q h = not_behind x (before-trans (behind x) (reached s n q.from) x (past q.listed i x h p)
      (placed j x q).after)

  apart : (i j : ℕ) (x : Spot) → PartBy s n look room i x → PartBy s n look room j x → i ≡ j
  apart i j x p q = ⊎_elim (⊎_elim (λ (h : i < j). absurd (apart-by i j x p q h))
      (λ (h : j < i). absurd (apart-by j i x q p h))) (λ (e : i ≡ j). e) (order i j)

  -- an element's place is among the places
  there : (gs : List Given) (g : Given) (pre : List Given) (all : List Given) → pre ++ (g ∷ gs) ≡ all
      → Contains (map (λ (g : Given). g.place) all) g.place
  there gs g pre all e = subst (λ (xs : List Given). Contains (map (λ (g : Given). g.place) xs) g.place) e
      (length pre, at-place pre, is-place pre)
    where
      at-place : (pre : List Given) → length pre < length (map (λ (g : Given). g.place) (pre ++ (g ∷ gs)))
      at-place [] = omega arith
      at-place (p ∷ pre) = omega (arith, at-place pre)

      is-place : (pre : List Given) → slice_index_or (map (λ (g : Given). g.place) (pre ++ (g ∷ gs)))
          (length pre) g.place ≡ g.place
      is-place [] = refl
      is-place (p ∷ pre) = is-place pre

  gives_parts : (k c : ℕ) (read : List Read) (w : State) (i : Item) → Listed s n look room k c read w
      → (call w).answer ≡ gives i
      → (o : Option Rest) → i.rest ≡ o → (pre gs : List Given) → pre ++ gs ≡ (asked s n look room k i).given
      → LedBy s n look o (asked s n look room k i).reads gs → AllByRecursion (By s n look room k w i) gs
  gives_parts k c read w i l e None q pre gs m led = subst (AllByRecursion (By s n look room k w i)) (sym led) tt
  gives_parts k c read w i l e (Some r) q pre [] m led = tt
  gives_parts k c read w i l e (Some r) q pre (g ∷ gs) m led = (
    record {
      list = r;
      of = q;
      begun = begun s n look w i e r q;
      by_entry = led.0;
      part_by = record {
        count = c;
        read = read;
        from = w;
        listed = l;
        item_of = i;
        given = e;
        list = refl;
        place = there gs g pre (asked s n look room k i).given m;
      };
    },
    gives_parts k c read w i l e (Some r) q (pre ++ (g ∷ [])) gs (append_assoc pre (g ∷ []) gs ∙ m) led.1,
  )

  pub all : Whole s n look room → Demanded s n look room
  all w = record {
    reads = reads;
    answers = λ k c read w l. came s n look w;
    gave = λ k c read w i l e. gives_parts k c read w i l e i.rest refl [] (asked s n look room k i).given refl
        (asked-led s n look (room k) i.rest);
    apart = apart;
    whole = w;
  }
