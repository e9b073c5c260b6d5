-- A search reads no more attributes than fit in the base record.
use Rattle.std.proofs.Common.{ℕ, ◌*◌, ◌≤◌, ◌≡◌, List, length, eqb, refl, sym, subst, arith}
use Rattle.std.specs.Prelude.{Option, Some, None}
use Rattle.fields.specs.Pick.{pick}
use Rattle.fields.specs.Answer.{gives, refuses, refusal, Outcome}
use Rattle.fields.specs.declared.RecordNumber.{RecordNumber}
use Rattle.fields.proofs.Cases.{both}
use Rattle.fields.specs.declared.Refusal.{Refusal}
use Rattle.fields.specs.declared.Cause.TheVariants.{NoAttribute}
use Rattle.list.specs.declared.Entry.{Entry}
use Rattle.record.specs.Open.{Lent}
use Rattle.record.proofs.Searches.{few as few_in}
use Rattle.items.proofs.Opened.{opened_file}
use Rattle.items.specs.Lookup.{opened_as, held_by, lookup_of}
use Rattle.items.specs.Items.{found_in, sought_of}
use Rattle.bound.specs.Listing.{Sized}

module _ (s : List ℕ) (n : RecordNumber) (look : RecordNumber → Option (List ℕ)) (z : Sized s look) where
  opened-sized : (w : RecordNumber) (miss : Refusal) (o : Option (List ℕ))
      → ((b : List ℕ) → o ≡ Some b → length b ≤ length s) → (t : Lent) → opened_as w miss o ≡ gives t
      → length t.bytes ≤ length s
  unfolding opened_as
  opened-sized w miss None f t e = absurd (cc)
  opened-sized w miss (Some b) f t e =
      subst (λ (x : Lent). length x.bytes ≤ length s) (sym (opened_file b w t (sym e))) (f b refl)

  choice : (t : _) (o : Option (List ℕ)) → ((b : List ℕ) → o ≡ Some b → length b ≤ length s) → (b : List ℕ)
      → pick t (Some s) o ≡ Some b → length b ≤ length s
  choice t o f b e = both (λ (x : Option (List ℕ)). x ≡ Some b → length b ≤ length s) t (Some s) o
      (λ q. let g : s ≡ b = cc in subst (λ (x : List ℕ). length x ≤ length s) g (omega arith)) (f b) e

  pub lookup-sized : (w : RecordNumber) (place : ℕ) (t : Lent) → lookup_of s n look w place ≡ gives t
      → length t.bytes ≤ length s
  unfolding lookup_of held_by
  lookup-sized w place t e = opened-sized w _ _ (choice (eqb w.0 n.0) (look w) (z w)) t e

  few-found : (e : Entry) (place : ℕ) (a : Outcome Lent) → lookup_of s n look e.file place ≡ a
      → 16 * length (found_in s n look e place a).read ≤ length s
  unfolding found_in
  few-found e place (refuses r) q = omega arith
  few-found e place (gives t) q =
      let l = lookup-sized e.file place t q in
      let f = few_in t.bytes t.number t.number e.ty e.instance (refusal NoAttribute n place) in
      omega arith

  pub few : (e : Entry) (place : ℕ) → 16 * length (sought_of s n look e place).read ≤ length s
  unfolding sought_of
  few e place = few-found e place _ refl
