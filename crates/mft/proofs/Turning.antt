-- What becomes of the next record, from what is made ready of it and sought in it.
use Rattle.std.specs.Prelude.{ℕ, ◌≡◌, List, [], ◌++◌, length, take, drop, Bool, true, false, Option, Some, None}
use Rattle.std.proofs.Common.{sym, ap, subst, ◌∙◌, inr}
use Rattle.std.proofs.KnownBytes.{Keeps-refl}
use Rattle.std.proofs.lemmas.List.{take_at}
use Rattle.fields.specs.declared.RecordNumber.{RecordNumber}
use Rattle.fields.specs.declared.Refusal.{Refusal}
use Rattle.extract.specs.Size.{good_size}
use Rattle.extract.specs.Laws.{TablesPass, RecordsAreFound, OthersAreNot, BasesAreTold, PairsAreReplaced}
use Rattle.references.specs.Laws.{SortedRise, SortedAreTheSame}
use Rattle.filename.specs.declared.find.Found.TheVariants.{Yes, Unknown}
use Rattle.command.specs.declared.reason.Reason.{Reason}
use Rattle.command.specs.declared.reason.Reason.TheVariants.{Unsearched}
use Rattle.mft.specs.Gather.{Fetched}
use Rattle.mft.specs.Ready.{IsReadyOf, IsReady}
use Rattle.mft.specs.Next.{Reads}
use Rattle.mft.specs.Kind.{Kind, kind_of}
use Rattle.mft.specs.Sole.{Sifts}
use Rattle.mft.specs.Sought.{answer, IsSought, IsUnsought}
use Rattle.mft.specs.Told.{ListsBy, FailsBy}
use Rattle.mft.specs.Turn.{Finds, PassesBase, TellsBase, FailsFound, TurnsBase, IsBaseInUse, IsNext, Turns, FailsNext}
use Rattle.mft.specs.declared.layout.Layout.{Layout}
use Rattle.mft.specs.declared.manner.Manner.{Manner}
use Rattle.mft.specs.declared.ready.Ready.{Ready}
use Rattle.mft.specs.declared.sole.Sole.{Sole}
use Rattle.mft.specs.declared.told.Told.{Told}
use Rattle.mft.specs.declared.turn.Turn.{Turn}
use Rattle.mft.specs.declared.turn.Turn.TheVariants as turn
use Rattle.mft.proofs.Heard.{finds_ready}

module _ (pass : TablesPass) (found : RecordsAreFound) (others : OthersAreNot) (bases : BasesAreTold)
    (rise : SortedRise) (same : SortedAreTheSame) (replaced : PairsAreReplaced) {R : Type 0} (stands : R → Option ℕ)
    (left : R → Option (List ℕ)) (l : Layout) (good : good_size l.size ≡ true) (n : RecordNumber) (own t : List ℕ)
    (y : Ready) (m : Manner) (w : Option (List ℕ)) (u : List ℕ) (at : u ≡ t) where
  module _ (b : List ℕ) (fs : List Fetched) (of : IsReadyOf stands left l n own t y b fs) where
    sought : (v : Option (List ℕ)) (is : Bool) → IsSought n (take y.length u) v is
        → Finds stands left l m w n b fs v (answer is)
    sought None is p = ap answer p
    sought (Some name) is p =
        finds_ready pass found others bases rise same replaced stands left l good n own t y u at b fs of name
        (answer is) p

    unsought : (v : Option (List ℕ)) (r : Reason) → IsUnsought n (take y.length u) v r
        → (e : Refusal) × (r ≡ Unsearched n e.cause) × Finds stands left l m w n b fs v (Unknown e)
    unsought None r p = absurd p
    unsought (Some name) r (e, is, p) = (
      e,
      is,
      finds_ready pass found others bases rise same replaced stands left l good n own t y u at b fs of name
          (Unknown e) p,
    )

  module _ (ready : IsReady stands left l n own t y) (old new : Option (List ℕ)) where
    pub passes_wanted : (is : Bool) → is ≡ false → IsSought n (take y.length u) w is
        → PassesBase stands left l m w n own
    passes_wanted is not_so p =
        let (fits, readied) = ready in
        let (b, fetched) = readied in
        let (fs, of) = fetched in
        (b, (fs, of.0, sought b fs of w false (subst (IsSought n (take y.length u) w) not_so p)))

    pub skips_wanted : (told : Told) → told.lost ≡ y.lost → told.hazards.items ≡ [] → (r : Reason)
        → told.reason ≡ Some r → IsUnsought n (take y.length u) w r → TellsBase stands left l m w n own old old told
    skips_wanted told lost hazards r why p =
        let (fits, readied) = ready in
        let (b, fetched) = readied in
        let (fs, of) = fetched in
        let (e, is, known) = unsought b fs of w r p in
        inr (
          b,
          (fs, of.0, (Unknown e, known, (ap (λ v. v.items) lost ∙ of.1, (Keeps-refl old, hazards, (r, why, is))))),
        )

    module _ (k : Layout) (alike : k ≡ l) (own' : List ℕ) (still : own' ≡ own) (is : Bool) (yes : is ≡ true)
        (p : IsSought n (take y.length u) w is) where
      now : (b : List ℕ) (fs : List Fetched) → IsReadyOf stands left l n own t y b fs
          → IsReadyOf stands left k n own' t y b fs
      now b fs of =
          subst (λ (j : Layout). IsReadyOf stands left j n own' t y b fs) (sym alike)
          (subst (λ (x : List ℕ). IsReadyOf stands left l n x t y b fs) (sym still) of)

      pub lists_wanted : (told : Told) → ((b : List ℕ) (fs : List Fetched)
          → IsReadyOf stands left k n own' t y b fs → ListsBy stands left k n m old new told b fs)
          → TellsBase stands left l m w n own old new told
      lists_wanted told f =
          let (fits, readied) = ready in
          let (b, fetched) = readied in
          let (fs, of) = fetched in
          inr (
            b,
            (
              fs,
              of.0,
              (
                Yes,
                sought b fs of w true (subst (IsSought n (take y.length u) w) yes p),
                subst (λ (j : Layout). ListsBy stands left j n m old new told b fs) alike (f b fs (now b fs of)),
              ),
            ),
          )

      pub fails_wanted : ((b : List ℕ) (fs : List Fetched) → IsReadyOf stands left k n own' t y b fs
          → FailsBy stands left k n m old new b fs) → FailsFound stands left l m w n own old new
      fails_wanted f =
          let (fits, readied) = ready in
          let (b, fetched) = readied in
          let (fs, of) = fetched in (
            b,
            (
              fs,
              of.0,
              sought b fs of w true (subst (IsSought n (take y.length u) w) yes p),
              subst (λ (j : Layout). FailsBy stands left j n m old new b fs) alike (f b fs (now b fs of)),
            ),
          )

-- what is written back into a buffer that it fills is all of it
pub refilled : (k : ℕ) (new old : List ℕ) → length new ≡ k → take k (new ++ drop (length new) old) ≡ new
refilled k new old long = take_at new (drop (length new) old) k long

-- of what was read, and sifted
pub read_as : (before after : Option (List ℕ)) (n next : RecordNumber) (room : List ℕ) (found : Option RecordNumber)
    (k : RecordNumber) → found ≡ Some k → Reads before after n next room found
    → Reads before after n next room (Some k)
read_as before after n next room found k is p = subst (Reads before after n next room) is p

pub sifted_as : (own : List ℕ) (n : RecordNumber) (m : ℕ) (t : List ℕ) (found s : Option Sole) → found ≡ s
    → Sifts own n m t found → Sifts own n m t s
sifted_as own n m t found s is p = subst (Sifts own n m t) is p

pub kind_as : (own own' : List ℕ) → own ≡ own' → (n k : RecordNumber) → n ≡ k → (kind : Kind) → kind_of own n ≡ kind
    → kind_of own' k ≡ kind
kind_as own own' o n k e kind is = ap (kind_of own') (sym e) ∙ ap (λ (x : List ℕ). kind_of x n) (sym o) ∙ is

module _ {R : Type 0} (stands : R → Option ℕ) (left : R → Option (List ℕ)) (l : Layout) (m : Manner)
    (w : Option (List ℕ)) (n : RecordNumber) (before after : Option (List ℕ)) (next : RecordNumber) (own : List ℕ)
    (is : IsNext stands left l m w n before after next own) (base : IsBaseInUse stands left l m w n own)
    (old new : Option (List ℕ)) where
  turns : (t : Turn) → TurnsBase stands left l m w n own old new t
      → Turns stands left l m w n before after next old new t
  turns turn.End p = absurd p
  turns (turn.Ended r) p = absurd p
  turns turn.Passed p = (own, is, inr (base, p))
  turns (turn.Told t) p = (own, is, inr (base, p))

  -- the same of what the code has
  module _ (k : RecordNumber) (named : k ≡ n) (own' : List ℕ) (still : own' ≡ own) where
    pub turns_by : (t : Turn) → TurnsBase stands left l m w k own' old new t
        → Turns stands left l m w n before after next old new t
    turns_by t p =
        turns t
        (subst (λ (j : RecordNumber). TurnsBase stands left l m w j own old new t) named
        (subst (λ (x : List ℕ). TurnsBase stands left l m w k x old new t) still p))

    pub fails_by : FailsFound stands left l m w k own' old new
        → FailsNext stands left l m w n before after next old new
    fails_by p = (
      own,
      is,
      base,
      subst (λ (j : RecordNumber). FailsFound stands left l m w j own old new) named
          (subst (λ (x : List ℕ). FailsFound stands left l m w k x old new) still p),
    )
