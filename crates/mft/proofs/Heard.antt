-- What is told by a table that was made ready is told by every lookup that has what was fetched.
use Rattle.std.specs.Prelude.{ℕ, ◌≡◌, ◌⊎◌, List, take, true, Option}
use Rattle.std.specs.Io.KnownBytes.{Appends}
use Rattle.std.proofs.Common.{refl, sym, ap, subst, ◌∙◌, inl, inr, ⊎_elim}
use Rattle.fields.specs.Answer.{refuses}
use Rattle.fields.specs.declared.RecordNumber.{RecordNumber}
use Rattle.fields.specs.declared.Refusal.{Refusal}
use Rattle.record.specs.Open.{open_of, open_in}
use Rattle.lines.specs.Went.{StopsWithin}
use Rattle.report.specs.Ending.{ending_of}
use Rattle.agreement.specs.Door.{listing_by, opened_by}
use Rattle.filename.specs.declared.find.Found.{Found}
use Rattle.extract.specs.Size.{good_size}
use Rattle.extract.specs.Laws.{TablesPass, RecordsAreFound, OthersAreNot, BasesAreTold, PairsAreReplaced}
use Rattle.references.specs.Laws.{SortedRise, SortedAreTheSame}
use Rattle.command.specs.Read.{IsUnread}
use Rattle.mft.specs.Listing.{lines_by, hazards_by, text_by, Tells, Skips}
use Rattle.mft.specs.Base.{OfBase, ListsBase, FailsBase}
use Rattle.mft.specs.Seek.{found_in}
use Rattle.mft.specs.Sought.{IsKnown}
use Rattle.mft.specs.Ready.{IsReadyOf, IsReady}
use Rattle.mft.specs.Gather.{Fetched}
use Rattle.mft.specs.Told.{ListsBy, Lists, FailsBy, Fails, ByFetched, heard_of}
use Rattle.mft.specs.declared.layout.Layout.{Layout}
use Rattle.mft.specs.declared.listing.Heard.{Heard}
use Rattle.mft.specs.declared.manner.Manner.{Manner}
use Rattle.mft.specs.declared.ready.Ready.{Ready}
use Rattle.mft.specs.declared.told.Told.{Told}
use Rattle.mft.proofs.Absences.{size_above_0}
use Rattle.mft.proofs.Rows.{by_fetched, opens_in}

-- a record that is refused is told alike by every lookup
module _ (size : ℕ) (b : List ℕ) (n : RecordNumber) (e : Refusal) (is : open_in b n size ≡ refuses e)
    (look peek : RecordNumber → Option (List ℕ)) where
  lines_blind : lines_by size b n look ≡ lines_by size b n peek
  unfolding listing_by opened_by
  lines_blind = rw is refl

  text_blind : (m : Manner) → text_by size b n look m ≡ text_by size b n peek m
  unfolding listing_by opened_by
  text_blind m = rw is refl

  hazards_blind : hazards_by size b n look ≡ hazards_by size b n peek
  hazards_blind = rw is refl

  tells_blind : (m : Manner) (old new : Option (List ℕ)) (heard : Heard) → Tells size b n look m old new heard
      → Tells size b n peek m old new heard
  tells_blind m old new heard (wrote, hazards, (t, (f, ends, why))) = (
    subst (Appends old new) (text_blind m) wrote,
    hazards ∙ hazards_blind,
    (t, (f, ap ending_of (sym lines_blind) ∙ ends, why)),
  )

module _ (pass : TablesPass) (found : RecordsAreFound) (others : OthersAreNot) (bases : BasesAreTold)
    (rise : SortedRise) (same : SortedAreTheSame) (replaced : PairsAreReplaced) {R : Type 0} (stands : R → Option ℕ)
    (left : R → Option (List ℕ)) (l : Layout) (good : good_size l.size ≡ true) (n : RecordNumber) (own t : List ℕ)
    (y : Ready) (u : List ℕ) (at : u ≡ t) where
  module _ (b : List ℕ) (fs : List Fetched) (of : IsReadyOf stands left l n own t y b fs) where
    opens : open_in b n l.size ≡ open_of b n
    opens = opens_in same stands left l n own b fs of.0 replaced

    -- what holds by each lookup that agrees with the table
    pub by_ready : (P : ℕ → List ℕ → (RecordNumber → Option (List ℕ)) → Type 0)
        → ((e : Refusal) → open_in b n l.size ≡ refuses e → (look peek : RecordNumber → Option (List ℕ))
        → P l.size b look → P l.size b peek)
        → OfBase (take y.length u) n P → ByFetched fs (P l.size b)
    by_ready P blind p =
        by_fetched pass found others bases rise same stands left l n own b fs of.0 (size_above_0 l.size good) of.2.0
        (take y.length t) of.2.1 P (λ e refused. blind e (opens ∙ refused))
        (subst (λ (x : List ℕ). OfBase (take y.length x) n P) at p)

    -- a name that is sought in the table
    pub finds_ready : (name : List ℕ) (known : Found) → IsKnown (take y.length u) n name known
        → ByFetched fs (λ peek. found_in peek name (open_of b n) ≡ known)
    finds_ready name known p peek has =
        ap (found_in peek name) (sym opens)
        ∙ by_ready (λ size c look. found_in look name (open_in c n size) ≡ known)
        (λ e refused look other is. ap (found_in other name) refused ∙ ap (found_in look name) (sym refused) ∙ is)
        p peek has

    module _ (m : Manner) (old new : Option (List ℕ)) where
      pub lists_ready : (heard : Heard) (told : Told) → ListsBase m n (take y.length u) old new heard
          → told.lost ≡ y.lost → heard_of told ≡ heard → ListsBy stands left l n m old new told b fs
      lists_ready heard told lists lost is = (
        ap (λ v. v.items) lost ∙ of.1,
        subst
            (λ (h : Heard). Skips IsUnread old new h
            ⊎ ByFetched fs (λ (peek : RecordNumber → Option (List ℕ)). Tells l.size b n peek m old new h))
            (sym is)
            (⊎_elim inl
            (λ p. inr (by_ready (λ size c peek. Tells size c n peek m old new heard)
            (λ e refused look peek. tells_blind l.size b n e refused look peek m old new heard) p)) lists),
      )

      pub fails_ready : FailsBase m n (take y.length u) old new → FailsBy stands left l n m old new b fs
      fails_ready =
          by_ready (λ size c peek. StopsWithin old new (text_by size c n peek m))
          (λ e refused look peek stops.
          subst (StopsWithin old new) (text_blind l.size b n e refused look peek m) stops)

  pub fails_all : (m : Manner) (old new : Option (List ℕ)) → FailsBase m n (take y.length u) old new
      → (b : List ℕ) (fs : List Fetched) → IsReadyOf stands left l n own t y b fs
      → FailsBy stands left l n m old new b fs
  fails_all m old new fails b fs of = fails_ready b fs of m old new fails

-- by a record that was made ready
module _ {R : Type 0} (stands : R → Option ℕ) (left : R → Option (List ℕ)) (n : RecordNumber) (own t : List ℕ)
    (y : Ready)
    (m : Manner) (old new : Option (List ℕ)) (l k : Layout) (same : k ≡ l)
    (ready : IsReady stands left l n own t y) where
  pub lists_as : (told : Told) → ((b : List ℕ) (fs : List Fetched) → IsReadyOf stands left k n own t y b fs
      → ListsBy stands left k n m old new told b fs) → Lists stands left l n m own old new told
  lists_as told f =
      let (fits, readied) = ready in
      let (b, fetched) = readied in
      let (fs, of) = fetched in
      let now = subst (λ (j : Layout). IsReadyOf stands left j n own t y b fs) (sym same) of in
      (b, (fs, of.0, subst (λ (j : Layout). ListsBy stands left j n m old new told b fs) same (f b fs now)))

  pub fails_as : ((b : List ℕ) (fs : List Fetched) → IsReadyOf stands left k n own t y b fs
      → FailsBy stands left k n m old new b fs) → Fails stands left l n m own old new
  fails_as f =
      let (fits, readied) = ready in
      let (b, fetched) = readied in
      let (fs, of) = fetched in
      let now = subst (λ (j : Layout). IsReadyOf stands left j n own t y b fs) (sym same) of in
      (b, (fs, of.0, subst (λ (j : Layout). FailsBy stands left j n m old new b fs) same (f b fs now)))
