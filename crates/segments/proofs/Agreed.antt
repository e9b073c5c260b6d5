-- Lookups that agree on what the lists refer to give the same hazards.
use Rattle.std.proofs.Common.{ℕ, ◌+◌, ◌≡◌, List, [], ◌∷◌, ◌++◌, map, refl, sym, ap, ◌∙◌, subst}
use Rattle.std.specs.Prelude.{Option, flat_map}
use Rattle.std.specs.List.{AllByRecursion}
use Rattle.std.proofs.lemmas.List.Concat.{flat_map-cons}
use Rattle.std.proofs.lemmas.List.Elements.{recursion_from_All}
use Rattle.fields.specs.Le.{le}
use Rattle.fields.specs.Answer.{Outcome, gives, refuses}
use Rattle.fields.specs.declared.RecordNumber.{RecordNumber}
use Rattle.references.specs.References.{references_of}
use Rattle.agreement.proofs.Names.{Alike, Named, asked, all_named}
use Rattle.agreement.proofs.Walks.{looked}
use Rattle.segments.specs.Base.{base_reference_of, is_zero}
use Rattle.segments.specs.Placed.{Placed, all_placed}
use Rattle.segments.specs.Hazards.{record_hazards, sequence_hazards, entry_hazards, entries_hazards, listed_hazards}
use Rattle.segments.specs.Hazards.{found_hazards, number_hazards, referred_hazards, hazards_of}
use Rattle.segments.specs.Laws.{unplaced, HazardsAgree}
use Rattle.segments.specs.declared.find.Hazard.{Hazard}
use Rattle.segments.proofs.Places.{entries_are_placed}

module _ (s : List ℕ) (n : RecordNumber) (look peek : RecordNumber → Option (List ℕ)) where
  entry_same : (p : Placed) → Alike s n look peek p.entry.file → entry_hazards s n look p ≡ entry_hazards s n peek p
  unfolding entry_hazards
  entry_same p h =
      ap (sequence_hazards p (le 2 s (p.place + 22))) (looked s n look peek p.entry.file p.place h)

  entries_same : (ps : List (Outcome Placed)) → Named s n look peek (map unplaced ps)
      → entries_hazards s n look ps ≡ entries_hazards s n peek ps
  unfolding entries_hazards
  entries_same [] h = refl
  entries_same (refuses r ∷ ps) h = refl
  entries_same (gives p ∷ ps) h =
      ap (λ (hs : List Hazard). hs ++ entries_hazards s n look ps) (entry_same p h.0)
      ∙ ap (λ (hs : List Hazard). entry_hazards s n peek p ++ hs) (entries_same ps h.1)

  number_same : (m : RecordNumber) → look m ≡ peek m → number_hazards s n look m ≡ number_hazards s n peek m
  unfolding number_hazards
  number_same m e =
      ap (found_hazards s n) (looked s n look peek m 0 (asked s n look peek m e))

  numbers_same : (ms : List RecordNumber) → AllByRecursion (λ m. look m ≡ peek m) ms
      → flat_map (number_hazards s n look) ms ≡ flat_map (number_hazards s n peek) ms
  numbers_same [] h = refl
  numbers_same (m ∷ ms) h =
      flat_map-cons (number_hazards s n look) m ms
      ∙ ap (λ (hs : List Hazard). hs ++ flat_map (number_hazards s n look) ms) (number_same m h.0)
      ∙ ap (λ (hs : List Hazard). number_hazards s n peek m ++ hs) (numbers_same ms h.1)
      ∙ sym (flat_map-cons (number_hazards s n peek) m ms)

pub hazards_agree : HazardsAgree
unfolding hazards_of listed_hazards referred_hazards
hazards_agree s n look peek a =
    let own = record_hazards s n (is_zero (base_reference_of s)) in
    let named = subst (Named s n look peek) (sym (entries_are_placed s n).0) (all_named s n look peek a) in
    ap (λ (hs : List Hazard). own ++ (hs ++ referred_hazards s n look))
    (entries_same s n look peek (all_placed s n) named)
    ∙ ap (λ (hs : List Hazard). own ++ (listed_hazards s n peek ++ hs))
    (numbers_same s n look peek (references_of s n).numbers (recursion_from_All (λ m. look m ≡ peek m) _ a))
