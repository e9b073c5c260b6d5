-- One word more says its number.
use Rattle.std.specs.Prelude.{ℕ, suc, ◌+◌, ◌<◌, ◌≡◌, List, [], ◌∷◌, ◌++◌, map, length, take, get_or, Some}
use Rattle.std.specs.Borrow.{Bor}
use Rattle.std.proofs.Common.{arith, refl, sym, ap, subst, ◌∙◌}
use Rattle.std.proofs.Math.Seq.{take-suc}
use Rattle.std.proofs.lemmas.List.{map-append}
use Rattle.std.proofs.lemmas.List.Elements.{All-nil, All-cons, All-append}
use Rattle.fields.specs.declared.RecordNumber.{RecordNumber}
use Rattle.nomutanku.specs.Door.{said_by, Say}
use Rattle.nomutanku.specs.Wishes.{IsNumber, Counts}

as_number : ℕ → RecordNumber
as_number n = record { 0 = n }

behind : (words : List (Bor (List ℕ))) (w : Bor (List ℕ)) (ns : List RecordNumber) (n : RecordNumber) → Say words ns
    → Counts (Some w.now) (Some n.0) → Say (words ++ w ∷ []) (ns ++ n ∷ [])
unfolding as_number
behind words w ns n (all, same) (is, counted) = (
  All-append (λ (v : Bor (List ℕ)). IsNumber v.now) words (w ∷ []) all
      (All-cons (λ (v : Bor (List ℕ)). IsNumber v.now) w [] is (All-nil (λ (v : Bor (List ℕ)). IsNumber v.now))),
  ap (λ (x : List RecordNumber). x ++ n ∷ []) same
      ∙ ap (λ (k : ℕ). map (λ (v : Bor (List ℕ)). said_by v.now) words ++ as_number k ∷ []) counted
      ∙ sym (map-append (λ (v : Bor (List ℕ)). said_by v.now) words (w ∷ [])),
)

pub more : (words : List (Bor (List ℕ))) (i : ℕ) (d : Bor (List ℕ)) (ns : List RecordNumber) (n : RecordNumber)
    → i < length words → Say (take i words) ns → Counts (Some (get_or words i d).now) (Some n.0)
    → Say (take (i + 1) words) (ns ++ n ∷ [])
more words i d ns n l say counted =
    let one_more : suc i ≡ i + 1 = omega arith in
    subst (λ (x : List (Bor (List ℕ))). Say x (ns ++ n ∷ []))
    (sym (take-suc words i d l) ∙ ap (λ (k : ℕ). take k words) one_more)
    (behind (take i words) (get_or words i d) ns n say counted)

pub no_words : Say [] []
no_words = (All-nil (λ (v : Bor (List ℕ)). IsNumber v.now), refl)
