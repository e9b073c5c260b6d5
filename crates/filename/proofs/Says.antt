-- What the search for a name says of the names and of the walk.
use Rattle.std.proofs.Common.{ℕ, ◌≡◌, Bool, true, false, List, [], ◌∷◌, ◌++◌, map, refl, ap, arith}
use Rattle.std.specs.Prelude.{Option, Some, None, Decides, Contains, slice_get, unwrap_or}
use Rattle.std.proofs.lemmas.Option.{none-some}
use Rattle.fields.specs.Pick.{pick}
use Rattle.fields.specs.Answer.{Outcome, Answer, gives, ends, refuses}
use Rattle.fields.specs.declared.Refusal.{Refusal}
use Rattle.items.specs.Items.{Left}
use Rattle.items.specs.Calls.{answered, items_in, items_from, items_of}
use Rattle.items.specs.declared.walk.Item.{Item}
use Rattle.filename.specs.Names.{given, refusal_in, unfound, names_of, found_in, found_of}
use Rattle.filename.specs.Laws.{Says, Has, HasFirst}
use Rattle.filename.specs.declared.find.Found.TheVariants.{Yes}
use Rattle.filename.proofs.Among.{decides}

-- items that no refusal ends are all that there is
whole : (xs : List (Outcome Item)) → refusal_in xs ≡ None → xs ≡ map gives (given xs)
unfolding refusal_in given
whole [] e = refl
whole (gives i ∷ xs) e = ap (λ (ys : List (Outcome Item)). gives i ∷ ys) (whole xs e)
whole (refuses r ∷ xs) e = absurd (cc)

the_refusal : {q r : Refusal} → ◌≡◌ {A = Option Refusal} (Some q) (Some r) → q ≡ r
the_refusal {q} {r} e = ap (λ (o : Option Refusal). unwrap_or o r) e

-- a refusal is the last of what a walk gives: xs behind an answer, if they are so
stopped_at : (r : Refusal) (a : Answer Item) (xs : List (Outcome Item))
    → (refusal_in xs ≡ Some r → xs ≡ map gives (given xs) ++ (refuses r ∷ []))
    → refusal_in (answered a xs) ≡ Some r
    → answered a xs ≡ map gives (given (answered a xs)) ++ (refuses r ∷ [])
unfolding answered refusal_in given
stopped_at r (gives i) xs k h = ap (λ (ys : List (Outcome Item)). gives i ∷ ys) (k h)
stopped_at r ends xs k h = absurd (none-some r h)
stopped_at r (refuses q) xs k h = ap (λ (p : Refusal). refuses p ∷ []) (the_refusal h)

stopped : (r : Refusal) (ls : List Left) → refusal_in (items_in ls) ≡ Some r
    → items_in ls ≡ map gives (given (items_in ls)) ++ (refuses r ∷ [])
unfolding items_in refusal_in
stopped r [] e = absurd (none-some r e)
stopped r (l ∷ ls) e = stopped_at r l.answer (items_in ls) (stopped r ls) e

says : (wanted : List ℕ) (ms : List (List ℕ)) (xs : List (Outcome Item)) (t : Bool) (o : Option Refusal)
    → Decides t (Contains ms wanted) → (o ≡ None → xs ≡ map gives (given xs))
    → ((r : Refusal) → o ≡ Some r → xs ≡ map gives (given xs) ++ (refuses r ∷ []))
    → Says wanted ms xs (pick t Yes (unfound o))
says wanted ms xs true o d h k = d.0 refl
says wanted ms xs false None d h k = (λ c. let e = d.1 c in absurd (cc), h refl)
says wanted ms xs false (Some r) d h k = (λ c. let e = d.1 c in absurd (cc), k r refl)

pub has : Has
unfolding found_of found_in names_of items_of items_from
has s n look wanted =
    says wanted (names_of s n look) (items_of s n look) _ (refusal_in (items_of s n look))
    (decides wanted (names_of s n look)) (whole (items_of s n look)) (λ r e. stopped r _ e)

contains : (m : List ℕ) (ms : List (List ℕ)) → slice_get ms 0 ≡ Some m → Contains ms m
contains m [] e = absurd (none-some m e)
contains m (x ∷ xs) e = (0, omega arith, ap (λ (o : Option (List ℕ)). unwrap_or o m) e)

pub has_first : HasFirst
unfolding found_of found_in names_of
has_first s n look m e =
    ap (λ (t : Bool). pick t Yes (unfound (refusal_in (items_of s n look))))
    ((decides m (names_of s n look)).1 (contains m (names_of s n look) e))
