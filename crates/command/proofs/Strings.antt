-- A string of JSON is read back.
use Rattle.std.specs.Prelude.{ℕ, ◌≡◌, List, [], ◌∷◌, ◌++◌, Bool, true, false, eqb}
use Rattle.std.proofs.Common.{refl, ap, ◌∙◌, append_assoc}
use Rattle.std.proofs.lemmas.List.Concat.{flat_map-cons}
use Rattle.fields.specs.Pick.{pick}
use Rattle.command.specs.Names.{escaped, string_of}
use Rattle.command.specs.Laws.{said_by}

plain : (b : ℕ) → eqb b 34 ≡ false → eqb b 92 ≡ false → (xs : List ℕ)
    → pick (eqb b 34) [] (pick (eqb b 92) (said_by true xs) (b ∷ said_by false xs)) ≡ b ∷ said_by false xs
plain b e f xs = rw (e, f) refl

itself : (b : ℕ) → eqb b 34 ≡ false → eqb b 92 ≡ false → escaped b ≡ b ∷ []
itself b e f = rw (e, f) refl

one : (b : ℕ) (q s : Bool) → eqb b 34 ≡ q → eqb b 92 ≡ s → (xs : List ℕ)
    → said_by false (escaped b ++ xs) ≡ b ∷ said_by false xs
unfolding said_by
one b true s e f xs = rw e refl
one b false true e f xs = rw (e, f) refl
one b false false e f xs = ap (λ (x : List ℕ). said_by false (x ++ xs)) (itself b e f) ∙ plain b e f xs

pub strings_say : (shown more : List ℕ) → said_by false (string_of shown ++ 34 ∷ more) ≡ shown
unfolding said_by
strings_say [] more = refl
strings_say (b ∷ bs) more =
    rw (flat_map-cons escaped b bs)
    (ap (said_by false) (append_assoc (escaped b) (string_of bs) (34 ∷ more))
    ∙ one b (eqb b 34) (eqb b 92) refl refl (string_of bs ++ 34 ∷ more)
    ∙ ap (λ (xs : List ℕ). b ∷ xs) (strings_say bs more))
