-- A name is among others where it is one of them, and what a turn of the search for it takes off them.
use Rattle.std.proofs.Common.{ℕ, ◌≡◌, Bool, true, false, List, [], ◌∷◌, sym, refl}
use Rattle.std.specs.Prelude.{◌||◌, Option, Some, None, Result, Ok, Err, Decides, Contains, bytes_eq}
use Rattle.std.specs.List.{cons_option}
use Rattle.std.proofs.lemmas.List.Folds.{list_any_at}
use Rattle.std.proofs.lemmas.Map.Views.{Contains-from_any}
use Rattle.std.proofs.lemmas.Slice.Eq.{bytes_eq-Decides}
use Rattle.fields.specs.Answer.{Outcome}
use Rattle.fields.specs.Told.{told}
use Rattle.fields.specs.declared.RecordNumber.{RecordNumber}
use Rattle.fields.specs.declared.Refusal.{Refusal}
use Rattle.items.specs.declared.walk.Item.{Item}
use Rattle.filename.specs.Names.{given, refusal_in, is_among, name_by, names_in, found_in}
use Rattle.filename.specs.declared.find.Found.TheVariants.{Yes, No, Unknown}

pub decides : (wanted : List ℕ) (ms : List (List ℕ)) → Decides (is_among wanted ms) (Contains ms wanted)
unfolding is_among
decides wanted ms = (
  Contains-from_any (λ x y. (bytes_eq-Decides x y).0) wanted ms,
  λ c. list_any_at (bytes_eq wanted) ms c.0 wanted c.1 ((bytes_eq-Decides wanted _).1 (sym c.2)),
)

either : (b c : Bool) → (b || false) ≡ true → (b || c) ≡ true
either true c e = refl
either false c e = absurd (cc)

other : (b c : Bool) → (b || false) ≡ false → (b || c) ≡ c
other true c e = absurd (cc)
other false c e = refl

-- a name in front of others, if there is one
module _ (wanted : List ℕ) (ms : List (List ℕ)) where
  in_front : (o : Option (List ℕ)) → is_among wanted (cons_option o []) ≡ true
      → is_among wanted (cons_option o ms) ≡ true
  unfolding is_among
  in_front None e = absurd (cc)
  in_front (Some m) e = either (bytes_eq wanted m) (is_among wanted ms) e

  behind : (o : Option (List ℕ)) → is_among wanted (cons_option o []) ≡ false
      → is_among wanted (cons_option o ms) ≡ is_among wanted ms
  unfolding is_among
  behind None e = refl
  behind (Some m) e = other (bytes_eq wanted m) (is_among wanted ms) e

-- x is an answer of the items, xs what they had left before it, and ys behind it
module _ (s : List ℕ) (n : RecordNumber) (look : RecordNumber → Option (List ℕ)) (wanted : List ℕ) where
  module _ (xs ys : List (Outcome Item)) (x : Result Item Refusal) (e : xs ≡ told x ∷ ys) where
    pub sought_found : (i : Item) → x ≡ Ok i → is_among wanted (cons_option (name_by s n look i) []) ≡ true
        → found_in s n look wanted xs ≡ Yes
    unfolding found_in names_in given refusal_in
    sought_found i h k =
        rw (e, h, in_front wanted (names_in s n look ys) (name_by s n look i) k) refl

    pub sought_passed : (i : Item) → x ≡ Ok i → is_among wanted (cons_option (name_by s n look i) []) ≡ false
        → found_in s n look wanted xs ≡ found_in s n look wanted ys
    unfolding found_in names_in given refusal_in
    sought_passed i h k =
        rw (e, h, behind wanted (names_in s n look ys) (name_by s n look i) k) refl

    pub sought_refused : (r : Refusal) → x ≡ Err r → found_in s n look wanted xs ≡ Unknown r
    unfolding found_in names_in given refusal_in is_among
    sought_refused r h = rw (e, h) refl

  pub sought_ended : (xs : List (Outcome Item)) → xs ≡ [] → found_in s n look wanted xs ≡ No
  unfolding found_in names_in given refusal_in is_among
  sought_ended xs e = rw e refl

pub ruleset sought = (sought_found, sought_passed, sought_refused, sought_ended)
