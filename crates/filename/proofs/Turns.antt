-- What a turn of the loop takes off the names of a file.
use Rattle.std.proofs.Common.{ℕ, ◌≡◌, List, [], ◌∷◌, ◌++◌, refl, ap, ◌∙◌}
use Rattle.std.specs.Prelude.{Option, Some, None, Result, Ok, Err}
use Rattle.std.specs.List.{cons_option}
use Rattle.fields.specs.Answer.{Outcome, Answer, gives, ends, refuses}
use Rattle.fields.specs.Told.{told}
use Rattle.fields.specs.declared.RecordNumber.{RecordNumber}
use Rattle.fields.specs.declared.Refusal.{Refusal}
use Rattle.items.specs.Items.{Left}
use Rattle.items.specs.Calls.{answered, items_in, items_from}
use Rattle.items.specs.Rest.{items_at}
use Rattle.items.specs.declared.File.{File}
use Rattle.items.specs.declared.walk.Item.{Item}
use Rattle.items.specs.declared.walk.State.{State}
use Rattle.filename.specs.Laws.{RefusalsEnd}
use Rattle.filename.specs.Names.{given, name_by, names_in}

-- behind a refusal a walk gives nothing
last_of : (a : Answer Item) (xs ys : List (Outcome Item)) (r : Refusal) → answered a xs ≡ refuses r ∷ ys → ys ≡ []
unfolding answered
last_of (gives i) xs ys r e = search
last_of ends xs ys r e = search
last_of (refuses q) xs ys r e = search

last_in : (ls : List Left) (ys : List (Outcome Item)) (r : Refusal) → items_in ls ≡ refuses r ∷ ys → ys ≡ []
unfolding items_in
last_in [] ys r e = search
last_in (l ∷ ls) ys r e = last_of l.answer (items_in ls) ys r e

pub last : (f : File) (o : Option State) (ys : List (Outcome Item)) (x : Result Item Refusal) (r : Refusal)
    → items_at f o ≡ told x ∷ ys → x ≡ Err r → ys ≡ []
unfolding items_from
last f None ys x r e h = search
last f (Some w) ys x r e h = last_in _ ys r (e ∙ ap (λ (x : Result Item Refusal). told x ∷ ys) h)

-- x is an answer of the items, xs what they had left before it, and ys behind it
module _ (s : List ℕ) (n : RecordNumber) (look : RecordNumber → Option (List ℕ)) where
  module _ (xs ys : List (Outcome Item)) (x : Result Item Refusal) (e : xs ≡ told x ∷ ys) where
    pub found : (i : Item) (b : List ℕ) → x ≡ Ok i → Some b ≡ name_by s n look i
        → names_in s n look xs ≡ b ∷ names_in s n look ys
    unfolding names_in given
    found i b h k = rw (e, h, ← k) refl

    pub passed : (i : Item) → x ≡ Ok i → None ≡ name_by s n look i → names_in s n look xs ≡ names_in s n look ys
    unfolding names_in given
    passed i h k = rw (e, h, ← k) refl

    pub refused : (r : Refusal) → x ≡ Err r → names_in s n look xs ≡ []
    unfolding names_in given
    refused r h = rw (e, h) refl

  pub ended : (xs : List (Outcome Item)) → xs ≡ [] → names_in s n look xs ≡ []
  unfolding names_in given
  ended xs e = rw e refl

  ends_there : (xs ys : List (Outcome Item)) (r : Refusal)
      → names_in s n look (xs ++ (refuses r ∷ ys)) ≡ names_in s n look xs
  unfolding names_in given
  ends_there [] ys r = refl
  ends_there (gives i ∷ xs) ys r = ap (cons_option (name_by s n look i)) (ends_there xs ys r)
  ends_there (refuses q ∷ xs) ys r = refl

pub refusals_end : RefusalsEnd
refusals_end = ends_there

pub ruleset turns = (found, passed, refused, ended, last)
