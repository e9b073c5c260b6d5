-- Lookups that agree on what the lists refer to give the same names.
use Rattle.std.proofs.Common.{ℕ, ◌≡◌, List, [], ◌∷◌, eqb, refl, ap, ◌∙◌}
use Rattle.std.specs.Prelude.{Option, None, Contains}
use Rattle.std.specs.List.{AllByRecursion, cons_option}
use Rattle.std.proofs.lemmas.List.Elements.{recursion_from_All, All-contains_itself}
use Rattle.fields.specs.Pick.{pick}
use Rattle.fields.specs.Answer.{Outcome, gives, refuses, ◌⟫◌}
use Rattle.fields.specs.declared.RecordNumber.{RecordNumber}
use Rattle.record.specs.Open.{Lent}
use Rattle.record.specs.Value.{value_of}
use Rattle.items.specs.Calls.{items_in, items_from, items_of}
use Rattle.items.specs.declared.walk.Item.{Item}
use Rattle.agreement.specs.Agree.{Agree}
use Rattle.agreement.proofs.Calls.{calls_agree}
use Rattle.agreement.proofs.Lines.{parts_agree}
use Rattle.filename.specs.Names.{file_name, long_in, given, refusal_in, is_among, unfound, value_by, name_by, names_in}
use Rattle.filename.specs.Names.{names_of, found_in, found_of}
use Rattle.filename.specs.Laws.{NamesAgree, FoundAgree}
use Rattle.filename.specs.declared.find.Found.TheVariants.{Yes}

module _ (s : List ℕ) (n : RecordNumber) (look peek : RecordNumber → Option (List ℕ)) (a : Agree s n look peek) where
  items_same : items_of s n look ≡ items_of s n peek
  unfolding items_of items_from
  items_same = ap items_in (calls_agree s n look peek a)

  -- an item's record is the same by both, so its name is
  name_same : (i : Item) → Contains (items_of s n look) (gives i) → name_by s n look i ≡ name_by s n peek i
  unfolding name_by value_by
  name_same i c =
      ap (λ (t : Outcome Lent). pick (eqb i.attribute.ty file_name)
      (long_in (t ⟫ λ r. value_of r.bytes r.number i.attribute.offset)) None)
      ((parts_agree s n look peek a i c).0 0)

  names_same : (xs : List (Outcome Item)) → AllByRecursion (Contains (items_of s n look)) xs
      → names_in s n look xs ≡ names_in s n peek xs
  unfolding names_in given
  names_same [] h = refl
  names_same (refuses r ∷ xs) h = refl
  names_same (gives i ∷ xs) h =
      ap (λ o. cons_option o (names_in s n look xs)) (name_same i h.0)
      ∙ ap (cons_option (name_by s n peek i)) (names_same xs h.1)

  all_same : names_of s n look ≡ names_of s n peek
  unfolding names_of
  all_same =
      names_same (items_of s n look) (recursion_from_All _ _ (All-contains_itself _))
      ∙ ap (names_in s n peek) items_same

  found_same : (wanted : List ℕ) → found_of s n look wanted ≡ found_of s n peek wanted
  unfolding found_of found_in names_of
  found_same wanted =
      ap (λ (ms : List (List ℕ)). pick (is_among wanted ms) Yes (unfound (refusal_in (items_of s n look)))) all_same
      ∙ ap (λ (xs : List (Outcome Item)). pick (is_among wanted (names_of s n peek)) Yes (unfound (refusal_in xs)))
      items_same

pub names_agree : NamesAgree
names_agree = all_same

pub found_agree : FoundAgree
found_agree = found_same
