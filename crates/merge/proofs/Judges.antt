-- The pass that judges two tables: it counts steps up to the first two records that differ.
use Rattle.std.proofs.Common.{ℕ, ◌≤◌, ◌≡◌, List, [], ◌∷◌, ◌++◌, map, length, refl, sym, ap, ◌∙◌}
use Rattle.std.proofs.Common.{arith, length-append, append-nil}
use Rattle.std.proofs.lemmas.List.{length-map}
use Rattle.std.specs.Prelude.{Bool, true, false, Option, Some, None, Result, Ok, Err}
use Rattle.std.specs.Option.{option_or}
use Rattle.itertools.specs.declared.either_or_both.EitherOrBoth.TheVariants.{Both, Left, Right}
use Rattle.fields.specs.Pick.{pick}
use Rattle.fields.specs.declared.RecordNumber.{RecordNumber}
use Rattle.table.proofs.Sound.{sound}
use Rattle.merge.specs.Rows.{unlike}
use Rattle.merge.specs.Merge.{agreed, clashing, place_in}
use Rattle.merge.specs.Pass.{judged_of, rows_of_pair}
use Rattle.merge.specs.declared.Pair.{Pair}
use Rattle.merge.specs.declared.unmerged.Unmerged.{Unmerged}
use Rattle.merge.proofs.Walk.{Item, Step, row_of, differing, first_differing, number_of_item, differing_append, middle}
use Rattle.merge.proofs.Walk.{OfSecond}
use Rattle.merge.proofs.Pairs.{CameOf, IsPlaced, rows_came, clash_came, placed_came, few_came}

-- no step so far has two records that differ
abbrev pub Agreed : List Step → Type 0
Agreed ss = first_differing ss ≡ None

-- and one more that has none
pub agreed_more : (ss : List Step) (z : Step) → Agreed ss → differing z ≡ None → Agreed (ss ++ (z ∷ []))
agreed_more ss z a d =
    differing_append ss (z ∷ []) ∙ ap (λ (o : Option Item). option_or o (first_differing (z ∷ []))) a
    ∙ ap (λ (o : Option Item). option_or o None) d

-- of two records that are equal, and of a row without another
pub equal_agree : (x y : Item) → unlike x.1.now y.1.now ≡ false → differing (Both x y) ≡ None
equal_agree x y d = ap (λ (b : Bool). pick b (Some y) None) d

pub one_agrees : (z : Step) → ((x y : Item) → z ≡ Both x y → ⊥) → differing z ≡ None
one_agrees (Left x) n = refl
one_agrees (Right y) n = refl
one_agrees (Both x y) n = absurd (n x y refl)

module _ (p : Pair) (ss : List Step) where
  answered : Option RecordNumber → Result ℕ Unmerged
  answered o = agreed (place_in p.second.bytes.now) o (Ok (length (rows_of_pair p)))

  module _ (x y : Item) (c : CameOf p false (ss ++ (Both x y ∷ []))) (a : Agreed ss)
      (d : unlike x.1.now y.1.now ≡ true) where
    found : first_differing ((ss ++ (Both x y ∷ [])) ++ c.more) ≡ Some y
    found =
        differing_append (ss ++ (Both x y ∷ [])) c.more
        ∙ ap (λ (o : Option Item). option_or o (first_differing c.more))
        (differing_append ss (Both x y ∷ []) ∙ ap (λ (o : Option Item). option_or o (first_differing (Both x y ∷ []))) a
        ∙ ap (λ (b : Bool). option_or (pick b (Some y) None) None) d)

    placed : place_in p.second.bytes.now y.0.number ≡ y.0.place
    placed =
        middle (OfSecond (IsPlaced p)) ss c.more (Both x y)
        (placed_came p false (ss ++ (Both x y ∷ [])) c)

    pub clashes : (why : Unmerged) → why ≡ clashing y.0.number y.0.place → Err why ≡ judged_of p
    unfolding answered
    clashes why e =
        ap Err (e ∙ ap (clashing y.0.number) (sym placed))
        ∙ sym (ap answered (clash_came p false _ c ∙ ap number_of_item found))

  module _ (c : CameOf p true ss) (a : Agreed ss) where
    whole : ss ++ c.more ≡ ss
    whole = ap (λ (more : List Step). ss ++ more) (c.none refl) ∙ append-nil ss

    pub all_agree : (k : ℕ) → k ≡ length ss → Ok k ≡ judged_of p
    unfolding answered
    all_agree k e =
        ap Ok (e ∙ sym (ap length (rows_came p true ss c ∙ ap (map row_of) whole) ∙ length-map ss row_of))
        ∙ sym (ap answered (clash_came p true ss c ∙ ap (λ (l : List Step). number_of_item (first_differing l)) whole
        ∙ ap number_of_item a))

  -- the count is far from its type's end
  pub count_fits : (b : Bool) (c : CameOf p b ss) → length ss ≤ 8192
  count_fits b c =
      let l = few_came p b ss c in let m = length-append ss c.more in
      let f = (sound p.first.bytes.now p.first.header p.first.checked).head.few in
      let g = (sound p.second.bytes.now p.second.header p.second.checked).head.few in
      omega arith
