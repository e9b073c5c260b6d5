-- What merged rows have under a number.
use Rattle.std.proofs.Common.{ℕ, ◌<◌, ◌≡◌, List, [], ◌∷◌, refl, sym, ap, ◌∙◌, arith}
use Rattle.std.proofs.lemmas.Bool.{eqb-true}
use Rattle.std.specs.Prelude.{Bool, true, false, Option, Some, eqb}
use Rattle.std.specs.Option.{option_or}
use Rattle.std.specs.Ordering.{MatchOrdering, nat_cmp}
use Rattle.std.specs.Cmp.{ranks}
use Rattle.std.specs.declared.cmp.Ordering.{Ordering}
use Rattle.std.specs.declared.cmp.Ordering.TheVariants.{Less, Equal, Greater}
use Rattle.fields.proofs.Cases.{not-true}
use Rattle.fields.specs.Pick.{pick}
use Rattle.fields.specs.declared.RecordNumber.{RecordNumber}
use Rattle.table.specs.Held.{Held, record_in}
use Rattle.merge.specs.Rows.{put, merged}
use Rattle.merge.proofs.Rows.{put_ahead, put_same, put_behind}

-- what is told of a row in front of others
told_in : (r : Held) (rs : List Held) (n : RecordNumber)
    → record_in (r ∷ rs) n ≡ pick (eqb r.number.0 n.0) (Some r.bytes) (record_in rs n)
unfolding record_in
told_in r rs n = refl

-- two tests of which one alone can hold
module _ {A : Type 0} (a b n : ℕ) (x y z : A) where
  order_free : (a ≡ b → ⊥) → (p q : Bool) → eqb a n ≡ p → eqb b n ≡ q → pick q y (pick p x z) ≡ pick p x (pick q y z)
  order_free d true true e f =
      let g = eqb-true a n e in let h = eqb-true b n f in absurd (d (omega arith))
  order_free d true false e f = refl
  order_free d false q e f = refl

  one_test : a ≡ b → (p q : Bool) → eqb a n ≡ p → eqb b n ≡ q → pick p x z ≡ pick p x (pick q y z)
  one_test d true q e f = refl
  one_test d false false e f = refl
  one_test d false true e f =
      absurd (not-true (sym e ∙ ap (λ (m : ℕ). eqb m n) d ∙ f))

module _ (r s : Held) (ss : List Held) (n : RecordNumber)
    (more : record_in (put r ss) n ≡ pick (eqb r.number.0 n.0) (Some r.bytes) (record_in ss n)) where
  put_told : (o : Ordering)
      → MatchOrdering o (r.number.0 < s.number.0) (r.number.0 ≡ s.number.0) (s.number.0 < r.number.0)
      → record_in (put r (s ∷ ss)) n ≡ pick (eqb r.number.0 n.0) (Some r.bytes) (record_in (s ∷ ss) n)
  put_told Less l = ap (λ (rs : List Held). record_in rs n) (put_ahead r s ss l) ∙ told_in r (s ∷ ss) n
  put_told Equal l =
      ap (λ (rs : List Held). record_in rs n) (put_same r s ss l) ∙ told_in r ss n
      ∙ one_test r.number.0 s.number.0 n.0 _ (Some s.bytes) _ l _ _ refl refl
      ∙ ap (pick (eqb r.number.0 n.0) (Some r.bytes)) (sym (told_in s ss n))
  put_told Greater l =
      ap (λ (rs : List Held). record_in rs n) (put_behind r s ss l) ∙ told_in s (put r ss) n
      ∙ ap (pick (eqb s.number.0 n.0) (Some s.bytes)) more
      ∙ order_free r.number.0 s.number.0 n.0 (Some r.bytes) (Some s.bytes) _ (λ e. omega arith) _ _ refl refl
      ∙ ap (pick (eqb r.number.0 n.0) (Some r.bytes)) (sym (told_in s ss n))

-- a row that is put among others is told under its number, and the others as before
record_put : (r : Held) (rs : List Held) (n : RecordNumber)
    → record_in (put r rs) n ≡ pick (eqb r.number.0 n.0) (Some r.bytes) (record_in rs n)
unfolding put
record_put r [] n = told_in r [] n
record_put r (s ∷ ss) n =
    put_told r s ss n (record_put r ss n) (nat_cmp r.number.0 s.number.0) (ranks r.number.0 s.number.0)

or_pick : {A : Type 0} (b : Bool) (x : A) (o p : Option A)
    → pick b (Some x) (option_or o p) ≡ option_or (pick b (Some x) o) p
or_pick true x o p = refl
or_pick false x o p = refl

pub record_merged : (xs ys : List Held) (n : RecordNumber)
    → record_in (merged xs ys) n ≡ option_or (record_in xs n) (record_in ys n)
unfolding merged record_in
record_merged [] ys n = refl
record_merged (x ∷ xs) ys n =
    record_put x (merged xs ys) n
    ∙ ap (pick (eqb x.number.0 n.0) (Some x.bytes)) (record_merged xs ys n)
    ∙ or_pick (eqb x.number.0 n.0) x.bytes (record_in xs n) (record_in ys n)
