-- What the tests of a record's fields say of its bytes.
use Rattle.std.proofs.Common.{ℕ, ◌%◌, ◌<◌, ◌≡◌, Bool, true, false, List, eqb, inl, inr, refl, sym, ap, ◌∙◌, arith}
use Rattle.std.specs.Prelude.{◌||◌, ◌&&◌, not}
use Rattle.std.specs.Int.Bits.{bit_and}
use Rattle.std.proofs.lemmas.Grind.{and_numeral}
use Rattle.std.proofs.lemmas.Bool.{eqb-true, eq-eqb}
use Rattle.std.proofs.lemmas.Bool.Decides.{nat_tests}
use Rattle.fields.specs.Le.{le}
use Rattle.fields.specs.declared.RecordNumber.{RecordNumber}
use Rattle.fields.proofs.Width.{split}
use Rattle.record.specs.Header.{header_of}
use Rattle.segments.specs.Base.{base_reference_of, is_zero, is_in_use, is_base_in_use, fits, is_back}
use Rattle.segments.specs.Laws.{BaseReferencesAreEightBytes, BaseRecordsTell, Fits, RefersBack}

used_is : (s : List ℕ) → is_in_use s ≡ eqb (le 2 s 22 % 2) 1
unfolding is_in_use header_of
used_is s =
    ap (λ (k : ℕ). eqb (bit_and k 1) 1) (and_numeral (le 2 s 22) 2 refl)
    ∙ ap (λ (k : ℕ). eqb k 1) (and_numeral (le 2 s 22 % 4) 0 refl ∙ omega arith)

pub eight : BaseReferencesAreEightBytes
unfolding base_reference_of
eight s = split 6 2 s 32

zero_is : (s : List ℕ) → is_zero (base_reference_of s) ≡ eqb (le 8 s 32) 0
unfolding is_zero
zero_is s = let e = eight s in grind (arith, nat_tests)

pub used : (s : List ℕ) → is_in_use s ≡ true → le 2 s 22 % 2 ≡ 1
used s e = eqb-true _ _ (sym (used_is s) ∙ e)

pub is_used : (s : List ℕ) → le 2 s 22 % 2 ≡ 1 → is_in_use s ≡ true
is_used s e = used_is s ∙ eq-eqb _ _ e

pub no_base : (s : List ℕ) → is_zero (base_reference_of s) ≡ true → le 8 s 32 ≡ 0
no_base s e = eqb-true _ _ (sym (zero_is s) ∙ e)

pub has_no_base : (s : List ℕ) → le 8 s 32 ≡ 0 → is_zero (base_reference_of s) ≡ true
has_no_base s e = zero_is s ∙ eq-eqb _ _ e

first : (t u : Bool) → t && u ≡ true → t ≡ true
first true u e = refl
first false u e = absurd (cc)

second : (t u : Bool) → t && u ≡ true → u ≡ true
second true u e = e
second false u e = absurd (cc)

some_base : (s : List ℕ) → is_zero (base_reference_of s) ≡ false → 0 < le 8 s 32
some_base s e = let z = sym (zero_is s) ∙ e in grind (arith, nat_tests)

turned : (t : Bool) → not t ≡ true → t ≡ false
turned true e = absurd (cc)
turned false e = refl

pub base_records_tell : BaseRecordsTell
unfolding is_base_in_use
base_records_tell s = (
  λ e. record { used = used s (first _ _ e); base = no_base s (second _ _ e) },
  λ b. ap (λ t. t && is_zero (base_reference_of s)) (is_used s b.used) ∙ has_no_base s b.base,
)

pub fitting : (a b : ℕ) → fits a b ≡ true → Fits a b
unfolding fits
fitting a b e = by (eqb a 0) refl e
  where
    by : (t : Bool) → eqb a 0 ≡ t → t || eqb a b ≡ true → Fits a b
    by true p e = inl (eqb-true a 0 p)
    by false p e = inr (eqb-true a b e)

pub is_fitting : (a b : ℕ) → Fits a b → fits a b ≡ true
unfolding fits
is_fitting a b (inl e) = rw (eq-eqb a 0 e) refl
is_fitting a b (inr e) = by (eqb a 0)
  where
    by : (t : Bool) → t || eqb a b ≡ true
    by true = refl
    by false = eq-eqb a b e

module _ (s : List ℕ) (n : RecordNumber) (b : List ℕ) where
  pub back : is_in_use b ≡ true → is_back s n (base_reference_of b) ≡ true → RefersBack s n b
  unfolding is_back base_reference_of header_of
  back u e = record {
    used = used b u;
    file = eqb-true _ _ (first _ _ e);
    any = some_base b (turned _ (first _ _ (second _ _ e)));
    sequence = fitting _ _ (second _ _ (second _ _ e));
  }

  pub is_back_to : RefersBack s n b → is_back s n (base_reference_of b) ≡ true
  unfolding is_back base_reference_of header_of
  is_back_to r =
      let z = zero_is b in let f = eq-eqb _ _ r.file in let q = is_fitting _ _ r.sequence in let a = r.any in
      grind (arith, nat_tests)
