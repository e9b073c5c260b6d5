-- Results that tell the same are equal.
use Rattle.std.proofs.Common.{ℕ, ◌≤◌, ◌≡◌, List, ◌++◌, length, take, drop, refl, sym, ap, ◌∙◌, arith}
use Rattle.std.specs.Prelude.{replicate}
use Rattle.std.proofs.lemmas.List.{length-take-le, take-append-drop}
use Rattle.fields.specs.declared.RecordNumber.{RecordNumber}
use Rattle.fields.proofs.Settled.{told-settled}
use Rattle.references.specs.References.{Told}
use Rattle.references.specs.Zeros.{ZerosBehind}
use Rattle.references.specs.Laws.{SameTold, ReferencesSettle, RisingSettle}

same_told : (j k : ℕ) (xs ys : List RecordNumber) → j ≤ length xs → k ≤ length ys → length xs ≡ length ys
    → ZerosBehind j xs → ZerosBehind k ys → take j xs ≡ take k ys → SameTold j k xs ys
same_told j k xs ys l m n y z e =
    let c : j ≡ k = sym (length-take-le j xs l) ∙ ap length e ∙ length-take-le k ys m in
    record {
      count = c;
      numbers = sym (take-append-drop j xs)
          ∙ ap (λ (zs : List RecordNumber). zs ++ drop j xs) e
          ∙ ap (λ (zs : List RecordNumber). take k ys ++ zs)
          (y ∙ ap (λ (i : ℕ). replicate i (record { 0 = 0 })) (omega arith) ∙ sym z)
          ∙ take-append-drop k ys;
    }

pub references_settle : ReferencesSettle
references_settle r t l m e =
    let f = r.few in let g = t.few in (
      same_told r.count t.count r.numbers t.numbers (omega arith) (omega arith) (omega arith) r.rest t.rest
          (ap (λ (x : Told). x.numbers) e),
      told-settled r.answer t.answer _ (ap (λ (x : Told). x.answer) e) refl,
    )

pub rising_settle : RisingSettle
rising_settle r t l m e =
    let f = r.few in let g = t.few in
    same_told r.count t.count r.numbers t.numbers (omega arith) (omega arith) (omega arith) r.rest t.rest e
