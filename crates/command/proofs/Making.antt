-- What is made of an extract, and of what is read of an input.
use Rattle.std.specs.Prelude.{ℕ, ◌≡◌, List, [], ◌++◌, take, Option, Some, None, IfSome}
use Rattle.std.specs.Prelude.{Bool, true, false, is_some, Result, Ok}
use Rattle.std.proofs.Common.{refl, sym, subst, ap, ◌∙◌}
use Rattle.std.specs.Fmt.{option_append}
use Rattle.fields.specs.Pick.{pick}
use Rattle.fields.specs.Answer.{gives, refuses, refusal}
use Rattle.fields.specs.declared.Cause.TheVariants.{RecordLength}
use Rattle.fields.specs.declared.Refusal.{Refusal}
use Rattle.fields.specs.declared.RecordNumber.{RecordNumber}
use Rattle.extract.specs.Size.{whole_records, sizes_checked}
use Rattle.command.specs.Extraction.{front_size, size_of, first_of, part_of}
use Rattle.command.specs.Make.{Makes, MakesBy, Extracts}
use Rattle.command.specs.declared.extraction.Extraction.{Extraction}
use Rattle.command.specs.Part.{Takes, at_most, part_at}
use Rattle.command.specs.Passed.{Passes, HasFront}
use Rattle.command.specs.declared.make.Made.{Made}
use Rattle.command.specs.declared.reason.Reason.{Reason}

-- an extract whose sizes are refused is broken
broken_by : (n : ℕ) (s : List ℕ) (r : Refusal) (b : Bool) → whole_records n s ≡ b → refuses r ≡ sizes_checked n s
    → whole_records n s ≡ false
unfolding sizes_checked
broken_by n s r true w e =
    let q : refuses r ≡ gives tt =
    e ∙ ap (λ (b : Bool). pick b (gives tt) (refuses (refusal RecordLength (record { 0 = 0 }) 0))) w in
    let no : ⊥ = cc in absurd no
broken_by n s r false w e = w

pub is_broken : (n : ℕ) (s : List ℕ) (r : Refusal) → refuses r ≡ sizes_checked n s → whole_records n s ≡ false
is_broken n s r e = broken_by n s r (whole_records n s) refl e

-- nothing is read of a front where the size is asked for
size_alone : (w : Option ℕ) (s t : List ℕ) → is_some w ≡ true → size_of w s ≡ size_of w t
unfolding size_of
size_alone None s t e = let no : ⊥ = cc in absurd no
size_alone (Some n) s t e = refl

pub no_front : (q : Extraction) (o : Option (List ℕ)) → is_some q.size ≡ true → HasFront q o o []
no_front q None e = record { taken = tt; same = tt }
no_front q (Some s) e = record { taken = refl; same = size_alone q.size [] (take front_size s) e }

-- the part of known bytes
part_made : (v z : Option (List ℕ)) (s bytes : List ℕ) (size place : ℕ) (most : Option ℕ)
    (first : RecordNumber) (r : Result Made Reason) → Passes place (Some s) v → Takes most v z bytes
    → Makes size first bytes r → Makes size first (part_at most place s) r
part_made None z s bytes size place most first r p t m = absurd p
part_made (Some y) z s bytes size place most first r p t m =
    subst (λ (x : List ℕ). Makes size first x r) (t.front ∙ ap (at_most most) p) m

-- what is made of the bytes that are read is made of the input's
pub made_of : (o w v z : Option (List ℕ)) (front bytes : List ℕ) (size place : ℕ) (most : Option ℕ)
    (first : RecordNumber) (r : Result Made Reason) → w ≡ option_append (Some front) o → Passes place w v
    → Takes most v z bytes → Makes size first bytes r
    → IfSome o (λ rest. Makes size first (part_at most place (front ++ rest)) r)
made_of None w v z front bytes size place most first r e p t m = tt
made_of (Some rest) w v z front bytes size place most first r e p t m =
    part_made v z (front ++ rest) bytes size place most first r
    (subst (λ (x : Option (List ℕ)). Passes place x v) e p) t m

-- what is made by what a front tells is made by the whole front
pub extracted : (q : Extraction) (old new : Option (List ℕ)) (front : List ℕ) (size : ℕ) (r : Result Made Reason)
    → HasFront q old new front → Ok size ≡ size_of q.size front
    → IfSome new (λ rest. Makes size (first_of q) (part_of q size (front ++ rest)) r)
    → IfSome old (λ bytes. Extracts q (take front_size bytes) (λ n. part_of q n bytes) r)
extracted q None new front size r f e m = tt
extracted q (Some s) None front size r f e m = absurd f.taken
extracted q (Some s) (Some rest) front size r f e m =
    subst (λ (a : Result ℕ Reason). MakesBy a (first_of q) (λ (n : ℕ). part_of q n s) r) (e ∙ f.same)
    (subst (λ (x : List ℕ). Makes size (first_of q) (part_of q size x) r) (sym f.taken) m)

pub made_of_any : (q : Extraction) (front : List ℕ) (size : ℕ) (r : Result Made Reason) → Ok size ≡ size_of q.size front
    → ((bytes : List ℕ) × Makes size (first_of q) bytes r)
    → (front bytes : List ℕ) × Extracts q front (λ n. bytes) r
made_of_any q front size r e (bytes, m) =
    (front, bytes, subst (λ (a : Result ℕ Reason). MakesBy a (first_of q) (λ (n : ℕ). bytes) r) e m)
