-- An input that is cut behind the first byte too many is refused like the whole of it.
use Rattle.std.proofs.Common.{ℕ, suc, ◌≡◌, List, [], ◌∷◌, ◌++◌, length, take, Bool, true, false, ltb}
use Rattle.std.proofs.Common.{Option, None, Some, option_map, IfSome, Result, Ok, Err}
use Rattle.std.proofs.Common.{refl, sym, ap, ◌∙◌, subst, arith, take_all, length-take-le}
use Rattle.std.proofs.lemmas.Bool.{ltb-true, lt-ltb}
use Rattle.std.specs.Io.KnownBytes.{Appends}
use Rattle.std.specs.declared.io.Error.{Error}
use Rattle.fields.proofs.Cases.{lt-y}
use Rattle.lines.specs.Line.{lines_text}
use Rattle.lines.specs.declared.line.Line.{Line}
use Rattle.lines.specs.Listing.{most_parts, listing_of}
use Rattle.lines.specs.Ending.{ending_of}
use Rattle.lines.specs.declared.ending.Ending.{Ending}
use Rattle.lines.specs.Went.{StopsWithin}
use Rattle.listing.specs.Tells.{lines_of, Tells}
use Rattle.listing.specs.Ran.{Ran}
use Rattle.listing.specs.declared.failed.Failed.{Failed}
use Rattle.listing.specs.declared.failed.Failed.TheVariants.{OutOfMemory, Read, Write}
use Rattle.listing.specs.declared.outcome.Outcome.{Outcome}
use Rattle.listing.specs.declared.outcome.Outcome.TheVariants.{Listed, EmptyInput}

cut_by : (room : ℕ) (xs : List ℕ) (t : Bool) → t ≡ ltb 65536 (length xs)
    → listing_of room (take 65537 xs) ≡ listing_of room xs
unfolding listing_of
cut_by room xs true e =
    let l = ltb-true 65536 (length xs) (sym e) in
    let k = length-take-le 65537 xs (omega arith) in
    sym (lt-y 65536 (length (take 65537 xs)) _ _ (omega arith) refl) ∙ lt-y 65536 (length xs) _ _ l refl
cut_by room xs false e = ap (listing_of room) (take_all 65537 xs (grind (arith, lt-ltb)))

pub cut : (room : ℕ) (xs : List ℕ) → listing_of room (take 65537 xs) ≡ listing_of room xs
cut room xs = cut_by room xs (ltb 65536 (length xs)) refl

none_taken : (n : ℕ) (xs : List ℕ) → take (suc n) xs ≡ [] → xs ≡ []
none_taken n [] e = refl
none_taken n (x ∷ xs) e = absurd (cc)

-- what is said of the listing of what was read is said of the listing of the input
of_lines : (xs : List ℕ) (P : List Line → Type 0) → P (lines_of (take 65537 xs)) → P (lines_of xs)
of_lines xs P p = subst P (cut most_parts xs) p

tells_cut : (xs : List ℕ) (o : Outcome) → Tells (take 65537 xs) o → Tells xs o
tells_cut xs (Listed e) p = (
  of_lines xs (λ ls. ending_of ls ≡ Some e) p.0,
  λ q. p.1 (ap (take 65537) q),
)
tells_cut xs EmptyInput p = none_taken 65536 xs p

ran_cut : (xs : List ℕ) (old new : Option (List ℕ)) (r : Result Outcome Failed) → Ran (take 65537 xs) old new r
    → Ran xs old new r
ran_cut xs old new (Ok o) p = (of_lines xs (λ ls. Appends old new (lines_text ls)) p.0, tells_cut xs o p.1)
ran_cut xs old new (Err OutOfMemory) p = p
ran_cut xs old new (Err (Read e)) p = p
ran_cut xs old new (Err (Write e)) p = of_lines xs (λ ls. StopsWithin old new (lines_text ls)) p

pub of_input : (o : Option (List ℕ)) (v : List ℕ) (old new : Option (List ℕ)) (r : Result Outcome Failed)
    → IfSome o (λ bytes. v ≡ take 65537 bytes) → Ran v old new r → IfSome o (λ bytes. Ran bytes old new r)
of_input None v old new r e p = tt
of_input (Some bytes) v old new r e p = ran_cut bytes old new r
    (subst (λ (xs : List ℕ). Ran xs old new r) e p)

-- what was written of the bytes that are lent to each call is written of what was read
pub listed : (v d f : List ℕ) (old new : Option (List ℕ)) (e : Ending) (o : Outcome) → d ≡ v → f ≡ v
    → Appends old new (lines_text (lines_of d)) → ending_of (lines_of d) ≡ Some e
    → (ending_of (lines_of f) ≡ Some e → Tells f o) → Ran v old new (Ok o)
listed v d f old new e o p q a t h = (
  subst (λ (x : List ℕ). Appends old new (lines_text (lines_of x))) p a,
  subst (λ (x : List ℕ). Tells x o) q
      (h (subst (λ (x : List ℕ). ending_of (lines_of x) ≡ Some e) (p ∙ sym q) t)),
)

pub stopped : (v d : List ℕ) (old new : Option (List ℕ)) (e : Error) → d ≡ v
    → StopsWithin old new (lines_text (lines_of d)) → Ran v old new (Err (Write e))
stopped v d old new e p s = subst (λ (x : List ℕ). StopsWithin old new (lines_text (lines_of x))) p s

behind : (o : Option (List ℕ)) (v : List ℕ) → IfSome (option_map (take 65537) o) (λ xs. v ≡ [] ++ xs)
    → IfSome o (λ bytes. v ≡ take 65537 bytes)
behind None v h = tt
behind (Some bytes) v h = h

-- a reader that stops behind so many bytes, read to its end into an empty list
pub taken : {R : Type 0} (left : R → Option (List ℕ)) (i j : R) (k : ℕ) (v before : List ℕ) → i ≡ j → k ≡ 65537
    → before ≡ []
    → IfSome (option_map (take k) (left i)) (λ xs. v ≡ before ++ xs) → IfSome (left j) (λ bytes. v ≡ take 65537 bytes)
taken left i j k v before e l b h =
    behind (left j) v (rw (← e, ← l) (subst (λ (x : List ℕ). IfSome (option_map (take k) (left i))
    (λ xs. v ≡ x ++ xs)) b h))
