-- The numbers that the lists of a record refer to are read from six bytes each.
use Rattle.std.specs.Prelude.{ℕ, zero, suc, ◌+◌, ◌-◌, ◌<◌, ◌≡◌, ◌||◌, List, [], ◌∷◌, ◌++◌, length, take, drop, get_or}
use Rattle.std.specs.Prelude.{All, eqb}
use Rattle.std.proofs.Common.{refl, ap, arith}
use Rattle.std.proofs.lemmas.List.Elements.{All-nil, All-cons, All-append, All-head, All-tail, All-take, All-drop}
use Rattle.std.proofs.lemmas.List.Elements.{All-from_get_or}
use Rattle.fields.specs.Answer.{Outcome, gives, refuses}
use Rattle.fields.specs.Known.{attribute_list}
use Rattle.fields.specs.declared.RecordNumber.{RecordNumber}
use Rattle.fields.proofs.Cases.{both}
use Rattle.fields.proofs.Width.{fit}
use Rattle.table.specs.Check.{number_end}
use Rattle.list.specs.Entry.{entry_at, entry_of}
use Rattle.list.specs.declared.Entry.{Entry}
use Rattle.list.proofs.Given.{given as entry_given}
use Rattle.record.specs.Walk.{attributes_of}
use Rattle.record.specs.Value.{list_in}
use Rattle.record.specs.declared.layout.Attribute.{Attribute}
use Rattle.record.specs.declared.layout.Span.{Span}
use Rattle.items.specs.Items.{entries_of}
use Rattle.items.specs.State.{list_at, rest_of}
use Rattle.items.proofs.Peel.{peel}
use Rattle.extract.specs.Fixup.{pair_at, pair_count, kept_at, fixed_below, fixed_up}
use Rattle.references.specs.Entries.{before, list_entries, entries_by, all_entries}
use Rattle.references.specs.References.{among, one_more, told_by, references_of}
use Rattle.references.specs.Laws.{given}

-- bytes
abbrev pub IsByte : ℕ → Type 0
IsByte c = c < 256

byte_at : (s : List ℕ) → All IsByte s → (k : ℕ) → get_or s k 0 < 256
byte_at [] a k = omega arith
byte_at (c ∷ cs) a zero = All-head IsByte c cs a
byte_at (c ∷ cs) a (suc k) = byte_at cs (All-tail IsByte c cs a) k

-- those of a record that is fixed up are bytes that it had
fixed_bytes : (s : List ℕ) (k : ℕ) → All IsByte s → All IsByte (fixed_below s k)
unfolding fixed_below
fixed_bytes s zero a = a
fixed_bytes s (suc i) a =
    let t = fixed_below s i in
    let b : All IsByte t = fixed_bytes s i a in
    let two = take 2 (drop (kept_at s i) s) in
    let kept : All IsByte two = All-take IsByte 2 (drop (kept_at s i) s) (All-drop IsByte (kept_at s i) s a) in
    All-append IsByte (take (pair_at i) t) (two ++ drop (pair_at i + length two) t)
    (All-take IsByte (pair_at i) t b)
    (All-append IsByte two (drop (pair_at i + length two) t) kept (All-drop IsByte (pair_at i + length two) t b))

pub bytes_fixed : (s : List ℕ) → ((k : ℕ) → get_or s k 0 < 256) → All IsByte (fixed_up s)
bytes_fixed s h = fixed_bytes s (pair_count s) (All-from_get_or IsByte s 0 (λ i l. h i))

abbrev pub IsSmall : RecordNumber → Type 0
IsSmall m = m.0 < number_end

abbrev Refers : Entry → Type 0
Refers e = IsSmall e.file

abbrev AllRefer : List (Outcome Entry) → Type 0
AllRefer es = All Refers (given es)

before_refer : (xs ys : List (Outcome Entry)) → AllRefer xs → AllRefer ys → AllRefer (before xs ys)
unfolding given before
before_refer [] ys a b = b
before_refer (gives x ∷ xs) ys a b =
    All-cons Refers x (given (before xs ys)) (All-head Refers x (given xs) a)
    (before_refer xs ys (All-tail Refers x (given xs) a) b)
before_refer (refuses r ∷ xs) ys a b = All-nil Refers

module _ (n : RecordNumber) where
  more_small : (ms : List RecordNumber) (m : RecordNumber) → All IsSmall ms → IsSmall m → All IsSmall (one_more n ms m)
  unfolding one_more
  more_small ms m a s =
      both (All IsSmall) (eqb m.0 n.0 || among ms m) ms (ms ++ m ∷ []) a
      (All-append IsSmall ms (m ∷ []) a (All-cons IsSmall m [] s (All-nil IsSmall)))

  told_small : (ms : List RecordNumber) (es : List (Outcome Entry)) → All IsSmall ms → AllRefer es
      → All IsSmall (told_by n ms es).numbers
  unfolding told_by given
  told_small ms [] a b = a
  told_small ms (refuses r ∷ es) a b = a
  told_small ms (gives e ∷ es) a b =
      told_small (one_more n ms e.file) es (more_small ms e.file a (All-head Refers e (given es) b))
      (All-tail Refers e (given es) b)

module _ (s : List ℕ) (n : RecordNumber) (bytes : All IsByte s) where
  entry_small : (rest : List ℕ) (place : ℕ) (e : Entry) → All IsByte rest → entry_of rest n place ≡ gives e → Refers e
  unfolding entry_at
  entry_small rest place e a g =
      let six : e.file.0 ≡ (entry_at rest).file.0 = ap (λ (x : Entry). x.file.0) (entry_given rest n place e g).is in
      let f = fit 6 rest 16 (byte_at rest a) in
      omega arith

  entries_small : (to at : ℕ) (es : List (Outcome Entry)) → es ≡ entries_of s n to at → AllRefer es
  unfolding given
  entries_small to at [] e = All-nil Refers
  entries_small to at (refuses r ∷ es) e = All-nil Refers
  entries_small to at (gives x ∷ es) e =
      let p = peel s n to at x es e in
      let rest : All IsByte (rest_of s (list_at at to)) =
      All-take IsByte (to - at) (drop at s) (All-drop IsByte at s bytes) in
      All-cons Refers x (given es) (entry_small (rest_of s (list_at at to)) at x rest p.stands)
      (entries_small to (at + x.length) es p.tail)

  list_small : (a : Outcome Span) → AllRefer (list_entries s n a)
  unfolding given list_entries
  list_small (refuses r) = All-nil Refers
  list_small (gives p) = entries_small (p.from + p.bytes) p.from _ refl

  walk_small : (hs : List (Outcome Attribute)) → AllRefer (entries_by s n hs)
  unfolding given entries_by
  walk_small [] = All-nil Refers
  walk_small (refuses r ∷ hs) = All-nil Refers
  walk_small (gives h ∷ hs) =
      both (λ (xs : List (Outcome Entry)). AllRefer xs) (eqb h.ty attribute_list)
      (before (list_entries s n (list_in s n h)) (entries_by s n hs)) (entries_by s n hs)
      (before_refer (list_entries s n (list_in s n h)) (entries_by s n hs) (list_small (list_in s n h)) (walk_small hs))
      (walk_small hs)

  pub references_small : All IsSmall (references_of s n).numbers
  unfolding references_of all_entries
  references_small = told_small n [] (all_entries s n) (All-nil IsSmall) (walk_small (attributes_of s n))
