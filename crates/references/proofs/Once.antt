-- The numbers told are those of the entries, each once.
use Rattle.std.proofs.Common.{◌≡◌, Bool, true, false, List, [], ◌∷◌, ◌++◌, eqb, refl, sym, ap, ◌∙◌}
use Rattle.std.proofs.Common.{append_assoc, append-nil, arith}
use Rattle.std.specs.Prelude.{◌||◌, map}
use Rattle.std.proofs.lemmas.Bool.Decides.{nat_tests}
use Rattle.fields.specs.Pick.{pick}
use Rattle.fields.specs.Answer.{Outcome, gives, refuses}
use Rattle.fields.specs.declared.RecordNumber.{RecordNumber}
use Rattle.list.specs.declared.Entry.{Entry}
use Rattle.references.specs.Entries.{all_entries}
use Rattle.references.specs.References.{among, one_more, told_by, references_of}
use Rattle.references.specs.Laws.{given, without, once, NumbersOfEntries}
use Rattle.references.proofs.Lists.{eqb_turned, among_push}

-- the numbers of entries that are given
abbrev files : List (Outcome Entry) → List RecordNumber
files es = map (λ e. e.file) (given es)

-- two numbers are left out in either order, and one of them twice as once
without_again : (m k : RecordNumber) (xs : List RecordNumber) → k.0 ≡ m.0 → without m (without k xs) ≡ without m xs
unfolding without
without_again m k [] e = refl
without_again m k (x ∷ xs) e = let i = without_again m k xs e in grind (arith, nat_tests)

without_turned : (m k : RecordNumber) (xs : List RecordNumber) → without m (without k xs) ≡ without k (without m xs)
unfolding without
without_turned m k [] = refl
without_turned m k (x ∷ xs) = let i = without_turned m k xs in grind (arith, nat_tests)

-- left out before or behind the choice of each once
once_without : (m : RecordNumber) (xs : List RecordNumber) → once (without m xs) ≡ without m (once xs)
unfolding without once
once_without m [] = refl
once_without m (x ∷ xs) =
    let i = once_without m xs in let j = without_turned m x (once xs) in
    let k = without_again m x (once xs) in
    grind (arith, nat_tests)

module _ (n : RecordNumber) where
  -- numbers that are neither the record's own nor told already
  unfoldable untold : List RecordNumber → List RecordNumber → List RecordNumber
  untold ms [] = []
  untold ms (x ∷ xs) = pick (eqb x.0 n.0 || among ms x) (untold ms xs) (x ∷ untold ms xs)

  untold_first : (xs : List RecordNumber) → untold [] xs ≡ without n xs
  unfolding untold without among
  untold_first [] = refl
  untold_first (x ∷ xs) = let i = untold_first xs in grind (arith, nat_tests)

  untold_more : (ms : List RecordNumber) (m : RecordNumber) (xs : List RecordNumber)
      → untold (ms ++ m ∷ []) xs ≡ without m (untold ms xs)
  unfolding untold without
  untold_more ms m [] = refl
  untold_more ms m (x ∷ xs) =
      let i = untold_more ms m xs in let p = among_push ms m x in let e = eqb_turned x.0 m.0 in
      grind (arith, nat_tests)

  -- one number more, by whether it is told
  one_told : (t : Bool) (ms xs : List RecordNumber) (m : RecordNumber)
      → pick t ms (ms ++ m ∷ []) ++ once (untold (pick t ms (ms ++ m ∷ [])) xs)
      ≡ ms ++ once (pick t (untold ms xs) (m ∷ untold ms xs))
  unfolding once
  one_told true ms xs m = refl
  one_told false ms xs m =
      append_assoc ms (m ∷ []) (once (untold (ms ++ m ∷ []) xs))
      ∙ ap (λ (ys : List RecordNumber). ms ++ (m ∷ ys))
      (ap once (untold_more ms m xs) ∙ once_without m (untold ms xs))

  told_once : (ms : List RecordNumber) (es : List (Outcome Entry))
      → (told_by n ms es).numbers ≡ ms ++ once (untold ms (files es))
  unfolding told_by given untold once one_more
  told_once ms [] = sym (append-nil ms)
  told_once ms (refuses r ∷ es) = sym (append-nil ms)
  told_once ms (gives e ∷ es) =
      told_once (one_more n ms e.file) es
      ∙ one_told (eqb e.file.0 n.0 || among ms e.file) ms (files es) e.file

pub numbers_of_entries : NumbersOfEntries
unfolding references_of
numbers_of_entries s n =
    told_once n [] (all_entries s n)
    ∙ ap once (untold_first n (files (all_entries s n)))
