-- Why two tables are not merged, in words: the text for people, by the names of the two.
use Rattle.std.specs.Prelude.{ℕ, List, [], ◌∷◌, ◌++◌, Option, Some, None, option_map, codes}
use Rattle.std.specs.Fmt.{decimal}
use Rattle.text.specs.Decimal.{words}
use Rattle.command.specs.Names.{shown_of}
use Rattle.command.specs.Flaw.{flaw_text}
use Rattle.command.specs.declared.flaw.Flaw.{Flaw}
use Rattle.command.specs.declared.merge_failure.Side.{Side}
use Rattle.command.specs.declared.merge_failure.Side.TheVariants as side
use Rattle.command.specs.declared.merge_failure.MergeFailure.{MergeFailure}
use Rattle.command.specs.declared.merge_failure.MergeFailure.TheVariants.{
  NoTable,
  Sizes,
  Clash,
  TooManyRows,
  Unreadable,
  OutOfMemory,
}

abbrev pub name_of : Side → List ℕ → List ℕ → List ℕ
name_of side.First a b = a
name_of side.Second a b = b

-- `A is no table (row at 32)`
abbrev pub flawed_text : List ℕ → Flaw → Option (List ℕ)
flawed_text name flaw =
    option_map (λ why. shown_of name ++ (codes " is no table (" ++ (why ++ codes ")"))) (flaw_text flaw)

-- `A has records of 1024 bytes`, and `B of 4096`
abbrev pub has_size_text : List ℕ → ℕ → List ℕ
has_size_text name n = shown_of name ++ (codes " has records of " ++ (decimal n ++ codes " bytes"))

abbrev pub of_size_text : List ℕ → ℕ → List ℕ
of_size_text name n = shown_of name ++ (codes " of " ++ decimal n)

-- what the system says of an input is its own
abbrev pub message_text : MergeFailure → List ℕ → List ℕ → Option (List ℕ)
message_text (NoTable s flaw) a b = option_map (λ text. codes "merge: " ++ text) (flawed_text (name_of s a b) flaw)
message_text (Sizes m n) a b = Some (codes "merge: " ++ (has_size_text a m ++ (codes ", and " ++ of_size_text b n)))
message_text (Clash n) a b =
    Some (words "merge: record" (n.0 ∷ [])
    ++ (codes " differs between " ++ (shown_of a ++ (codes " and " ++ shown_of b))))
message_text TooManyRows a b =
    Some (codes "merge: " ++ (shown_of a ++ (codes " and " ++ (shown_of b
    ++ codes " have more than 4096 rows together"))))
message_text (Unreadable s error) a b = None
message_text OutOfMemory a b = Some (codes "merge: out of memory")
