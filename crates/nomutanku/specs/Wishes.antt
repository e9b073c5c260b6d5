-- What the words behind a subcommand ask for.
use Rattle.std.specs.Prelude.{ℕ, ◌≡◌, ◌≢◌, ◌<◌, ◌^◌, List, Option, Some, None, codes, option_map, unwrap_or}
use Rattle.std.specs.Prelude.{Bool, true, false}
use Rattle.std.specs.Str.Parse.{IsNumeral, digits_value, without_leading_plus}
use Rattle.clap.specs.Words.{found_of, one_text}
use Rattle.clap.specs.declared.parser.matches.ArgMatches.{ArgMatches}
use Rattle.command.specs.declared.asked.Asked.{Asked}
use Rattle.command.specs.declared.asked.Asked.TheVariants.{Listing, Rows, Record}
use Rattle.command.specs.declared.extraction.Extraction.{Extraction}
use Rattle.report.specs.declared.form.Form.{Form}
use Rattle.report.specs.declared.form.Form.TheVariants as form
use Rattle.nomutanku.specs.declared.inputs.Wish.{Wish}

-- the value of the option with an id, where it has one
abbrev pub value_of : ArgMatches → List ℕ → Option (List ℕ)
value_of options id = one_text (found_of options) id

-- a decimal number below 2 ^ 64
abbrev pub IsNumber : List ℕ → Type 0
IsNumber t =
    IsNumeral 10 (without_leading_plus t) × (digits_value 10 (without_leading_plus t) < 2 ^ 64)

-- what a value says as a number; none where there is none
abbrev pub Counts : Option (List ℕ) → Option ℕ → Type 0
Counts None n = n ≡ None
Counts (Some t) (Some n) = IsNumber t × (n ≡ digits_value 10 (without_leading_plus t))
Counts (Some t) None = IsNumber t → ⊥

-- the value of an option as a number, 0 where it is left out
abbrev pub CountsOr0 : Option (List ℕ) → ℕ → Type 0
CountsOr0 value n = (given : Option ℕ) × Counts value given × (n ≡ unwrap_or given 0)

-- a flag is `true` where it is given, and `false` or nothing where it is not
abbrev pub Flags : Option (List ℕ) → Bool → Type 0
Flags value set =
    (value ≡ None → set ≡ false)
    × (value ≡ Some (codes "true") → set ≡ true)
    × (value ≡ Some (codes "false") → set ≡ false)

-- `--json` is `true` where it is given, and `false` or nothing where it is not
abbrev pub Forms : Option (List ℕ) → Form → Type 0
Forms value f =
    (value ≡ None → f ≡ form.Text)
    × (value ≡ Some (codes "true") → f ≡ form.Json)
    × (value ≡ Some (codes "false") → f ≡ form.Text)

-- the subcommand's name asks for this, with its options
abbrev pub Asks : List ℕ → ArgMatches → Asked → Type 0
Asks name options (Listing wanted) =
    (name ≡ codes "list") × Counts (value_of options (codes "base")) (option_map (λ n. n.0) wanted)
Asks name options Rows = name ≡ codes "rows"
Asks name options (Record n) =
    (name ≡ codes "record") × CountsOr0 (value_of options (codes "number")) n.0

-- what is asked of an extract
abbrev pub AsksExtraction : ArgMatches → Extraction → Type 0
AsksExtraction options q =
    Counts (value_of options (codes "size")) q.size
    × CountsOr0 (value_of options (codes "first")) q.first.0
    × CountsOr0 (value_of options (codes "from")) q.from
    × Counts (value_of options (codes "count")) q.count

-- what is asked of each input, in which form; nothing by a name of another kind
abbrev pub Wishes : List ℕ → ArgMatches → Option Wish → Type 0
Wishes name options (Some wish) =
    Asks name options wish.asked × Forms (value_of options (codes "json")) wish.form
Wishes name options None =
    (name ≢ codes "list") × (name ≢ codes "rows") × (name ≢ codes "record")
