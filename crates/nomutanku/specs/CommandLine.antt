-- The command line, as clap reads it: the subcommands with their options, each by id, long name, action, how many
-- values it takes, and what each has to be.
use Rattle.std.specs.Prelude.{ℕ, ◌≡◌, List, [], ◌∷◌, Some, true, false, codes}
use Rattle.clap.specs.Words.{App, Rule, Shape, app_of, new_rule, rule_of}
use Rattle.clap.specs.Simple.{new_shape}
use Rattle.clap.specs.Lexer.{usize_max}
use Rattle.clap.specs.declared.builder.action.ArgAction.TheVariants.{SetTrue, Append}
use Rattle.clap.specs.declared.builder.arg.Arg.{Arg}
use Rattle.clap.specs.declared.builder.command.Command.{Command}
use Rattle.clap.specs.declared.builder.command.Command.TheViews.{out-Command as fields_of}
use Rattle.clap.specs.declared.builder.value_parser.ValueParser.TheVariants.{Unsigned}

abbrev pub most_u64 : ℕ
most_u64 = 18446744073709551615

-- `--ID`
abbrev pub flag_rule : List ℕ → Rule
flag_rule id = record (new_rule id) { long = Some id; action = Some SetTrue }

-- `--ID N`, and `N` alone, which has to be there
abbrev pub number_rule : List ℕ → Rule
number_rule id = record (new_rule id) {
  long = Some id;
  value_names = 1;
  parser = Some (Unsigned 0 most_u64);
}

abbrev pub refusal_rule : Rule
refusal_rule = record (new_rule (codes "number")) {
  value_names = 1;
  parser = Some (Unsigned 0 most_u64);
  required = true;
}

-- `--ID TEXT`
abbrev pub text_rule : List ℕ → Rule
text_rule id = record (new_rule id) { long = Some id; value_names = 1 }

abbrev pub json_rule : Rule
json_rule = flag_rule (codes "json")

-- `[TABLE]..`, and `[FILE]` or `[MFT]`
abbrev pub tables_rule : Rule
tables_rule = record (new_rule (codes "inputs")) {
  action = Some Append;
  range = Some (record { start_inclusive = 0; end_inclusive = usize_max });
  value_names = 1;
}

abbrev pub file_rule : Rule
file_rule = record (new_rule (codes "inputs")) { value_names = 1 }

-- `-o TABLE`
abbrev pub table_rule : Rule
table_rule = record (new_rule (codes "table")) { short = Some 111; value_names = 1 }

-- a word that has to be there
abbrev pub word_rule : List ℕ → Rule
word_rule id = record (new_rule id) { value_names = 1; required = true }

-- the subcommands
abbrev pub list_shape : Shape
list_shape = record (new_shape (codes "list")) {
  rules =
      number_rule (codes "base") ∷ text_rule (codes "mft") ∷ number_rule (codes "size")
      ∷ number_rule (codes "first") ∷ flag_rule (codes "all") ∷ text_rule (codes "find") ∷ flag_rule (codes "names")
      ∷ flag_rule (codes "strict") ∷ json_rule ∷ tables_rule ∷ [];
}

abbrev pub rows_shape : Shape
rows_shape = record (new_shape (codes "rows")) { rules = json_rule ∷ tables_rule ∷ [] }

abbrev pub record_shape : Shape
record_shape = record (new_shape (codes "record")) {
  rules = number_rule (codes "number") ∷ json_rule ∷ file_rule ∷ [];
}

abbrev pub extract_shape : Shape
extract_shape = record (new_shape (codes "extract")) {
  rules =
      number_rule (codes "size") ∷ number_rule (codes "first") ∷ number_rule (codes "from")
      ∷ number_rule (codes "count") ∷ table_rule ∷ file_rule ∷ [];
}

abbrev pub merge_shape : Shape
merge_shape = record (new_shape (codes "merge")) {
  rules = table_rule ∷ word_rule (codes "first") ∷ word_rule (codes "second") ∷ [];
}

abbrev pub explain_shape : Shape
explain_shape = record (new_shape (codes "explain")) { rules = refusal_rule ∷ [] }

-- the whole: a subcommand has to be named, and where nothing is given help is the answer
abbrev pub program_shape : Shape
program_shape = record (new_shape (codes "nomutanku")) {
  has_version = true;
  arg_required_else_help = true;
  subcommand_required = true;
}

abbrev pub command_line : App
command_line = record {
  top = record program_shape { is_leaf = false };
  subs = list_shape ∷ rows_shape ∷ record_shape ∷ extract_shape ∷ merge_shape ∷ explain_shape ∷ [];
}

-- an option that is read so, in its own subcommand alone
abbrev pub IsRead : Rule → Arg → Type 0
IsRead rule a = (rule_of a ≡ rule) × (a.global ≡ false)

-- a command that is read so
abbrev pub Is : App → Command → Type 0
Is app c = (app_of c ≡ app) × ((fields_of c).has_globals ≡ false)

-- one without subcommands
abbrev pub leaf : Shape → App
leaf s = record { top = s; subs = [] }
