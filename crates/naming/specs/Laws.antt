-- What holds of these definitions; src/laws.rt has the functions whose contracts these are.
use Rattle.std.specs.Prelude.{ℕ, zero, suc, ◌+◌, ◌*◌, ◌^◌, ◌≤◌, ◌<◌, ◌≡◌, ◌≢◌, List, [], ◌∷◌, ◌++◌, false, eqb}
use Rattle.std.specs.Prelude.{Option, All}
use Rattle.std.specs.Option.{option_map}
use Rattle.std.specs.Char.{digit_value}
use Rattle.std.specs.Char.Escape.{backslash}
use Rattle.std.specs.Str.{IsUtf8, chars}
use Rattle.fields.specs.Pick.{pick}
use Rattle.fields.specs.declared.RecordNumber.{RecordNumber}
use Rattle.lines.specs.Line.{newline}
use Rattle.report.specs.declared.form.Form.{Form}
use Rattle.report.specs.declared.form.Form.TheVariants as form
use Rattle.naming.specs.Units.{name_chars, units_of}
use Rattle.naming.specs.Shown.{is_hidden, shown_of, string_of}
use Rattle.naming.specs.Line.{file_line}

-- a byte that is no control of ASCII
abbrev pub Prints : ℕ → Type 0
Prints b = (32 ≤ b) × (b ≢ 127)

-- a file's line is one line, whatever its name: a newline ends it, and no other byte of it is a newline or another
-- control
abbrev pub LinesAreOne : Type 0
LinesAreOne = (f : Form) (n : RecordNumber) (name : Option (List ℕ)) → n.0 < 2 ^ 64
    → (front : List ℕ) × (file_line f n name ≡ front ++ newline) × All Prints front

-- no character of a shown name is hidden, in either form
abbrev pub NothingHidden : Type 0
NothingHidden = (cs : List ℕ)
    → All (λ c. is_hidden c ≡ false) (shown_of cs) × All (λ c. is_hidden c ≡ false) (string_of cs)

-- two lines of text that are alike are of one number, and of names of the same characters
abbrev pub LinesSettle : Type 0
LinesSettle = (m n : RecordNumber) (a b : Option (List ℕ)) → m.0 < 2 ^ 64 → n.0 < 2 ^ 64
    → file_line form.Text m a ≡ file_line form.Text n b → (m ≡ n) × (option_map name_chars a ≡ option_map name_chars b)

-- where a reader of a string of JSON is: among characters, behind a backslash, or in front of a digit of a code, with
-- so many more behind it, where those in front of it are worth a number
pub data Reading : Type 0 where
  plain : Reading
  behind : Reading
  digits : ℕ → ℕ → Reading

-- what it takes from the characters of a string up to its closing quote; of JSON's escapes a name has these alone
unfoldable pub said_by : Reading → List ℕ → List ℕ
said_by plain [] = []
said_by plain (c ∷ cs) =
    pick (eqb c 34) [] (pick (eqb c backslash) (said_by behind cs) (c ∷ said_by plain cs))
said_by behind [] = []
said_by behind (c ∷ cs) = pick (eqb c 117) (said_by (digits 3 0) cs) (c ∷ said_by plain cs)
said_by (digits k v) [] = []
said_by (digits zero v) (c ∷ cs) = (16 * v + digit_value c) ∷ said_by plain cs
said_by (digits (suc k) v) (c ∷ cs) = said_by (digits k (16 * v + digit_value c)) cs

-- the string in an object says the name, whatever stands behind its closing quote
abbrev pub StringsSay : Type 0
StringsSay = (cs more : List ℕ) → said_by plain (string_of cs ++ 34 ∷ more) ≡ cs

-- the units that a text is made are read as its characters again
abbrev pub UnitsReadBack : Type 0
UnitsReadBack = (text : List ℕ) → IsUtf8 text → name_chars (units_of text) ≡ chars text
