-- What holds of these definitions; src/laws.rt has the functions whose contracts these are.
use Rattle.std.specs.Prelude.{
  ℕ,
  ◌≡◌,
  ◌≤◌,
  ◌<◌,
  List,
  [],
  ◌∷◌,
  ◌++◌,
  Bool,
  true,
  false,
  eqb,
  length,
  Some,
  All,
  IfSome,
}
use Rattle.fields.specs.Pick.{pick}
use Rattle.fields.specs.Told.{number_of}
use Rattle.fields.specs.declared.Cause.{Cause}
use Rattle.command.specs.Names.{shown_of, string_of}
use Rattle.command.specs.Explain.{explained}
use Rattle.command.specs.Asked.{asked_lines, reach_for}
use Rattle.command.specs.Reason.{refused_reason}
use Rattle.command.specs.declared.asked.Asked.{Asked}
use Rattle.command.specs.declared.explain.TheConstants.{CAUSES}

-- bytes of a file
abbrev pub AreBytes : List ℕ → Type 0
AreBytes bs = All (λ b. b < 256) bs

-- a name is shown in bytes that print: no newline, no other control, nothing past ASCII
abbrev pub NamesPrint : Type 0
NamesPrint = (name : List ℕ) → AreBytes name → All (λ b. (32 ≤ b) × (b < 127)) (shown_of name)

-- two names that are shown alike are one
abbrev pub NamesSettle : Type 0
NamesSettle = (m n : List ℕ) → AreBytes m → AreBytes n → shown_of m ≡ shown_of n → m ≡ n

-- what a reader of JSON takes from a string of bytes that print, up to its closing quote; true behind a backslash
unfoldable pub said_by : Bool → List ℕ → List ℕ
said_by true [] = []
said_by true (b ∷ bs) = b ∷ said_by false bs
said_by false [] = []
said_by false (b ∷ bs) = pick (eqb b 34) [] (pick (eqb b 92) (said_by true bs) (b ∷ said_by false bs))

-- a string in an object says what it is of, whatever stands behind its closing quote
abbrev pub StringsSay : Type 0
StringsSay = (shown more : List ℕ) → said_by false (string_of shown ++ 34 ∷ more) ≡ shown

-- as many bytes as `reach_for` asks for tell what the whole input does: lines, and why they are refused
abbrev pub FrontsTell : Type 0
FrontsTell =
    (a : Asked) (front more : List ℕ) → reach_for a front ≤ length front
    → asked_lines a (front ++ more) ≡ asked_lines a front

abbrev pub FrontsExplain : Type 0
FrontsExplain =
    (a : Asked) (c : Cause) (front more : List ℕ) → reach_for a front ≤ length front
    → refused_reason a (front ++ more) c ≡ refused_reason a front c

-- each cause is found by its number, and by no other
abbrev pub NumbersFind : Type 0
NumbersFind = (c : Cause) → explained CAUSES (number_of c) ≡ Some c

abbrev pub FoundHaveTheNumber : Type 0
FoundHaveTheNumber = (n : ℕ) → IfSome (explained CAUSES n) (λ c. number_of c ≡ n)
