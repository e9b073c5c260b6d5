-- How a name's characters are shown: as part of one line, so that no other characters are shown like them, and none
-- speaks to a terminal.
use Rattle.std.specs.Prelude.{ℕ, List, [], ◌∷◌, Bool, ◌||◌, eqb, flat_map}
use Rattle.std.specs.Int.{is_in_range}
use Rattle.std.specs.Char.{is_control}
use Rattle.std.specs.Char.Escape.{backslash, hex_digit_at, escape_unicode}
use Rattle.fields.specs.Pick.{pick}

-- what no line shows as it is: a control character (Unicode's category Cc), a character that ends a line (U+2028,
-- U+2029), and one that turns the direction of a text (U+061C, U+200E, U+200F, U+202A to U+202E, U+2066 to U+2069)
unfoldable pub is_hidden : ℕ → Bool
is_hidden c =
    is_control c || eqb c 0x61C || is_in_range 0x200E 0x200F c || is_in_range 0x2028 0x202E c
    || is_in_range 0x2066 0x2069 c

-- in a line of text: a hidden character is `\u{..}`, with as many hexadecimal digits as it takes, a backslash is
-- doubled, and any other is itself
unfoldable pub shown_char : ℕ → List ℕ
shown_char c = pick (is_hidden c) (escape_unicode c) (pick (eqb c backslash) (backslash ∷ backslash ∷ []) (c ∷ []))

abbrev pub shown_of : List ℕ → List ℕ
shown_of cs = flat_map shown_char cs

-- `\uXXXX`, in four hexadecimal digits: no hidden character takes more
abbrev pub coded : ℕ → List ℕ
coded c =
    backslash ∷ 117 ∷ hex_digit_at 0x1000 c ∷ hex_digit_at 0x100 c ∷ hex_digit_at 0x10 c ∷ hex_digit_at 1 c ∷ []

-- in a string of JSON: a hidden character is `\uXXXX`, a quote and a backslash stand behind a backslash, and any other
-- is itself
unfoldable pub is_quoted : ℕ → Bool
is_quoted c = eqb c 34 || eqb c backslash

unfoldable pub string_char : ℕ → List ℕ
string_char c = pick (is_hidden c) (coded c) (pick (is_quoted c) (backslash ∷ c ∷ []) (c ∷ []))

abbrev pub string_of : List ℕ → List ℕ
string_of cs = flat_map string_char cs
