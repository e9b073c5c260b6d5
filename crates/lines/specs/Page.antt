-- RULES 18.6: the listing in a lent buffer: as many lines as it has room for.
use Rattle.std.specs.Prelude.{ℕ, ◌-◌, ◌≤◌, ◌≡◌, Bool, true, false, not, List, [], ◌∷◌, ◌++◌, ltb, length, drop}
use Rattle.fields.specs.Pick.{pick}
use Rattle.lines.specs.Line.{line_text, most_line}
use Rattle.lines.specs.declared.line.Line.{Line}
use Rattle.lines.specs.declared.fill.Listed.{Listed}

-- whether there are no lines
abbrev pub none : List Line → Bool
none [] = true
none (l ∷ ls) = false

-- lines told into a buffer: their text, and what is still to come
pub record Page : Type 0 where
  pub text : List ℕ
  pub rest : List Line

abbrev pub page : List ℕ → List Line → Page
page x ls = record { text = x; rest = ls }

-- line after line behind a text, as long as there is room for the longest
unfoldable pub page_by : ℕ → List ℕ → List Line → Page
page_by room x [] = page x []
page_by room x (l ∷ ls) =
    pick (ltb (room - length x) most_line) (page x (l ∷ ls)) (page_by room (x ++ line_text l) ls)

abbrev pub page_of : ℕ → List Line → Page
page_of room ls = page_by room [] ls

-- a page in front of a buffer, the bytes behind it as they were, and what is still to come
pub record Pages (p : Page) (after : List Line) (d e : List ℕ) (to : ℕ) : Type 0 where
  pub text : e ≡ p.text ++ drop (length p.text) d
  pub end : to ≡ length p.text
  pub fits : to ≤ length d
  pub rest : after ≡ p.rest

-- the same with word of whether there is more
pub record Lists (p : Page) (d e : List ℕ) (r : Listed) : Type 0 where
  pub text : e ≡ p.text ++ drop (length p.text) d
  pub end : r.end ≡ length p.text
  pub fits : r.end ≤ length d
  pub more : r.more ≡ not (none p.rest)
