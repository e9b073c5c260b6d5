-- Theorems on whole listings: calls one after another tell all of a listing and nothing else.
use Rattle.std.specs.Prelude.{ℕ, ◌≡◌, List, [], ◌∷◌, ◌++◌, true, length, take, None, Some}
use Rattle.parts.specs.declared.Part.{Part}
use Rattle.lines.specs.Line.{lines_text}
use Rattle.lines.specs.Listing.{listing_of}
use Rattle.lines.specs.Rest.{rest, Gives}
use Rattle.lines.specs.Page.{page_of, none, Pages, Lists}
use Rattle.lines.specs.declared.line.Line.{Line}
use Rattle.lines.specs.declared.fill.Listed.{Listed}
use Rattle.lines.specs.declared.Lines.{Lines}

-- calls of `next` with the lines that they gave, until one gives none; each is lent the list as the one before left
-- it
pub data Calls : List Part → Lines → List Line → Type 0 where
  last : (ps qs : List Part) (l m : Lines) → Gives ps l None qs m → Calls ps l []
  again : (ps qs : List Part) (l m : Lines) (x : Line) (xs : List Line) → Gives ps l (Some x) qs m
      → Calls qs m xs → Calls ps l (x ∷ xs)

-- calls of `fill` with the text that they left in buffers of any length, until no line is to come
pub data Filled : List Part → Lines → List ℕ → Type 0 where
  done : (ps : List Part) (l : Lines) → none (rest ps l) ≡ true → Filled ps l []
  again : (ps qs : List Part) (l m : Lines) (d e : List ℕ) (to : ℕ) (x : List ℕ)
      → Pages (page_of (length d) (rest ps l)) (rest qs m) d e to → Filled qs m x → Filled ps l (take to e ++ x)

-- from the start of a listing, with a list of any length
abbrev pub CallsTell : Type 0
CallsTell =
    (t : List ℕ) (ps : List Part) (l : Lines) (xs : List Line)
    → rest ps l ≡ listing_of (length ps) t → Calls ps l xs → xs ≡ listing_of (length ps) t

abbrev pub FillsTell : Type 0
FillsTell =
    (t : List ℕ) (ps : List Part) (l : Lines) (x : List ℕ)
    → rest ps l ≡ listing_of (length ps) t → Filled ps l x → x ≡ lines_text (listing_of (length ps) t)

-- a page takes lines from the front and loses none: its text and the text of what is left are the text of the lines
abbrev pub PagesLoseNone : Type 0
PagesLoseNone =
    (room : ℕ) (ls : List Line) → (page_of room ls).text ++ lines_text (page_of room ls).rest ≡ lines_text ls

-- two results of one call of `list` are one, the buffer left too
abbrev pub ListedOnce : Type 0
ListedOnce =
    (room : ℕ) (t d e f : List ℕ) (q r : Listed)
    → Lists (page_of (length d) (listing_of room t)) d e q
    → Lists (page_of (length d) (listing_of room t)) d f r
    → (q ≡ r) × (e ≡ f)
