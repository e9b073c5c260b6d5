-- A page takes lines from the front and loses none.
use Rattle.std.proofs.Common.{
  ℕ,
  ◌≡◌,
  ◌-◌,
  List,
  [],
  ◌∷◌,
  ◌++◌,
  Bool,
  false,
  not,
  length,
  take,
  drop,
  refl,
  sym,
  ap,
  ◌∙◌,
  append_assoc,
  append-nil,
}
use Rattle.std.specs.Prelude.{ltb}
use Rattle.std.proofs.Math.Seq.{take-append_seam}
use Rattle.fields.proofs.Cases.{both, not-true}
use Rattle.lines.specs.Line.{line_text, lines_text}
use Rattle.lines.specs.declared.line.Line.{Line}
use Rattle.lines.specs.Page.{Page, page, page_by, page_of, none, Pages}

-- its text and the text of what is left are the text of the lines
pub page_all : (room : ℕ) (x : List ℕ) (ls : List Line) → (page_by room x ls).text ++ lines_text
    (page_by room x ls).rest ≡ x ++ lines_text ls
unfolding page_by
page_all room x [] = refl
page_all room x (l ∷ ls) =
    both (λ (p : Page). p.text ++ lines_text p.rest ≡ x ++ lines_text (l ∷ ls)) (ltb (room - length x) 256)
    (page x (l ∷ ls)) (page_by room (x ++ line_text l) ls)
    refl
    (page_all room (x ++ line_text l) ls ∙ append_assoc x (line_text l) (lines_text ls))

front : (p : Page) (d e : List ℕ) (to : ℕ) → e ≡ p.text ++ drop (length p.text) d → to ≡ length p.text
    → take to e ≡ p.text
front p d e to h k =
    ap (λ (m : ℕ). take m e) k ∙ ap (take (length p.text)) h ∙ take-append_seam p.text (drop (length p.text) d)

pub none_lost : (room : ℕ) (ls : List Line) {after : List Line} {d e : List ℕ} {to : ℕ}
    → Pages (page_of room ls) after d e to
    → take to e ++ lines_text after ≡ lines_text ls
none_lost room ls {after} {d} {e} {to} h =
    ap (λ (x : List ℕ). x ++ lines_text after) (front (page_of room ls) d e to h.text h.end)
    ∙ ap (λ (x : List Line). (page_of room ls).text ++ lines_text x) h.rest
    ∙ page_all room [] ls

none_left : (ls : List Line) → not (none ls) ≡ false → lines_text ls ≡ []
none_left [] e = refl
none_left (l ∷ ls) e = absurd (not-true (sym e))

-- a text with nothing behind it is the whole
pub nothing_left : (t : List ℕ) (ls ms : List Line) (b : Bool) → t ++ lines_text ms ≡ lines_text ls → b ≡ none ms
    → not b ≡ false
    → t ≡ lines_text ls
nothing_left t ls ms b h e m =
    sym (append-nil t) ∙ ap (λ (x : List ℕ). t ++ x) (sym (none_left ms (ap not (sym e) ∙ m))) ∙ h
