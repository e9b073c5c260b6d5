-- Calls one after another: by induction on them, each says what was to come and what is left.
use Rattle.std.proofs.Common.{ℕ, ◌≡◌, List, [], ◌∷◌, ◌++◌, true, length, take, refl, sym, ap, ◌∙◌}
use Rattle.fields.proofs.Cases.{not-true}
use Rattle.parts.specs.declared.Part.{Part}
use Rattle.lines.specs.Line.{lines_text}
use Rattle.lines.specs.declared.line.Line.{Line}
use Rattle.lines.specs.Rest.{rest}
use Rattle.lines.specs.Page.{none}
use Rattle.lines.specs.Laws.{
  Calls,
  last,
  again,
  Filled,
  done,
  again as page,
  CallsTell,
  FillsTell,
  PagesLoseNone,
  ListedOnce,
}
use Rattle.lines.specs.declared.fill.Listed.{Listed}
use Rattle.lines.specs.declared.Lines.{Lines}
use Rattle.lines.proofs.Whole.{page_all, none_lost}

calls : {ps : List Part} {l : Lines} {xs : List Line} → Calls ps l xs → rest ps l ≡ xs
calls (last ps qs l m g) = g.0
calls (again ps qs l m x xs g c) = g ∙ ap (λ (ys : List Line). x ∷ ys) (calls c)

pub calls_tell : CallsTell
calls_tell t ps l xs e c = sym (calls c) ∙ e

no_lines : (ls : List Line) → none ls ≡ true → lines_text ls ≡ []
no_lines [] e = refl
no_lines (l ∷ ls) e = absurd (not-true e)

fills : {ps : List Part} {l : Lines} {x : List ℕ} → Filled ps l x → lines_text (rest ps l) ≡ x
fills (done ps l e) = no_lines (rest ps l) e
fills (page ps qs l m d e to x p f) = sym (none_lost (length d) (rest ps l) p)
    ∙ ap (λ (y : List ℕ). take to e ++ y) (fills f)

pub fills_tell : FillsTell
fills_tell t ps l x e f = sym (fills f) ∙ ap lines_text e

pub pages_lose_none : PagesLoseNone
pages_lose_none room ls = page_all room [] ls

same : (q r : Listed) → q.end ≡ r.end → q.more ≡ r.more → q ≡ r
same q r e f = rw (e, f) refl

pub listed_once : ListedOnce
listed_once room t d e f q r h k = (same q r (h.end ∙ sym k.end) (h.more ∙ sym k.more), h.text ∙ sym k.text)
