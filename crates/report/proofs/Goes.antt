-- Line after line goes out: what went before and what goes now go together.
use Rattle.std.proofs.Common.{
  ℕ,
  ◌≡◌,
  List,
  [],
  ◌∷◌,
  ◌++◌,
  Option,
  take,
  sym,
  ap,
  subst,
  ◌∙◌,
  append-nil,
  Result,
  OnErr,
}
use Rattle.std.specs.Io.KnownBytes.{Appends}
use Rattle.text.specs.Put.{Put}
use Rattle.lines.specs.Went.{Went, StopsWithin}
use Rattle.lines.proofs.Wents.{went_then, stops_then}
use Rattle.report.specs.declared.line.Line.{Line}
use Rattle.report.specs.Form.{form_text, lines_text}
use Rattle.report.specs.declared.form.Form.{Form}

module _ (f : Form) (a b c : Option (List ℕ)) (text now bs : List ℕ) (end n : ℕ) (line : Line) (ls ms : List Line)
    (h : Went a b (lines_text f ls) bs) (e : ls ≡ line ∷ ms) (p : Put text 0 now end (form_text f line) n) where
  front : Went a b (take end now ++ lines_text f ms) bs
  front =
      subst (λ (x : List ℕ). Went a b x bs)
      (ap (lines_text f) e ∙ ap (λ (x : List ℕ). x ++ lines_text f ms) (sym p.is)) h

  pub went_line : Appends b c (take end now) → Went a c (lines_text f ms) bs
  went_line q =
      let w : Went b c [] (take end now) = (take end now, q, append-nil (take end now)) in
      went_then a b c (take end now) [] (lines_text f ms) bs front w

  pub stops_line : StopsWithin b c (take end now) → StopsWithin a c bs
  stops_line k = stops_then a b c (take end now) (lines_text f ms) bs front k

pub went_over : (f : Form) (a b : Option (List ℕ)) (bs : List ℕ) (ls : List Line)
    → Went a b (lines_text f ls) bs → ls ≡ [] → Appends a b bs
went_over f a b bs ls (done, p, q) e = subst (Appends a b)
    (sym (append-nil done) ∙ ap (λ (x : List Line). done ++ lines_text f x) (sym e) ∙ q) p

-- the same of other words for the lines
pub stops_as : {T E : Type 0} (r : Result T E) (f : Form) (a b : Option (List ℕ)) (ls ms : List Line)
    → OnErr r (StopsWithin a b (lines_text f ls)) → ls ≡ ms → OnErr r (StopsWithin a b (lines_text f ms))
stops_as r f a b ls ms h e = subst (λ (xs : List Line). OnErr r (StopsWithin a b (lines_text f xs))) e h
