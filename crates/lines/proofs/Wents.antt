-- Text goes out piece by piece: what went before and what goes now go together.
use Rattle.std.proofs.Common.{
  ◌≡◌,
  ℕ,
  ◌-◌,
  subst,
  List,
  [],
  ◌∷◌,
  ◌++◌,
  Option,
  Result,
  Ok,
  Err,
  OnErr,
  OnOk,
  refl,
  sym,
  ap,
  ◌∙◌,
  length,
  take,
  drop,
  append_assoc,
  append-nil,
  take-append-drop,
}
use Rattle.std.proofs.lemmas.List.{take_rest}
use Rattle.std.specs.Io.KnownBytes.{Appends, Keeps}
use Rattle.std.proofs.KnownBytes.{Appends-trans, Appends-nil, Appends-kept}
use Rattle.text.specs.Put.{Put}
use Rattle.lines.specs.Line.{line_text, lines_text}
use Rattle.lines.specs.declared.line.Line.{Line}
use Rattle.lines.specs.Went.{Went, StopsWithin}

-- a write that took n bytes, and one that failed
pub went_more : (a b c : Option (List ℕ)) (rest bs : List ℕ) (n : ℕ) → Went a b rest bs → Appends b c (take n rest)
    → Went a c (take (length rest - n) (drop n rest)) bs
went_more a b c rest bs n (done, p, e) q = (
  done ++ take n rest,
  Appends-trans a b c done (take n rest) p q,
  append_assoc done (take n rest) (take (length rest - n) (drop n rest))
      ∙ ap (λ l. done ++ (take n rest ++ l)) (take_rest rest n) ∙ ap (λ l. done ++ l) (take-append-drop n rest) ∙ e,
)

pub went_kept : (a b c : Option (List ℕ)) (rest bs : List ℕ) → Went a b rest bs → Keeps b c → Went a c rest bs
went_kept a b c rest bs (done, p, e) q = (done, Appends-kept a b c done p q, e)

-- nothing went yet
pub went_none : (a : Option (List ℕ)) (bs : List ℕ) → Went a a bs bs
went_none a bs = ([], Appends-nil a, refl)

-- all of it went
pub went_front : (a b : Option (List ℕ)) (page bs : List ℕ) → Appends a b bs → Went a b (take 0 page) bs
went_front a b page bs p = (bs, p, append-nil bs)

pub went_all : (a b c : Option (List ℕ)) (rest bs : List ℕ) → Went a b (rest ++ []) bs → Appends b c rest
    → Appends a c bs
went_all a b c rest bs (done, p, e) q = subst (Appends a c) (ap (λ l. done ++ l) (sym (append-nil rest)) ∙ e)
    (Appends-trans a b c done rest p q)

-- of text that waits in front of more, some went, or as much as went before a failure
pub went_then : (a b c : Option (List ℕ)) (text after more bs : List ℕ) → Went a b (text ++ more) bs
    → Went b c after text → Went a c (after ++ more) bs
went_then a b c text after more bs (done, p, e) (next, q, f) = (
  done ++ next,
  Appends-trans a b c done next p q,
  append_assoc done next (after ++ more) ∙ ap (λ l. done ++ l)
      (sym (append_assoc next after more) ∙ ap (λ l. l ++ more) f) ∙ e,
)

pub stops_then : (a b c : Option (List ℕ)) (text more bs : List ℕ) → Went a b (text ++ more) bs → StopsWithin b c text
    → StopsWithin a c bs
stops_then a b c text more bs h (rest, k) = (rest ++ more, went_then a b c text rest more bs h k)

-- a line more in the page
pub went_line : (a b c : Option (List ℕ)) (page now text bs : List ℕ) (k end n : ℕ) (line : Line) (ls ms : List Line)
    → Went a b (text ++ lines_text ls) bs → Went b c (take k page) text → ls ≡ line ∷ ms
    → Put page k now end (line_text line) n
    → Went a c (take end now ++ lines_text ms) bs
went_line a b c page now text bs k end n line ls ms h w e p =
    subst (λ x. Went a c x bs)
    (ap (λ (x : List Line). take k page ++ lines_text x) e ∙ sym
    (append_assoc (take k page) (line_text line) (lines_text ms)) ∙ ap (λ x. x ++ lines_text ms) (sym p.is))
    (went_then a b c text (take k page) (lines_text ls) bs h w)

-- no line more
pub went_end : (a b c : Option (List ℕ)) (text bs : List ℕ) (ls : List Line) → Went a b (text ++ lines_text ls) bs
    → ls ≡ [] → Appends b c text → Appends a c bs
went_end a b c text bs ls h e p = went_all a b c text bs (subst
    (λ (x : List Line). Went a b (text ++ lines_text x) bs) e h) p

pub on_err : {T E : Type 0} (r : Result T E) {P : Type 0} → P → OnErr r P
on_err (Ok v) p = tt
on_err (Err e) p = p

pub err_then : {T E : Type 0} (r : Result T E) {P Q : Type 0} → OnErr r P → (P → Q) → OnErr r Q
err_then (Ok v) p f = tt
err_then (Err e) p f = f p

pub ok_then : {T E : Type 0} (r : Result T E) {P Q : Type 0} → OnOk r P → (P → Q) → OnOk r Q
ok_then (Ok v) p f = f p
ok_then (Err e) p f = tt
