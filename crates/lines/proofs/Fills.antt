-- A buffer that is being filled.
use Rattle.std.proofs.Common.{
  ℕ,
  ◌≡◌,
  ◌<◌,
  ◌≤◌,
  ◌-◌,
  List,
  [],
  ◌∷◌,
  ◌++◌,
  length,
  take,
  drop,
  refl,
  sym,
  ap,
  ◌∙◌,
  arith,
  subst,
  length-take-le,
  take-append-drop,
}
use Rattle.fields.proofs.Cases.{lt-y, lt-n}
use Rattle.text.specs.Put.{Put}
use Rattle.text.proofs.Puts.{further}
use Rattle.lines.specs.Line.{line_text}
use Rattle.lines.specs.declared.line.Line.{Line}
use Rattle.lines.specs.Page.{Page, page, page_by, page_of, Pages}

-- the lines so far stand in front; the lines to come make the same page from there on
pub record Filling (before : List ℕ) (all : List Line) (now : List ℕ) (at : ℕ) (ls : List Line) : Type 0 where
  pub same : page_of (length before) all ≡ page_by (length before) (take at now) ls
  pub tail : drop at now ≡ drop at before
  pub size : length now ≡ length before
  pub most : at ≤ length before

pub begun : (before : List ℕ) (all : List Line) → Filling before all before 0 all
begun before all = record { same = refl; tail = refl; size = refl; most = omega arith }

module _ (before : List ℕ) (all : List Line) (now : List ℕ) (at : ℕ) (ls : List Line)
    (h : Filling before all now at ls) where
  long : length (take at now) ≡ at
  long = let z = h.size in let m = h.most in length-take-le at now (omega arith)

  pub line_more : (l : Line) (ms : List Line) (after : List ℕ) (end n : ℕ) → ls ≡ l ∷ ms → 256 ≤ length now - at
      → Put now at after end (line_text l) n → end ≤ length now
      → Filling before all after end ms
  unfolding page_by
  line_more l ms after end n e room p f =
      let z = h.size in let m = h.most in let k = long in
      record {
        same =
            h.same ∙ ap (page_by (length before) (take at now)) e
            ∙ sym (lt-n (length before - length (take at now)) 256 _ _ (omega arith) refl)
            ∙ ap (λ (x : List ℕ). page_by (length before) x ms) (sym p.is);
        tail = p.tail ∙ further before now at end p.least h.tail;
        size = p.long ∙ z;
        most = omega arith;
      }

  paged : page_of (length before) all ≡ page (take at now) ls → Pages (page_of (length before) all) ls before now at
  paged e =
      let k = long in
      subst (λ (p : Page). Pages p ls before now at) (sym e) (record {
        text = sym (take-append-drop at now) ∙ ap (λ (t : List ℕ). take at now ++ t)
            (h.tail ∙ ap (λ (j : ℕ). drop j before) (sym k));
        end = sym k;
        fits = h.most;
        rest = refl;
      })

  pub no_line : ls ≡ [] → (ms : List Line) → ms ≡ [] → Pages (page_of (length before) all) ms before now at
  unfolding page_by
  no_line e ms f =
      subst (λ (x : List Line). Pages (page_of (length before) all) x before now at) (e ∙ sym f)
      (paged (h.same ∙ ap (page_by (length before) (take at now)) e ∙ ap (page (take at now)) (sym e)))

  full : (xs : List Line) → length now - at < 256 → page_by (length before) (take at now) xs ≡ page (take at now) xs
  unfolding page_by
  full [] l = refl
  full (x ∷ xs) l = let k = long in let z = h.size in sym (lt-y (length before - length (take at now)) 256 _ _
      (omega arith) refl)

  pub no_room : length now - at < 256 → Pages (page_of (length before) all) ls before now at
  no_room l = paged (h.same ∙ full ls l)
