-- A list that was filled holds the parts in front.
use Rattle.std.proofs.Common.{
  ℕ,
  ◌≡◌,
  ◌≤◌,
  ◌+◌,
  List,
  [],
  ◌∷◌,
  ◌++◌,
  map,
  length,
  take,
  sym,
  ap,
  ◌∙◌,
  arith,
  append-nil,
  append_assoc,
  length-set,
}
use Rattle.std.proofs.lemmas.List.{take_more_set}
use Rattle.std.specs.Prelude.{slice_set}
use Rattle.fields.specs.Answer.{Outcome}
use Rattle.fields.specs.Told.{told}
use Rattle.parts.specs.Parts.{Given, Parts}
use Rattle.parts.specs.Filled.{put, Told, told_parts, filled}
use Rattle.parts.specs.declared.Part.{Part}
use Rattle.parts.specs.declared.Filled.{Filled}
use Rattle.lines.specs.Listing.{given_parts, parted, first_size, parts_contents}

put_front : (xs : List Part) (k : ℕ) (gs : List Given) → k + length gs ≤ length xs
    → take (k + length gs) (put xs k gs) ≡ take k xs ++ map (λ g. g.part) gs
unfolding put
put_front xs k [] h = ap (λ (m : ℕ). take m xs) (omega arith) ∙ sym (append-nil (take k xs))
put_front xs k (g ∷ gs) h =
    let n : length (slice_set xs k g.part) ≡ length xs = length-set xs k g.part in
    ap (λ (m : ℕ). take m (put (slice_set xs k g.part) (k + 1) gs)) (omega arith)
    ∙ put_front (slice_set xs k g.part) (k + 1) gs (omega arith)
    ∙ ap (λ (y : List Part). y ++ map (λ g. g.part) gs) (take_more_set xs k g.part (omega arith))
    ∙ append_assoc (take k xs) (g.part ∷ []) (map (λ g. g.part) gs)

module _ (p : Parts) (before after : List Part) (r : Filled) (f : filled after r ≡ told_parts before p) where
  count : r.count ≡ length p.given
  unfolding told_parts
  count = ap (λ (t : Told). t.count) f

  pub read : r.reads ≡ length p.reads
  unfolding told_parts
  read = ap (λ (t : Told). t.reads) f

  list : after ≡ put before 0 p.given
  unfolding told_parts
  list = ap (λ (t : Told). t.list) f

  answered : told r.answer ≡ p.answer
  unfolding told_parts
  answered = ap (λ (t : Told). t.answer) f

  pub front : r.count ≤ length before → take r.count after ≡ given_parts p
  front h =
      let k = count in
      ap (λ (m : ℕ). take m after) (k ∙ omega arith)
      ∙ ap (take (0 + length p.given)) list
      ∙ put_front before 0 p.given (omega arith)

  -- what is said of the parts that were written is said of the definition's
  pub said : r.count ≤ length before → (size : ℕ) → size ≡ first_size (take r.count after)
      → parted (told r.answer) r.count size ≡ parts_contents p
  said h size e =
      ap (λ (a : Outcome Unit). parted a r.count size) answered
      ∙ ap (λ (k : ℕ). parted p.answer k size) count
      ∙ ap (parted p.answer (length p.given)) (e ∙ ap first_size (front h))
