-- What stands in a list that parts were put to: they stand in front, in their order, and the records behind them are
-- those that were there.
use Rattle.std.proofs.Common.{
  map,
  append_assoc,
  length-set,
  ℕ,
  ◌+◌,
  ◌≤◌,
  ◌≡◌,
  min,
  List,
  [],
  ◌∷◌,
  ◌++◌,
  length,
  take,
  drop,
  set,
  sym,
  ap,
  ◌∙◌,
  arith,
  length-take,
}
use Rattle.std.proofs.lemmas.List.{take-append-drop, take_more_set, drop-set-lt, length-replicate}
use Rattle.std.proofs.Math.Seq.{take-set-lt}
use Rattle.parts.specs.declared.Part.{Part}
use Rattle.parts.specs.declared.Filled.{Filled}
use Rattle.parts.specs.Parts.{Given, Parts}
use Rattle.parts.specs.Laws.{PartsInFront}
use Rattle.parts.specs.Filled.{put, Told, told_parts, filled, most_parts, no_part, blank_parts}

-- parts put to the front of a list, and the list with it
put_back : (gs : List Given) (xs : List Part) (j k : ℕ) → j + length gs ≤ k
    → put (take k xs) j gs ++ drop k xs ≡ put xs j gs
unfolding put
put_back [] xs j k l = take-append-drop k xs
put_back (g ∷ gs) xs j k l =
    ap (λ (ys : List Part). put ys (j + 1) gs ++ drop k xs) (sym (take-set-lt k xs j g.part (omega arith)))
    ∙ ap (λ (ys : List Part). put (take k (set xs j g.part)) (j + 1) gs ++ ys)
    (sym (drop-set-lt k xs j g.part (omega arith)))
    ∙ put_back gs (set xs j g.part) (j + 1) k (omega arith)

blank_size : length blank_parts ≡ 157
unfolding blank_parts
blank_size = length-replicate 157 no_part

-- the front of a blank array filled, with room for as many parts as it has records
pub collects : (f : ℕ → Parts) (room k : ℕ) (xs zs : List Part) (r : Filled) → k ≡ min room most_parts
    → xs ≡ blank_parts
    → filled zs r ≡ told_parts (take k xs) (f (length (take k xs))) → r.count ≤ length (take k xs)
    → filled (zs ++ drop k xs) r ≡ told_parts blank_parts (f (min room most_parts))
unfolding told_parts
collects f room k xs zs r e b h l =
    let a : length (take k xs) ≡ min room most_parts = omega (arith, length-take k xs, ap length b, blank_size) in
    let p = f (length (take k xs)) in
    let c : r.count ≡ length p.given = ap (λ (t : Told). t.count) h in
    let m : 0 + length p.given ≤ k = omega (arith, length-take k xs) in
    ap (λ (t : Told). record t { list = t.list ++ drop k xs }) h
    ∙ ap (λ (ys : List Part). record (told_parts xs p) { list = ys }) (put_back p.given xs 0 k m)
    ∙ ap (λ (ys : List Part). told_parts ys p) b ∙ ap (λ (n : ℕ). told_parts blank_parts (f n)) a

pub front : (gs : List Given) (xs : List Part) (k : ℕ) → k + length gs ≤ length xs
    → put xs k gs ≡ take k xs ++ (map (λ g. g.part) gs ++ drop (k + length gs) xs)
unfolding put
front [] xs k l = sym (ap (λ (j : ℕ). take k xs ++ drop j xs) (omega arith) ∙ take-append-drop k xs)
front (g ∷ gs) xs k l =
    let p = g.part in
    let ps = map (λ (x : Given). x.part) gs in
    let j = k + 1 + length gs in
    front gs (set xs k p) (k + 1) (omega (arith, length-set xs k p))
    ∙ ap (λ (ys : List Part). ys ++ (ps ++ drop j (set xs k p))) (take_more_set xs k p (omega arith))
    ∙ append_assoc (take k xs) (p ∷ []) (ps ++ drop j (set xs k p))
    ∙ ap (λ (ys : List Part). take k xs ++ (p ∷ (ps ++ ys)))
    (drop-set-lt j xs k p (omega arith) ∙ ap (λ (i : ℕ). drop i xs) (omega arith))

pub parts_in_front : PartsInFront
unfolding told_parts
parts_in_front xs p l = front p.given xs 0 (omega arith) ∙ ap (λ (i : ℕ). map (λ g. g.part) p.given ++ drop i xs)
    (omega arith)
