-- Where a number goes among others, and what is left behind them.
use Rattle.std.proofs.Common.{ℕ, ◌+◌, ◌-◌, ◌<◌, ◌≤◌, ◌≡◌, List, [], ◌∷◌, ◌++◌, length, take, drop, refl, sym, ap, ◌∙◌}
use Rattle.std.proofs.Common.{get_or, append_assoc, length-drop, length-append, arith}
use Rattle.std.specs.Prelude.{set, replicate}
use Rattle.std.proofs.lemmas.Bool.{lt-ltb, le-ltb}
use Rattle.std.proofs.lemmas.List.{drop_more, take_more, drop_all, take_at, drop_at, take-take, take-set-le}
use Rattle.std.proofs.lemmas.List.{length-take-le, take_more_set, drop-append-le, length-set, get_or-take}
use Rattle.std.proofs.lemmas.List.{nil_from_length}
use Rattle.std.proofs.lemmas.Slice.{between_is, take-put_mid, drop-put_mid}
use borrow.Rule.Slice.PartMut.{mid_of, mid_len, put_mid, same_len_mid}
use Rattle.fields.specs.Pick.{pick}
use Rattle.fields.specs.declared.RecordNumber.{RecordNumber}
use Rattle.references.specs.Rising.{placed, sorted}
use Rattle.references.specs.Zeros.{ZerosBehind}
use Rattle.references.proofs.Lists.{zeros_more}

abbrev at_place : List RecordNumber → ℕ → RecordNumber
at_place xs at = get_or xs at (record { 0 = 0 })

-- the first k of some numbers, and a number to be placed among them
module _ (m : RecordNumber) (xs : List RecordNumber) (k at : ℕ) (fits : k ≤ length xs) where
  abbrev told : List RecordNumber
  told = take k xs

  told_drop : at < k → drop at told ≡ at_place xs at ∷ drop (at + 1) told
  told_drop l =
      drop_more told at (record { 0 = 0 }) (omega (arith, length-take-le k xs fits))
      ∙ ap (λ (x : RecordNumber). x ∷ drop (at + 1) told) (get_or-take k xs at (record { 0 = 0 }) l)

  told_take : at < k → take (at + 1) told ≡ take at told ++ at_place xs at ∷ []
  told_take l =
      take_more told at (record { 0 = 0 }) (omega (arith, length-take-le k xs fits))
      ∙ ap (λ (x : RecordNumber). take at told ++ x ∷ []) (get_or-take k xs at (record { 0 = 0 }) l)

  -- one that is no larger is passed
  pub passed : at < k → (at_place xs at).0 ≤ m.0 → placed m told ≡ take at told ++ placed m (drop at told)
      → placed m told ≡ take (at + 1) told ++ placed m (drop (at + 1) told)
  unfolding placed
  passed l e i =
      i
      ∙ ap (λ (ys : List RecordNumber). take at told ++ placed m ys) (told_drop l)
      ∙ ap (λ t. take at told ++ pick t (m ∷ at_place xs at ∷ drop (at + 1) told)
      (at_place xs at ∷ placed m (drop (at + 1) told))) (le-ltb m.0 (at_place xs at).0 e)
      ∙ sym (append_assoc (take at told) (at_place xs at ∷ []) (placed m (drop (at + 1) told)))
      ∙ ap (λ (ys : List RecordNumber). ys ++ placed m (drop (at + 1) told)) (sym (told_take l))

  pub stopped_behind : k ≤ at → placed m (drop at told) ≡ m ∷ drop at told
  unfolding placed
  stopped_behind l = rw (drop_all at told (omega (arith, length-take-le k xs fits))) refl

  pub stopped_before : at < k → m.0 < (at_place xs at).0 → placed m (drop at told) ≡ m ∷ drop at told
  unfolding placed
  stopped_before l e = rw (told_drop l, lt-ltb m.0 (at_place xs at).0 e) refl

-- a number put behind k others, and then turned to the front of those from a place on
module _ (m : RecordNumber) (xs : List RecordNumber) (k at : ℕ) (reach : at ≤ k) (room : k < length xs)
    (ys : List RecordNumber) where
  abbrev part : List RecordNumber
  part = mid_of at (k + 1 - at) (set xs k m)

  behind : List RecordNumber
  behind = drop at (take k xs)

  part_is : part ≡ behind ++ m ∷ []
  unfolding behind
  part_is =
      between_is (set xs k m) at (k + 1)
      ∙ ap (drop at) (take_more_set xs k m room)
      ∙ drop-append-le at (take k xs) (m ∷ []) (omega (arith, length-take-le k xs (omega arith)))

  behind_length : length behind ≡ k - at
  unfolding behind
  behind_length = length-drop at (take k xs) ∙ ap (λ (j : ℕ). j - at) (length-take-le k xs (omega arith))

  module _ (turned : ys ≡ drop (length part - 1) part ++ take (length part - 1) part) where
    last : length part - 1 ≡ length behind
    last = rw part_is (omega (arith, length-append behind (m ∷ [])))

    turned_is : ys ≡ m ∷ behind
    turned_is =
        turned
        ∙ rw (last, part_is) (ap (λ (zs : List RecordNumber). zs ++ take (length behind) (behind ++ m ∷ []))
        (drop_at behind (m ∷ []) (length behind) refl)
        ∙ ap (λ (zs : List RecordNumber). m ∷ zs) (take_at behind (m ∷ []) (length behind) refl))

    turned_length : length ys ≡ k + 1 - at
    turned_length = rw turned_is (omega (arith, behind_length))

    pub put_is : take (k + 1) (put_mid at (k + 1 - at) (set xs k m) ys)
        ≡ take at (take k xs) ++ m ∷ drop at (take k xs)
    unfolding behind
    put_is =
        take-put_mid at (k + 1 - at) (set xs k m) ys (k + 1) (omega (arith, turned_length))
        (omega (arith, length-set xs k m))
        ∙ ap (λ (zs : List RecordNumber). zs ++ ys) (take-set-le at xs k m reach ∙ sym (take-take at k xs reach))
        ∙ ap (λ (zs : List RecordNumber). take at (take k xs) ++ zs) turned_is

    pub put_zeros : ZerosBehind k xs → ZerosBehind (k + 1) (put_mid at (k + 1 - at) (set xs k m) ys)
    put_zeros z =
        drop-put_mid at (k + 1 - at) (set xs k m) ys (k + 1) (omega arith) (omega (arith, length-set xs k m))
        turned_length
        ∙ zeros_more k xs m z
        ∙ ap (λ (j : ℕ). replicate (j - (k + 1)) (record { 0 = 0 }))
        (sym (same_len_mid at (k + 1 - at) (set xs k m) ys
        (turned_length ∙ sym (mid_len at (k + 1) (set xs k m) (omega (arith, length-set xs k m))))))

-- numbers placed, the last first, among some that are placed already
unfoldable pub onto : List RecordNumber → List RecordNumber → List RecordNumber
onto [] ys = ys
onto (x ∷ xs) ys = placed x (onto xs ys)

pub onto_none : (xs : List RecordNumber) → sorted xs ≡ onto xs []
unfolding sorted onto
onto_none [] = refl
onto_none (x ∷ xs) = ap (placed x) (onto_none xs)

pub onto_last : (xs : List RecordNumber) (m : RecordNumber) (ys : List RecordNumber)
    → onto (xs ++ m ∷ []) ys ≡ onto xs (placed m ys)
unfolding onto
onto_last [] m ys = refl
onto_last (x ∷ xs) m ys = ap (placed x) (onto_last xs m ys)

pub onto_more : (all xs zs : List RecordNumber) (m : RecordNumber) (ys : List RecordNumber) → xs ≡ zs ++ m ∷ []
    → sorted all ≡ onto xs ys → sorted all ≡ onto zs (placed m ys)
onto_more all xs zs m ys e i = i ∙ ap (λ (ws : List RecordNumber). onto ws ys) e ∙ onto_last zs m ys

pub onto_done : (m : RecordNumber) (all xs ys : List RecordNumber) → length xs ≡ 0 → sorted all ≡ onto xs ys
    → placed m ys ≡ sorted (m ∷ all)
unfolding sorted onto
onto_done m all xs ys e i = ap (placed m) (sym (i ∙ ap (λ (ws : List RecordNumber). onto ws ys) (nil_from_length xs e)))
