-- Text and units, step by step.
use Rattle.std.specs.Prelude.{ℕ, ◌≡◌, ◌⊎◌, List, [], ◌∷◌, ◌++◌, length, flat_map, Result, Ok, Err, IfOk}
use Rattle.std.specs.Char.{encode_utf8}
use Rattle.std.specs.Char.Escape.{encode_utf16}
use Rattle.std.specs.Str.{IsUtf8, chars, encode_utf8_all}
use Rattle.std.specs.declared.string.String.{String}
use Rattle.std.specs.String.{string_bytes}
use Rattle.std.proofs.Common.{refl, sym, ap, ◌∙◌, append_assoc, inl, inr}
use Rattle.std.proofs.lemmas.List.{append-nil}
use Rattle.std.proofs.lemmas.List.Concat.{flat_map-cons}
use Rattle.std.proofs.lemmas.Str.{
  encodes_same,
  encodes-chars,
  IsUtf8-string_bytes,
  IsUtf8-past_char,
  chars_past_char,
  chars-nil,
}
use Rattle.naming.specs.Units.{unit_bytes}

-- a text that was made of characters has these characters
pub chars_by : {Z E : Type 0} (r : Result (String Z) E) (cs : List ℕ)
    → IfOk r (λ text. string_bytes text ≡ encode_utf8_all cs) → IfOk r (λ text. chars (string_bytes text) ≡ cs)
chars_by (Ok text) cs e =
    encodes_same (chars (string_bytes text)) cs (encodes-chars (string_bytes text) (IsUtf8-string_bytes text) ∙ e)
chars_by (Err x) cs e = tt

-- the units that an iterator has left: a pending one, and those of the text behind
abbrev left : List ℕ → List ℕ → List ℕ
left p r = p ++ flat_map encode_utf16 (chars r)

abbrev Steps : List ℕ → List ℕ → ℕ → List ℕ → List ℕ → Type 0
Steps p r u q t =
    ((p ≡ u ∷ []) × (q ≡ []) × (t ≡ r))
    ⊎ ((p ≡ []) × ((c : ℕ) × (r ≡ encode_utf8 c ++ t) × (encode_utf16 c ≡ u ∷ q)))

one_less : (p r : List ℕ) (u : ℕ) (q t : List ℕ) → IsUtf8 r → Steps p r u q t → left p r ≡ u ∷ left q t
one_less p r u q t k (inl h) = rw (h.0, h.1, h.2) refl
one_less p r u q t k (inr h) =
    ap (λ (xs : List ℕ). xs ++ flat_map encode_utf16 (chars r)) h.0
    ∙ ap (flat_map encode_utf16) (chars_past_char r t h.1.0 k h.1.1)
    ∙ flat_map-cons encode_utf16 h.1.0 (chars t)
    ∙ ap (λ (xs : List ℕ). xs ++ flat_map encode_utf16 (chars t)) h.1.2

pub still_text : (p r : List ℕ) (u : ℕ) (q t : List ℕ) → IsUtf8 r → Steps p r u q t → IsUtf8 t
still_text p r u q t k (inl h) = rw (h.2) k
still_text p r u q t k (inr h) = IsUtf8-past_char r t h.1.0 k h.1.1

abbrev bytes_left : List ℕ → List ℕ → List ℕ
bytes_left p r = flat_map unit_bytes (p ++ flat_map encode_utf16 (chars r))

pub unit_put : (p r : List ℕ) (u : ℕ) (q t : List ℕ) → IsUtf8 r → Steps p r u q t → (done longer all : List ℕ)
    → longer ≡ done ++ unit_bytes u → done ++ bytes_left p r ≡ all → longer ++ bytes_left q t ≡ all
unit_put p r u q t k h done longer all e i =
    ap (λ (xs : List ℕ). xs ++ bytes_left q t) e
    ∙ append_assoc done (unit_bytes u) (bytes_left q t)
    ∙ ap (λ (xs : List ℕ). done ++ xs)
    (sym (flat_map-cons unit_bytes u (left q t)) ∙ ap (flat_map unit_bytes) (sym (one_less p r u q t k h)))
    ∙ i

empty : (xs : List ℕ) → length xs ≡ 0 → xs ≡ []
empty [] e = refl
empty (x ∷ xs) e = cc

pub units_put : (p r done all : List ℕ) → p ≡ [] → length r ≡ 0 → done ++ bytes_left p r ≡ all → done ≡ all
units_put p r done all e k i =
    let s : bytes_left p r ≡ [] =
    ap (λ (xs : List ℕ). bytes_left xs r) e
    ∙ ap (λ (xs : List ℕ). flat_map unit_bytes (flat_map encode_utf16 (chars xs))) (empty r k)
    ∙ ap (λ (xs : List ℕ). flat_map unit_bytes (flat_map encode_utf16 xs)) chars-nil in
    sym (append-nil done) ∙ ap (λ (xs : List ℕ). done ++ xs) (sym s) ∙ i
