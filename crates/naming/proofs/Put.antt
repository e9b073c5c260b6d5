-- A line grows by one character after another.
use Rattle.std.specs.Prelude.{ℕ, ◌≡◌, List, [], ◌∷◌, ◌++◌, map, flat_map}
use Rattle.std.specs.Str.{encode_utf8_all}
use Rattle.std.proofs.Common.{sym, ap, ◌∙◌, append_assoc}
use Rattle.std.proofs.lemmas.List.{append-nil, map-id}
use Rattle.std.proofs.lemmas.Str.{encodes-append}
use Rattle.std.proofs.lemmas.List.Concat.{flat_map-append}

module _ (f : ℕ → List ℕ) (front line : List ℕ) (done : List ℕ) where
  pub put_more : (c : ℕ) (longer : List ℕ) → line ≡ front ++ encode_utf8_all (flat_map f done)
      → longer ≡ line ++ encode_utf8_all (f c) → longer ≡ front ++ encode_utf8_all (flat_map f (done ++ c ∷ []))
  put_more c longer e k =
      let one : flat_map f (c ∷ []) ≡ f c = append-nil (f c) in
      k ∙ ap (λ (xs : List ℕ). xs ++ encode_utf8_all (f c)) e
      ∙ append_assoc front (encode_utf8_all (flat_map f done)) (encode_utf8_all (f c))
      ∙ ap (λ (xs : List ℕ). front ++ xs)
      (sym (encodes-append (flat_map f done) (f c))
      ∙ ap encode_utf8_all
      (ap (λ (xs : List ℕ). flat_map f done ++ xs) (sym one) ∙ sym (flat_map-append f done (c ∷ []))))

  pub put_all : (all : List ℕ) → map (λ c. c) done ≡ all → line ≡ front ++ encode_utf8_all (flat_map f done)
      → line ≡ front ++ encode_utf8_all (flat_map f all)
  put_all all e k = k ∙ ap (λ (cs : List ℕ). front ++ encode_utf8_all (flat_map f cs)) (sym (map-id done) ∙ e)
