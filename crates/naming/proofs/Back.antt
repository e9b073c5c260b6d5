-- The units that characters are made are read as these characters again.
use Rattle.std.specs.Prelude.{ℕ, ◌+◌, ◌-◌, ◌/◌, ◌%◌, ◌^◌, ◌<◌, ◌≤◌, ◌≡◌, List, [], ◌∷◌, ◌++◌, Bool, true, false}
use Rattle.std.specs.Prelude.{nat_lt, ◌&&◌, map, flat_map, Option, Some, unwrap_or, All}
use Rattle.std.specs.Char.{IsScalar}
use Rattle.std.specs.Char.Escape.{encode_utf16}
use Rattle.std.specs.Char.Utf16.{utf16_chars, lone_unit_char, surrogate_pair_char}
use Rattle.std.specs.Str.{IsUtf8, chars, all_scalars}
use Rattle.std.proofs.Common.{arith, refl, ap, ◌∙◌}
use Rattle.std.proofs.str.Utf16.{IsPair}
use Rattle.std.proofs.lemmas.Bool.Decides.{nat_tests}
use Rattle.std.proofs.lemmas.Nat.{from_le_bytes-to_le_bytes_2}
use Rattle.std.proofs.lemmas.Str.{scalars-chars, utf16_chars-nil, utf16_chars_lone, utf16_chars_pair}
use Rattle.std.proofs.lemmas.List.Elements.{All-nil, All-cons, All-append, All-head, All-tail}
use Rattle.std.proofs.lemmas.List.Concat.{flat_map-cons}
use Rattle.naming.specs.Units.{units_in, name_chars, unit_bytes, units_of}

abbrev IsUnit : ℕ → Type 0
IsUnit u = u < 2 ^ 16

-- bytes are read as the units that they were made of
units_back : (us : List ℕ) → All IsUnit us → units_in (flat_map unit_bytes us) ≡ us
units_back [] h = refl
units_back (u ∷ us) h =
    ap units_in (flat_map-cons unit_bytes u us)
    ∙ ap (λ (x : ℕ). x ∷ units_in (flat_map unit_bytes us))
    (from_le_bytes-to_le_bytes_2 u (All-head IsUnit u us h))
    ∙ ap (λ (xs : List ℕ). u ∷ xs) (units_back us (All-tail IsUnit u us h))

both : (s t : Bool) → (s && t) ≡ true → (s ≡ true) × (t ≡ true)
both true t e = (refl, e)
both false t e = cc

scalar_below : (c : ℕ) → IsScalar c → c < 0x11_0000
scalar_below c s = grind (arith, nat_tests)

no_high : (c : ℕ) → IsScalar c → 0xD800 ≤ c → c < 0xDC00 → ⊥
no_high c s l u = grind (arith, nat_tests)

alone : (c : ℕ) → IsScalar c → lone_unit_char c ≡ Some c
alone c s = grind (arith, nat_tests)

over : (c : ℕ) → nat_lt c 0x1_0000 ≡ false → 0x1_0000 ≤ c
over c e = grind (arith, nat_tests)

under : (c : ℕ) → nat_lt c 0x1_0000 ≡ true → c < 0x1_0000
under c e = grind (arith, nat_tests)

abbrev high : ℕ → ℕ
high c = 0xD800 + (c - 0x1_0000) / 0x400

abbrev low : ℕ → ℕ
low c = 0xDC00 + (c - 0x1_0000) % 0x400

-- each character has units of 16 bits
module _ where
  unit_by : (c : ℕ) (b : Bool) → IsScalar c → nat_lt c 0x1_0000 ≡ b → All IsUnit (encode_utf16 c)
  unit_by c true s e = rw e (All-cons IsUnit c [] (under c e) (All-nil IsUnit))
  unit_by c false s e =
      let l = scalar_below c s in
      let k = over c e in
      rw e
      (All-cons IsUnit (high c) (low c ∷ []) (omega arith)
      (All-cons IsUnit (low c) [] (omega arith) (All-nil IsUnit)))

  are_units : (cs : List ℕ) → all_scalars cs ≡ true → All IsUnit (flat_map encode_utf16 cs)
  are_units [] e = All-nil IsUnit
  are_units (c ∷ cs) e =
      let h = both _ _ e in
      rw (flat_map-cons encode_utf16 c cs)
      (All-append IsUnit (encode_utf16 c) (flat_map encode_utf16 cs) (unit_by c _ h.0 refl) (are_units cs h.1))

-- and is read from them
module _ where
  is_pair : (c : ℕ) → 0x1_0000 ≤ c → c < 0x11_0000 → IsPair (high c) (low c)
  is_pair c l k = (omega arith, omega arith, omega arith, omega arith)

  one_char : (c : ℕ) → 0x1_0000 ≤ c → c < 0x11_0000 → surrogate_pair_char (high c) (low c) ≡ c
  one_char c l k = omega arith

  read_by : (c : ℕ) (b : Bool) → IsScalar c → nat_lt c 0x1_0000 ≡ b → (us : List ℕ)
      → utf16_chars (encode_utf16 c ++ us) ≡ Some c ∷ utf16_chars us
  read_by c true s e us =
      rw e
      (utf16_chars_lone c us (λ h. no_high c s h.0 h.1)
      ∙ ap (λ (o : Option ℕ). o ∷ utf16_chars us) (alone c s))
  read_by c false s e us =
      let k = over c e in
      let l = scalar_below c s in
      rw e
      (utf16_chars_pair (high c) (low c) us (is_pair c k l)
      ∙ ap (λ (x : ℕ). Some x ∷ utf16_chars us) (one_char c k l))

  chars_back : (cs : List ℕ) → all_scalars cs ≡ true → utf16_chars (flat_map encode_utf16 cs) ≡ map Some cs
  chars_back [] e = utf16_chars-nil
  chars_back (c ∷ cs) e =
      let h = both _ _ e in
      ap utf16_chars (flat_map-cons encode_utf16 c cs) ∙ read_by c _ h.0 refl (flat_map encode_utf16 cs)
      ∙ ap (λ (os : List (Option ℕ)). Some c ∷ os) (chars_back cs h.1)

none_lost : (cs : List ℕ) → map (λ o. unwrap_or o 0xFFFD) (map Some cs) ≡ cs
none_lost [] = refl
none_lost (c ∷ cs) = ap (λ (xs : List ℕ). c ∷ xs) (none_lost cs)

pub units_read_back : (text : List ℕ) → IsUtf8 text → name_chars (units_of text) ≡ chars text
units_read_back text u =
    let s = scalars-chars text u in
    ap (λ (us : List ℕ). map (λ o. unwrap_or o 0xFFFD) (utf16_chars us))
    (units_back (flat_map encode_utf16 (chars text)) (are_units (chars text) s))
    ∙ ap (λ (os : List (Option ℕ)). map (λ o. unwrap_or o 0xFFFD) os) (chars_back (chars text) s)
    ∙ none_lost (chars text)
