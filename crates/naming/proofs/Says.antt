-- A shown name is read back, from a line of text and from a string of JSON.
use Rattle.std.specs.Prelude.{ℕ, ◌+◌, ◌*◌, ◌/◌, ◌%◌, ◌<◌, ◌≡◌, List, [], ◌∷◌, ◌++◌, Bool, true, false, nat_lt, eqb}
use Rattle.std.specs.Char.{digit_value}
use Rattle.std.specs.Char.Escape.{backslash, hex_digit_at, escape_unicode}
use Rattle.std.proofs.Common.{arith, refl, sym, ap, ◌∙◌, append_assoc}
use Rattle.std.proofs.lemmas.Bool.Decides.{nat_tests}
use Rattle.std.proofs.lemmas.Str.{digit_value-digit_char}
use Rattle.std.proofs.lemmas.List.Concat.{flat_map-cons}
use Rattle.fields.specs.Pick.{pick}
use Rattle.naming.specs.Shown.{is_hidden, shown_char, shown_of, coded, is_quoted, string_char, string_of}
use Rattle.naming.specs.Laws.{plain, said_by}
use Rattle.naming.proofs.Showing.{hidden_low, digit_high}

digit_said : (p c : ℕ) → digit_value (hex_digit_at p c) ≡ c / p % 16
digit_said p c = digit_value-digit_char (c / p % 16) (omega arith)

-- text
module _ where
  -- where a reader of a line of text is: among characters, behind a backslash, in front of a brace, or behind digits
  -- that are worth a number
  data Hearing : Type 0 where
    among : Hearing
    after : Hearing
    brace : Hearing
    worth : ℕ → Hearing

  heard_by : Hearing → List ℕ → List ℕ
  heard_by among [] = []
  heard_by among (c ∷ cs) = pick (eqb c backslash) (heard_by after cs) (c ∷ heard_by among cs)
  heard_by after [] = []
  heard_by after (c ∷ cs) = pick (eqb c 117) (heard_by brace cs) (c ∷ heard_by among cs)
  heard_by brace [] = []
  heard_by brace (c ∷ cs) = heard_by (worth 0) cs
  heard_by (worth v) [] = []
  heard_by (worth v) (c ∷ cs) = pick (eqb c 125) (v ∷ heard_by among cs) (heard_by (worth (16 * v + digit_value c)) cs)

  no_brace : (p c : ℕ) → eqb (hex_digit_at p c) 125 ≡ false
  no_brace p c =
      let h = digit_high (c / p % 16) (omega arith) in
      grind (arith, nat_tests)

  digit_heard : (v p c : ℕ) (xs : List ℕ)
      → heard_by (worth v) (hex_digit_at p c ∷ xs) ≡ heard_by (worth (16 * v + c / p % 16)) xs
  unfolding heard_by
  digit_heard v p c xs =
      ap (λ (b : Bool). pick b (v ∷ heard_by among xs) (heard_by (worth (16 * v + digit_value (hex_digit_at p c))) xs))
      (no_brace p c)
      ∙ ap (λ (k : ℕ). heard_by (worth (16 * v + k)) xs) (digit_said p c)

  braced : (c v : ℕ) (xs : List ℕ) → v ≡ c → heard_by (worth v) (125 ∷ xs) ≡ c ∷ heard_by among xs
  unfolding heard_by
  braced c v xs e = ap (λ (k : ℕ). k ∷ heard_by among xs) e

  opened : (xs : List ℕ) → heard_by among (backslash ∷ 117 ∷ 123 ∷ xs) ≡ heard_by (worth 0) xs
  unfolding heard_by
  opened xs = refl

  below : (c k : ℕ) → nat_lt c k ≡ true → c < k
  below c k e = grind (arith, nat_tests)

  one : (c : ℕ) → c < 0x10 → 16 * 0 + c / 1 % 16 ≡ c
  one c l = omega arith

  two : (c : ℕ) → c < 0x100 → 16 * (16 * 0 + c / 0x10 % 16) + c / 1 % 16 ≡ c
  two c l = omega arith

  three : (c : ℕ) → c < 0x1000 → 16 * (16 * (16 * 0 + c / 0x100 % 16) + c / 0x10 % 16) + c / 1 % 16 ≡ c
  three c l = omega arith

  pub four : (c : ℕ) → c < 0x1_0000
      → 16 * (16 * (16 * (16 * 0 + c / 0x1000 % 16) + c / 0x100 % 16) + c / 0x10 % 16) + c / 1 % 16 ≡ c
  four c l = omega arith

  escape_by : (c : ℕ) (s t u v : Bool) → nat_lt c 0x10 ≡ s → nat_lt c 0x100 ≡ t → nat_lt c 0x1000 ≡ u
      → nat_lt c 0x1_0000 ≡ v → c < 0x1_0000 → (xs : List ℕ)
      → heard_by among (escape_unicode c ++ xs) ≡ c ∷ heard_by among xs
  escape_by c true t u v e f g h l xs =
      rw e (opened _ ∙ digit_heard _ 1 c _ ∙ braced c _ xs (one c (below c 0x10 e)))
  escape_by c false true u v e f g h l xs =
      rw (e, f) (opened _ ∙ digit_heard _ 0x10 c _ ∙ digit_heard _ 1 c _ ∙ braced c _ xs (two c (below c 0x100 f)))
  escape_by c false false true v e f g h l xs =
      rw (e, f, g)
      (opened _ ∙ digit_heard _ 0x100 c _ ∙ digit_heard _ 0x10 c _ ∙ digit_heard _ 1 c _
      ∙ braced c _ xs (three c (below c 0x1000 g)))
  escape_by c false false false true e f g h l xs =
      rw (e, f, g, h)
      (opened _ ∙ digit_heard _ 0x1000 c _ ∙ digit_heard _ 0x100 c _ ∙ digit_heard _ 0x10 c _ ∙ digit_heard _ 1 c _
      ∙ braced c _ xs (four c l))
  escape_by c false false false false e f g h l xs = absurd (grind (arith, nat_tests))

  char_by : (c : ℕ) (h b : Bool) → is_hidden c ≡ h → eqb c backslash ≡ b → (xs : List ℕ)
      → heard_by among (shown_char c ++ xs) ≡ c ∷ heard_by among xs
  unfolding shown_char heard_by
  char_by c true b e f xs = rw e (escape_by c _ _ _ _ refl refl refl refl (hidden_low c e) xs)
  char_by c false true e f xs =
      let k : c ≡ 92 = grind (arith, nat_tests) in
      rw (e, f) (ap (λ (x : ℕ). x ∷ heard_by among xs) (sym k))
  char_by c false false e f xs = rw (e, f) (rw f refl)

  heard : (cs : List ℕ) → heard_by among (shown_of cs) ≡ cs
  unfolding heard_by
  heard [] = refl
  heard (c ∷ cs) =
      ap (heard_by among) (flat_map-cons shown_char c cs) ∙ char_by c _ _ refl refl (shown_of cs)
      ∙ ap (λ (xs : List ℕ). c ∷ xs) (heard cs)

  -- two names that are shown alike are one
  pub shown_settles : (xs ys : List ℕ) → shown_of xs ≡ shown_of ys → xs ≡ ys
  shown_settles xs ys e = sym (heard xs) ∙ ap (heard_by among) e ∙ heard ys

-- JSON
module _ where
  coded_said : (c : ℕ) → c < 0x1_0000 → (xs : List ℕ) → said_by plain (coded c ++ xs) ≡ c ∷ said_by plain xs
  unfolding said_by
  coded_said c l xs =
      rw (digit_said 0x1000 c, digit_said 0x100 c, digit_said 0x10 c, digit_said 1 c)
      (ap (λ (k : ℕ). k ∷ said_by plain xs) (four c l))

  itself_said : (c : ℕ) → eqb c 34 ≡ false → eqb c backslash ≡ false → (xs : List ℕ)
      → said_by plain (c ∷ xs) ≡ c ∷ said_by plain xs
  unfolding said_by
  itself_said c e f xs = rw (e, f) refl

  behind_said : (c : ℕ) → eqb c 117 ≡ false → (xs : List ℕ)
      → said_by plain (backslash ∷ c ∷ xs) ≡ c ∷ said_by plain xs
  unfolding said_by
  behind_said c e xs = rw e refl

  no_quote : (c : ℕ) → is_quoted c ≡ false → eqb c 34 ≡ false
  unfolding is_quoted
  no_quote c e = grind (arith, nat_tests)

  no_backslash : (c : ℕ) → is_quoted c ≡ false → eqb c backslash ≡ false
  unfolding is_quoted
  no_backslash c e = grind (arith, nat_tests)

  no_code : (c : ℕ) → is_quoted c ≡ true → eqb c 117 ≡ false
  unfolding is_quoted
  no_code c e = grind (arith, nat_tests)

  string_by : (c : ℕ) (h b : Bool) → is_hidden c ≡ h → is_quoted c ≡ b → (xs : List ℕ)
      → said_by plain (string_char c ++ xs) ≡ c ∷ said_by plain xs
  unfolding string_char
  string_by c true b e f xs = rw e (coded_said c (hidden_low c e) xs)
  string_by c false true e f xs = rw (e, f) (behind_said c (no_code c f) xs)
  string_by c false false e f xs = rw (e, f) (itself_said c (no_quote c f) (no_backslash c f) xs)

  pub strings_say : (cs more : List ℕ) → said_by plain (string_of cs ++ 34 ∷ more) ≡ cs
  unfolding said_by
  strings_say [] more = refl
  strings_say (c ∷ cs) more =
      ap (λ (xs : List ℕ). said_by plain (xs ++ 34 ∷ more)) (flat_map-cons string_char c cs)
      ∙ ap (said_by plain) (append_assoc (string_char c) (string_of cs) (34 ∷ more))
      ∙ string_by c _ _ refl refl (string_of cs ++ 34 ∷ more)
      ∙ ap (λ (xs : List ℕ). c ∷ xs) (strings_say cs more)
