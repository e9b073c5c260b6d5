-- What an escape is made of is shown: no hidden character is left, and no byte of a control.
use Rattle.std.specs.Prelude.{ℕ, ◌/◌, ◌%◌, ◌<◌, ◌≤◌, ◌≡◌, List, [], ◌∷◌, Bool, true, false, nat_lt, eqb, All}
use Rattle.std.specs.Char.{digit_char, encode_utf8}
use Rattle.std.specs.Char.Escape.{backslash, hex_digit_at, escape_unicode}
use Rattle.std.specs.Str.{encode_utf8_all}
use Rattle.std.proofs.Common.{arith, refl}
use Rattle.std.proofs.lemmas.Bool.Decides.{nat_tests}
use Rattle.std.proofs.lemmas.List.Elements.{All-nil, All-cons, All-append, All-head, All-tail}
use Rattle.std.proofs.lemmas.List.Concat.{flat_map-cons}
use Rattle.naming.specs.Shown.{is_hidden, shown_char, shown_of, coded, is_quoted, string_char, string_of}
use Rattle.naming.specs.Laws.{Prints}

abbrev pub Shows : ℕ → Type 0
Shows c = is_hidden c ≡ false

-- where a hidden character stands, and where none does
pub hidden_low : (c : ℕ) → is_hidden c ≡ true → c < 0x1_0000
unfolding is_hidden
hidden_low c e = grind (arith, nat_tests)

pub shown_prints : (c : ℕ) → is_hidden c ≡ false → Prints c
unfolding is_hidden
shown_prints c e = (grind (arith, nat_tests), grind (arith, nat_tests))

pub ascii_shows : (c : ℕ) → 32 ≤ c → c < 127 → Shows c
unfolding is_hidden
ascii_shows c l u = grind (arith, nat_tests)

pub digit_low : (d : ℕ) → d < 16 → 48 ≤ digit_char d
digit_low d l = grind (arith, nat_tests)

pub digit_high : (d : ℕ) → d < 16 → digit_char d < 103
digit_high d l = grind (arith, nat_tests)

pub digit_shows : (d : ℕ) → d < 16 → Shows (digit_char d)
digit_shows d l =
    let low = digit_low d l in
    let high = digit_high d l in
    ascii_shows (digit_char d) (omega arith) (omega arith)

-- each of a list: as `All` says it, but by the list's form
data Each (P : ℕ → Type 0) : List ℕ → Type 0 where
  none : Each P []
  one : {a : ℕ} {xs : List ℕ} → P a → Each P xs → Each P (a ∷ xs)

all : (P : ℕ → Type 0) {xs : List ℕ} → Each P xs → All P xs
all P none = All-nil P
all P (one {a} {xs} h k) = All-cons P a xs h (all P k)

-- no part of an escape is hidden
module _ where
  slash : {xs : List ℕ} → Each Shows xs → Each Shows (backslash ∷ xs)
  slash h = one (ascii_shows 92 (omega arith) (omega arith)) h

  letter : {xs : List ℕ} → Each Shows xs → Each Shows (117 ∷ xs)
  letter h = one (ascii_shows 117 (omega arith) (omega arith)) h

  brace : {xs : List ℕ} → Each Shows xs → Each Shows (123 ∷ xs)
  brace h = one (ascii_shows 123 (omega arith) (omega arith)) h

  end : Each Shows (125 ∷ [])
  end = one (ascii_shows 125 (omega arith) (omega arith)) none

  digit : (p c : ℕ) {xs : List ℕ} → Each Shows xs → Each Shows (hex_digit_at p c ∷ xs)
  digit p c h = one (digit_shows (c / p % 16) (omega arith)) h

  escape_by : (c : ℕ) (s t u v w : Bool) → nat_lt c 0x10 ≡ s → nat_lt c 0x100 ≡ t → nat_lt c 0x1000 ≡ u
      → nat_lt c 0x1_0000 ≡ v → nat_lt c 0x10_0000 ≡ w → Each Shows (escape_unicode c)
  escape_by c true t u v w e f g h i = rw e (slash (letter (brace (digit 1 c end))))
  escape_by c false true u v w e f g h i = rw (e, f) (slash (letter (brace (digit 0x10 c (digit 1 c end)))))
  escape_by c false false true v w e f g h i =
      rw (e, f, g) (slash (letter (brace (digit 0x100 c (digit 0x10 c (digit 1 c end))))))
  escape_by c false false false true w e f g h i =
      rw (e, f, g, h) (slash (letter (brace (digit 0x1000 c (digit 0x100 c (digit 0x10 c (digit 1 c end)))))))
  escape_by c false false false false true e f g h i =
      rw (e, f, g, h, i)
      (slash
      (letter
      (brace (digit 0x1_0000 c (digit 0x1000 c (digit 0x100 c (digit 0x10 c (digit 1 c end))))))))
  escape_by c false false false false false e f g h i =
      rw (e, f, g, h, i)
      (slash
      (letter
      (brace
      (digit 0x10_0000 c
      (digit 0x1_0000 c (digit 0x1000 c (digit 0x100 c (digit 0x10 c (digit 1 c end)))))))))

  coded_shows : (c : ℕ) → Each Shows (coded c)
  coded_shows c =
      slash (letter (digit 0x1000 c (digit 0x100 c (digit 0x10 c (digit 1 c none)))))

  char_by : (c : ℕ) (h b : Bool) → is_hidden c ≡ h → eqb c backslash ≡ b → Each Shows (shown_char c)
  unfolding shown_char
  char_by c true b e f = rw e (escape_by c _ _ _ _ _ refl refl refl refl refl)
  char_by c false true e f = rw (e, f) (slash (slash none))
  char_by c false false e f = rw (e, f) (one e none)

  string_by : (c : ℕ) (h b : Bool) → is_hidden c ≡ h → is_quoted c ≡ b
      → Each Shows (string_char c)
  unfolding string_char
  string_by c true b e f = rw e (coded_shows c)
  string_by c false true e f = rw (e, f) (slash (one e none))
  string_by c false false e f = rw (e, f) (one e none)

pub text_shows : (cs : List ℕ) → All Shows (shown_of cs)
text_shows [] = All-nil Shows
text_shows (c ∷ cs) =
    rw (flat_map-cons shown_char c cs)
    (All-append Shows (shown_char c) (shown_of cs) (all Shows (char_by c _ _ refl refl)) (text_shows cs))

pub string_shows : (cs : List ℕ) → All Shows (string_of cs)
string_shows [] = All-nil Shows
string_shows (c ∷ cs) =
    rw (flat_map-cons string_char c cs)
    (All-append Shows (string_char c) (string_of cs) (all Shows (string_by c _ _ refl refl)) (string_shows cs))

-- the bytes of a shown character are no controls
module _ where
  high : (b : ℕ) {xs : List ℕ} → 128 ≤ b → Each Prints xs → Each Prints (b ∷ xs)
  high b l h = one (omega arith, λ e. omega arith) h

  bytes_by : (c : ℕ) (s t u : Bool) → Prints c → nat_lt c 128 ≡ s → nat_lt c 2048 ≡ t → nat_lt c 65536 ≡ u
      → Each Prints (encode_utf8 c)
  unfolding encode_utf8
  bytes_by c true t u p e f g = rw e (one p none)
  bytes_by c false true u p e f g = rw (e, f) (high _ (omega arith) (high _ (omega arith) none))
  bytes_by c false false true p e f g =
      rw (e, f, g) (high _ (omega arith) (high _ (omega arith) (high _ (omega arith) none)))
  bytes_by c false false false p e f g =
      rw (e, f, g)
      (high _ (omega arith) (high _ (omega arith) (high _ (omega arith) (high _ (omega arith) none))))

  pub bytes_print : (cs : List ℕ) → All Shows cs → All Prints (encode_utf8_all cs)
  bytes_print [] h = All-nil Prints
  bytes_print (c ∷ cs) h =
      All-append Prints (encode_utf8 c) (encode_utf8_all cs)
      (all Prints (bytes_by c _ _ _ (shown_prints c (All-head Shows c cs h)) refl refl refl))
      (bytes_print cs (All-tail Shows c cs h))
