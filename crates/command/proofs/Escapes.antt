-- How a name is shown can be read back, and has only bytes that print.
use Rattle.std.specs.Prelude.{
  ℕ,
  ◌+◌,
  ◌*◌,
  ◌-◌,
  ◌/◌,
  ◌%◌,
  ◌<◌,
  ◌≤◌,
  ◌≡◌,
  ◌==◌,
  List,
  [],
  ◌∷◌,
  ◌++◌,
  Bool,
  true,
  false,
  cond,
  nat_lt,
  flat_map,
  All,
}
use Rattle.std.specs.Char.{digit_char}
use Rattle.std.specs.Char.Escape.{hex_digit_at, short_escape, escape_ascii}
use Rattle.std.proofs.Common.{arith, refl, sym, ap, subst, ◌∙◌}
use Rattle.std.proofs.lemmas.Bool.Decides.{nat_tests}
use Rattle.std.proofs.lemmas.List.Elements.{All-nil, All-cons, All-append, All-head, All-tail}
use Rattle.std.proofs.lemmas.List.Concat.{flat_map-cons}
use Rattle.command.specs.Names.{shown_of}
use Rattle.command.specs.Laws.{AreBytes}

abbrev Prints : ℕ → Type 0
Prints b = (32 ≤ b) × (b < 127)

-- the byte that a letter behind a backslash stands for
abbrev unshort : ℕ → ℕ
unshort s = cond (s == 116) 9 (cond (s == 114) 13 (cond (s == 110) 10 s))

-- the digit that a hexadecimal glyph stands for
abbrev undigit : ℕ → ℕ
undigit g = cond (nat_lt g 58) (g - 48) (g - 87)

short_back : (b : ℕ) → 0 < short_escape b → unshort (short_escape b) ≡ b
short_back b l = grind (arith, nat_tests)

short_prints : (b : ℕ) → 0 < short_escape b → (34 ≤ short_escape b) × (short_escape b < 117)
short_prints b l = (grind (arith, nat_tests), grind (arith, nat_tests))

digit_back : (d : ℕ) → d < 16 → undigit (digit_char d) ≡ d
digit_back d l = grind (arith, nat_tests)

digit_prints : (d : ℕ) → d < 16 → Prints (digit_char d)
digit_prints d l = (grind (arith, nat_tests), grind (arith, nat_tests))

halves : (b : ℕ) → b < 256 → 16 * (b / 16 % 16) + b / 1 % 16 ≡ b
halves b l = omega arith

coded_back : (b : ℕ) → b < 256 → 16 * undigit (hex_digit_at 0x10 b) + undigit (hex_digit_at 1 b) ≡ b
coded_back b l = rw (digit_back (b / 16 % 16) (omega arith), digit_back (b / 1 % 16) (omega arith)) (halves b l)

-- the three ways in which a byte is shown
data Way (b : ℕ) : Type 0 where
  short : (s : ℕ) → escape_ascii b ≡ 92 ∷ s ∷ [] → unshort s ≡ b → s < 117 → 34 ≤ s → Way b
  plain : escape_ascii b ≡ b ∷ [] → (b ≡ 92 → ⊥) → Prints b → Way b
  coded : (g l : ℕ) → escape_ascii b ≡ 92 ∷ 120 ∷ g ∷ l ∷ [] → 16 * undigit g + undigit l ≡ b → Prints g → Prints l
      → Way b

not_backslash : (b : ℕ) → nat_lt 0 (short_escape b) ≡ false → b ≡ 92 → ⊥
not_backslash b e q = let f : true ≡ false = subst (λ (x : ℕ). nat_lt 0 (short_escape x) ≡ false) q e in cc

above : (a b : ℕ) → nat_lt a b ≡ true → a < b
above a b e = grind (arith, nat_tests)

under : (a b : ℕ) → nat_lt a b ≡ false → b ≤ a
under a b e = grind (arith, nat_tests)

coded_way : (b : ℕ) → b < 256 → escape_ascii b ≡ 92 ∷ 120 ∷ hex_digit_at 0x10 b ∷ hex_digit_at 1 b ∷ [] → Way b
coded_way b l e =
    coded _ _ e (coded_back b l) (digit_prints (b / 16 % 16) (omega arith)) (digit_prints (b / 1 % 16) (omega arith))

way_by : (b : ℕ) → b < 256 → (t u v : Bool) → nat_lt 0 (short_escape b) ≡ t → nat_lt b 32 ≡ u → nat_lt b 127 ≡ v → Way b
way_by b l true u v e f g =
    let s = above 0 (short_escape b) e in
    short (short_escape b) (rw e refl) (short_back b s) (short_prints b s).1 (short_prints b s).0
way_by b l false true v e f g = coded_way b l (rw (e, f) refl)
way_by b l false false true e f g = plain (rw (e, f, g) refl) (not_backslash b e) (under b 32 f, above b 127 g)
way_by b l false false false e f g = coded_way b l (rw (e, f, g) refl)

way : (b : ℕ) → b < 256 → Way b
way b l = way_by b l (nat_lt 0 (short_escape b)) (nat_lt b 32) (nat_lt b 127) refl refl refl

-- bytes that print
module _ where
  one : (a : ℕ) (xs : List ℕ) → Prints a → All Prints xs → All Prints (a ∷ xs)
  one a xs p h = All-cons Prints a xs p h

  none : All Prints []
  none = All-nil Prints

  byte_prints : (b : ℕ) → Way b → All Prints (escape_ascii b)
  byte_prints b (short s e u m k) =
      rw e (one 92 (s ∷ []) (omega arith, omega arith) (one s [] (omega arith, omega arith) none))
  byte_prints b (plain e n p) = rw e (one b [] p none)
  byte_prints b (coded g l e u p q) =
      rw e
      (one 92 (120 ∷ g ∷ l ∷ []) (omega arith, omega arith)
      (one 120 (g ∷ l ∷ []) (omega arith, omega arith) (one g (l ∷ []) p (one l [] q none))))

  pub prints : (name : List ℕ) → AreBytes name → All Prints (shown_of name)
  prints [] h = none
  prints (b ∷ bs) h =
      rw (flat_map-cons escape_ascii b bs)
      (All-append Prints (escape_ascii b) (flat_map escape_ascii bs)
      (byte_prints b (way b (All-head (λ x. x < 256) b bs h)))
      (prints bs (All-tail (λ x. x < 256) b bs h)))

-- two shown bytes with something behind each: read back
abbrev Same : ℕ → ℕ → List ℕ → List ℕ → Type 0
Same b c x y = (b ≡ c) × (x ≡ y)

read_back : (b c : ℕ) → Way b → Way c → (x y : List ℕ) → escape_ascii b ++ x ≡ escape_ascii c ++ y → Same b c x y
read_back b c (short s e u m k) (short r f v n j) x y p =
    let q : 92 ∷ s ∷ x ≡ 92 ∷ r ∷ y = rw (e, f) at p in
    let w : s ≡ r = cc in
    (sym u ∙ ap unshort w ∙ v, cc)
read_back b c (short s e u m k) (plain f n i) x y p =
    let q : 92 ∷ s ∷ x ≡ c ∷ y = rw (e, f) at p in
    let w : c ≡ 92 = cc in
    absurd (n w)
read_back b c (short s e u m k) (coded g l f v i j) x y p =
    let q : 92 ∷ s ∷ x ≡ 92 ∷ 120 ∷ g ∷ l ∷ y = rw (e, f) at p in
    let w : s ≡ 120 = cc in
    absurd (omega arith)
read_back b c (plain e n i) (short r f v m k) x y p =
    let q : b ∷ x ≡ 92 ∷ r ∷ y = rw (e, f) at p in
    let w : b ≡ 92 = cc in
    absurd (n w)
read_back b c (plain e n i) (plain f m j) x y p =
    let q : b ∷ x ≡ c ∷ y = rw (e, f) at p in
    (cc, cc)
read_back b c (plain e n i) (coded g l f v j k) x y p =
    let q : b ∷ x ≡ 92 ∷ 120 ∷ g ∷ l ∷ y = rw (e, f) at p in
    let w : b ≡ 92 = cc in
    absurd (n w)
read_back b c (coded g l e u i j) (short r f v m k) x y p =
    let q : 92 ∷ 120 ∷ g ∷ l ∷ x ≡ 92 ∷ r ∷ y = rw (e, f) at p in
    let w : 120 ≡ r = cc in
    absurd (omega arith)
read_back b c (coded g l e u i j) (plain f n k) x y p =
    let q : 92 ∷ 120 ∷ g ∷ l ∷ x ≡ c ∷ y = rw (e, f) at p in
    let w : c ≡ 92 = cc in
    absurd (n w)
read_back b c (coded g l e u i j) (coded h o f v k r) x y p =
    let q : 92 ∷ 120 ∷ g ∷ l ∷ x ≡ 92 ∷ 120 ∷ h ∷ o ∷ y = rw (e, f) at p in
    let w : g ≡ h = cc in
    let z : l ≡ o = cc in
    (sym u ∙ ap (λ a. 16 * undigit a + undigit l) w ∙ ap (λ a. 16 * undigit h + undigit a) z ∙ v, cc)

-- a shown byte is not nothing
some : (b : ℕ) (x : List ℕ) → Way b → escape_ascii b ++ x ≡ [] → ⊥
some b x (short s e u m k) p = let q : 92 ∷ s ∷ x ≡ [] = rw e at p in cc
some b x (plain e n i) p = let q : b ∷ x ≡ [] = rw e at p in cc
some b x (coded g l e u i j) p = let q : 92 ∷ 120 ∷ g ∷ l ∷ x ≡ [] = rw e at p in cc

pub settles : (m n : List ℕ) → AreBytes m → AreBytes n → shown_of m ≡ shown_of n → m ≡ n
settles [] [] h k p = refl
settles [] (c ∷ cs) h k p =
    absurd (some c (flat_map escape_ascii cs) (way c (All-head (λ x. x < 256) c cs k)) (sym p))
settles (b ∷ bs) [] h k p =
    absurd (some b (flat_map escape_ascii bs) (way b (All-head (λ x. x < 256) b bs h)) p)
settles (b ∷ bs) (c ∷ cs) h k p =
    let w : Same b c (flat_map escape_ascii bs) (flat_map escape_ascii cs) =
    read_back b c (way b (All-head (λ x. x < 256) b bs h)) (way c (All-head (λ x. x < 256) c cs k)) _ _ p in
    let q : bs ≡ cs =
    settles bs cs (All-tail (λ x. x < 256) b bs h) (All-tail (λ x. x < 256) c cs k) w.1 in
    let r = w.0 in
    cc
