-- A file's line is one line, and settles its number and its name.
use Rattle.std.specs.Prelude.{ℕ, ◌+◌, ◌%◌, ◌^◌, ◌<◌, ◌≤◌, ◌≡◌, List, [], ◌∷◌, ◌++◌, Bool, true, false, nat_lt}
use Rattle.std.specs.Prelude.{nat_le, ◌&&◌, Option, Some, None, codes, All}
use Rattle.std.specs.Option.{option_map}
use Rattle.std.specs.Fmt.{decimal}
use Rattle.std.specs.Str.{encode_utf8_all}
use Rattle.std.proofs.Common.{arith, refl, sym, ap, ◌∙◌, append_assoc}
use Rattle.std.proofs.lemmas.Bool.Decides.{nat_tests}
use Rattle.std.proofs.lemmas.Str.{encodes_same}
use Rattle.std.proofs.lemmas.Fmt.{decimal_by_steps, decimal_injective}
use Rattle.std.proofs.lemmas.List.{append_cancel_left, append_cancel_right}
use Rattle.std.proofs.lemmas.List.Elements.{All-nil, All-cons, All-append, All-head, All-tail, All-weaker}
use Rattle.fields.specs.declared.RecordNumber.{RecordNumber}
use Rattle.lines.specs.Line.{newline}
use Rattle.report.specs.Json.{opened, closed}
use Rattle.report.specs.declared.form.Form.{Form}
use Rattle.report.specs.declared.form.Form.TheVariants as form
use Rattle.naming.specs.Units.{name_chars}
use Rattle.naming.specs.Shown.{shown_of, string_of}
use Rattle.naming.specs.Line.{text_name, json_name, file_line}
use Rattle.naming.specs.Laws.{Prints}
use Rattle.naming.proofs.Showing.{text_shows, string_shows, bytes_print}
use Rattle.naming.proofs.Says.{shown_settles}

abbrev IsDigit : ℕ → Type 0
IsDigit b = (48 ≤ b) × (b < 58)

all_digits : (n : ℕ) → n < 2 ^ 64 → All IsDigit (decimal n)
all_digits n l =
    decimal_by_steps (λ m ds. All IsDigit ds)
    (λ m h. All-cons IsDigit (48 + m) [] (omega arith, omega arith) (All-nil IsDigit))
    (λ m ds h p.
    All-append IsDigit ds ((48 + m % 10) ∷ []) p
    (All-cons IsDigit (48 + m % 10) [] (omega arith, omega arith) (All-nil IsDigit))) n l

-- one line
module _ where
  both : (s t : Bool) → (s && t) ≡ true → (s ≡ true) × (t ≡ true)
  both true t e = (refl, e)
  both false t e = cc

  abbrev are_ascii : List ℕ → Bool
  are_ascii [] = true
  are_ascii (b ∷ bs) = (nat_le 32 b && nat_lt b 127) && are_ascii bs

  byte_prints : (b : ℕ) → (nat_le 32 b && nat_lt b 127) ≡ true → Prints b
  byte_prints b e = (grind (arith, nat_tests), grind (arith, nat_tests))

  word_prints : (bs : List ℕ) → are_ascii bs ≡ true → All Prints bs
  word_prints [] e = All-nil Prints
  word_prints (b ∷ bs) e =
      let h = both _ _ e in
      All-cons Prints b bs (byte_prints b h.0) (word_prints bs h.1)

  digits_print : (n : ℕ) → n < 2 ^ 64 → All Prints (decimal n)
  digits_print n l =
      All-weaker IsDigit Prints (λ b h. (omega arith, λ e. omega arith)) (decimal n) (all_digits n l)

  text_prints : (name : Option (List ℕ)) → All Prints (text_name name)
  text_prints None = All-nil Prints
  text_prints (Some name) =
      All-append Prints (32 ∷ []) (encode_utf8_all (shown_of (name_chars name))) (word_prints (32 ∷ []) refl)
      (bytes_print (shown_of (name_chars name)) (text_shows (name_chars name)))

  json_prints : (name : Option (List ℕ)) → All Prints (json_name name)
  json_prints None = All-nil Prints
  json_prints (Some name) =
      All-append Prints (codes ",\"name\":\"" ++ encode_utf8_all (string_of (name_chars name))) (34 ∷ [])
      (All-append Prints (codes ",\"name\":\"") (encode_utf8_all (string_of (name_chars name)))
      (word_prints (codes ",\"name\":\"") refl)
      (bytes_print (string_of (name_chars name)) (string_shows (name_chars name))))
      (word_prints (34 ∷ []) refl)

  abbrev Front : Form → RecordNumber → Option (List ℕ) → Type 0
  Front f n name = (front : List ℕ) × (file_line f n name ≡ front ++ newline) × All Prints front

  closes : (xs ys : List ℕ) → xs ++ (ys ++ closed) ≡ (xs ++ (ys ++ 125 ∷ [])) ++ newline
  closes xs ys =
      sym (append_assoc xs (ys ++ 125 ∷ []) newline
      ∙ ap (λ (zs : List ℕ). xs ++ zs) (append_assoc ys (125 ∷ []) newline))

  pub lines_are_one : (f : Form) (n : RecordNumber) (name : Option (List ℕ)) → n.0 < 2 ^ 64 → Front f n name
  lines_are_one form.Text n name l = (
    codes "file " ++ decimal n.0 ++ text_name name,
    refl,
    All-append Prints (codes "file " ++ decimal n.0) (text_name name)
        (All-append Prints (codes "file ") (decimal n.0) (word_prints (codes "file ") refl) (digits_print n.0 l))
        (text_prints name),
  )
  lines_are_one form.Json n name l =
      let says : List ℕ = codes ",\"number\":" ++ decimal n.0 ++ json_name name in (
        opened "file" ++ (says ++ 125 ∷ []),
        closes (opened "file") says,
        All-append Prints (opened "file") (says ++ 125 ∷ []) (word_prints (opened "file") refl)
            (All-append Prints says (125 ∷ [])
            (All-append Prints (codes ",\"number\":" ++ decimal n.0) (json_name name)
            (All-append Prints (codes ",\"number\":") (decimal n.0) (word_prints (codes ",\"number\":") refl)
            (digits_print n.0 l)) (json_prints name))
            (word_prints (125 ∷ []) refl)),
      )

-- no two numbers or names have one line
module _ where
  abbrev Same : List ℕ → List ℕ → List ℕ → List ℕ → Type 0
  Same xs ys us vs = (xs ≡ ys) × (us ≡ vs)

  digits_end : (xs ys : List ℕ) (u v : ℕ) (us vs : List ℕ) → All IsDigit xs → All IsDigit ys → u < 48 → v < 48
      → xs ++ u ∷ us ≡ ys ++ v ∷ vs → Same xs ys (u ∷ us) (v ∷ vs)
  digits_end [] [] u v us vs h k l m e = (refl, e)
  digits_end [] (y ∷ ys) u v us vs h k l m e =
      let p : u ≡ y = cc in
      let q = All-head IsDigit y ys k in
      absurd (omega arith)
  digits_end (x ∷ xs) [] u v us vs h k l m e =
      let p : x ≡ v = cc in
      let q = All-head IsDigit x xs h in
      absurd (omega arith)
  digits_end (x ∷ xs) (y ∷ ys) u v us vs h k l m e =
      let p : x ≡ y = cc in
      let q : xs ++ u ∷ us ≡ ys ++ v ∷ vs = cc in
      let r = digits_end xs ys u v us vs (All-tail IsDigit x xs h) (All-tail IsDigit y ys k) l m q in
      let t = r.0 in
      (cc, r.1)

  grouped : (ws xs ys zs : List ℕ) → ws ++ xs ++ ys ++ zs ≡ ws ++ (xs ++ (ys ++ zs))
  grouped ws xs ys zs = simp append_assoc

  one_name : (a b : List ℕ) → text_name (Some a) ++ newline ≡ text_name (Some b) ++ newline
      → name_chars a ≡ name_chars b
  one_name a b e =
      let x : List ℕ = encode_utf8_all (shown_of (name_chars a)) in
      let y : List ℕ = encode_utf8_all (shown_of (name_chars b)) in
      let f : x ++ newline ≡ y ++ newline = cc in
      shown_settles (name_chars a) (name_chars b)
      (encodes_same (shown_of (name_chars a)) (shown_of (name_chars b)) (append_cancel_right x y newline f))

  abbrev OneLine : ℕ → ℕ → Option (List ℕ) → Option (List ℕ) → Type 0
  OneLine m n a b = (m ≡ n) × (option_map name_chars a ≡ option_map name_chars b)

  behind_digits : (m n : ℕ) (a b : Option (List ℕ)) → m < 2 ^ 64 → n < 2 ^ 64
      → decimal m ++ (text_name a ++ newline) ≡ decimal n ++ (text_name b ++ newline) → OneLine m n a b
  behind_digits m n None None l k e =
      let s =
      digits_end (decimal m) (decimal n) 10 10 [] [] (all_digits m l) (all_digits n k) (omega arith) (omega arith) e in
      (decimal_injective m n l k s.0, refl)
  behind_digits m n None (Some b) l k e =
      let s =
      digits_end (decimal m) (decimal n) 10 32 [] (encode_utf8_all (shown_of (name_chars b)) ++ newline)
      (all_digits m l) (all_digits n k) (omega arith) (omega arith) e in
      let t = s.1 in
      cc
  behind_digits m n (Some a) None l k e =
      let s =
      digits_end (decimal m) (decimal n) 32 10 (encode_utf8_all (shown_of (name_chars a)) ++ newline) []
      (all_digits m l) (all_digits n k) (omega arith) (omega arith) e in
      let t = s.1 in
      cc
  behind_digits m n (Some a) (Some b) l k e =
      let s =
      digits_end (decimal m) (decimal n) 32 32 (encode_utf8_all (shown_of (name_chars a)) ++ newline)
      (encode_utf8_all (shown_of (name_chars b)) ++ newline) (all_digits m l) (all_digits n k) (omega arith)
      (omega arith) e in
      (decimal_injective m n l k s.0, ap (λ (cs : List ℕ). Some cs) (one_name a b s.1))

  abbrev OneFile : RecordNumber → RecordNumber → Option (List ℕ) → Option (List ℕ) → Type 0
  OneFile m n a b = (m ≡ n) × (option_map name_chars a ≡ option_map name_chars b)

  pub lines_settle : (m n : RecordNumber) (a b : Option (List ℕ)) → m.0 < 2 ^ 64 → n.0 < 2 ^ 64
      → file_line form.Text m a ≡ file_line form.Text n b → OneFile m n a b
  lines_settle m n a b l k e =
      let f : codes "file " ++ (decimal m.0 ++ (text_name a ++ newline))
      ≡ codes "file " ++ (decimal n.0 ++ (text_name b ++ newline)) =
      sym (grouped (codes "file ") (decimal m.0) (text_name a) newline) ∙ e
      ∙ grouped (codes "file ") (decimal n.0) (text_name b) newline in
      let s = behind_digits m.0 n.0 a b l k (append_cancel_left (codes "file ") _ _ f) in
      (ap (λ (i : ℕ). record { 0 = i }) s.0, s.1)
