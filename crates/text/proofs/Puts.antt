-- Pieces of text one behind another are one piece, and a text is found again between its two ends.
use Rattle.std.proofs.Common.{
  ◌≡◌,
  ℕ,
  ◌+◌,
  ◌*◌,
  ◌-◌,
  ◌/◌,
  ◌%◌,
  ◌^◌,
  ◌<◌,
  ◌≤◌,
  List,
  [],
  ◌∷◌,
  ◌++◌,
  length,
  take,
  drop,
  get_or,
  arith,
  refl,
  sym,
  ap,
  ◌∙◌,
  append_assoc,
  append-nil,
  add-one,
  length-append,
  length-drop,
  take-suc,
  drop-drop,
  length-take-le,
}
use Rattle.std.proofs.Math.Seq.{take-append_seam, drop-append_seam}
use Rattle.std.specs.Fmt.{decimal}
use Rattle.text.specs.Decimal.{numbers}
use Rattle.std.proofs.lemmas.Grind.{flat_map-append}
use Rattle.text.specs.Put.{Put}
use Rattle.text.proofs.Digits.{first_digit, next_digit}

-- t written over what stood at a place, up to `end`
pub written : (d t rest : List ℕ) (at end : ℕ) → at + length t ≡ end → end ≤ length d → rest ≡ drop end d
    → Put d at (take at d ++ (t ++ rest)) end t (length t)
written d t rest at end e h r =
    let k : end ≡ length (take at d ++ t) = omega (
      arith,
      length-append (take at d) t,
      length-take-le at d
          (omega arith),
    ) in
    let a : take at d ++ (t ++ rest) ≡ (take at d ++ t) ++ rest = sym (append_assoc (take at d) t rest) in
    record {
      is = rw (a, k) (take-append_seam (take at d ++ t) rest);
      long = rw a (omega (arith, length-append (take at d ++ t) rest, ap length r, length-drop end d));
      least = omega arith;
      most = omega arith;
      tail = rw (a, ← r, k) (drop-append_seam (take at d ++ t) rest);
    }

-- what stands behind a later place is as it was, too
pub further : (d e : List ℕ) (k end : ℕ) → k ≤ end → drop k e ≡ drop k d → drop end e ≡ drop end d
further d e k end l h =
    let m : k + (end - k) ≡ end = omega arith in
    ap (λ (j : ℕ). drop j e) (sym m) ∙ sym (drop-drop (end - k) k e) ∙ ap (drop (end - k)) h ∙ drop-drop (end - k) k d
    ∙ ap (λ (j : ℕ). drop j d) m

-- two puts are one
pub both : {d e f t u : List ℕ} {at k end m n : ℕ} → Put d at e k t m → Put e k f end u n
    → Put d at f end (t ++ u) (m + n)
both {d} {e} {t = t} {u = u} {at} {k} {end} p q = record {
  is = q.is ∙ ap (λ (x : List ℕ). x ++ u) p.is ∙ append_assoc (take at d) t u;
  long = q.long ∙ p.long;
  least = omega (arith, p.least, q.least);
  most = omega (arith, p.most, q.most);
  tail = q.tail ∙ further d e k end q.least p.tail;
}

-- the same, said of another name of the text and of a wider bound
pub said : {d e t u : List ℕ} {at end m n : ℕ} → Put d at e end t m → t ≡ u → m ≤ n → Put d at e end u n
said {d} {at = at} p e h = record {
  is = p.is ∙ ap (λ (x : List ℕ). take at d ++ x) e;
  long = p.long;
  least = p.least;
  most = omega (arith, p.most);
  tail = p.tail;
}

-- a number of one digit; and a digit more behind the others
pub digit_one : {d e : List ℕ} {at end b m n : ℕ} → n < 10 → b ≡ 48 + n → 1 ≤ m → Put d at e end (b ∷ []) 1
    → Put d at e end (decimal n) m
digit_one {n = n} h e l p = said p (rw (first_digit n h, e)) l

pub digit_more : {d e f : List ℕ} {at k end b m n : ℕ} → 10 ≤ n → n < 2 ^ 64 → b ≡ 48 + n % 10
    → Put d at e k (decimal (n / 10)) m → Put e k f end (b ∷ []) 1 → Put d at f end (decimal n) (m + 1)
digit_more {n = n} g h e p q = said (both p q) (rw (next_digit n g h, e)) (omega arith)

numbers-append : (a b : List ℕ) → numbers (a ++ b) ≡ numbers a ++ numbers b
numbers-append a b = flat_map-append (λ n. 32 ∷ decimal n) a b

numbers-one : (n : ℕ) → numbers (n ∷ []) ≡ 32 ∷ decimal n
numbers-one n = append-nil (32 ∷ decimal n)

number_more : (s : List ℕ) (i : ℕ) → i < length s → numbers (take i s) ++ (32 ∷ decimal (get_or s i 0)) ≡ numbers
    (take (i + 1) s)
number_more s i h =
    ap (λ (x : List ℕ). numbers (take i s) ++ x) (sym (numbers-one (get_or s i 0)))
    ∙ sym (numbers-append (take i s) (get_or s i 0 ∷ []))
    ∙ ap numbers (sym (take-suc s i 0 h) ∙ ap (λ (k : ℕ). take k s) (sym (add-one i)))

pub no_number : (d : List ℕ) (at : ℕ) (s : List ℕ) → Put d at d at (numbers (take 0 s)) (21 * 0)
no_number d at s = record {
  is = sym (append-nil (take at d));
  long = refl;
  least = omega arith;
  most = omega arith;
  tail = refl;
}

-- a turn of the loop: one number more
pub one_number : {d e f g : List ℕ} {at k m end : ℕ} (s : List ℕ) (i : ℕ) → i < length s
    → Put d at e k (numbers (take i s)) (21 * i) → Put e k f m (32 ∷ []) 1
    → Put f m g end (decimal (get_or s i 0)) 20 → Put d at g end (numbers (take (i + 1) s)) (21 * (i + 1))
one_number s i h p q n = said (both p (both q n)) (number_more s i h) (omega arith)
