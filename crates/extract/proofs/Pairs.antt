-- The pairs of a record one by one: which bytes are clear of them, that each is the check number, and what a fixup
-- leaves in the place of each.
use Rattle.std.proofs.Common.{ℕ, zero, suc, ◌+◌, ◌-◌, ◌*◌, ◌/◌, ◌%◌, ◌<◌, ◌≤◌, ◌≡◌, refl, sym, ap, ◌∙◌, subst, arith}
use Rattle.std.proofs.Common.{List, length, take, drop, get_or, true, leb, eqb, ◌⊎◌, inl, inr, ⊎_elim}
use Rattle.std.specs.Prelude.{◌&&◌}
use Rattle.std.proofs.lemmas.Bool.{and_parts, and_from, or_cases, or_left, or_right, cases_lt}
use Rattle.std.proofs.lemmas.Bool.{leb-true, le-leb, eqb-true, eq-eqb}
use Rattle.std.proofs.lemmas.Bool.Decides.{same_from_decides}
use native.Mathlib.Nat.{eq-or-lt_of_le, le_of_suc-le-suc}
use Rattle.extract.specs.Fixup.{array_at, array_count, array_end, pair_count, pair_at, kept_at}
use Rattle.extract.specs.Fixup.{pairs_clear, good_array, pairs_agree, fixed_below}
use Rattle.fields.specs.Le.{le}
use Rattle.written.specs.Over.{over}
use Rattle.extract.proofs.Overs.{length_over, over_inside, over_before, over_beside, length_part}

-- the bytes from a place to another end in front of a pair, or begin behind it
abbrev pub Clear : ℕ → ℕ → ℕ → Type 0
Clear from to i = (to ≤ pair_at i) ⊎ (pair_at i + 2 ≤ from)

module _ (from to : ℕ) where
  pub clear_one : (n i : ℕ) → pairs_clear from to n ≡ true → i < n → Clear from to i
  unfolding pairs_clear
  clear_one zero i e l = absurd (omega arith)
  clear_one (suc n) i e l =
      let p = and_parts _ _ e in
      ⊎_elim
      (λ q. subst (Clear from to) (sym q)
      (⊎_elim (λ a. inl (leb-true _ _ a)) (λ b. inr (leb-true _ _ b)) (or_cases _ _ p.1)))
      (λ m. clear_one n i p.0 m)
      (eq-or-lt_of_le (le_of_suc-le-suc l))

  pub all_clear : (n : ℕ) → ((i : ℕ) → i < n → Clear from to i) → pairs_clear from to n ≡ true
  unfolding pairs_clear
  all_clear zero h = refl
  all_clear (suc n) h =
      and_from _ _ (all_clear n (λ i l. h i (omega arith)))
      (⊎_elim
      (λ a. or_left _ _ (le-leb _ _ a))
      (λ b. or_right (leb to (pair_at n)) _ (le-leb _ _ b))
      (h n (omega arith)))

-- what 29 asks, fact by fact
pub record GoodArray (s : List ℕ) : Type 0 where
  pub inside : array_end s ≤ length s
  pub clear : (i : ℕ) → i < pair_count s → Clear (array_at s) (array_end s) i
  pub sized : array_count s ≡ pair_count s + 1

pub good_parts : (s : List ℕ) → good_array s ≡ true → GoodArray s
unfolding good_array
good_parts s e =
    let p = and_parts _ _ e in
    let q = and_parts _ _ p.0 in
    record {
      inside = leb-true _ _ q.0;
      clear = λ i l. clear_one _ _ _ i q.1 l;
      sized = eqb-true _ _ p.1;
    }

pub good_from_parts : (s : List ℕ) → GoodArray s → good_array s ≡ true
unfolding good_array
good_from_parts s g =
    and_from _ _ (and_from _ _ (le-leb _ _ g.inside) (all_clear _ _ _ g.clear)) (eq-eqb _ _ g.sized)

-- an array of the right size is shorter than 512 bytes, so it overlaps a pair exactly where it begins too late in its
-- own 512 bytes; the last 512 must be whole, since behind a broken one no pair stands
late_in_own : (a c n : ℕ) → c ≡ n / 512 + 1 → n ≤ 4096 → n % 512 ≡ 0 → a + 2 * c ≤ n
    → ((i : ℕ) → i < n / 512 → Clear a (a + 2 * c) i) → a % 512 + 2 * c ≤ 510
late_in_own a c n e m w l h =
    let t : a / 512 < n / 512 = omega arith in
    ⊎_elim (λ p. omega arith) (λ q. absurd (omega arith)) (h (a / 512) t)

clear_of_late : (a c : ℕ) → a % 512 + 2 * c ≤ 510 → (i : ℕ) → Clear a (a + 2 * c) i
clear_of_late a c l i = ⊎_elim (λ p. inr (omega arith)) (λ q. inl (omega arith)) (cases_lt i (a / 512))

pub good_by_place : (s : List ℕ) → length s ≤ 4096 → length s % 512 ≡ 0
    → good_array s
    ≡ (eqb (array_count s) (length s / 512 + 1) && leb (array_at s + 2 * array_count s) (length s)
    && leb (array_at s % 512 + 2 * array_count s) 510)
good_by_place s m w =
    same_from_decides {P = GoodArray s} _ _
    (good_parts s, good_from_parts s) (
      (λ e.
          let p = and_parts _ _ e in
          let q = and_parts _ _ p.0 in
          record {
            inside = leb-true _ _ q.1;
            clear = λ i l. clear_of_late _ _ (leb-true _ _ p.1) i;
            sized = eqb-true _ _ q.0;
          }),
      (λ g. and_from _ _ (and_from _ _ (eq-eqb _ _ g.sized) (le-leb _ _ g.inside))
          (le-leb _ _ (late_in_own _ _ _ g.sized m w g.inside g.clear))),
    )

-- each pair is the check number
pub agree_from : (s : List ℕ) (n : ℕ) → ((i : ℕ) → i < n → le 2 s (pair_at i) ≡ le 2 s (array_at s))
    → pairs_agree s n ≡ true
unfolding pairs_agree
agree_from s zero h = refl
agree_from s (suc n) h =
    and_from _ _ (agree_from s n (λ i l. h i (omega arith))) (eq-eqb _ _ (h n (omega arith)))

-- a place that is none of the first n pairs'
abbrev pub Beside : ℕ → ℕ → Type 0
Beside n k = (i j : ℕ) → i < n → j < 2 → (k ≡ pair_at i + j → ⊥)

-- a place that is one of theirs
pub record Within (n k : ℕ) : Type 0 where
  pub pair : ℕ
  pub byte : ℕ
  pub below : pair < n
  pub two : byte < 2
  pub stands : k ≡ pair_at pair + byte

pub within_or_beside : (n k : ℕ) → Within n k ⊎ Beside n k
within_or_beside n k =
    ⊎_elim
    (λ l. ⊎_elim (λ a. inr (λ i j m b e. omega arith))
    (λ a. inl (record {
      pair = k / 512;
      byte = k % 512 - 510;
      below = l;
      two = omega arith;
      stands = omega arith;
    }))
    (cases_lt (k % 512) 510))
    (λ l. inr (λ i j m b e. omega arith))
    (cases_lt (k / 512) n)

beside_one : (i k : ℕ) → ((j : ℕ) → j < 2 → (k ≡ pair_at i + j → ⊥)) → (k < pair_at i) ⊎ (pair_at i + 2 ≤ k)
beside_one i k h =
    let a = h 0 (omega arith) in
    let b = h 1 (omega arith) in
    ⊎_elim (λ l. inl l)
    (λ l. inr (⊎_elim (λ m. absurd (⊎_elim (λ e. a (omega arith)) (λ e. b (omega arith)) (cases_lt k (pair_at i + 1))))
    (λ m. m) (cases_lt k (pair_at i + 2))))
    (cases_lt k (pair_at i))

-- one pair after another is written over, each by two bytes of its own
pub record Replaces (s : List ℕ) (two : ℕ → List ℕ) (below : ℕ → List ℕ) : Type 0 where
  pub none : below 0 ≡ s
  pub next : (i : ℕ) → below (suc i) ≡ over (pair_at i) (two i) (below i)
  pub sized : (i : ℕ) → i < pair_count s → length (two i) ≡ 2

module _ (s : List ℕ) (two : ℕ → List ℕ) (below : ℕ → List ℕ) (r : Replaces s two below) where
  pub replaced_length : (n : ℕ) → n ≤ pair_count s → length (below n) ≡ length s
  replaced_length zero l = ap length r.none
  replaced_length (suc n) l =
      let z = r.sized n (omega arith) in
      let k = replaced_length n (omega arith) in
      let f : pair_at n + length (two n) ≤ length (below n) = omega arith in
      ap length (r.next n) ∙ length_over (pair_at n) (two n) (below n) f ∙ k

  fits : (n : ℕ) → n < pair_count s → pair_at n + length (two n) ≤ length (below n)
  fits n l =
      let z = r.sized n l in
      let k = replaced_length n (omega arith) in
      omega arith

  pub replaced_beside : (n k : ℕ) → n ≤ pair_count s → Beside n k → get_or (below n) k 0 ≡ get_or s k 0
  replaced_beside zero k l h = ap (λ (t : List ℕ). get_or t k 0) r.none
  replaced_beside (suc n) k l h =
      let z = r.sized n (omega arith) in
      ap (λ (t : List ℕ). get_or t k 0) (r.next n)
      ∙ over_beside (pair_at n) (two n) (below n) (fits n (omega arith)) k
      (⊎_elim (λ a. inl a) (λ b. inr (omega arith)) (beside_one n k (λ j b. h n j (omega arith) b)))
      ∙ replaced_beside n k (omega arith) (λ i j m b. h i j (omega arith) b)

  pub replaced_at : (n i j : ℕ) → n ≤ pair_count s → i < n → j < 2
      → get_or (below n) (pair_at i + j) 0 ≡ get_or (two i) j 0
  replaced_at zero i j l m b = absurd (omega arith)
  replaced_at (suc n) i j l m b =
      let f = fits n (omega arith) in
      let here = over_inside (pair_at n) (two n) (below n) f j (rw (r.sized n (omega arith)) b) in
      ap (λ (t : List ℕ). get_or t (pair_at i + j) 0) (r.next n)
      ∙ ⊎_elim
      (λ q. subst (λ (x : ℕ). get_or (over (pair_at n) (two n) (below n)) (pair_at x + j) 0 ≡ get_or (two x) j 0)
      (sym q) here)
      (λ a. over_before (pair_at n) (two n) (below n) f (pair_at i + j) (omega arith)
      ∙ replaced_at n i j (omega arith) a b)
      (eq-or-lt_of_le (le_of_suc-le-suc m))

module _ (s : List ℕ) (g : GoodArray s) where
  kept_fits : (i : ℕ) → i < pair_count s → kept_at s i + 2 ≤ length s
  kept_fits i l = let a = g.inside in let b = g.sized in omega arith

  pub fixes : Replaces s (λ i. take 2 (drop (kept_at s i) s)) (fixed_below s)
  unfolding fixed_below
  fixes = record {
    none = refl;
    next = λ i. refl;
    sized = λ i l. length_part 2 (kept_at s i) s (kept_fits i l);
  }
