-- What is known where a call gives a report: both tables passed, and what they hold was joined.
use Rattle.std.proofs.Common.{ℕ, suc, ◌+◌, ◌≤◌, ◌≡◌, List, [], ◌∷◌, length, refl, sym, ap, ◌∙◌, subst, arith}
use Rattle.std.proofs.Common.{All}
use Rattle.std.proofs.Math.Nat.{mul-le-mul_left}
use Rattle.std.proofs.lemmas.Bool.{eqb-true, leb-true}
use Rattle.std.proofs.lemmas.Bool.Decides.{nat_tests}
use Rattle.std.specs.Prelude.{Bool, true, false, min, Option, Some, None, Result, Ok, Err, eqb, ltb}
use Rattle.fields.specs.Pick.{pick}
use Rattle.fields.specs.Answer.{Outcome, gives, refuses}
use Rattle.fields.specs.declared.RecordNumber.{RecordNumber}
use Rattle.fields.specs.declared.Refusal.{Refusal}
use Rattle.fields.proofs.Cases.{both}
use Rattle.fields.specs.Length.{good_length}
use Rattle.table.specs.Check.{table_of, most_rows}
use Rattle.table.specs.Held.{Held, held_of}
use Rattle.table.specs.Layout.{numbers_at}
use Rattle.table.specs.declared.check.TableHeader.{TableHeader}
use Rattle.table.proofs.Sound.{Sound, sound}
use Rattle.table.proofs.Holds.{held-length}
use Rattle.written.specs.Laws.{Fit}
use Rattle.written.specs.Layout.{table_length}
use Rattle.written.specs.Refused.{rows_checked, room_checked}
use Rattle.merge.specs.Rows.{put, merged, clash}
use Rattle.merge.specs.Merge.{Contents, contents, tested, sizes_checked, agreed, joined, place_in, report_of, fitted}
use Rattle.merge.specs.Merge.{merge_of, rows_of}
use Rattle.merge.specs.Laws.{reported}
use Rattle.merge.specs.Told.{room_of}
use Rattle.merge.specs.declared.Merged.{Merged}
use Rattle.merge.specs.declared.Pair.{Pair}
use Rattle.merge.specs.declared.unmerged.Unmerged.{Unmerged}
use Rattle.merge.specs.declared.unmerged.Unmerged.TheVariants.{First, Second, Both}
use Rattle.merge.proofs.Rows.{merged_all_of, merged_rises}
use Rattle.merge.proofs.Tables.{held_long, held_rising}
use Rattle.merge.proofs.Calls.{opened}

-- what is known of two contents that were joined
pub record Joined (x y z : Contents) : Type 0 where
  pub sized : x.size ≡ y.size
  pub none : clash x.rows y.rows ≡ None
  pub few : length (merged x.rows y.rows) ≤ most_rows
  pub is : record { size = x.size; rows = merged x.rows y.rows } ≡ z

module _ (place : RecordNumber → ℕ) (x y z : Contents) where
  abbrev by_outcomes : Outcome (Unit {0}) → Option RecordNumber → Outcome (Unit {0}) → Contents
      → Result Contents Unmerged
  by_outcomes a o b w = tested Both a λ _. agreed place o (tested Both b λ _. Ok w)

  joined_by : (b : Bool) (q r : Refusal) (o : Option RecordNumber) (d : Bool) (w : Contents)
      → by_outcomes (pick b (gives tt) (refuses q)) o (pick d (gives tt) (refuses r)) w ≡ Ok z
      → (b ≡ true) × (o ≡ None) × (d ≡ true) × (w ≡ z)
  joined_by true q r None true w e = (refl, refl, refl, cc)
  joined_by true q r None false w e = cc
  joined_by true q r (Some n) d w e = cc
  joined_by false q r o d w e = cc

  pub joined_gives : joined place x y ≡ Ok z → Joined x y z
  unfolding joined sizes_checked rows_checked
  joined_gives e =
      let a = joined_by (eqb x.size y.size) _ _ (clash x.rows y.rows) _ _ e in
      record {
        sized = eqb-true x.size y.size a.0;
        none = a.1;
        few = leb-true (length (merged x.rows y.rows)) most_rows a.2;
        is = a.3;
      }

-- what is known of a report
pub record Reported (s t : List ℕ) (r : Merged) : Type 0 where
  pub first_header : TableHeader
  pub second_header : TableHeader
  pub first : table_of s ≡ gives first_header
  pub second : table_of t ≡ gives second_header
  pub all : Contents
  pub joins : Joined (contents s) (contents t) all
  pub is : report_of all ≡ r

module _ (s t : List ℕ) (m : ℕ) (r : Merged) where
  room_by : (z : Contents) (o : Outcome Unit) → tested Both o (λ _. Ok (report_of z)) ≡ Ok r → report_of z ≡ r
  room_by z (gives u) e = cc
  room_by z (refuses f) e = cc

  fitted_by : (j : Result Contents Unmerged) → joined (place_in t) (contents s) (contents t) ≡ j → fitted m j ≡ Ok r
      → (z : Contents) × Joined (contents s) (contents t) z × (report_of z ≡ r)
  fitted_by (Ok z) e f =
      (z, joined_gives (place_in t) (contents s) (contents t) z e, room_by z (room_checked z.size (length z.rows) m) f)
  fitted_by (Err why) e f = cc

  report_by : (a b : Outcome TableHeader) → table_of s ≡ a → table_of t ≡ b
      → tested First a (λ _. tested Second b λ _. fitted m (joined (place_in t) (contents s) (contents t))) ≡ Ok r
      → Reported s t r
  report_by (refuses f) b e q k = cc
  report_by (gives g) (refuses f) e q k = cc
  report_by (gives g) (gives h) e q k =
      let c = fitted_by (joined (place_in t) (contents s) (contents t)) refl k in
      record {
        first_header = g;
        second_header = h;
        first = e;
        second = q;
        all = c.0;
        joins = c.1;
        is = c.2;
      }

  pub report : merge_of s t m ≡ Ok r → Reported s t r
  unfolding merge_of
  report e = report_by (table_of s) (table_of t) refl refl e

module _ (s t : List ℕ) (r : Merged) (k : Reported s t r) where
  first_sound : Sound s k.first_header
  first_sound = sound s k.first_header k.first

  second_sound : Sound t k.second_header
  second_sound = sound t k.second_header k.second

  first_size : k.first_header.size ≡ (numbers_at s).size
  first_size = ap (λ (h : TableHeader). h.size) first_sound.head.is

  second_size : k.second_header.size ≡ (numbers_at s).size
  second_size = ap (λ (h : TableHeader). h.size) second_sound.head.is ∙ sym k.joins.sized

  -- the rows are such that a table may have
  pub fit : Fit (numbers_at s).size (length (rows_of s t)) (rows_of s t)
  fit = record {
    good = subst (λ (n : ℕ). good_length n ≡ true) first_size first_sound.head.good;
    long =
        merged_all_of (λ (h : Held). length h.bytes ≡ (numbers_at s).size) (held_of s) (held_of t)
        (subst (λ (n : ℕ). All (λ h. length h.bytes ≡ n) (held_of s)) first_size (held_long first_sound))
        (subst (λ (n : ℕ). All (λ h. length h.bytes ≡ n) (held_of t)) second_size (held_long second_sound));
    few = k.joins.few;
    rising = merged_rises 0 (held_of s) (held_of t) (held_rising first_sound) (held_rising second_sound);
    based = omega arith;
  }

  pub written_is : length (rows_of s t) ≡ r.written
  written_is = ap (λ (z : Contents). length z.rows) k.joins.is ∙ ap (λ (w : Merged). w.written) k.is

  pub length_is : table_length (numbers_at s).size (length (rows_of s t)) ≡ r.length
  length_is =
      ap (λ (z : Contents). table_length z.size (length z.rows)) k.joins.is ∙ ap (λ (w : Merged). w.length) k.is

-- no more rows than both lists have
put_few : (r : Held) (rs : List Held) → length (put r rs) ≤ suc (length rs)
unfolding put
put_few r [] = omega arith
put_few r (s ∷ ss) =
    let l = put_few r ss in
    both (λ (rs : List Held). length rs ≤ suc (length (s ∷ ss))) (ltb r.number.0 s.number.0) _ _ (omega arith)
    (both (λ (rs : List Held). length rs ≤ suc (length (s ∷ ss))) (eqb r.number.0 s.number.0) _ _ (omega arith)
    (omega arith))

merged_few : (xs ys : List Held) → length (merged xs ys) ≤ length xs + length ys
unfolding merged
merged_few [] ys = omega arith
merged_few (x ∷ xs) ys = let a = merged_few xs ys in let b = put_few x (merged xs ys) in omega arith

room_passes : (size k m : ℕ) → table_length size k ≤ m → room_checked size k m ≡ gives tt
unfolding room_checked
room_passes size k m l = grind (arith, nat_tests)

module _ (p : Pair) (m : ℕ) (enough : room_of p ≤ m) where
  abbrev s : List ℕ
  s = p.first.bytes.now

  abbrev t : List ℕ
  t = p.second.bytes.now

  room : (z : Contents) → Joined (contents s) (contents t) z → table_length z.size (length z.rows) ≤ m
  room z j =
      let a = sound s p.first.header p.first.checked in let b = sound t p.second.header p.second.checked in
      let c = held-length a in let d = held-length b in let e = merged_few (held_of s) (held_of t) in
      let f = j.few in
      let g : length (rows_of s t) ≤ min (p.first.header.count + p.second.header.count) most_rows = omega arith in
      let h = mul-le-mul_left p.first.header.size g in
      let i = ap (λ (x : TableHeader). x.size) a.head.is in
      subst (λ (w : Contents). table_length w.size (length w.rows) ≤ m) j.is
      (subst (λ (n : ℕ). table_length n (length (rows_of s t)) ≤ m) i (omega arith))

  room_fits : (j : Result Contents Unmerged) → joined (place_in t) (contents s) (contents t) ≡ j
      → fitted m j ≡ reported j
  room_fits (Ok z) e =
      ap (λ (o : Outcome (Unit {0})). tested Both o (λ _. Ok (report_of z)))
      (room_passes z.size (length z.rows) m (room z (joined_gives (place_in t) (contents s) (contents t) z e)))
  room_fits (Err why) e = refl

  pub room_enough : merge_of s t m ≡ reported (joined (place_in t) (contents s) (contents t))
  room_enough = sym (opened p m) ∙ room_fits (joined (place_in t) (contents s) (contents t)) refl
