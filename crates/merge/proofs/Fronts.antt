-- Fronts of two inputs answer for the whole of both.
use Rattle.std.proofs.Common.{ℕ, zero, suc, ◌+◌, ◌≤◌, ◌≡◌, List, [], ◌∷◌, ◌++◌, length, refl, sym, ap, ap₂, ◌∙◌}
use Rattle.std.specs.Prelude.{Result, Ok, Err, option_map, unwrap_or, Option, Some, None, eqb}
use Rattle.fields.specs.Answer.{Outcome, gives, refuses}
use Rattle.fields.specs.Pick.{pick}
use Rattle.fields.specs.declared.RecordNumber.{RecordNumber}
use Rattle.table.specs.Check.{table_of}
use Rattle.table.specs.Held.{Held}
use Rattle.table.specs.Layout.{numbers_at, row_at}
use Rattle.table.specs.Reach.{reach_of}
use Rattle.table.specs.Row.{first_from, first_row}
use Rattle.table.specs.Rows.{Filed, filed_from, filed_of}
use Rattle.table.specs.declared.check.Row.{Row}
use Rattle.table.specs.declared.check.TableHeader.{TableHeader}
use Rattle.table.proofs.Sound.{sound}
use Rattle.table.proofs.Behind.{table_same, held_same, filed_same}
use Rattle.merge.specs.Rows.{merged, clash}
use Rattle.merge.specs.Merge.{Contents, contents, tested, sizes_checked, clashing, agreed, joined, place_in, fitted}
use Rattle.merge.specs.Merge.{merge_of, table_of_contents, table_of_merge}
use Rattle.merge.specs.declared.Merged.{Merged}
use Rattle.merge.specs.declared.unmerged.Unmerged.{Unmerged}
use Rattle.merge.specs.declared.unmerged.Unmerged.TheVariants.{First, Second, Both}
use Rattle.merge.proofs.Reports.{report}

module _ (t rest : List ℕ) (enough : reach_of t ≤ length t) (h : TableHeader) (e : table_of t ≡ gives h) where
  -- the header that is read of both is that of the check
  header_same : numbers_at (t ++ rest) ≡ numbers_at t
  header_same =
      sym (sound (t ++ rest) h (table_same t rest enough ∙ e)).head.is ∙ (sound t h e).head.is

  pub contents_same : contents (t ++ rest) ≡ contents t
  contents_same =
      ap₂ (λ (x : TableHeader) (rows : List Held). record { size = x.size; rows = rows }) header_same
      (held_same t rest enough h e)

-- the first row with a number among rows that are handed out
first_filed : List Filed → RecordNumber → Option Row
first_filed [] n = None
first_filed (f ∷ fs) n = pick (eqb f.row.number.0 n.0) (Some f.row) (first_filed fs n)

first_told : (t : List ℕ) (h : TableHeader) (n : RecordNumber) (k i : ℕ)
    → first_from t h n k i ≡ first_filed (filed_from t h k i) n
unfolding first_from filed_from first_filed
first_told t h n zero i = refl
first_told t h n (suc k) i =
    ap (pick (eqb (row_at t h i).number.0 n.0) (Some (row_at t h i))) (first_told t h n k (i + 1))

place_of : Option Row → ℕ
place_of o = unwrap_or (option_map (λ r. r.place) o) 0

place_told : (t : List ℕ) (h : TableHeader) → h ≡ numbers_at t → (n : RecordNumber)
    → place_in t n ≡ place_of (first_filed (filed_of t h) n)
unfolding place_of first_row
place_told t h e n =
    ap (λ (x : TableHeader). unwrap_or (option_map (λ r. r.place) (first_row t x n)) 0) (sym e)
    ∙ ap (λ (o : Option Row). unwrap_or (option_map (λ r. r.place) o) 0) (first_told t h n h.count 0)

module _ (t rest : List ℕ) (enough : reach_of t ≤ length t) (h : TableHeader) (e : table_of t ≡ gives h) where
  pub place_same : (n : RecordNumber) → place_in (t ++ rest) n ≡ place_in t n
  place_same n =
      place_told (t ++ rest) h (sound (t ++ rest) h (table_same t rest enough ∙ e)).head.is n
      ∙ ap (λ (fs : List Filed). place_of (first_filed fs n)) (filed_same t rest enough h e)
      ∙ sym (place_told t h (sound t h e).head.is n)

-- places that are alike make one answer
agreed_same : {B : Type 0} (p q : RecordNumber → ℕ) → ((n : RecordNumber) → p n ≡ q n) → (o : Option RecordNumber)
    (next : Result B Unmerged) → agreed p o next ≡ agreed q o next
agreed_same p q f None next = refl
agreed_same p q f (Some n) next = ap (λ (place : ℕ). Err (clashing n place)) (f n)

sizes_same : (o : Outcome (Unit {0})) (a b : Result Contents Unmerged) → a ≡ b
    → tested Both o (λ _. a) ≡ tested Both o (λ _. b)
sizes_same (gives u) a b e = e
sizes_same (refuses r) a b e = refl

joined_same : (p q : RecordNumber → ℕ) → ((n : RecordNumber) → p n ≡ q n) → (x y : Contents)
    → joined p x y ≡ joined q x y
unfolding joined
joined_same p q f x y =
    sizes_same (sizes_checked x.size y.size) _ _ (agreed_same p q f (clash x.rows y.rows) _)

module _ (s t more rest : List ℕ) (m : ℕ) (reached : reach_of s ≤ length s) (enough : reach_of t ≤ length t) where
  abbrev called : Outcome TableHeader → Outcome TableHeader → Result Contents Unmerged → Result Merged Unmerged
  called a b j = tested First a λ _. tested Second b λ _. fitted m j

  abbrev whole : Result Contents Unmerged
  whole = joined (place_in (t ++ rest)) (contents (s ++ more)) (contents (t ++ rest))

  abbrev fronts : Result Contents Unmerged
  fronts = joined (place_in t) (contents s) (contents t)

  called_same : (a b : Outcome TableHeader) → table_of s ≡ a → table_of t ≡ b → called a b whole ≡ called a b fronts
  called_same (refuses r) b e f = refl
  called_same (gives g) (refuses r) e f = refl
  called_same (gives g) (gives h) e f =
      ap (fitted m)
      (joined_same (place_in (t ++ rest)) (place_in t) (place_same t rest enough h f) _ _
      ∙ ap₂ (joined (place_in t)) (contents_same s more reached g e) (contents_same t rest enough h f))

  pub merge_same : merge_of (s ++ more) (t ++ rest) m ≡ merge_of s t m
  unfolding merge_of
  merge_same =
      ap₂ (λ (a b : Outcome TableHeader). called a b whole) (table_same s more reached) (table_same t rest enough)
      ∙ called_same (table_of s) (table_of t) refl refl

  pub merged_same : (r : Merged) → merge_of s t m ≡ Ok r
      → table_of_merge (s ++ more) (t ++ rest) ≡ table_of_merge s t
  merged_same r e =
      let k = report s t m r e in
      ap₂ (λ (x y : Contents). table_of_contents (record { size = x.size; rows = merged x.rows y.rows }))
      (contents_same s more reached k.first_header k.first)
      (contents_same t rest enough k.second_header k.second)
