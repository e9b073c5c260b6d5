-- The table of both comes to stand step by step: what the loop that fills it keeps.
use Rattle.std.proofs.Common.{ℕ, ◌+◌, ◌*◌, ◌<◌, ◌≤◌, ◌≡◌, List, [], ◌∷◌, ◌++◌, map, length}
use Rattle.std.proofs.Common.{drop, refl, sym, ap, ◌∙◌, subst}
use Rattle.std.proofs.Common.{All, arith, length-append, append-nil}
use Rattle.std.proofs.lemmas.List.{length-map, map-append, length_push}
use Rattle.itertools.proofs.KMergeLemmas.{All-of-map}
use Rattle.itertools.specs.EitherOrBoth.{MatchEitherOrBoth}
use Rattle.itertools.specs.declared.either_or_both.EitherOrBoth.TheVariants.{Both, Left, Right}
use Rattle.std.specs.Prelude.{true, false}
use Rattle.table.specs.Held.{Held, held_of}
use Rattle.table.specs.Layout.{numbers_at}
use Rattle.table.specs.declared.check.TableHeader.{TableHeader}
use Rattle.table.proofs.Sound.{sound}
use Rattle.written.specs.Layout.{records_from, table_length, row_bytes, written}
use Rattle.written.specs.Over.{over}
use Rattle.written.specs.Stands.{Stands}
use Rattle.written.proofs.Pieces.{follow, end}
use Rattle.merge.specs.Merge.{table_of_merge}
use Rattle.merge.specs.Pass.{rows_of_pair}
use Rattle.merge.specs.declared.Pair.{Pair}
use Rattle.merge.proofs.Rows.{merged_all_of}
use Rattle.merge.proofs.Tables.{held_long}
use Rattle.merge.proofs.Walk.{Item, Step, held, row_of, middle}
use Rattle.merge.proofs.Pairs.{CameOf, rows_came}

-- the rows of these steps stand
abbrev pub StandsTo : (size base k : ℕ) → List Step → (old s : List ℕ) → Type 0
StandsTo size base k ss old s = Stands size base k (map row_of ss) old s

-- the row that a step is reduced to, by a closure that gives the first table's
pub reduced : (B : Item → Item → Type 0) (z : Step) (r : Item) → ((x y : Item) → B x y → r ≡ x)
    → MatchEitherOrBoth z B (λ x. r ≡ x) (λ y. r ≡ y) → held r ≡ row_of z
reduced B (Left x) r f e = ap held e
reduced B (Both x y) r f e = ap held (f x y e)
reduced B (Right y) r f e = ap held e

module _ (p : Pair) where
  -- a row of the table has the record size
  abbrev IsLong : Held → Type 0
  IsLong r = length r.bytes ≡ p.first.header.size

  all_long : All IsLong (rows_of_pair p)
  all_long =
      let s = sound p.first.bytes.now p.first.header p.first.checked in
      let t = sound p.second.bytes.now p.second.header p.second.checked in
      merged_all_of IsLong (held_of p.first.bytes.now) (held_of p.second.bytes.now) (held_long s)
      (subst (λ (n : ℕ). All (λ r. length r.bytes ≡ n) (held_of p.second.bytes.now)) (sym p.sized) (held_long t))

  module _ (ss : List Step) (z : Step) (c : CameOf p false (ss ++ (z ∷ []))) where
    -- there is room for one more row, and its record is as long as the others
    pub one_more : length ss < length (rows_of_pair p)
    one_more =
        let a = ap length (rows_came p false (ss ++ (z ∷ [])) c) in
        let b = length-map ((ss ++ (z ∷ [])) ++ c.more) row_of in
        let d = length-append (ss ++ (z ∷ [])) c.more in let e = length_push ss z in
        omega arith

    pub one_long : length (row_of z).bytes ≡ p.first.header.size
    one_long =
        middle (λ (s : Step). IsLong (row_of s)) ss c.more z
        (All-of-map IsLong row_of ((ss ++ (z ∷ [])) ++ c.more)
        (subst (All IsLong) (rows_came p false (ss ++ (z ∷ [])) c) all_long))

  -- a table into which the row of a step and its record were put, the row being number `i`
  abbrev pub next_table : (size k i : ℕ) → Held → List ℕ → List ℕ
  next_table size k i r t =
      let at = records_from k + size * i in over at r.bytes (over (records_from i) (row_bytes r.number at) t)

  pub step_stands : (size base k i : ℕ) (ss : List Step) (z : Step) (old t s : List ℕ)
      → table_length size k ≤ length old → i ≡ length ss → i < k → length (row_of z).bytes ≡ size
      → s ≡ next_table size k i (row_of z) t → StandsTo size base k ss old t
      → StandsTo size base k (ss ++ (z ∷ [])) old s
  step_stands size base k i ss z old t s fits n few long e stands =
      let l = length-map ss row_of in
      subst (λ (u : List ℕ). StandsTo size base k (ss ++ (z ∷ [])) old u)
      (sym (e ∙ ap (λ (j : ℕ). next_table size k j (row_of z) t) (n ∙ sym l)))
      (subst (λ (rs : List Held). Stands size base k rs old (next_table size k (length (map row_of ss)) (row_of z) t))
      (sym (map-append row_of ss (z ∷ [])))
      (follow size base k (map row_of ss) (row_of z) old t fits stands (omega arith) long))

  -- all of it, at the end
  pub all_stand : (size base k : ℕ) (ss : List Step) (old t : List ℕ) → CameOf p true ss
      → size ≡ p.first.header.size → k ≡ length (rows_of_pair p) → base ≡ length (rows_of_pair p)
      → StandsTo size base k ss old t
      → t ≡ table_of_merge p.first.bytes.now p.second.bytes.now ++ drop (table_length size k) old
  all_stand size base k ss old t c e f g stands =
      let whole : ss ++ c.more ≡ ss = ap (λ (more : List Step). ss ++ more) (c.none refl) ∙ append-nil ss in
      let rows = rows_came p true ss c ∙ ap (map row_of) whole in
      let head = (sound p.first.bytes.now p.first.header p.first.checked).head.is in
      let sizes = e ∙ ap (λ (h : TableHeader). h.size) head in
      end size base k (map row_of ss) old t stands (sym (ap length rows) ∙ sym f)
      ∙ ap (λ (rs : List Held). written size base rs ++ drop (table_length size k) old) (sym rows)
      ∙ ap (λ (n : ℕ). written n base (rows_of_pair p) ++ drop (table_length size k) old) sizes
      ∙ ap (λ (n : ℕ). written (numbers_at p.first.bytes.now).size n (rows_of_pair p)
      ++ drop (table_length size k) old) g
