-- What a table that passed its check has for a merge: its rows in order, each with number, record and place.
use Rattle.std.proofs.Common.{ℕ, zero, suc, ◌+◌, ◌<◌, ◌≤◌, ◌≡◌, List, ◌∷◌, map, length, refl, sym, ap, ◌∙◌, subst}
use Rattle.std.proofs.Common.{All, arith}
use Rattle.std.proofs.lemmas.List.Elements.{All-nil, All-cons}
use Rattle.std.specs.Prelude.{Some, option_map, unwrap_or}
use Rattle.table.specs.Layout.{row_at}
use Rattle.table.specs.Held.{Held, held_at, held_from, held_of}
use Rattle.table.specs.Row.{first_row}
use Rattle.table.specs.Rows.{Filed, filed_at, filed_from, filed_of}
use Rattle.table.specs.declared.check.TableHeader.{TableHeader}
use Rattle.table.proofs.Sound.{Sound, record-length}
use Rattle.table.proofs.InTurn.{first_found}
use Rattle.written.specs.Laws.{Rising}
use Rattle.merge.specs.Merge.{place_in}

abbrev pub held_of_filed : Filed → Held
held_of_filed f = record { number = f.row.number; bytes = f.bytes }

module _ (t : List ℕ) (h : TableHeader) where
  filed_held_from : (k i : ℕ) → map held_of_filed (filed_from t h k i) ≡ held_from t h k i
  unfolding filed_from held_from held_at
  filed_held_from zero i = refl
  filed_held_from (suc k) i = ap (λ (l : List Held). held_of_filed (filed_at t h i) ∷ l) (filed_held_from k (i + 1))

  all_filed : (P : Filed → Type 0) (k i : ℕ) → ((j : ℕ) → j < i + k → P (filed_at t h j)) → All P (filed_from t h k i)
  unfolding filed_from
  all_filed P zero i f = All-nil P
  all_filed P (suc k) i f =
      All-cons P _ _ (f i (omega arith)) (all_filed P k (i + 1) (λ j l. f j (omega arith)))

module _ {t : List ℕ} {h : TableHeader} (s : Sound t h) where
  pub filed_held : map held_of_filed (filed_of t h) ≡ held_of t
  unfolding held_of
  filed_held =
      filed_held_from t h h.count 0 ∙ ap (λ (x : TableHeader). held_from t x x.count 0) s.head.is

  rising_from : (least k i : ℕ) → i + k ≤ h.count → (0 < k → least ≤ (row_at t h i).number.0)
      → Rising least (held_from t h k i)
  unfolding held_from held_at
  rising_from least zero i l m = tt
  rising_from least (suc k) i l m = (
    m (omega arith),
    s.small i (omega arith),
    rising_from (suc (row_at t h i).number.0) k (i + 1) (omega arith)
        (λ o. omega (arith, s.rises i (i + 1) (omega arith) (omega arith))),
  )

  pub held_rising : Rising 0 (held_of t)
  unfolding held_of
  held_rising =
      subst (λ (x : TableHeader). Rising 0 (held_from t x x.count 0)) s.head.is
      (rising_from 0 h.count 0 (omega arith) (λ o. omega arith))

  long_from : (k i : ℕ) → i + k ≤ h.count → All (λ r. length r.bytes ≡ h.size) (held_from t h k i)
  unfolding held_from held_at
  long_from zero i l = All-nil (λ (r : Held). length r.bytes ≡ h.size)
  long_from (suc k) i l =
      All-cons (λ (r : Held). length r.bytes ≡ h.size) _ _ (record-length s i (omega arith))
      (long_from k (i + 1) (omega arith))

  pub held_long : All (λ r. length r.bytes ≡ h.size) (held_of t)
  unfolding held_of
  held_long =
      subst (λ (x : TableHeader). All (λ r. length r.bytes ≡ h.size) (held_from t x x.count 0)) s.head.is
      (long_from h.count 0 (omega arith))

  -- a row is found where it stands
  placed : (i : ℕ) → i < h.count → place_in t (row_at t h i).number ≡ (row_at t h i).place
  placed i l =
      ap (λ (x : TableHeader). unwrap_or (option_map (λ r. r.place) (first_row t x (row_at t h i).number)) 0)
      (sym s.head.is)
      ∙ ap (λ o. unwrap_or (option_map (λ r. r.place) o) 0) (first_found s (row_at t h i).number (Some i) (l, refl))

  pub all_placed : All (λ f. place_in t f.row.number ≡ f.row.place) (filed_of t h)
  all_placed = all_filed t h (λ f. place_in t f.row.number ≡ f.row.place) h.count 0 (λ j l. placed j (omega arith))
