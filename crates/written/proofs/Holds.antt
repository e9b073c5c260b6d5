-- A list of bytes in which rows stand holds them.
use Rattle.std.proofs.Common.{ℕ, suc, ◌+◌, ◌*◌, ◌<◌, ◌≡◌, refl, sym, ap, ap₂, ◌∙◌, arith}
use Rattle.std.proofs.Common.{List, [], ◌∷◌, length, take, drop}
use Rattle.table.specs.Layout.{row_size, row_in, row_at}
use Rattle.table.specs.Check.{number_end}
use Rattle.table.specs.Held.{Held, held_at, held_from, record_at}
use Rattle.table.specs.declared.check.TableHeader.{TableHeader}
use Rattle.table.specs.declared.check.Row.{Row}
use Rattle.written.specs.Laws.{Rising}
use Rattle.written.proofs.Rest.{Rest, row_back, record_back, others}

module _ (t : List ℕ) (h : TableHeader) where
  -- the first of the rows
  pub row_there : (i d o : ℕ) (r : Held) (rs : List Held) → Rest t h.size d o (r ∷ rs)
      → d ≡ h.directory + row_size * i → r.number.0 < number_end
      → row_at t h i ≡ record { place = d; number = r.number; offset = o }
  unfolding row_at
  row_there i d o r rs s e l = ap (row_in t) (sym e) ∙ row_back t h.size d o r rs s l

  held_there : (i d o : ℕ) (r : Held) (rs : List Held) → Rest t h.size d o (r ∷ rs)
      → d ≡ h.directory + row_size * i → r.number.0 < number_end → held_at t h i ≡ r
  unfolding held_at record_at
  held_there i d o r rs s e l =
      ap (λ (x : Row). record { number = x.number; bytes = take h.size (drop x.offset t) })
      (row_there i d o r rs s e l)
      ∙ ap (λ (b : List ℕ). record { number = r.number; bytes = b }) (record_back t h.size d o r rs s)

  -- and all of them
  pub rows_held : (i d o least : ℕ) (rows : List Held) → Rest t h.size d o rows → d ≡ h.directory + row_size * i
      → Rising least rows → held_from t h (length rows) i ≡ rows
  unfolding held_from
  rows_held i d o least [] s e up = refl
  rows_held i d o least (r ∷ rs) s e up =
      ap₂ ◌∷◌ (held_there i d o r rs s e up.1)
      (rows_held (i + 1) (d + 12) (o + h.size) (suc r.number.0) rs (others t h.size d o r rs s) (omega arith) up.2)
