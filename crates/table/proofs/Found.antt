-- How a row that was found, or none, answers for the table; and the base row.
use Rattle.std.specs.Prelude.{ℕ, ◌+◌, ◌<◌, ◌≤◌, ◌≡◌, List, length, Some, None, option_map}
use Rattle.std.proofs.Common.{sym, ap, ◌∙◌, subst}
use Rattle.fields.specs.Answer.{gives}
use Rattle.fields.specs.declared.RecordNumber.{RecordNumber}
use Rattle.table.specs.Layout.{row_at}
use Rattle.table.specs.Check.{table_of}
use Rattle.table.specs.Held.{held_at, record_told, record_at, record_of, base_row, base_of}
use Rattle.table.specs.Row.{first_row}
use Rattle.table.specs.declared.check.TableHeader.{TableHeader}
use Rattle.table.proofs.Sound.{sound}
use Rattle.table.specs.declared.check.Row.{Row}
use Rattle.table.proofs.InTurn.{record_told_first, first_among}
use Rattle.table.proofs.Holds.{base-inside, base-held, base-none}

module _ (t : List ℕ) (h : TableHeader) (e : table_of t ≡ gives h) where
  pub got_none : (n : RecordNumber) → None ≡ first_row t h n → None ≡ record_of t n
  got_none n i = sym (record_told_first t h n (sound t h e).head.is ∙ ap (option_map (record_told t h)) (sym i))

  pub got_row : (n : RecordNumber) (r : Row) (b : List ℕ)
      → Some r ≡ first_row t h n → b ≡ record_told t h r → Some b ≡ record_of t n
  got_row n r b w q =
      ap Some q ∙ sym (record_told_first t h n (sound t h e).head.is ∙ ap (option_map (record_told t h)) (sym w))

  pub got_inside : (n : RecordNumber) (r : Row) → Some r ≡ first_row t h n → r.offset + h.size ≤ length t
  got_inside n r w =
      let a = first_among t h n r (sym w) in
      subst (λ (x : Row). x.offset + h.size ≤ length t) a.is ((sound t h e).stops a.place a.inside)

  pub based_inside : (i : ℕ) → Some i ≡ base_row h → i < h.count
  based_inside i q = base-inside (sound t h e) i (sym q)

  pub no_base : None ≡ base_row h → None ≡ base_of t
  no_base q = sym (base-none (sound t h e) (sym q))

  pub some_base : (i : ℕ) (r : Row) (b : List ℕ)
      → Some i ≡ base_row h → r ≡ row_at t h i → b ≡ record_told t h r
      → Some (record { number = r.number; bytes = b }) ≡ base_of t
  unfolding held_at record_at
  some_base i r b q u v =
      ap (λ (c : List ℕ). Some (record { number = r.number; bytes = c })) v
      ∙ ap (λ (x : Row). Some (record { number = x.number; bytes = record_told t h x })) u
      ∙ sym (base-held (sound t h e) i (sym q))

pub ruleset holds = (got_none, got_row, got_inside)

pub ruleset bases = (based_inside, no_base, some_base)
