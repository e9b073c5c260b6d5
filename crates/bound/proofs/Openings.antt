-- What the opening of a table and of its base record say of the listing.
use Rattle.std.proofs.Common.{ℕ, ◌≡◌, List, sym, ap, subst, ◌∙◌}
use Rattle.std.specs.Prelude.{Some, None}
use Rattle.fields.specs.Answer.{Outcome, gives, refuses, ◌⟫◌}
use Rattle.fields.proofs.Answers.{refused-given}
use Rattle.fields.specs.declared.RecordNumber.{RecordNumber}
use Rattle.fields.specs.declared.Refusal.{Refusal}
use Rattle.table.specs.Check.{table_of}
use Rattle.table.specs.Held.{Held, record_of, base_of}
use Rattle.table.specs.declared.check.TableHeader.{TableHeader}
use Rattle.record.specs.Open.{Lent, open_in}
use Rattle.items.specs.Told.{shown_base, file_of_bytes}
use Rattle.items.specs.declared.File.{File}
use Rattle.items.proofs.Opened.{opened_in_lent}
use Rattle.bound.specs.Calls.{Counts}
use Rattle.bound.specs.Told.{room, Based, BaseRefused, Reads}

pub refused : (t : List ℕ) (r : Refusal) → refuses r ≡ table_of t → (b : Held) → Based t b → ⊥
refused t r e b k = refused-given (e ∙ k.passed)

-- of a table that was checked: its numbers, and its bytes
pub record Checked (t u : List ℕ) (h : TableHeader) : Type 0 where
  pub passed : gives h ≡ table_of t
  pub same : u ≡ t

pub unbased : (t u : List ℕ) (h : TableHeader) → Checked t u h → None ≡ base_of u → (b : Held) → Based t b → ⊥
unbased t u h k n b d = let x = n ∙ ap base_of k.same ∙ d.base in absurd (cc)

-- the opening of a record with a table that was checked is that with the table's bytes
pub way : (t u : List ℕ) (h : TableHeader) → Checked t u h → (s : List ℕ) (n : RecordNumber)
    (a : Outcome Lent) → a ≡ open_in s n h.size → file_of_bytes t s n ≡ a
unfolding file_of_bytes
way t u h k s n a m = ap (λ (x : Outcome TableHeader). x ⟫ λ g. open_in s n g.size) (sym k.passed) ∙ sym m

module _ (t u : List ℕ) (h : TableHeader) (k : Checked t u h) (b : Held) (q : Some b ≡ base_of u) where
  based : Based t b
  based = record { header = h; passed = sym k.passed; base = sym (q ∙ ap base_of k.same) }

  file : (a : Outcome Lent) → a ≡ open_in b.bytes b.number h.size → file_of_bytes t b.bytes b.number ≡ a
  file a m = way t u h k b.bytes b.number a m

  pub base_refused : (r : Refusal) → refuses r ≡ open_in b.bytes b.number h.size → BaseRefused t
  base_refused r m = record { base = b; based = based; refusal = r; refused = file (refuses r) m }

  pub reads : (f : File) → gives (shown_base f) ≡ open_in b.bytes b.number h.size → f.table.bytes.now ≡ u
      → (c : ℕ) → Counts f.base.bytes.now f.base.number (record_of f.table.bytes.now) room c → Reads t c
  reads f m g c n =
      let l = opened_in_lent b.bytes b.number (shown_base f) h.size m in
      let p : f.base.bytes.now ≡ b.bytes = ap (λ (y : Lent). y.bytes) l in
      let o : f.base.number ≡ b.number = ap (λ (y : Lent). y.number) l in
      record {
        base = b;
        based = based;
        file = shown_base f;
        opened = file (gives (shown_base f)) m;
        count = subst (λ (y : List ℕ). Counts b.bytes b.number (record_of y) room c) (g ∙ k.same)
            (subst (λ y. Counts b.bytes y (record_of f.table.bytes.now) room c) o
            (subst (λ (y : List ℕ). Counts y f.base.number (record_of f.table.bytes.now) room c) p n));
      }
