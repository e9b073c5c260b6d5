-- What a table holds is as long as a base record that was opened with it. So the theorem holds of every table.
use Rattle.std.proofs.Common.{ℕ, ◌+◌, ◌≤◌, ◌≡◌, List, length, subst, sym, ap, ◌∙◌, arith}
use Rattle.fields.specs.Answer.{gives}
use Rattle.fields.specs.declared.RecordNumber.{RecordNumber}
use Rattle.fields.proofs.Answers.{back}
use Rattle.table.specs.Check.{table_of}
use Rattle.table.specs.Held.{record_of}
use Rattle.table.specs.declared.check.TableHeader.{TableHeader}
use Rattle.table.proofs.Sound.{sound}
use Rattle.table.proofs.Holds.{record-sized}
use Rattle.record.specs.Open.{Lent, open_in}
use Rattle.items.specs.Told.{file_of_bytes}
use Rattle.items.proofs.Opened.{opened_in_lent, sized_in}
use Rattle.bound.specs.Listing.{most, reported, Sized, EveryLookup, EveryTable, EveryFile}
use Rattle.bound.specs.Listing.{Every1024}
use Rattle.bound.proofs.Paid.{reads, all}
use Rattle.bound.proofs.Ends.{whole}

held_sized : (t s : List ℕ) (h : TableHeader) → table_of t ≡ gives h → length s ≡ h.size → Sized s (record_of t)
held_sized t s h e l w b q = let k = record-sized (sound t h e) w b q in omega arith

pub table_sized : (t s : List ℕ) (n : RecordNumber) (x : Lent) → file_of_bytes t s n ≡ gives x → Sized s (record_of t)
unfolding file_of_bytes
table_sized t s n x e =
    let k = back (table_of t) (λ h. open_in s n h.size) x e in
    let l = ap (λ (y : Lent). length y.bytes) (opened_in_lent s n x k.first.size (sym k.next)) in
    held_sized t s k.first k.gave (sym l ∙ sized_in s n x k.first.size (sym k.next))

pub every_lookup : EveryLookup
every_lookup s n look room z = all s n look room z (whole s n look room)

pub every_table : EveryTable
every_table t s n x room e = every_lookup s n (record_of t) room (table_sized t s n x e)

pub every_file : EveryFile
every_file f room = every_lookup f.base.bytes.now f.base.number (record_of f.table.bytes.now) room
    (held_sized f.table.bytes.now f.base.bytes.now f.table.header f.table.checked f.sized)

pub every_1024 : Every1024
every_1024 s n look room z m k c read w l =
    let b = (reads s n look room z k c read w l).bound in
    subst (λ (y : ℕ). c + reported s n look room w ≤ most y) m b
