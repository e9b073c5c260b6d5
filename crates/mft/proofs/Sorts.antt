-- What a raw record is, by how it is fixed up and opened.
use Rattle.std.specs.Prelude.{ℕ, ◌≡◌, List, Bool, true, false, Some, None}
use Rattle.std.specs.Prelude.{Result, Ok, Err}
use Rattle.std.proofs.Common.{refl, sym, ap, ◌∙◌}
use Rattle.fields.specs.Pick.{pick}
use Rattle.fields.specs.Answer.{gives, refuses}
use Rattle.fields.specs.Told.{told_as}
use Rattle.fields.specs.declared.Cause.{Cause}
use Rattle.fields.specs.declared.RecordNumber.{RecordNumber}
use Rattle.fields.specs.declared.Refusal.{Refusal}
use Rattle.record.specs.Open.{Lent, open_of}
use Rattle.extract.specs.Fixup.{Verdict, left_out, refused, sound, verdict_of}
use Rattle.items.specs.Told.{shown_base}
use Rattle.items.specs.declared.File.{File}
use Rattle.segments.specs.Base.{is_base_in_use}
use Rattle.command.specs.declared.absence.Absence.TheVariants as absence
use Rattle.mft.specs.Absence.{absence_by}
use Rattle.mft.specs.Kind.{kind_by, kind_of, opened_kind, passed, broken, base}
use Rattle.mft.proofs.Rows.{opens_as}

-- one that is there is sound
pub there_by : (v : Verdict) → None ≡ absence_by v → (b : List ℕ) × (v ≡ sound b)
there_by left_out e = let q : ⊥ = cc in absurd q
there_by (refused c) e = let q : ⊥ = cc in absurd q
there_by (sound b) e = (b, refl)

-- one that is refused
pub refused_by : (v : Verdict) (c : Cause) → Some (absence.Refused c) ≡ absence_by v → v ≡ refused c
refused_by left_out c e = let q : ⊥ = cc in absurd q
refused_by (refused d) c e = let q : c ≡ d = cc in ap refused (sym q)
refused_by (sound b) c e = let q : ⊥ = cc in absurd q

module _ (own b : List ℕ) (n : RecordNumber) (v : verdict_of own ≡ sound b) where
  opened : kind_of own n ≡ opened_kind b (open_of b n)
  opened = ap (kind_by n) v

  pub broken_kind : (e : Refusal) → refuses e ≡ open_of b n → kind_of own n ≡ broken e.cause
  broken_kind e is = opened ∙ ap (opened_kind b) (sym is)

  module _ (r : Lent) (is : gives r ≡ open_of b n) where
    same : r.bytes ≡ b
    same = ap (λ (q : Lent). q.bytes) (opens_as b n r (sym is))

    by_use : (u : Bool) → is_base_in_use r.bytes ≡ u → kind_of own n ≡ pick u (base b) passed
    by_use u e =
        opened ∙ ap (opened_kind b) (sym is)
        ∙ ap (λ (t : Bool). pick t (base b) passed) (ap is_base_in_use (sym same) ∙ e)

    pub base_kind : true ≡ is_base_in_use r.bytes → kind_of own n ≡ base b
    base_kind e = by_use true (sym e)

    pub passed_kind : false ≡ is_base_in_use r.bytes → kind_of own n ≡ passed
    passed_kind e = by_use false (sym e)

-- by how it opened in a table of its own
module _ (own b : List ℕ) (n : RecordNumber) (v : verdict_of own ≡ sound b) (file : Result File Refusal)
    (opens : told_as shown_base file ≡ open_of b n) where
  pub broken_as : (e : Refusal) → file ≡ Err e → kind_of own n ≡ broken e.cause
  broken_as e is = broken_kind own b n v e (ap (told_as shown_base) (sym is) ∙ opens)

  module _ (f : File) (is : file ≡ Ok f) where
    pub base_as : true ≡ is_base_in_use f.base.bytes.now → kind_of own n ≡ base b
    base_as = base_kind own b n v (shown_base f) (ap (told_as shown_base) (sym is) ∙ opens)

    pub passed_as : false ≡ is_base_in_use f.base.bytes.now → kind_of own n ≡ passed
    passed_as = passed_kind own b n v (shown_base f) (ap (told_as shown_base) (sym is) ∙ opens)
