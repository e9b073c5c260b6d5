-- The next raw record has as many bytes as records have, and its room holds no others.
use Rattle.std.specs.Prelude.{◌≡◌, ◌<◌, length, vec_len, option_copied, Some, None}
use Rattle.std.proofs.Common.{rules, refl, sym, ap, subst, ◌∙◌, inl, arith}
use Rattle.std.proofs.KnownBytes.{Keeps-refl}
use Rattle.std.proofs.lemmas.Result.{IfOk-weaker}
use Rattle.lines.proofs.Wents.{err_then}
use Rattle.fields.specs.declared.RecordNumber.{RecordNumber}
use Rattle.table.specs.Check.{number_end}
use Rattle.command.specs.declared.reason.Reason.TheVariants.{Unlisted}
use Rattle.mft.specs.Kind.{base, broken, passed}
use Rattle.mft.proofs.Absences.{size_above_0}
use Rattle.mft.proofs.Readied.{sole_as}
use Rattle.mft.proofs.Turning.{refilled, read_as, sifted_as, kind_as, turns_by, fails_by}
use Rattle.mft.proofs.mft.Mft.list_next.Goals as goal

pub read-requires : goal.read-requires
read-requires g c =
    let me = c.args.self.now in
    let above : 0 < me.layout.size = size_above_0 me.layout.size me.good in
    let long : length c.deref_mut.result.now ≡ vec_len me.own = search rules in
    omega (arith, above, long, me.one)

pub list_wanted-requires-clause-number : goal.list_wanted-requires-clause-number
list_wanted-requires-clause-number g c =
    let reads =
    read_as _ _ _ _ _ c.in-Ok-Some.field-0 c.in-Ok-Some.number c.in-Ok-Some.field-0-is c.in-Ok-Some.ensures.ok in
    subst (λ (k : RecordNumber). k.0 < number_end) (sym reads.1) reads.3

pub list_wanted-requires-clause-sole : goal.list_wanted-requires-clause-sole
list_wanted-requires-clause-sole g c =
    let me = c.args.self.now in
    let wide : length c.sift.new.table ≡ vec_len me.table = search rules in
    let room : length c.deref_mut-2.result.now ≡ vec_len me.table = search rules in
    let sifts =
    sifted_as _ _ _ _ c.in-Ok-Some-sift.field-0 (Some c.in-Ok-Some-sift.sole) c.in-Ok-Some-sift.field-0-is
    c.in-Ok-Some-sift.ensures.ok in
    sole_as _ _ (sym c.deref.ensures.value) c.in-Ok-Some.number _ refl _ (vec_len me.table) (sym room) _ _
    (refilled (vec_len me.table) c.sift.new.table me.table.items wide) c.in-Ok-Some-sift.sole sifts.1

pub returns-in-Ok-Some-sift-clause-ok : goal.returns-in-Ok-Some-sift-clause-ok
returns-in-Ok-Some-sift-clause-ok g c =
    let me = c.args.self.now in
    let long : length c.read.new.room ≡ vec_len me.own = search rules in
    let still = refilled (vec_len me.own) c.read.new.room me.own.items long in
    let reads =
    read_as _ _ _ _ _ c.in-Ok-Some.field-0 c.in-Ok-Some.number c.in-Ok-Some.field-0-is c.in-Ok-Some.ensures.ok in
    let sifts =
    sifted_as _ _ _ _ c.in-Ok-Some-sift.field-0 (Some c.in-Ok-Some-sift.sole) c.in-Ok-Some-sift.field-0-is
    c.in-Ok-Some-sift.ensures.ok in
    let (b, kind) = sifts.0 in
    IfOk-weaker c.list_wanted.result _ _
    (turns_by g.R.Seek.stream_position g.R.Read.remaining me.layout c.args.manner (option_copied c.args.wanted)
    c.args.records.now.next _ _ _ c.read.new.room (reads.0, long ∙ me.one, reads.2)
    (b, kind_as _ c.read.new.room (c.deref.ensures.value ∙ still) c.in-Ok-Some.number _ reads.1 (base b) kind) _ _
    c.in-Ok-Some.number reads.1 _ still)
    c.list_wanted.ensures.ok

pub returns-in-Ok-Some-sift-clause-err : goal.returns-in-Ok-Some-sift-clause-err
returns-in-Ok-Some-sift-clause-err g c =
    let me = c.args.self.now in
    let long : length c.read.new.room ≡ vec_len me.own = search rules in
    let still = refilled (vec_len me.own) c.read.new.room me.own.items long in
    let reads =
    read_as _ _ _ _ _ c.in-Ok-Some.field-0 c.in-Ok-Some.number c.in-Ok-Some.field-0-is c.in-Ok-Some.ensures.ok in
    let sifts =
    sifted_as _ _ _ _ c.in-Ok-Some-sift.field-0 (Some c.in-Ok-Some-sift.sole) c.in-Ok-Some-sift.field-0-is
    c.in-Ok-Some-sift.ensures.ok in
    let (b, kind) = sifts.0 in
    err_then c.list_wanted.result c.list_wanted.ensures.err
    (fails_by g.R.Seek.stream_position g.R.Read.remaining me.layout c.args.manner (option_copied c.args.wanted)
    c.args.records.now.next _ _ _ c.read.new.room (reads.0, long ∙ me.one, reads.2)
    (b, kind_as _ c.read.new.room (c.deref.ensures.value ∙ still) c.in-Ok-Some.number _ reads.1 (base b) kind) _ _
    c.in-Ok-Some.number reads.1 _ still)

pub returns-in-Err-sift-clause-ok : goal.returns-in-Err-sift-clause-ok
returns-in-Err-sift-clause-ok g c =
    let me = c.args.self.now in
    let long : length c.read.new.room ≡ vec_len me.own = search rules in
    let still = refilled (vec_len me.own) c.read.new.room me.own.items long in
    let reads =
    read_as _ _ _ _ _ c.in-Ok-Some.field-0 c.in-Ok-Some.number c.in-Ok-Some.field-0-is c.in-Ok-Some.ensures.ok in
    let told = c.skipped.ensures in
    let (cause, kind, why) = c.in-Err-sift.ensures.err in (
      c.read.new.room,
      (reads.0, long ∙ me.one, reads.2),
      inl (
        told.number ∙ reads.1,
        told.lost,
        (
          cause,
          kind_as _ c.read.new.room (c.deref.ensures.value ∙ still) c.in-Ok-Some.number _ reads.1 (broken cause) kind,
          (
            Keeps-refl _,
            told.hazards,
            (c.in-Err-sift.reason, told.reason, why ∙ ap (λ (k : RecordNumber). Unlisted k cause) reads.1),
          ),
        ),
      ),
    )

pub returns-in-Ok-None-sift-clause-ok : goal.returns-in-Ok-None-sift-clause-ok
returns-in-Ok-None-sift-clause-ok g c =
    let me = c.args.self.now in
    let long : length c.read.new.room ≡ vec_len me.own = search rules in
    let still = refilled (vec_len me.own) c.read.new.room me.own.items long in
    let reads =
    read_as _ _ _ _ _ c.in-Ok-Some.field-0 c.in-Ok-Some.number c.in-Ok-Some.field-0-is c.in-Ok-Some.ensures.ok in
    let sifts =
    sifted_as _ _ _ _ c.in-Ok-None-sift.field-0 None c.in-Ok-None-sift.field-0-is c.in-Ok-None-sift.ensures.ok in (
      c.read.new.room,
      (reads.0, long ∙ me.one, reads.2),
      inl (
        Keeps-refl _,
        kind_as _ c.read.new.room (c.deref.ensures.value ∙ still) c.in-Ok-Some.number _ reads.1 passed sifts,
      ),
    )
