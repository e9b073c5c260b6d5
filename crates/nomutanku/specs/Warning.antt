-- RULES 25.3: a hazard of a file in words.
use Rattle.std.specs.Prelude.{◌&&◌, eqb}
use Rattle.fields.specs.Pick.{pick}
use Rattle.fields.specs.declared.RecordNumber.{RecordNumber}
use Rattle.segments.specs.declared.Reference.{Reference}
use Rattle.segments.specs.declared.find.Hazard.{Hazard}
use Rattle.segments.specs.declared.find.Hazard.TheVariants as hazard
use Rattle.nomutanku.specs.declared.warning.Warning.{Warning}
use Rattle.nomutanku.specs.declared.warning.Warning.TheVariants as warning

-- of the file with a number, a record whose reference to a base record is not as it should be: the file's own base
-- record, which has one; another record that has none, or one to this file, or to another
abbrev pub base_warning : RecordNumber → RecordNumber → Reference → Warning
base_warning of m base =
    pick (eqb m.0 of.0) (warning.Extension base.file)
    (pick (eqb base.file.0 0 && eqb base.sequence 0) (warning.NoBase m)
    (pick (eqb base.file.0 of.0) (warning.OtherSequence m base.sequence) (warning.OtherBase m base.file)))

abbrev pub warning_of : RecordNumber → Hazard → Warning
warning_of of (hazard.Sequence place m named has) = warning.Sequence place m named has
warning_of of (hazard.NotInUse m) = warning.NotInUse m
warning_of of (hazard.OtherBase m base) = base_warning of m base
