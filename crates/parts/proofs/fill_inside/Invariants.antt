-- What is told of the list from the loop's state is what is told from its start.
use Rattle.std.specs.Prelude.{◌≡◌, ◌+◌, ◌-◌, ◌*◌, ◌≤◌, length}
use Rattle.fields.specs.Answer.{gives}
use Rattle.list.specs.Entry.{entry_of}
use Rattle.items.specs.State.{rest_of}
use Rattle.items.specs.Key.{key_of}
use Rattle.items.specs.Lies.{Lies}
use Rattle.parts.specs.Filled.{told_parts}
use Rattle.parts.specs.OfFile.{parts_begun}
use Rattle.parts.proofs.Steps.{after}
use Rattle.parts.proofs.fill_inside.Given as goal

abbrev pub invariant-entries : goal.invariant-entries
invariant-entries l = record {
  same : told_parts l.fn.list (parts_begun l.file (key_of l.first.entry l.first.name.now) (length l.fn.list)
      l.fn.from l.first.entry) ≡ after l.reads l.count l.list
      (parts_begun l.file l.key (length l.fn.list - l.count) l.at l.e);
  stands : gives l.e ≡ entry_of (rest_of l.file.base.bytes.now l.at) l.file.base.number l.at.from;
  lies : Lies (length l.file.base.bytes.now) l.at;
  room : l.count ≤ length l.fn.list;
  size : length l.list ≡ length l.fn.list;
  paid : l.reads + 257 * (l.at.to - l.at.from) ≤ 257 * (l.fn.from.to - l.fn.from.from);
}

abbrev pub decreases-entries : goal.decreases-entries
decreases-entries l = l.at.to - l.at.from
