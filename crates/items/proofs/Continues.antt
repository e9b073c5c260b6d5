-- What continues the stream of a key that an entry left, in the subject's own words.
use Rattle.std.proofs.Common.{ℕ, ◌*◌, ◌≡◌, List, length, take, true, arith}
use Rattle.std.proofs.lemmas.Bool.Decides.{nat_tests}
use Rattle.std.proofs.lemmas.List.{take_at}
use Rattle.std.proofs.lemmas.Slice.Eq.{bytes_eq-Decides}
use Rattle.list.specs.Named.{padded}
use Rattle.list.specs.declared.Entry.{Entry}
use Rattle.items.specs.Key.{key_of, continues}
use Rattle.items.specs.Laws.{Continues, KeysTell, TailsTellNothing}

module _ (e : Entry) (name : List ℕ) (f : Entry) (own : List ℕ) (l : length name ≡ 2 * e.name_units) where
  kept : take (2 * e.name_units) (padded name) ≡ name
  unfolding padded
  kept = take_at _ _ _ l

  pub told : continues (key_of e name) f own ≡ true → Continues e name f own
  unfolding continues
  told h = let k = kept in let d = bytes_eq-Decides own (take (2 * e.name_units) (padded name)) in
      record {
        ty = grind (arith, nat_tests);
        same = grind (arith, nat_tests);
        behind = grind (arith, nat_tests);
      }

  pub tells : Continues e name f own → continues (key_of e name) f own ≡ true
  unfolding continues
  tells c = let k = kept in let d = bytes_eq-Decides own (take (2 * e.name_units) (padded name)) in
      let a = c.ty in let b = c.same in let x = c.behind in grind (arith, nat_tests)

pub keys_tell : KeysTell
keys_tell e name f own l = (told e name f own l, tells e name f own l)

pub tails_tell_nothing : TailsTellNothing
unfolding continues
tails_tell_nothing j k f own a b c = rw (a, c)
