-- What an item's name is, step by step: its type, its record, its value, and the name there.
use Rattle.std.proofs.Common.{ℕ, ◌≡◌, List, refl, ap, arith, Bool, true, false}
use Rattle.std.specs.Prelude.{Option, Some, None, eqb, unwrap_or}
use Rattle.std.proofs.lemmas.Bool.Decides.{nat_tests}
use mathlib.Core.Logic.{inl, inr}
use Rattle.std.proofs.lemmas.Option.{none-some}
use Rattle.fields.specs.Pick.{pick}
use Rattle.fields.specs.Answer.{Outcome, gives, refuses}
use Rattle.fields.specs.declared.RecordNumber.{RecordNumber}
use Rattle.fields.proofs.Answers.{back}
use Rattle.record.specs.View.{Piece}
use Rattle.record.specs.Value.{Contents, resident, runs, value_of}
use Rattle.items.specs.Lookup.{lookup_of}
use Rattle.items.specs.declared.walk.Item.{Item}
use Rattle.filename.specs.Name.{Name, name, is_long, name_of}
use Rattle.filename.specs.Names.{long_of, long_in, value_by, name_by}
use Rattle.filename.specs.declared.value.Namespace.{Namespace}
use Rattle.filename.specs.declared.value.Namespace.TheVariants.{Posix, Win32, Dos, Win32AndDos, Other}
use Rattle.filename.specs.Laws.{IsLong, HasName, ItemsHaveNames}

-- a choice that gives something took its first answer
taken : {A : Type 0} (t : Bool) (o : Option A) (x : A) → pick t o None ≡ Some x → (t ≡ true) × (o ≡ Some x)
taken true o x e = (refl, e)
taken false o x e = absurd (none-some x e)

same : {A : Type 0} (x y : A) → ◌≡◌ {A = Option A} (Some x) (Some y) → x ≡ y
same {A} x y e = ap (λ (o : Option A). unwrap_or o y) e

is-long : (k : Namespace) → is_long k ≡ true → IsLong k
unfolding is_long
is-long Posix e = inl refl
is-long Win32 e = inr (inl refl)
is-long Win32AndDos e = inr (inr refl)
is-long Dos e = grind arith
is-long (Other k) e = grind arith

long-is : (k : Namespace) → IsLong k → is_long k ≡ true
unfolding is_long
long-is k (inl e) = rw e refl
long-is k (inr (inl e)) = rw e refl
long-is k (inr (inr e)) = rw e refl

module _ (b : List ℕ) where
  record Long (o : Option Name) : Type 0 where
    space : Namespace
    name : o ≡ Some (name space b)
    long : IsLong space

  of_name : (o : Option Name) → long_of o ≡ Some b → Long o
  of_name None e = absurd (none-some b e)
  of_name (Some m) e = let t = taken (is_long m.namespace) (Some m.bytes) b e in
      record {
        space = m.namespace;
        name = ap (λ c. Some (name m.namespace c)) (same m.bytes b t.1);
        long = is-long m.namespace t.0;
      }

  record LongIn (v : Outcome Contents) : Type 0 where
    value : Piece
    stands : v ≡ gives (resident value)
    name : Long (name_of value.bytes)

  of_value : (v : Outcome Contents) → long_in v ≡ Some b → LongIn v
  of_value (gives (resident p)) e = record { value = p; stands = refl; name = of_name (name_of p.bytes) e }
  of_value (gives (runs p size)) e = absurd (none-some b e)
  of_value (refuses r) e = absurd (none-some b e)

  module _ (s : List ℕ) (n : RecordNumber) (look : RecordNumber → Option (List ℕ)) (i : Item) where
    has : name_by s n look i ≡ Some b → HasName s n look i b
    unfolding name_by value_by
    has e =
        let t = taken (eqb i.attribute.ty 48) _ b e in
        let v = of_value _ t.1 in
        let w = back (lookup_of s n look i.file 0) (λ r. value_of r.bytes r.number i.attribute.offset)
        (resident v.value) v.stands in
        record {
          ty = grind (arith, nat_tests);
          within = w.first;
          opened = w.gave;
          value = v.value;
          stands = w.next;
          space = v.name.space;
          name = v.name.name;
          long = v.name.long;
        }

    had : HasName s n look i b → name_by s n look i ≡ Some b
    unfolding name_by value_by
    had h = rw (h.ty, h.opened, h.stands, h.name, long-is h.space h.long) refl

pub items_have_names : ItemsHaveNames
items_have_names s n look i b = (has b s n look i, had b s n look i)
