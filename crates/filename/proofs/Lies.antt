-- Where a name stands in its value, and a value that is made of a name.
use Rattle.std.proofs.Common.{ℕ, ◌+◌, ◌*◌, ◌≤◌, ◌≡◌, List, ◌∷◌, ◌++◌, length, take, drop, refl, sym, ap, ◌∙◌, arith}
use Rattle.std.proofs.Common.{length-drop, length-append}
use Rattle.std.proofs.Common.{subst, Bool, true, false}
use Rattle.std.specs.Prelude.{Option, Some, None, get_or, ltb, unwrap_or}
use Rattle.std.proofs.lemmas.Option.{none-some}
use Rattle.fields.specs.Pick.{pick}
use Rattle.std.proofs.lemmas.Bool.Decides.{nat_tests}
use Rattle.std.proofs.lemmas.List.{length-take-le, take-append-drop, drop-drop, take_at, drop_at, get_or_at}
use Rattle.std.proofs.lemmas.List.{get_or-append_right}
use Rattle.filename.specs.Name.{Name, name, namespace_of, name_of}
use Rattle.filename.specs.Laws.{Lies, NamesLie, NamesReadBack}
use Rattle.filename.specs.declared.value.Namespace.{Namespace}

-- a test that held would leave no name
some_of : {A : Type 0} (t : Bool) (o : Option A) (x : A) → pick t None o ≡ Some x → (t ≡ false) × (o ≡ Some x)
some_of true o x e = absurd (none-some x e)
some_of false o x e = (refl, e)

lies_at : (v : List ℕ) (space : Namespace) → 66 + 2 * get_or v 64 0 ≤ length v
    → Lies v (name space (take (2 * get_or v 64 0) (drop 66 v)))
lies_at v space l =
    let many = 2 * get_or v 64 0 in
    let k : many ≤ length (drop 66 v) = omega (arith, length-drop 66 v) in
    let e = length-take-le many (drop 66 v) k in
    let behind = sym (drop-drop many 66 v) in
    record {
      units = e;
      stands = rw (e, behind, take-append-drop many (drop 66 v)) (take-append-drop 66 v);
      most = rw e l;
    }

pub names_lie : NamesLie
unfolding name_of
names_lie v m e =
    let p = some_of (ltb (length v) 66) _ m e in
    let q = some_of (ltb (length v) (66 + 2 * get_or v 64 0)) _ m p.1 in
    let t = q.0 in
    let l : 66 + 2 * get_or v 64 0 ≤ length v = grind (arith, nat_tests) in
    subst (Lies v) (ap (λ (o : Option Name). unwrap_or o m) q.1) (lies_at v _ l)

of_parts : (v bytes : List ℕ) (units space : ℕ) → get_or v 64 0 ≡ units → get_or v 65 0 ≡ space
    → take (2 * units) (drop 66 v) ≡ bytes → 66 + 2 * units ≤ length v
    → name_of v ≡ Some (name (namespace_of space) bytes)
unfolding name_of
of_parts v bytes units space a b d l = rw (a, b, d) (grind (arith, nat_tests))

pub names_read_back : NamesReadBack
names_read_back front units space bytes behind l k =
    let rest = units ∷ space ∷ (bytes ++ behind) in
    let past : drop 66 (front ++ rest) ≡ bytes ++ behind =
    sym (drop-drop 2 64 (front ++ rest)) ∙ ap (drop 2) (drop_at front rest 64 l) in
    of_parts (front ++ rest) bytes units space (get_or_at front units _ 0 64 l)
    (get_or-append_right front rest 64 65 0 l (omega arith))
    (ap (take (2 * units)) past ∙ take_at bytes behind (2 * units) k)
    (omega (arith, length-append front rest, length-append bytes behind))
