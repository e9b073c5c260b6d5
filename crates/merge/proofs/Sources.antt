-- What a walk over two directories has given, by the rows that these have. Each call of the walk is told by a closure
-- of its own, so the calls are put together one by one.
use Rattle.std.proofs.Common.{◌≡◌, List, [], ◌∷◌, ◌++◌, map, refl, sym, ap, ap₂, ◌∙◌, subst}
use Rattle.std.proofs.Common.{append_assoc}
use Rattle.std.proofs.lemmas.List.{map-append}
use Rattle.std.specs.Prelude.{Bool, true, false, Option, Some, None, option_to_list, ⊤}
use Rattle.std.specs.Borrow.{Bor}
use Rattle.std.specs.Fn.{Mut}
use Rattle.std.specs.Iterator.{Yields, YieldsFirstBy}
use Rattle.std.specs.Iterator.Adapters.{fuse_source, fuse_done}
use Rattle.std.specs.declared.cmp.Ordering.{Ordering}
use Rattle.std.specs.declared.iter.Fuse.{Fuse}
use Rattle.fields.proofs.Cases.{not-true}
use Rattle.itertools.specs.Adaptor.{IsFresh, Pulls}
use Rattle.itertools.specs.TwoSources.{ActsAsAtBoth, merge_join_first, merge_join_second, merge_join_first_held}
use Rattle.itertools.specs.TwoSources.{merge_join_second_held, merge_join_steps}
use Rattle.itertools.specs.declared.merge_join.MergeJoinBy.{MergeJoinBy}
use Rattle.itertools.proofs.AdaptorLemmas.{Pulls-none, Pulls-append, Pulls-rest, Pulls-drains}
use Rattle.table.specs.Rows.{Filed, told_filed, rest}
use Rattle.table.specs.declared.each.EachRow.{EachRow}
use Rattle.merge.proofs.Walk.{Item, Step, by_numbers, steps_of}

-- a directory, row by row from the front
abbrev gives : EachRow → Option Item → EachRow → Type 0
gives = YieldsFirstBy told_filed rest

gave_front : (s t : EachRow) (xs : List Item) → Yields gives s xs t → rest s ≡ map told_filed xs ++ rest t
gave_front s t [] e = ap rest e
gave_front s t (x ∷ xs) e = e.1 ∙ ap (λ (l : List Filed). told_filed x ∷ l) (gave_front e.0 t xs e.2)

-- what is left of one that is fused, behind these rows
record Left (x : EachRow) (us : List Item) (t : Fuse EachRow) : Type 0 where
  left : List Filed
  are : rest x ≡ map told_filed us ++ left
  none : fuse_done t ≡ true → left ≡ []

left_of : (s t : Fuse EachRow) (x : EachRow) (us : List Item) → IsFresh s x → Pulls gives s us t → Left x us t
left_of s t x us f p =
    let k = Pulls-drains p f.1 in
    record {
      left = rest k.0;
      are = ap rest (sym f.0) ∙ gave_front (fuse_source s) k.0 us k.1;
      none = λ w. (k.2 w).1.0;
    }

-- rows that have not come, as they would
abbrev item_of : Filed → Item
item_of f = (f.row, record { ref_ptr = (0, 0); now = f.bytes })

items_told : (fs : List Filed) → map told_filed (map item_of fs) ≡ fs
items_told [] = refl
items_told (f ∷ fs) = ap (λ (l : List Filed). f ∷ l) (items_told fs)

all_of : (x : EachRow) (us : List Item) (t : Fuse EachRow) (l : Left x us t) (fs : List Filed) → rest x ≡ fs
    → map told_filed (us ++ map item_of l.left) ≡ fs
all_of x us t l fs e =
    map-append told_filed us (map item_of l.left)
    ∙ ap (λ (gs : List Filed). map told_filed us ++ gs) (items_told l.left) ∙ sym l.are ∙ e

-- what came of two directories in steps, and what would come behind these: nothing where all came
pub record Came (fs gs : List Filed) (whole : Bool) (steps : List Step) : Type 0 where
  pub ours : List Item
  pub theirs : List Item
  pub first : map told_filed ours ≡ fs
  pub second : map told_filed theirs ≡ gs
  pub more : List Step
  pub none : whole ≡ true → more ≡ []
  pub are : steps_of ours theirs ≡ steps ++ more

module _ (F : Type 0) where
  abbrev Walker : Type 0
  Walker = MergeJoinBy EachRow EachRow F Item Item

  abbrev Closure : Type 1
  Closure = Mut F (Bor Item × (Bor Item × ⊤)) Ordering

  -- whatever its state, a closure gives the order of the numbers
  abbrev Orders : Closure → Type 0
  Orders g = (f : F) → ActsAsAtBoth g f by_numbers

  abbrev walks : Closure → Walker → Option Step → Walker → Type 0
  walks = merge_join_steps gives gives

  -- the steps of a walk that has these rows before it
  abbrev walked : Walker → List Item → List Item → List Step
  walked s xs ys =
      steps_of (option_to_list (merge_join_first_held s) ++ xs) (option_to_list (merge_join_second_held s) ++ ys)

  -- from s to t these steps came
  record Explained (s : Walker) (zs : List Step) (t : Walker) : Type 0 where
    us : List Item
    vs : List Item
    first : Pulls gives (merge_join_first s) us (merge_join_first t)
    second : Pulls gives (merge_join_second s) vs (merge_join_second t)
    gave : (xs ys : List Item) → (fuse_done (merge_join_first t) ≡ true → xs ≡ [])
        → (fuse_done (merge_join_second t) ≡ true → ys ≡ [])
        → walked s (us ++ xs) (vs ++ ys) ≡ zs ++ walked t xs ys

  no_step : (s : Walker) → Explained s [] s
  no_step s = record {
    us = [];
    vs = [];
    first = Pulls-none (merge_join_first s);
    second = Pulls-none (merge_join_second s);
    gave = λ xs ys i j. refl;
  }

  one_step : (g : Closure) → Orders g → (s t : Walker) (z : Step) → walks g s (Some z) t → Explained s (z ∷ []) t
  one_step g k s t z step = record {
    us = step.taken_first;
    vs = step.taken_second;
    first = step.pulled_first;
    second = step.pulled_second;
    gave = λ xs ys i j. step.gave by_numbers xs ys (k s.cmp_fn) i j;
  }

  joined : (s t u : Walker) (zs ws : List Step) → Explained s zs t → Explained t ws u → Explained s (zs ++ ws) u
  joined s t u zs ws a b = record {
    us = a.us ++ b.us;
    vs = a.vs ++ b.vs;
    first = Pulls-append a.first b.first;
    second = Pulls-append a.second b.second;
    gave = λ xs ys i j.
        ap₂ (walked s) (append_assoc a.us b.us xs) (append_assoc a.vs b.vs ys)
        ∙ a.gave (b.us ++ xs) (b.vs ++ ys) (Pulls-rest xs b.first i) (Pulls-rest ys b.second j)
        ∙ ap (λ (l : List Step). zs ++ l) (b.gave xs ys i j) ∙ sym (append_assoc zs ws (walked u xs ys));
  }

  explained : (g : Closure) → Orders g → (s t : Walker) (zs : List Step) → Yields (walks g) s zs t → Explained s zs t
  explained g k s t [] e = subst (Explained s []) e (no_step s)
  explained g k s t (z ∷ zs) e =
      joined s e.0 t (z ∷ []) zs (one_step g k s e.0 z e.1) (explained g k e.0 t zs e.2)

  -- a walk over two directories as it was made, before its first step; the steps so far, and a call behind them
  module _ (x y : EachRow) (made s : Walker) (same : s ≡ made) (fresh : IsFresh (merge_join_first made) x)
      (other : IsFresh (merge_join_second made) y)
      (held : (merge_join_first_held made ≡ None) × (merge_join_second_held made ≡ None)) (fs gs : List Filed)
      (ours : rest x ≡ fs) (theirs : rest y ≡ gs) (g : Closure) (k : Orders g) (zs : List Step) (t u : Walker)
      (ran : Yields (walks g) s zs t) (h : Closure) (l : Orders h) where
    first_fresh : IsFresh (merge_join_first s) x
    first_fresh = subst (λ (w : Walker). IsFresh (merge_join_first w) x) (sym same) fresh

    second_fresh : IsFresh (merge_join_second s) y
    second_fresh = subst (λ (w : Walker). IsFresh (merge_join_second w) y) (sym same) other

    from_begin : (xs ys : List Item) → steps_of xs ys ≡ walked s xs ys
    from_begin xs ys =
        ap₂ (λ (o q : Option Item). steps_of (option_to_list o ++ xs) (option_to_list q ++ ys))
        (sym held.0) (sym held.1)
        ∙ ap (λ (w : Walker). walked w xs ys) (sym same)

    -- up to the step of a turn
    pub turned : (z : Step) → walks h t (Some z) u → Came fs gs false (zs ++ (z ∷ []))
    turned z step =
        let e = joined s t u zs (z ∷ []) (explained g k s t zs ran) (one_step h l t u z step) in
        let m = left_of (merge_join_first s) (merge_join_first u) x e.us first_fresh e.first in
        let n = left_of (merge_join_second s) (merge_join_second u) y e.vs second_fresh e.second in
        let xs = map item_of m.left in let ys = map item_of n.left in
        record {
          ours = e.us ++ xs;
          theirs = e.vs ++ ys;
          first = all_of x e.us (merge_join_first u) m fs ours;
          second = all_of y e.vs (merge_join_second u) n gs theirs;
          more = walked u xs ys;
          none = λ w. absurd (not-true w);
          are =
              from_begin (e.us ++ xs) (e.vs ++ ys)
              ∙ e.gave xs ys (λ w. ap (map item_of) (m.none w)) (λ w. ap (map item_of) (n.none w));
        }

    -- and to the end
    pub ended : walks h t None u → Came fs gs true zs
    ended step =
        let e = explained g k s t zs ran in
        let us = e.us ++ step.taken_first in let vs = e.vs ++ step.taken_second in
        let m = left_of (merge_join_first s) (merge_join_first u) x us first_fresh
        (Pulls-append e.first step.pulled_first) in
        let n = left_of (merge_join_second s) (merge_join_second u) y vs second_fresh
        (Pulls-append e.second step.pulled_second) in
        let xs = map item_of m.left in let ys = map item_of n.left in
        let i : fuse_done (merge_join_first u) ≡ true → xs ≡ [] = λ w. ap (map item_of) (m.none w) in
        let j : fuse_done (merge_join_second u) ≡ true → ys ≡ [] = λ w. ap (map item_of) (n.none w) in
        record {
          ours = us ++ xs;
          theirs = vs ++ ys;
          first = all_of x us (merge_join_first u) m fs ours;
          second = all_of y vs (merge_join_second u) n gs theirs;
          more = [];
          none = λ w. refl;
          are =
              from_begin (us ++ xs) (vs ++ ys)
              ∙ ap₂ (walked s) (append_assoc e.us step.taken_first xs) (append_assoc e.vs step.taken_second ys)
              ∙ e.gave (step.taken_first ++ xs) (step.taken_second ++ ys) (Pulls-rest xs step.pulled_first i)
              (Pulls-rest ys step.pulled_second j)
              ∙ ap (λ (ws : List Step). zs ++ ws) (step.gave by_numbers xs ys (l t.cmp_fn) i j);
        }
