-- The stretch of a list that an item's parts take: its own entry, and those behind it that continue its stream. Each
-- pays for itself and its lookup.
use Rattle.std.proofs.Common.{ℕ, ◌+◌, ◌-◌, ◌*◌, ◌/◌, ◌≤◌, ◌≡◌, List, [], ◌∷◌, map, length, ltb, true, false}
use Rattle.std.proofs.Common.{Bool, refl, sym, subst, arith, length-append}
use Rattle.std.proofs.lemmas.List.{length-map}
use Rattle.std.specs.Prelude.{Option, Some}
use native.Mathlib.Nat.{mul-le-mul_right}
use Rattle.fields.specs.Pick.{pick}
use Rattle.fields.specs.Answer.{gives, refuses, refusal, Outcome}
use Rattle.fields.specs.Known.{known_type}
use Rattle.fields.specs.declared.RecordNumber.{RecordNumber}
use Rattle.fields.proofs.Cases.{both}
use Rattle.fields.specs.declared.Cause.TheVariants.{NoRoom, UnknownType, BadState}
use Rattle.list.specs.declared.Entry.{Entry}
use Rattle.items.specs.Read.{Read, sought, joined}
use Rattle.items.specs.State.{list_at, lies_in}
use Rattle.items.specs.Key.{name_in, key_of, continues, skips}
use Rattle.items.specs.Items.{entries_of, sought_of}
use Rattle.items.specs.declared.key.Key.{Key}
use Rattle.parts.specs.Part.{part_of}
use Rattle.parts.specs.Parts.{Given, Parts, stops, reading, giving, taking, parts_by, parts_from, parts_in, parts_of}
use Rattle.parts.specs.declared.Part.{Part}
use Rattle.bound.proofs.Value.{E, E-step, E-mono, pay-part, pay-last}
use Rattle.items.proofs.Peel.{peel}
use Rattle.bound.specs.Listing.{Sized}
use Rattle.bound.proofs.Search.{few}

-- what holds of each side, where the test says so, holds of the choice
pub by-test : {A : Type 0} (P : A → Type 0) (t : Bool) (x y : A) → (t ≡ true → P x) → (t ≡ false → P y)
    → P (pick t x y)
by-test P true x y p q = p refl
by-test P false x y p q = q refl

module _ (s : List ℕ) (to : ℕ) where
  -- where the entries end, one behind the other, that continue the stream of the key
  unfoldable pub skip : Option Key → List (Outcome Entry) → ℕ → ℕ
  skip key [] from = from
  skip key (refuses r ∷ es) from = from
  skip key (gives e ∷ es) from =
      pick (skips key e (name_in s (list_at from to) e)) (skip key es (from + e.length)) from

  pub skip-ge : (key : Option Key) (es : List (Outcome Entry)) (from : ℕ) → from ≤ skip key es from
  unfolding skip
  skip-ge key [] from = omega arith
  skip-ge key (refuses r ∷ es) from = omega arith
  skip-ge key (gives e ∷ es) from = both (λ (x : ℕ). from ≤ x) (skips key e (name_in s (list_at from to) e)) _ _
      (omega (arith, skip-ge key es (from + e.length))) (omega arith)

  -- behind an entry it ends no earlier
  pub skip-on : (key : Option Key) (e : Entry) (es : List (Outcome Entry)) (from : ℕ)
      → skip key (gives e ∷ es) from ≤ skip key es (from + e.length)
  unfolding skip
  skip-on key e es from = both (λ (x : ℕ). x ≤ skip key es (from + e.length))
      (skips key e (name_in s (list_at from to) e)) _ _ (omega arith) (omega (arith, skip-ge key es (from + e.length)))

  pub skip-yes : (key : Key) (e : Entry) (es : List (Outcome Entry)) (from : ℕ)
      → continues key e (name_in s (list_at from to) e) ≡ true
      → skip (Some key) (gives e ∷ es) from ≡ skip (Some key) es (from + e.length)
  unfolding skip skips
  skip-yes key e es from a = rw a

  pub skip-no : (key : Option Key) (e : Entry) (es : List (Outcome Entry)) (from : ℕ)
      → skips key e (name_in s (list_at from to) e) ≡ false → skip key (gives e ∷ es) from ≡ from
  unfolding skip
  skip-no key e es from a = rw a

-- parts given by entries between two places
abbrev pub Within : ℕ → ℕ → List Given → Type 0
Within lo hi [] = Unit {0}
Within lo hi (g ∷ gs) = (lo ≤ g.place) × (g.place + 26 ≤ hi) × Within lo hi gs

within-lo : (a b hi : ℕ) (gs : List Given) → a ≤ b → Within b hi gs → Within a hi gs
within-lo a b hi [] h w = tt
within-lo a b hi (g ∷ gs) h w = (omega (arith, w.0), w.1, within-lo a b hi gs h w.2)

module _ (s : List ℕ) (n : RecordNumber) (look : RecordNumber → Option (List ℕ)) (z : Sized s look) (to q : ℕ) where
  -- how many entries fit in what is left of the list from a place on, and of the record
  abbrev Fit : ℕ → ℕ
  Fit p = E (q + (to - p))

  abbrev A : ℕ
  A = length s / 16

  -- parts from a place on, by entries of one stream up to g: what they read is paid by what they take, and by one
  -- entry more
  pub record Paid (from g : ℕ) (p : Parts) : Type 0 where
    pub paid : length p.reads + Fit g * (1 + A) ≤ 1 + Fit from * (1 + A)
    pub within : Within from g p.given

  less : (from g : ℕ) → from ≤ g → Fit g ≤ Fit from
  less from g h = E-mono _ _ (omega arith)

  step : (from by : ℕ) → 26 ≤ by → from + by ≤ to → Fit (from + by) + 1 ≤ Fit from
  step from by a b = E-step _ _ (omega arith)

  -- at most one read, and no part
  stop : (from g : ℕ) (rs : List Read) (a : Outcome Unit) → length rs ≤ 1 → from ≤ g
      → Paid from g (reading rs (stops a))
  stop from g rs a h l = record { paid = omega (arith, mul_fit from g l, length-append rs []); within = tt }
    where
      mul_fit : (from g : ℕ) → from ≤ g → Fit g * (1 + A) ≤ Fit from * (1 + A)
      mul_fit from g l = mul-le-mul_right (1 + A) (less from g l)

  -- an entry with its lookup ended the parts
  last : (from by g : ℕ) (e : Entry) (rs : List Read) (a : Outcome Unit) → 26 ≤ by → from + by ≤ to
      → from + by ≤ g → 16 * length rs ≤ length s
      → Paid from g (reading (joined from e ∷ []) (reading rs (stops a)))
  last from by g e rs a l m h f =
      let t = step from by l m in let u = less (from + by) g h in
      let few : length rs + 1 ≤ A + 1 = omega arith in
      record {
        paid = omega (
          arith,
          pay-last A (length rs + 1) (Fit g) (Fit from) few
              (omega arith),
          length-append rs [],
        );
        within = tt;
      }

  -- an entry with its lookup gave its part, or its refusal
  gave : (from by g : ℕ) (e : Entry) (rs : List Read) (a : Outcome Part) (p : Parts) → 26 ≤ by → from + by ≤ to
      → from + by ≤ g → 16 * length rs ≤ length s
      → Paid (from + by) g p → Paid from g (reading (joined from e ∷ []) (reading rs (giving from a p)))
  unfolding giving
  gave from by g e rs (gives x) p l m h f i =
      let t = step from by l m in
      let few : length rs ≤ A = omega arith in
      record {
        paid = omega (
          arith,
          pay-part A (length rs) (length p.reads) (Fit (from + by)) (Fit from)
              (Fit g) few t i.paid,
          length-append rs p.reads,
        );
        within = (omega arith, omega arith, within-lo from (from + by) g p.given (omega arith) i.within);
      }
  gave from by g e rs (refuses r) p l m h f i = last from by g e rs (refuses r) l m h f

  -- an entry, where there was room for its part or not
  taken : (room from g : ℕ) (e : Entry) (p : Parts) → 26 ≤ e.length → from + e.length ≤ to
      → from + e.length ≤ g → Paid (from + e.length) g p
      → Paid from g (reading (joined from e ∷ []) (taking s n look room e from p))
  taken room from g e p a b l i =
      both (λ (x : Parts). Paid from g (reading (joined from e ∷ []) x)) (ltb 0 room) _ _
      (gave from e.length g e (map (sought e.file) (sought_of s n look e from).read) (part_of s n look e from) p a b l
      (omega (arith, few s n look z e from, length-map (sought_of s n look e from).read (sought e.file))) i)
      (stop from g (joined from e ∷ []) (refuses (refusal NoRoom n from)) (omega arith) (omega arith))

  -- by the entries behind an item's own
  module _ (key : Key) where
    pub parts-paid : (room : ℕ) (es : List (Outcome Entry)) (from : ℕ) → es ≡ entries_of s n to from
        → Paid from (skip s to (Some key) es from) (parts_by s n look key to room es from)
    unfolding parts_by
    parts-paid room [] from i = stop from _ [] (gives tt) (omega arith) (skip-ge s to (Some key) [] from)
    parts-paid room (refuses r ∷ es) from i = stop from _ [] (refuses r) (omega arith)
        (skip-ge s to (Some key) (refuses r ∷ es) from)
    parts-paid room (gives e ∷ es) from i =
        let k = peel s n to from e es i in
        let g = skip s to (Some key) (gives e ∷ es) from in
        let l = skip-ge s to (Some key) (gives e ∷ es) from in
        let P = λ (x : Parts). Paid from g (reading (joined from e ∷ []) x) in
        let one = λ (a : Outcome Unit). stop from g (joined from e ∷ []) a (omega arith) l in
        by-test P (continues key e (name_in s (list_at from to) e)) _ _
        (λ a. let t = skip-yes s to key e es from a in
        subst (λ (x : ℕ). Paid from x (reading (joined from e ∷ [])
        (taking s n look room e from (parts_by s n look key to (room - 1) es (from + e.length))))) (sym t)
        (taken room from (skip s to (Some key) es (from + e.length)) e
        (parts_by s n look key to (room - 1) es (from + e.length)) k.least k.most
        (skip-ge s to (Some key) es (from + e.length)) (parts-paid (room - 1) es (from + e.length) k.tail)))
        (λ _. one (gives tt))

  -- the parts of an item whose entry e stands at a place: that entry is a part whatever its VCN, and those behind it
  -- continue its stream
  pub begun : (room from : ℕ) (e : Entry) (es : List (Outcome Entry)) → gives e ∷ es ≡ entries_of s n to from
      → Paid from (skip s to (Some (key_of e (name_in s (list_at from to) e))) es (from + e.length))
      (parts_of s n look room (Some (list_at from to)))
  unfolding parts_of parts_in parts_from
  begun room from e es i =
      let key = key_of e (name_in s (list_at from to) e) in
      let g = skip s to (Some key) es (from + e.length) in
      let k = peel s n to from e es i in
      let l = skip-ge s to (Some key) es (from + e.length) in
      let one : (a : Outcome Unit) → Paid from g (reading (joined from e ∷ []) (stops a)) =
      λ a. stop from g (joined from e ∷ []) a (omega arith) (omega arith) in
      both (Paid from g) (lies_in (length s) (Some (list_at from to))) _ _
      (subst (λ (x : List (Outcome Entry)). Paid from g (parts_from s n look to room x from)) i
      (both (λ (p : Parts). Paid from g (reading (joined from e ∷ []) p)) (known_type e.ty) _ _
      (taken room from g e (parts_by s n look key to (room - 1) es (from + e.length)) k.least k.most l
      (parts-paid key (room - 1) es (from + e.length) k.tail))
      (one (refuses (refusal UnknownType n from)))))
      (stop from g [] (refuses (refusal BadState n 0)) (omega arith) (omega arith))
