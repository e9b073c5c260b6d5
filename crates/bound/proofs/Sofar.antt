-- The calls of a program are a listing.
use Rattle.std.proofs.Common.{ℕ, suc, ◌+◌, ◌/◌, ◌≤◌, ◌≡◌, List, [], ◌++◌, length, sym}
use Rattle.std.proofs.Common.{subst, ◌∙◌, arith}
use native.Mathlib.Nat.{mul-le-mul}
use Rattle.fields.specs.Answer.{gives}
use Rattle.fields.specs.Told.{told_step}
use Rattle.table.specs.Held.{record_of}
use Rattle.items.specs.Read.{Read}
use Rattle.items.specs.State.{fresh_of}
use Rattle.items.specs.Items.{Left, next_of}
use Rattle.items.specs.Walked.{told_next, report_of}
use Rattle.items.specs.declared.File.{File}
use Rattle.items.specs.declared.walk.Item.{Item}
use Rattle.items.specs.declared.walk.State.{State}
use Rattle.items.specs.declared.walk.Walked.{Walked}
use Rattle.parts.specs.OfFile.{parts_of_file}
use Rattle.parts.specs.Filled.{most_parts}
use Rattle.bound.specs.Listing.{most, reported, asked, Listed, fresh, item}
use Rattle.bound.specs.Calls.{Counts}
use Rattle.bound.specs.Told.{room}
use Rattle.bound.proofs.Tables.{every_file}
use Rattle.bound.proofs.Calls.{counts_so, gave, left, count}

small : (m : ℕ) → m ≤ 4096 → most m ≤ 100000
small m h =
    let a : m / 16 ≤ 256 = omega arith in
    let e : m / 26 ≤ 157 = omega arith in
    omega (arith, mul-le-mul e a)

module _ (f : File) where
  abbrev s : List ℕ
  s = f.base.bytes.now

  abbrev Run : ℕ → ℕ → List Read → State → Type 0
  Run k c read w = Listed s f.base.number (record_of f.table.bytes.now) room k c read w

  abbrev call : State → Left
  call w = next_of s f.base.number (record_of f.table.bytes.now) w

  -- a listing that came to a state
  pub record Sofar (c : ℕ) (w : State) : Type 0 where
    pub items : ℕ
    pub read : List Read
    pub listed : Run items c read w

  pub begin : (w : State) → w ≡ fresh_of s → Sofar 0 w
  begin w e = record { items = 0; read = []; listed = subst (Run 0 0 []) (sym e) fresh }

  few-by : (c : ℕ) (w : State) (l : Sofar c w) → c + reported s f.base.number
      (record_of f.table.bytes.now) room w ≤ 100000
  few-by c w l =
      let k = ((every_file f room).reads l.items c l.read w l.listed).bound in
      let m = small (length s) f.base.most in
      omega arith

  pub fits : (c : ℕ) (w : State) → Sofar c w → c ≤ 100000
  fits c w l = let k = few-by c w l in omega arith

  module _ (c : ℕ) (w : State) (l : Sofar c w) (r : Walked) (e : told_next r ≡ report_of (call w)) where
    pub few : c + r.reads ≤ 100000
    few = let k = few-by c w l in omega (arith, count f w r e)

    pub next : (i : Item) → told_step r.answer ≡ gives i → (p : ℕ)
        → p ≡ length (parts_of_file f most_parts i.rest).reads → Sofar (c + r.reads + p) r.left
    next i q p d =
        let g : (call w).answer ≡ gives i = sym (gave f w r e) ∙ q in
        let ps = (asked s f.base.number (record_of f.table.bytes.now) room l.items i).reads in
        let m : c + (report_of (call w)).reads + length ps ≡ c + r.reads + p = omega (arith, count f w r e) in
        let all = l.read ++ (call w).reads ++ ps in
        record {
          items = suc l.items;
          read = all;
          listed = subst (Run (suc l.items) (c + r.reads + p) all) (sym (left f w r e))
              (subst (λ (k : ℕ). Run (suc l.items) k all (call w).left) m (item l.items c l.read w i l.listed g));
        }

    pub stopped : ((i : Item) → told_step r.answer ≡ gives i → ⊥)
        → Counts s f.base.number (record_of f.table.bytes.now) room (c + r.reads)
    stopped h =
        subst (λ (k : ℕ). Counts s f.base.number (record_of f.table.bytes.now) room (c + k)) (sym (count f w r e))
        (counts_so s f.base.number (record_of f.table.bytes.now) room l.items c l.read w l.listed
        (λ i q. h i (gave f w r e ∙ q)))
