-- The lines of a listing follow its calls, and the last tells what these reported.
use Rattle.std.proofs.Common.{ℕ, zero, suc, ◌+◌, ◌≤◌, ◌<◌, ◌≡◌, List, [], ◌∷◌, ◌++◌, flat_map, length}
use Rattle.std.proofs.Common.{refl, sym, ap, subst, ◌∙◌, arith, append_assoc}
use Rattle.std.proofs.lemmas.Bool.Decides.{nat_tests}
use Rattle.std.specs.Prelude.{Option, Some, None, ltb}
use Rattle.fields.specs.Answer.{Outcome, Answer, gives, ends, refuses, ◌⟫◌}
use Rattle.fields.specs.declared.RecordNumber.{RecordNumber}
use Rattle.fields.proofs.Answers.{refused-given}
use Rattle.table.specs.Check.{table_of}
use Rattle.table.specs.Held.{Held, record_of, base_of}
use Rattle.table.specs.declared.check.TableHeader.{TableHeader}
use Rattle.record.specs.Open.{Lent, open_in}
use Rattle.items.specs.Told.{file_of_bytes}
use Rattle.items.specs.Read.{Read}
use Rattle.items.specs.State.{fresh_of, weight}
use Rattle.items.specs.Items.{next_of}
use Rattle.items.specs.declared.walk.Item.{Item}
use Rattle.items.specs.declared.walk.State.{State}
use Rattle.items.proofs.Falls.{falls}
use Rattle.items.proofs.Opened.{opened_in_lent}
use Rattle.parts.specs.Parts.{parts_of}
use Rattle.lines.specs.declared.line.Line.{Line}
use Rattle.lines.specs.declared.line.Line.TheVariants as line
use Rattle.lines.specs.Listing.{most_table, given_parts, item_line, item_runs, part_lines}
use Rattle.lines.specs.Listing.{lines_after, lines_run, walk_lines}
use Rattle.lines.specs.Listing.{opened_lines, base_lines, table_lines, checked_lines, listing_of}
use Rattle.bound.specs.Listing.{called, reported, Listed, fresh, item}
use Rattle.bound.specs.Printed.{Closes, Tells, Ended, count_of, end_of, Listable, Listing, refused, unopened}
use Rattle.bound.specs.Printed.{listed, WalksTell, ListingsTell}
use Rattle.bound.proofs.Stretch.{by-test}
use Rattle.bound.proofs.Runs.{reports}
use Rattle.bound.proofs.Ends.{stopping, same, one, whole}
use Rattle.bound.proofs.Paid.{reads}
use Rattle.bound.proofs.Tables.{table_sized}

module _ (s : List ℕ) (n : RecordNumber) (look : RecordNumber → Option (List ℕ)) (room : ℕ) where
  abbrev rooms : ℕ → ℕ
  rooms k = room

  abbrev Run : ℕ → ℕ → List Read → State → Type 0
  Run k c read w = Listed s n look rooms k c read w

  -- behind other lines
  more : (a : Answer Item) (c : ℕ) (pre lines : List Line) → Tells a c lines → Tells a c (pre ++ lines)
  more a c pre lines t = record {
    before = pre ++ t.before;
    last = t.last;
    closes = t.closes;
    all = ap (λ (x : List Line). pre ++ x) t.all ∙ sym (append_assoc pre t.before (t.last ∷ []));
  }

  alone : (a : Answer Item) (c : ℕ) (x : Line) → Closes a c x → Tells a c (x ∷ [])
  alone a c x h = record { before = []; last = x; closes = h; all = refl }

  -- a listing that stops is the whole one
  module _ (v : Ended s n look room) (k c : ℕ) (read : List Read) (w : State) (l : Run k c read w)
      (stop : (i : Item) → (called s n look rooms w).answer ≡ gives i → ⊥) where
    there : Run v.items c read w
    there =
        let u : Ended s n look room = stopping s n look rooms k c read w l stop in
        subst (λ (y : ℕ). Run y c read w) (sym (one s n look rooms v u)) l

    last_is : v.last ≡ w
    last_is = (same s n look rooms v.items v.count c v.read read v.last w v.listed there).states

    count_is : v.count ≡ c
    count_is = (same s n look rooms v.items v.count c v.read read v.last w v.listed there).counts

    ended_so : (a : Answer Item) → (called s n look rooms w).answer ≡ a → (x : Line)
        → Closes a (c + length (called s n look rooms w).reads) x
        → Tells (end_of s n look room v) (count_of s n look room v) (x ∷ [])
    ended_so a e x h =
        let p : a ≡ end_of s n look room v = sym e ∙ ap (λ (y : State). (called s n look rooms y).answer)
        (sym last_is) in
        let q = ap (λ (y : State). reported s n look rooms y) last_is in
        let r = reports s n look rooms w in
        let o : c + length (called s n look rooms w).reads ≡ count_of s n look room v = let z = count_is in omega
        arith in
        alone (end_of s n look room v) (count_of s n look room v) x
        (subst (λ (y : ℕ). Closes (end_of s n look room v) y x) o
        (subst (λ (y : Answer Item). Closes y (c + length (called s n look rooms w).reads) x) p h))

  module _ (v : Ended s n look room) where
    abbrev Told : List Line → Type 0
    Told lines = Tells (end_of s n look room v) (count_of s n look room v) lines

    after : (fuel k c : ℕ) (read : List Read) (w : State) → Run k c read w → weight (length s) w < suc fuel
        → ((k c : ℕ) (read : List Read) (u : State) → Run k c read u → weight (length s) u < fuel
        → Told (lines_run room s n look fuel c u))
        → (a : Answer Item) → (called s n look rooms w).answer ≡ a
        → Told (lines_after room s n look (lines_run room s n look fuel) (c + length (called s n look rooms w).reads)
        (called s n look rooms w).left a)
    after fuel k c read w l h on (gives i) e =
        let g = falls s n look w i e in
        let p = parts_of s n look room i.rest in
        let ls = called s n look rooms w in
        let q = reports s n look rooms w in
        let t = on (suc k) (c + reported s n look rooms w + length p.reads) (read ++ ls.reads ++ p.reads) ls.left
        (item k c read w i l e) (omega arith) in
        let o : c + reported s n look rooms w + length p.reads ≡ c + length ls.reads + length p.reads = omega arith in
        more _ _ (item_line room s n look i ∷ []) _
        (more _ _ (item_runs room s n look i) _
        (more _ _ (flat_map (part_lines s n look) (given_parts p)) _
        (subst (λ (y : ℕ). Told (lines_run room s n look fuel y ls.left)) o t)))
    after fuel k c read w l h on ends e = ended_so v k c read w l
        (λ i q. let d = sym e ∙ q in absurd (cc)) ends e _ refl
    after fuel k c read w l h on (refuses r) e = ended_so v k c read w l (λ i q. let d = sym e ∙ q in absurd (cc))
        (refuses r) e _ refl

    run : (fuel k c : ℕ) (read : List Read) (w : State) → Run k c read w → weight (length s) w < fuel
        → Told (lines_run room s n look fuel c w)
    unfolding lines_run
    run zero k c read w l h = absurd (omega arith)
    run (suc fuel) k c read w l h = after fuel k c read w l h (λ k c read u m o. run fuel k c read u m o)
        (next_of s n look w).answer refl

    pub walked : Told (walk_lines room s n look 0 (fresh_of s))
    unfolding walk_lines
    walked = run _ 0 0 [] (fresh_of s) fresh (omega arith)

pub walks_tell : WalksTell
walks_tell s n look room w = walked s n look room w

module _ (room : ℕ) (t : List ℕ) where
  -- a base record that was opened is walked
  module _ (h : TableHeader) (p : table_of t ≡ gives h) (b : Held) (q : base_of t ≡ Some b)
      (short : length t ≤ most_table) where
    listable : Listable t b
    listable = record { short = short; based = record { header = h; passed = p; base = q } }

    by-bytes : (a : Outcome Lent) → open_in b.bytes b.number h.size ≡ a → file_of_bytes t b.bytes b.number ≡ a
    unfolding file_of_bytes
    by-bytes a e = ap (λ (x : Outcome TableHeader). x ⟫ λ g. open_in b.bytes b.number g.size) p ∙ e

    by-walk : (x : Lent) → file_of_bytes t b.bytes b.number ≡ gives x
        → Listing room t (line.Record b.number (length b.bytes) ∷ walk_lines room b.bytes b.number (record_of t) 0
        (fresh_of b.bytes))
    by-walk x e =
        let look = record_of t in
        let w = whole b.bytes b.number look (λ k. room) in
        listed b x (walk_lines room b.bytes b.number look 0 (fresh_of b.bytes)) w listable e
        (walked b.bytes b.number look room w)
        (reads b.bytes b.number look (λ k. room) (table_sized t b.bytes b.number x e) w.items w.count w.read w.last
        w.listed).bound

    by-file : (a : Outcome Lent) → open_in b.bytes b.number h.size ≡ a
        → Listing room t (line.Record b.number (length b.bytes) ∷ opened_lines room t a)
    unfolding opened_lines
    by-file (gives x) e =
        subst (λ (y : Lent). Listing room t (line.Record b.number (length b.bytes)
        ∷ walk_lines room y.bytes y.number (record_of t) 0 (fresh_of y.bytes)))
        (sym (opened_in_lent b.bytes b.number x h.size (sym e))) (by-walk x (by-bytes (gives x) e))
    by-file (refuses r) e = unopened b r listable (by-bytes (refuses r) e)

  by-base : (h : TableHeader) → table_of t ≡ gives h → length t ≤ most_table → (o : Option Held) → base_of t ≡ o
      → Listing room t (base_lines room t h o)
  unfolding base_lines
  by-base h p short None q = refused (λ b l. let d = sym q ∙ l.based.base in absurd (cc))
  by-base h p short (Some b) q = by-file h p b q short (open_in b.bytes b.number h.size) refl

  by-check : length t ≤ most_table → (a : Outcome TableHeader) → table_of t ≡ a
      → Listing room t (checked_lines room t a)
  unfolding checked_lines table_lines
  by-check short (gives h) p = by-base h p short (base_of t) refl
  by-check short (refuses r) p = refused (λ b l. refused-given (sym p ∙ l.based.passed))

  by-length : Listing room t (listing_of room t)
  unfolding listing_of
  by-length =
      by-test (λ (x : List Line). Listing room t x) (ltb most_table (length t)) _ _
      (λ q. refused (λ b l. let s = l.short in let o : most_table < length t = grind (arith, nat_tests) in absurd
      (omega arith)))
      (λ q. by-check (grind (arith, nat_tests)) (table_of t) refl)

pub listings_tell : ListingsTell
listings_tell room t = by-length room t
