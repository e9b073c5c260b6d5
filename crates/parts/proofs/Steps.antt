-- What one step of the parts gives, from any place: it is the parts from where they go on, or how they end.
use Rattle.std.proofs.Common.{
  ℕ,
  ◌+◌,
  ◌-◌,
  ◌<◌,
  ◌≤◌,
  ◌≡◌,
  List,
  [],
  ◌∷◌,
  ◌++◌,
  map,
  length,
  true,
  false,
  set,
  refl,
  sym,
  ap,
  ◌∙◌,
  arith,
  length-append,
}
use Rattle.std.proofs.lemmas.List.{length-map}
use borrow.Author.Tests.{lt-ltb, le-ltb}
use Rattle.std.specs.Prelude.{Option, Some}
use Rattle.fields.specs.Answer.{gives, ends, refuses, refusal, Report, report, Outcome}
use Rattle.fields.specs.Known.{known_type}
use Rattle.fields.specs.declared.RecordNumber.{RecordNumber}
use Rattle.fields.specs.declared.Refusal.{Refusal}
use Rattle.fields.specs.declared.Cause.TheVariants.{UnknownType, NoRoom}
use Rattle.list.specs.Entry.{entry_of}
use Rattle.list.specs.declared.Entry.{Entry}
use Rattle.items.specs.Read.{Read, joined, sought as seen}
use Rattle.items.specs.State.{rest_of}
use Rattle.items.specs.Key.{name_in, key_of, continues}
use Rattle.items.specs.Items.{entries_of, sought_of}
use Rattle.items.specs.declared.walk.Rest.{Rest}
use Rattle.items.specs.declared.key.Key.{Key}
use Rattle.items.proofs.Steps.{first_entry, no_entry, bad_entry}
use Rattle.parts.specs.declared.Part.{Part}
use Rattle.parts.specs.Part.{part_of}
use Rattle.parts.specs.Parts.{Parts, stops, reading, giving, taking, parts_by, parts_from, parts_in}
use Rattle.parts.specs.Filled.{put, Told, tells, told_parts}

-- what is told of a lent list xs where k parts and r reads came before
unfoldable pub after : ℕ → ℕ → List Part → Parts → Told
after r k xs p = tells (put xs k p.given) (k + length p.given) p.answer (r + length p.reads)

stop : (r k : ℕ) (xs : List Part) (rs : List Read) (a : Outcome Unit)
    → after r k xs (reading rs (stops a)) ≡ tells xs k a (r + length rs)
unfolding after put
stop r k xs rs a = ap (λ (y : ℕ). tells xs y a (r + length (rs ++ []))) (omega arith)
    ∙ ap (λ (y : ℕ). tells xs k a y) (omega (arith, length-append rs []))

stop-here : (r k : ℕ) (xs : List Part) (a : Outcome Unit) → after r k xs (stops a) ≡ tells xs k a r
unfolding after put
stop-here r k xs a = ap (λ (y : ℕ). tells xs y a (r + 0)) (omega arith) ∙ ap (λ (y : ℕ). tells xs k a y) (omega arith)

pub starts : (xs : List Part) (p : Parts) → told_parts xs p ≡ after 0 0 xs p
unfolding after told_parts
starts xs p = ap (λ (y : ℕ). tells (put xs 0 p.given) y p.answer (length p.reads)) (omega arith)
    ∙ ap (λ (y : ℕ). tells (put xs 0 p.given) (0 + length p.given) p.answer y) (omega arith)

-- the entry at the front of l is taken, with what comes behind it
module _ (s : List ℕ) (n : RecordNumber) (look : RecordNumber → Option (List ℕ)) {x : Told} (room : ℕ) (from : ℕ)
    (e : Entry) (b : Parts) (r k : ℕ) (xs : List Part)
    (i : x ≡ after r k xs (taking s n look room e from b)) where
  pub parts_full : room ≤ 0 → tells xs k (refuses (refusal NoRoom n from)) r ≡ x
  parts_full z = sym (i ∙ rw (le-ltb 0 room z) (stop-here r k xs (refuses (refusal NoRoom n from))))

  module _ (z : 0 < room) (c : Report Part) (d : c ≡ report (part_of s n look e from)
      (length (sought_of s n look e from).read)) where
    goes : taking s n look room e from b ≡ reading (map (seen e.file) (sought_of s n look e from).read)
        (giving from (part_of s n look e from) b)
    goes = rw (lt-ltb 0 room z)

    -- what was read for the part
    read_more : (rs : List Read) (p : Parts) → length rs ≡ c.reads
        → after r k xs (reading rs p) ≡ after (r + c.reads) k xs p
    unfolding after
    read_more rs p q = ap (λ (y : ℕ). tells (put xs k p.given) (k + length p.given) p.answer y)
        (omega (arith, length-append rs p.reads))

    came : (p : Parts) → after r k xs (reading (map (seen e.file) (sought_of s n look e from).read) p)
        ≡ after (r + c.reads) k xs p
    came p = read_more (map (seen e.file) (sought_of s n look e from).read) p
        (length-map (sought_of s n look e from).read (seen e.file) ∙ sym (ap (λ (y : Report Part). y.reads) d))

    at_part : (a : Outcome Part) → a ≡ c.answer → x ≡ after (r + c.reads) k xs (giving from a b)
    at_part a q =
        i ∙ ap (after r k xs) goes ∙ came (giving from (part_of s n look e from) b)
        ∙ ap (λ (y : Outcome Part). after (r + c.reads) k xs (giving from y b))
        (sym (q ∙ ap (λ (y : Report Part). y.answer) d))

    pub parts_missed : (q : Refusal) → refuses q ≡ c.answer → tells xs k (refuses q) (r + c.reads) ≡ x
    unfolding giving
    parts_missed q h = sym (at_part (refuses q) h ∙ stop-here (r + c.reads) k xs (refuses q))

    push : (p : Part) → after (r + c.reads) k xs (giving from (gives p) b) ≡ after (r + c.reads) (k + 1) (set xs k p) b
    unfolding after put giving
    push p = ap (λ (y : ℕ). tells (put (set xs k p) (k + 1) b.given) y b.answer (r + c.reads + length b.reads))
        (omega arith)

    pub parts_taken : (p : Part) → gives p ≡ c.answer → x ≡ after (r + c.reads) (k + 1) (set xs k p) b
    parts_taken p h = at_part (gives p) h ∙ push p

-- the entries behind the first, from the front of l on
module _ (s : List ℕ) (n : RecordNumber) (look : RecordNumber → Option (List ℕ)) {x : Told} (key : Key) (room : ℕ)
    (l : Rest) (r k : ℕ) (xs : List Part)
    (i : x ≡ after r k xs (parts_by s n look key l.to room (entries_of s n l.to l.from) l.from)) where
  pub parts_ended : ends ≡ entry_of (rest_of s l) n l.from → tells xs k (gives tt) r ≡ x
  unfolding parts_by
  parts_ended g = sym (i ∙ rw (no_entry s n l g) (stop-here r k xs (gives tt)))

  pub parts_refused : (q : Refusal) → refuses q ≡ entry_of (rest_of s l) n l.from → tells xs k (refuses q) r ≡ x
  unfolding parts_by
  parts_refused q g = sym (i ∙ rw (bad_entry s n l q g) (stop-here r k xs (refuses q)))

  module _ (e : Entry) (g : gives e ≡ entry_of (rest_of s l) n l.from) (name : List ℕ) (w : name ≡ name_in s l e) where
    pub parts_other : continues key e name ≡ false → tells xs k (gives tt) (r + 1) ≡ x
    unfolding parts_by
    parts_other u = sym (i ∙ rw (first_entry s n l e g, rw w at u) (stop r k xs (joined l.from e ∷ []) (gives tt)))

    one : (p : Parts) → after r k xs (reading (joined l.from e ∷ []) p) ≡ after (r + 1) k xs p
    unfolding after
    one p = ap (λ (y : ℕ). tells (put xs k p.given) (k + length p.given) p.answer y) (omega arith)

    on : continues key e (name_in s l e) ≡ true
        → parts_by s n look key l.to room (entries_of s n l.to l.from) l.from
        ≡ reading (joined l.from e ∷ []) (taking s n look room e l.from
        (parts_by s n look key l.to (room - 1) (entries_of s n l.to (l.from + e.length)) (l.from + e.length)))
    unfolding parts_by
    on u = rw (first_entry s n l e g, u)

    pub parts_on : continues key e name ≡ true → (left : ℕ) → room ≡ left
        → x ≡ after (r + 1) k xs (taking s n look left e l.from
        (parts_by s n look key l.to (left - 1) (entries_of s n l.to (l.from + e.length)) (l.from + e.length)))
    parts_on u left q = i ∙ ap (after r k xs) (on (rw w at u)) ∙ one (taking s n look room e l.from
        (parts_by s n look key l.to (room - 1) (entries_of s n l.to (l.from + e.length)) (l.from + e.length)))
        ∙ ap (λ (y : ℕ). after (r + 1) k xs (taking s n look y e l.from
        (parts_by s n look key l.to (y - 1) (entries_of s n l.to (l.from + e.length)) (l.from + e.length)))) q

-- the parts by a list, by what stands at its front
module _ (s : List ℕ) (n : RecordNumber) (look : RecordNumber → Option (List ℕ)) (room : ℕ) (xs : List Part)
    (l : Rest) where
  abbrev taken : Told
  taken = told_parts xs (parts_in s n look room (Some l))

  pub nothing : (a : Outcome Unit) → tells xs 0 a 0 ≡ told_parts xs (stops a)
  unfolding told_parts put
  nothing a = refl

  pub front_ended : ends ≡ entry_of (rest_of s l) n l.from → tells xs 0 (gives tt) 0 ≡ taken
  unfolding parts_in parts_from
  front_ended g = nothing (gives tt) ∙ sym (rw (no_entry s n l g) refl)

  pub front_refused : (q : Refusal) → refuses q ≡ entry_of (rest_of s l) n l.from → tells xs 0 (refuses q) 0 ≡ taken
  unfolding parts_in parts_from
  front_refused q g = nothing (refuses q) ∙ sym (rw (bad_entry s n l q g) refl)

  module _ (e : Entry) (g : gives e ≡ entry_of (rest_of s l) n l.from) where
    pub front_unknown : known_type e.ty ≡ false → tells xs 0 (refuses (refusal UnknownType n l.from)) 1 ≡ taken
    unfolding parts_in parts_from told_parts put
    front_unknown u = sym (rw (first_entry s n l e g, u) refl)

    pub front_given : (name : List ℕ) → name ≡ name_in s l e → known_type e.ty ≡ true → (ys : List Part)
        (k : ℕ) (a : Outcome Unit) (r : ℕ)
        → tells ys k a r ≡ told_parts xs (taking s n look room e l.from (parts_by s n look (key_of e name) l.to
        (room - 1) (entries_of s n l.to (l.from + e.length)) (l.from + e.length)))
        → tells ys k a (1 + r) ≡ taken
    unfolding parts_in parts_from told_parts
    front_given name w u ys k a r i =
        let p = taking s n look room e l.from (parts_by s n look (key_of e name) l.to (room - 1)
        (entries_of s n l.to (l.from + e.length)) (l.from + e.length)) in
        let m : told_parts xs (reading (joined l.from e ∷ []) p) ≡ taken = rw (w, first_entry s n l e g, u) refl in
        ap (λ (t : Told). record t { reads = 1 + t.reads }) i
        ∙ ap (λ (y : ℕ). tells (put xs 0 p.given) (length p.given) p.answer y) (omega arith) ∙ m

pub ruleset steps = (starts, parts_full)

pub ruleset fronts = (front_ended, front_refused, front_unknown, front_given)
