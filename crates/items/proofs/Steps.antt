-- What one step of the walk gives, from any place: each is the walk from where it goes on, or its answer.
use Rattle.std.proofs.Common.{ℕ, ◌+◌, ◌≡◌, List, [], ◌∷◌, map, true, false, length, refl, sym, ap, ◌∙◌, arith}
use Rattle.std.proofs.Common.{length-take, length-append}
use Rattle.std.proofs.lemmas.List.{length-map}
use Rattle.std.specs.Prelude.{Option, Some, None}
use Rattle.fields.specs.Answer.{Answer, gives, ends, refuses, refusal, Report, Outcome}
use Rattle.fields.specs.Known.{known_type}
use Rattle.fields.specs.declared.RecordNumber.{RecordNumber}
use Rattle.fields.proofs.Cases.{yes, no, eq-y, eq-n}
use Rattle.fields.specs.declared.Refusal.{Refusal}
use Rattle.fields.specs.declared.Cause.TheVariants.{UnknownType}
use Rattle.list.specs.Entry.{entry_of}
use Rattle.list.specs.declared.Entry.{Entry}
use Rattle.list.proofs.Given as entries
use Rattle.record.specs.Inside.{Inside}
use Rattle.record.specs.Value.{list_in}
use Rattle.record.specs.Laws.{ListLies}
use Rattle.record.specs.Walk.{step_at, walk_from}
use Rattle.record.specs.Search.{Searched, count_of}
use Rattle.record.specs.declared.layout.Attribute.{Attribute}
use Rattle.record.specs.declared.layout.Span.{Span}
use Rattle.record.proofs.Spans.{list-lies}
use Rattle.record.proofs.Walks as walks
use Rattle.record.proofs.Trails as trails
use Rattle.items.specs.State.{list_at, state, rest_of}
use Rattle.items.specs.Read.{Read, own, entry as read, sought as seen, spot}
use Rattle.items.specs.Key.{name_in, key_of, passed_over}
use Rattle.items.specs.Items.{
  Left,
  leaves,
  reading,
  item,
  entries_of,
  sought_of,
  item_by,
  item_of,
  by_entries,
  by_list,
  by_attributes,
  next_by,
  next_in,
}
use Rattle.items.specs.Walked.{Reported, reported, report_of}
use Rattle.items.specs.declared.walk.Rest.{Rest}
use Rattle.items.specs.declared.key.Key.{Key}
use Rattle.items.specs.declared.walk.State.{State}
use Rattle.items.specs.declared.walk.Item.{Item}

module _ (s : List ℕ) (n : RecordNumber) where
  -- an entry that was given lies in its list, an attribute in the record, and a list in its attribute
  pub entry_moves : (to at : ℕ) (e : Entry) → entry_of (rest_of s (list_at at to)) n at ≡ gives e
      → trails.Moves to at e.length
  entry_moves to at e g =
      let k = entries.given _ n at e g in let x = k.least in let y = k.most in
      record { least = omega arith; most = omega (arith, length-take {A = ℕ}) }

  pub entry_room : (l : Rest) (e : Entry) → gives e ≡ entry_of (rest_of s l) n l.from
      → trails.Moves l.to l.from e.length
  entry_room l e g = entry_moves l.to l.from e (sym g)

  pub raw_room : (raw : ℕ) (h : Attribute) → gives h ≡ step_at s n raw → trails.Moves (length s) raw h.length
  raw_room raw h g = walks.moves s n raw h (sym g)

  pub list_room : (h : Attribute) (p : Span) → Inside s h → gives p ≡ list_in s n h → ListLies s n h p
  list_room h p i g = list-lies s n h i p (sym g)

  pub first_entry : (l : Rest) (e : Entry) → gives e ≡ entry_of (rest_of s l) n l.from
      → entries_of s n l.to l.from ≡ gives e ∷ entries_of s n l.to (l.from + e.length)
  unfolding entries_of
  first_entry l e g = trails.moved _ (λ x. x.length) l.to (entry_moves l.to) l.from e g

  pub no_entry : (l : Rest) → ends ≡ entry_of (rest_of s l) n l.from → entries_of s n l.to l.from ≡ []
  unfolding entries_of
  no_entry l g = trails.ended _ (λ x. x.length) l.to (entry_moves l.to) l.from g

  pub bad_entry : (l : Rest) (r : Refusal) → refuses r ≡ entry_of (rest_of s l) n l.from
      → entries_of s n l.to l.from ≡ refuses r ∷ []
  unfolding entries_of
  bad_entry l r g = trails.refused _ (λ x. x.length) l.to (entry_moves l.to) l.from r g

-- what a call reports that gives l after k reads
unfoldable pub after : ℕ → Left → Reported
after k l = reported l.answer l.left (k + length l.reads)

one : (k : ℕ) (r : Read) (l : Left) → after k (reading (r ∷ []) l) ≡ after (k + 1) l
unfolding after
one k r l = ap (reported l.answer l.left) (omega arith)

none : (k : ℕ) (a : Answer Item) (w : State) → after k (leaves a w) ≡ reported a w k
unfolding after
none k a w = ap (reported a w) (omega arith)

last : (k : ℕ) (r : Read) (a : Answer Item) (w : State) → after k (reading (r ∷ []) (leaves a w)) ≡ reported a w
    (k + 1)
unfolding after
last k r a w = refl

pub begun : (s : List ℕ) (n : RecordNumber) (look : RecordNumber → Option (List ℕ)) (w : State)
    → report_of (next_in s n look w) ≡ after 0 (next_by s n look w.raw w.list w.key)
unfolding after report_of next_in
begun s n look w = ap (reported (next_in s n look w).answer (next_in s n look w).left) (omega arith)

searched : (k : ℕ) (f : RecordNumber) (x : Searched) (l : Left)
    → after k (reading (map (seen f) x.read) l) ≡ after (k + length x.read) l
unfolding after
searched k f x l = ap (reported l.answer l.left) (omega (
  arith,
  length-append
      (map (seen f) x.read) l.reads,
  length-map x.read (seen f),
))

-- x is what a call reports that goes on from a place after k reads
module _ (s : List ℕ) (n : RecordNumber) (look : RecordNumber → Option (List ℕ)) {x : Reported} (raw : ℕ)
    (o : Option Rest) (key : Option Key) (k : ℕ)
    (i : x ≡ after k (next_by s n look raw o key)) where
  abbrev at : Option Rest → Reported
  at l = after k (next_by s n look raw l key)

  -- with an open list
  module _ (l : Rest) (z : o ≡ Some l) where
    is : x ≡ at (Some l)
    is = i ∙ ap at z

    pub list_ended : ends ≡ entry_of (rest_of s l) n l.from → x ≡ at None
    unfolding next_by by_entries
    list_ended g = is ∙ rw (no_entry s n l g)

    pub list_refused : (r : Refusal) → refuses r ≡ entry_of (rest_of s l) n l.from
        → reported (refuses r) (state raw o key) k ≡ x
    unfolding next_by by_entries
    list_refused r g = ap (λ (q : Option Rest). reported (refuses r) (state raw q key) k) z
        ∙ sym (is ∙ rw (bad_entry s n l r g) (none k _ _))

    module _ (e : Entry) (g : gives e ≡ entry_of (rest_of s l) n l.from) where
      pub entry_unknown : known_type e.ty ≡ false
          → reported (refuses (refusal UnknownType n l.from)) (state raw (Some (list_at (l.from + e.length) l.to)) key)
          (k + 1) ≡ x
      unfolding next_by by_entries
      entry_unknown u = sym (is ∙ rw (first_entry s n l e g, u) (last k (read (spot raw l.from) e) _ _))

      goes : known_type e.ty ≡ true → passed_over n key e (name_in s l e) ≡ true
          → next_by s n look raw (Some l) key ≡ reading (read (spot raw l.from) e ∷ [])
          (next_by s n look raw (Some (list_at (l.from + e.length) l.to)) key)
      unfolding next_by by_entries
      goes u v = rw (first_entry s n l e g, u, v)

      pub entry_passed : (name : List ℕ) → name ≡ name_in s l e → known_type e.ty ≡ true
          → passed_over n key e name ≡ true
          → x ≡ after (k + 1) (next_by s n look raw (Some (list_at (l.from + e.length) l.to)) key)
      unfolding next_by by_entries
      entry_passed name w u v = is ∙ ap (after k) (goes u (rw w at v)) ∙ one k (read (spot raw l.from) e)
          (next_by s n look raw (Some (list_at (l.from + e.length) l.to)) key)

      looks : known_type e.ty ≡ true → passed_over n key e (name_in s l e) ≡ false
          → next_by s n look raw (Some l) key ≡ reading (read (spot raw l.from) e ∷ [])
          (item_of raw l.from l.to e (key_of e (name_in s l e)) (sought_of s n look e l.from))
      unfolding next_by by_entries
      looks u v = rw (first_entry s n l e g, u, v)

      sought : known_type e.ty ≡ true → passed_over n key e (name_in s l e) ≡ false
          → x ≡ after (k + 1 + length (sought_of s n look e l.from).read)
          (item_by raw l.from l.to e (key_of e (name_in s l e)) (sought_of s n look e l.from).answer)
      sought u v = is ∙ ap (after k) (looks u v) ∙ one k (read (spot raw l.from) e)
          (item_of raw l.from l.to e (key_of e (name_in s l e)) (sought_of s n look e l.from))
          ∙ searched (k + 1) e.file (sought_of s n look e l.from)
          (item_by raw l.from l.to e (key_of e (name_in s l e)) (sought_of s n look e l.from).answer)

      module _ (c : Report Attribute) (d : c ≡ count_of (sought_of s n look e l.from)) (u : known_type e.ty ≡ true)
          (name : List ℕ) (w : name ≡ name_in s l e) (v : passed_over n key e name ≡ false) where
        found : after (k + 1 + c.reads) (item_by raw l.from l.to e (key_of e name) c.answer) ≡ x
        found = ap (λ (q : Report Attribute). after (k + 1 + q.reads)
            (item_by raw l.from l.to e (key_of e name) q.answer)) d
            ∙ ap (λ (m : List ℕ). after (k + 1 + length (sought_of s n look e l.from).read)
            (item_by raw l.from l.to e (key_of e m) (sought_of s n look e l.from).answer)) w
            ∙ sym (sought u (rw w at v))

        pub entry_missed : (r : Refusal) → refuses r ≡ c.answer
            → reported (refuses r) (state raw (Some (list_at (l.from + e.length) l.to)) None) (k + 1 + c.reads) ≡ x
        unfolding item_by
        entry_missed r q = sym (none _ _ _) ∙ ap (λ (a : Outcome Attribute). after (k + 1 + c.reads)
            (item_by raw l.from l.to e (key_of e name) a)) q ∙ found

        pub entry_resident : (h : Attribute) → gives h ≡ c.answer → h.resident ≡ true
            → reported (gives (item e.file h None)) (state raw (Some (list_at (l.from + e.length) l.to)) None)
            (k + 1 + c.reads) ≡ x
        unfolding item_by
        entry_resident h q t = sym (none _ _ _) ∙ ap (after (k + 1 + c.reads)) (yes _ _ _ t refl)
            ∙ ap (λ (a : Outcome Attribute). after (k + 1 + c.reads) (item_by raw l.from l.to e (key_of e name) a)) q
            ∙ found

        pub entry_runs : (h : Attribute) → gives h ≡ c.answer → h.resident ≡ false
            → reported (gives (item e.file h (Some l))) (state raw (Some (list_at (l.from + e.length) l.to))
            (Some (key_of e name))) (k + 1 + c.reads) ≡ x
        unfolding item_by
        entry_runs h q t = sym (none _ _ _) ∙ ap (after (k + 1 + c.reads)) (no _ _ _ t refl)
            ∙ ap (λ (a : Outcome Attribute). after (k + 1 + c.reads) (item_by raw l.from l.to e (key_of e name) a)) q
            ∙ found

  -- with none
  module _ (z : o ≡ None) where
    is_raw : x ≡ at None
    is_raw = i ∙ ap at z

    pub raw_ended : ends ≡ step_at s n raw → reported ends (state raw o key) k ≡ x
    unfolding next_by by_attributes
    raw_ended g = ap (λ (q : Option Rest). reported ends (state raw q key) k) z
        ∙ sym (is_raw ∙ rw (walks.ended s n raw g) (none k _ _))

    pub raw_refused : (r : Refusal) → refuses r ≡ step_at s n raw → reported (refuses r) (state raw o key) k ≡ x
    unfolding next_by by_attributes
    raw_refused r g = ap (λ (q : Option Rest). reported (refuses r) (state raw q key) k) z
        ∙ sym (is_raw ∙ rw (walks.refused s n raw r g) (none k _ _))

    module _ (h : Attribute) (g : gives h ≡ step_at s n raw) where
      first : by_attributes s n look (walk_from s n raw) raw key ≡ by_attributes s n look
          (gives h ∷ walk_from s n (raw + h.length)) raw key
      first = ap (λ (hs : List (Outcome Attribute)). by_attributes s n look hs raw key) (walks.moved s n raw h g)

      gave : (h.ty ≡ 0x20 → ⊥) → next_by s n look raw None key ≡ reading (own h ∷ [])
          (leaves (gives (item n h None)) (state (raw + h.length) None key))
      unfolding next_by by_attributes
      gave u = first ∙ ap (reading (own h ∷ [])) (sym (eq-n _ _ _ _ u refl))

      pub raw_item : (h.ty ≡ 0x20 → ⊥) → reported (gives (item n h None)) (state (raw + h.length) o key) (k + 1) ≡ x
      raw_item u =
          ap (λ (q : Option Rest). reported (gives (item n h None)) (state (raw + h.length) q key) (k + 1)) z
          ∙ sym (is_raw ∙ ap (after k) (gave u) ∙ last k (own h) _ _)

      opens : (p : Span) → h.ty ≡ 0x20 → gives p ≡ list_in s n h
          → next_by s n look raw None key ≡ reading (own h ∷ [])
          (next_by s n look (raw + h.length) (Some (list_at p.from (p.from + p.bytes))) key)
      unfolding next_by by_attributes by_list
      opens p u v = first ∙ ap (reading (own h ∷ [])) (sym (eq-y _ _ _ _ u (rw (← v) refl)))

      pub raw_list : (p : Span) → h.ty ≡ 0x20 → gives p ≡ list_in s n h
          → x ≡ after (k + 1) (next_by s n look (raw + h.length) (Some (list_at p.from (p.from + p.bytes))) key)
      raw_list p u v = is_raw ∙ ap (after k) (opens p u v) ∙ one k (own h)
          (next_by s n look (raw + h.length) (Some (list_at p.from (p.from + p.bytes))) key)

      shut : (r : Refusal) → h.ty ≡ 0x20 → refuses r ≡ list_in s n h
          → next_by s n look raw None key ≡ reading (own h ∷ [])
          (leaves (refuses r) (state (raw + h.length) None key))
      unfolding next_by by_attributes by_list
      shut r u v = first ∙ ap (reading (own h ∷ [])) (sym (eq-y _ _ _ _ u (rw (← v) refl)))

      pub raw_unlisted : (r : Refusal) → h.ty ≡ 0x20 → refuses r ≡ list_in s n h
          → reported (refuses r) (state (raw + h.length) o key) (k + 1) ≡ x
      raw_unlisted r u v =
          ap (λ (q : Option Rest). reported (refuses r) (state (raw + h.length) q key) (k + 1)) z
          ∙ sym (is_raw ∙ ap (after k) (shut r u v) ∙ last k (own h) _ _)

pub ruleset steps = (
  begun,
  list_ended,
  list_refused,
  entry_unknown,
  entry_passed,
  entry_missed,
  entry_resident,
  entry_runs,
  raw_ended,
  raw_refused,
  raw_item,
  raw_list,
  raw_unlisted,
)
