-- Each call of the walk, with its item's parts, is paid by what the worth of its state falls, and the entries that
-- give parts come behind those that gave earlier ones.
use Rattle.std.proofs.Common.{ℕ, ◌+◌, ◌-◌, ◌*◌, ◌/◌, ◌≤◌, ◌≡◌, List, [], ◌∷◌, map, length, eqb, true, false, Bool}
use Rattle.std.proofs.Common.{refl, sym, ap, subst, arith, length-append}
use mathlib.Core.Logic.{inl, inr}
use native.Mathlib.Nat.{le_refl}
use Prim.Native.Nat.{zero-le}
use Rattle.std.proofs.lemmas.List.{length-map}
use Rattle.std.specs.Prelude.{◌||◌, Option, Some, None}
use Rattle.fields.specs.Answer.{Answer, gives, ends, refuses, Outcome}
use Rattle.fields.specs.Known.{known_type, attribute_list}
use Rattle.fields.specs.declared.RecordNumber.{RecordNumber}
use Rattle.fields.proofs.Cases.{both}
use Rattle.record.specs.declared.layout.Attribute.{Attribute}
use Rattle.record.specs.Inside.{Inside}
use Rattle.record.specs.Value.{list_in}
use Rattle.record.specs.declared.layout.Span.{Span}
use Rattle.record.proofs.Spans.{list-lies}
use Rattle.list.specs.declared.Entry.{Entry}
use Rattle.record.specs.Walk.{walk_from}
use Rattle.record.specs.Search.{Searched}
use Rattle.items.specs.Read.{Read, Spot, own, entry, sought, spot}
use Rattle.items.specs.State.{list_at, state, lies_in}
use Rattle.items.specs.Key.{name_in, key_of, skips, passed_over}
use Rattle.items.specs.Items.{Left, leaves, reading, item, entries_of, sought_of, item_by, item_of}
use Rattle.items.specs.Items.{by_entries, by_list, by_attributes, next_by, next_in, next_of}
use Rattle.items.specs.declared.walk.Rest.{Rest}
use Rattle.items.specs.declared.key.Key.{Key}
use Rattle.items.specs.declared.walk.State.{State}
use Rattle.items.specs.declared.walk.Item.{Item}
use Rattle.parts.specs.Parts.{parts_in, parts_of}
use Rattle.bound.proofs.Value.{R, E, R-step, E-step, E-mono, val, val-pass, val-raw, val-entry, val-item, val-one}
use Rattle.bound.proofs.Value.{val-some}
use Rattle.record.proofs.Peel.{peel_raw}
use Rattle.items.proofs.Peel.{peel}
use Rattle.bound.specs.Listing.{Sized}
use Rattle.bound.proofs.Search.{few}
use Rattle.bound.proofs.Before.{Before, here, before-trans, no-later}
use Rattle.bound.proofs.Stretch.{by-test, skip, skip-ge, skip-on, skip-no, Within, begun}

pub either_no : (a b : Bool) → (a || b) ≡ false → b ≡ false
either_no true b e = absurd (cc)
either_no false b e = e

module _ (s : List ℕ) (n : RecordNumber) where
  -- what a place of the walk is worth, where the entries that gave parts end at g; with no list open, and with one
  unfoldable pub shut : ℕ → ℕ
  shut raw = val (length s / 16) (R (length s - raw)) (E (length s - raw)) (E (length s - raw))

  unfoldable pub open_to : ℕ → ℕ → ℕ → ℕ → ℕ
  open_to raw to from g = val (length s / 16) (R (length s - raw)) (E (length s - raw + (to - from)))
      (E (length s - raw + (to - g)))

  -- where the entries end that the walk passes over by its key
  abbrev pub owed : Option Key → Rest → ℕ
  owed key l = skip s l.to key (entries_of s n l.to l.from) l.from

  abbrev pub worth_at : ℕ → Option Key → Option Rest → ℕ
  worth_at raw key None = shut raw
  worth_at raw key (Some l) = open_to raw l.to l.from (owed key l)

  unfoldable pub worth : State → ℕ
  worth w = worth_at w.raw w.key w.list

  abbrev pub reached_at : ℕ → Option Key → Option Rest → Spot
  reached_at raw key None = spot raw 0
  reached_at raw key (Some l) = spot raw (owed key l)

  unfoldable pub reached : State → Spot
  reached w = reached_at w.raw w.key w.list

  module _ (look : RecordNumber → Option (List ℕ)) (z : Sized s look) (room : ℕ) where
    -- k reads gave the item i and left w, where c was there to pay with and earlier parts end at lo
    pub record Gave (c : ℕ) (lo : Spot) (k : ℕ) (i : Item) (w : State) : Type 0 where
      pub paid : k + length (parts_of s n look room i.rest).reads + worth w ≤ c
      pub some : 1 ≤ k
      pub begin : ℕ
      pub rises : Before lo (spot w.raw begin)
      pub end : ℕ
      pub ends : Before (spot w.raw end) (reached w)
      pub order : begin ≤ end
      pub within : Within begin end (parts_of s n look room i.rest).given

    abbrev pub Answered : ℕ → Spot → ℕ → Answer Item → State → Type 0
    Answered c lo k (gives i) w = Gave c lo k i w
    Answered c lo k ends w = k ≤ c
    Answered c lo k (refuses r) w = k ≤ c

    abbrev pub Good : ℕ → Spot → Left → Type 0
    Good c lo l = Answered c lo (length l.reads) l.answer l.left

    later : (c d lo' : _) (lo : Spot) (k j : ℕ) (a : Answer Item) (w : State) → Answered c lo k a w → j + c ≤ d
        → Before lo' lo → Answered d lo' (j + k) a w
    later c d lo' lo k j (gives i) w g h b = record {
      paid = omega (arith, g.paid);
      some = omega (arith, g.some);
      begin = g.begin;
      rises = before-trans lo' lo (spot w.raw g.begin) b g.rises;
      end = g.end;
      ends = g.ends;
      order = g.order;
      within = g.within;
    }
    later c d lo' lo k j ends w g h b = omega arith
    later c d lo' lo k j (refuses r) w g h b = omega arith

    -- what was read before is paid too
    more : (c d : ℕ) (lo' lo : Spot) (rs : List Read) (l : Left) → Good c lo l → length rs + c ≤ d → Before lo' lo
        → Good d lo' (reading rs l)
    more c d lo' lo rs l g h b =
        subst (λ (x : ℕ). Answered d lo' x l.answer l.left) (sym (length-append rs l.reads))
        (later c d lo' lo (length l.reads) (length rs) l.answer l.left g h b)

    -- an item with no list has no parts
    alone : (c : ℕ) (lo : Spot) (k : ℕ) (f : RecordNumber) (h : Attribute) (w : State) → 1 ≤ k → k + worth w ≤ c
        → Before lo (reached w) → (begin : ℕ) → Before (spot w.raw begin) (reached w) → Before lo (spot w.raw begin)
        → Gave c lo k (item f h None) w
    unfolding parts_of parts_in lies_in
    alone c lo k f h w o p b begin e l = record {
      paid = omega arith;
      some = o;
      begin = begin;
      rises = l;
      end = begin;
      ends = e;
      order = omega arith;
      within = tt;
    }

    -- over the entries of a list
    module _ (raw to : ℕ) (on : Option Key → Left) (closes : (key : Option Key) (lo : Spot) → lo.list ≤ raw
        → Good (shut raw) lo (on key)) where
      -- closed, what was left of it is lost
      closing : (from g : ℕ) (key : Option Key) (lo : Spot) → Before lo (spot raw g)
          → Good (open_to raw to from g) lo (on key)
      unfolding shut open_to
      closing from g key lo b =
          more _ (open_to raw to from g) lo lo [] (on key) (closes key lo (no-later lo (spot raw g) b))
          (val-pass _ _ _ _ _ _ _ (le_refl _) (E-mono _ _ (omega arith)) (E-mono _ _ (omega arith)))
          (inr (refl, le_refl _))

      module _ (e : Entry) (es : List (Outcome Entry)) (from : ℕ) (least : 26 ≤ e.length) (most : from + e.length ≤ to)
          (tail : es ≡ entries_of s n to (from + e.length)) where
        next : ℕ
        next = from + e.length

        x-step : E (length s - raw + (to - (from + e.length))) + 1 ≤ E (length s - raw + (to - from))
        x-step = E-step _ _ (omega arith)

        -- an entry and its lookup are paid
        some-entry : (g k : ℕ) → k ≤ length s / 16 → k + 1 ≤ open_to raw to from g
        unfolding open_to
        some-entry g k h = val-some _ _ _ _ k h (omega (arith, x-step))

        -- behind it, where earlier parts end no earlier
        one-less : (g g' k : ℕ) → k ≤ length s / 16 → g ≤ g'
            → k + 1 + open_to raw to (from + e.length) g' ≤ open_to raw to from g
        unfolding open_to
        one-less g g' k h o = val-entry _ _ _ _ _ _ _ k h (le_refl _) x-step (E-mono _ _ (omega arith))

        -- what the state behind it is worth, and where it stands
        worth-next : (key : Option Key) → worth (state raw (Some (list_at (from + e.length) to)) key) ≡ open_to raw to
            (from + e.length) (skip s to key es (from + e.length))
        unfolding worth
        worth-next key = ap (λ (x : List (Outcome Entry)). open_to raw to (from + e.length)
            (skip s to key x (from + e.length))) (sym tail)

        reached-next : (key : Option Key) → reached (state raw (Some (list_at (from + e.length) to)) key) ≡ spot raw
            (skip s to key es (from + e.length))
        unfolding reached
        reached-next key = ap (λ (x : List (Outcome Entry)). spot raw (skip s to key x (from + e.length))) (sym tail)

        at-next : (key : Option Key) (p : ℕ) → p ≤ skip s to key es (from + e.length)
            → Before (spot raw p) (reached (state raw (Some (list_at (from + e.length) to)) key))
        at-next key p h = subst (Before (spot raw p)) (sym (reached-next key)) (here raw p _ h)

        paid-by : (k : ℕ) → k ≤ length s / 16 → (c g : ℕ) → c + E (length s - raw + (to - g)) *
            (1 + length s / 16) ≤ 1 + E (length s - raw + (to - from)) * (1 + length s / 16)
            → k + 1 + c + open_to raw to (from + e.length) g ≤ open_to raw to from from
        unfolding open_to
        paid-by k few c g h = val-item _ _ _ _ _ _ _ k c few (le_refl _) x-step h

        abbrev own_key : Key
        own_key = key_of e (name_in s (list_at from to) e)

        -- an item with its parts
        parted : (lo : Spot) (k : ℕ) (f : RecordNumber) (h : Attribute) → k ≤ length s / 16
            → Before lo (spot raw from) → gives e ∷ es ≡ entries_of s n to from
            → Gave (open_to raw to from from) lo (k + 1) (item f h (Some (list_at from to)))
            (state raw (Some (list_at (from + e.length) to)) (Some own_key))
        parted lo k f h few b q =
            let t = begun s n look z to (length s - raw) room from e es q in
            record {
              paid = subst (λ (x : ℕ). k + 1 + length (parts_of s n look room (Some (list_at from to))).reads + x ≤
                  open_to raw to from from) (sym (worth-next (Some own_key)))
                  (paid-by k few (length (parts_of s n look room (Some (list_at from to))).reads)
                  (skip s to (Some own_key) es (from + e.length)) t.paid);
              some = omega arith;
              begin = from;
              rises = b;
              end = skip s to (Some own_key) es (from + e.length);
              ends = at-next (Some own_key) _ (le_refl _);
              order = omega (arith, skip-ge s to (Some own_key) es (from + e.length));
              within = t.within;
            }

        -- the entry was looked up: nothing is owed at it
        looked : (lo : Spot) (k : ℕ) (a : Outcome Attribute) → k ≤ length s / 16 → Before lo (spot raw from)
            → gives e ∷ es ≡ entries_of s n to from
            → Answered (open_to raw to from from) lo (k + 1) (item_by raw from to e own_key a).answer
            (item_by raw from to e own_key a).left
        unfolding item_by
        looked lo k (refuses r) h b q = some-entry from k h
        looked lo k (gives x) h b q =
            both (λ (l : Left). Answered (open_to raw to from from) lo (k + 1) l.answer l.left) x.resident _ _
            (let g = skip-ge s to None es (from + e.length) in
            let w = state raw (Some (list_at (from + e.length) to)) None in
            alone (open_to raw to from from) lo (k + 1) e.file x w (omega arith)
            (subst (λ (y : ℕ). k + 1 + y ≤ open_to raw to from from) (sym (worth-next None))
            (one-less from _ k h (omega arith)))
            (before-trans lo (spot raw from) (reached w) b (at-next None from (omega arith))) from
            (at-next None from (omega arith)) b)
            (parted lo k e.file x h b q)

      not-skipped : (key : Option Key) (e : Entry) (name : List ℕ) → passed_over n key e name ≡ false
          → skips key e name ≡ false
      unfolding passed_over
      not-skipped key e name t = either_no (eqb e.file.0 n.0) (skips key e name) t

      no-reads : (from : ℕ) (e : Entry) (k : Key) (a : Outcome Attribute) → (item_by raw from to e k a).reads ≡ []
      unfolding item_by
      no-reads from e k (refuses r) = refl
      no-reads from e k (gives h) = both (λ (l : Left). l.reads ≡ []) h.resident _ _ refl refl

      sought-good : (c : ℕ) (lo : Spot) (from : ℕ) (e : Entry) (k : Key) (x : Searched)
          → Answered c lo (length x.read + 1) (item_by raw from to e k x.answer).answer
          (item_by raw from to e k x.answer).left
          → Good c lo (reading (entry (spot raw from) e ∷ []) (item_of raw from to e k x))
      sought-good c lo from e k x g =
          let l = item_by raw from to e k x.answer in
          let i = ap (λ (rs : List Read). length rs) (no-reads from e k x.answer) in
          let j : length x.read + 1 ≡ length (reading (entry (spot raw from) e ∷ []) (item_of raw from to e k x)).reads
          =
          omega (arith, length-append (map (sought e.file) x.read) l.reads, length-map x.read (sought e.file)) in
          subst (λ (y : ℕ). Answered c lo y l.answer l.left) j g

      -- over what the entries are
      entries-good : (es : List (Outcome Entry)) (from : ℕ) (key : Option Key) (lo : Spot)
          → es ≡ entries_of s n to from → Before lo (spot raw (skip s to key es from))
          → Good (open_to raw to from (skip s to key es from)) lo (by_entries s n look on raw to es from key)
      unfolding by_entries
      entries-good [] from key lo q b = closing from (skip s to key [] from) key lo b
      entries-good (refuses r ∷ es) from key lo q b = zero-le
      entries-good (gives e ∷ es) from key lo q b =
          let k = peel s n to from e es q in
          let name = name_in s (list_at from to) e in
          let g = skip s to key (gives e ∷ es) from in
          let P = λ (l : Left). Good (open_to raw to from g) lo (reading (entry (spot raw from) e ∷ []) l) in
          both P (known_type e.ty) _ _
          (by-test P (passed_over n key e name) _ _
          (λ _. more (open_to raw to (from + e.length) (skip s to key es (from + e.length)))
          (open_to raw to from g) lo lo
          (entry (spot raw from) e ∷ []) (by_entries s n look on raw to es (from + e.length) key)
          (entries-good es (from + e.length) key lo k.tail (before-trans lo (spot raw g)
          (spot raw (skip s to key es (from + e.length))) b (here raw g _ (skip-on s to key e es from))))
          (one-less e es from k.least k.most k.tail g (skip s to key es (from + e.length)) 0 zero-le
          (skip-on s to key e es from))
          (inr (refl, le_refl _)))
          (λ t. let o = skip-no s to key e es from (not-skipped key e name t) in
          subst (λ (x : ℕ). Before lo (spot raw x) → Good (open_to raw to from x) lo
          (reading (entry (spot raw from) e ∷ [])
          (item_of raw from to e (key_of e name) (sought_of s n look e from)))) (sym o)
          (λ c. sought-good (open_to raw to from from) lo from e (key_of e name) (sought_of s n look e from)
          (looked e es from k.least k.most k.tail lo (length (sought_of s n look e from).read)
          (sought_of s n look e from).answer (omega (arith, few s n look z e from)) c q)) b))
          (some-entry e es from k.least k.most k.tail g 0 zero-le)

    -- an attribute that the raw walk reads, and what comes behind it
    module _ (raw : ℕ) (h : Attribute) (least : 16 ≤ h.length) (most : raw + h.length ≤ length s)
        (inside : Inside s h) where
      r-step : R (length s - (raw + h.length)) + 1 ≤ R (length s - raw)
      r-step = R-step _ _ (omega arith)

      one-raw : 1 ≤ shut raw
      unfolding shut
      one-raw = val-one _ _ _ _ (omega (arith, r-step))

      raw-less : 1 + shut (raw + h.length) ≤ shut raw
      unfolding shut
      raw-less = val-raw _ _ _ _ _ _ _ r-step (E-mono _ _ (omega arith)) (E-mono _ _ (omega arith))

      -- the list that it opens is no longer than it
      raw-opens : (p : Span) (g : ℕ) → p.bytes ≤ h.length → p.from ≤ g
          → 1 + open_to (raw + h.length) (p.from + p.bytes) p.from g ≤ shut raw
      unfolding shut open_to
      raw-opens p g a b = val-raw _ _ _ _ _ _ _ r-step (E-mono _ _ (omega arith)) (E-mono _ _ (omega arith))

      lists-good : (on : Option Key → Left) → ((key : Option Key) (lo : Spot) → lo.list ≤ raw + h.length
          → Good (shut (raw + h.length)) lo (on key))
          → (key : Option Key) (lo : Spot) → lo.list ≤ raw → (a : Outcome Span) → list_in s n h ≡ a
          → Good (shut raw) lo (reading (own h ∷ []) (by_list s n look on (raw + h.length) a key))
      unfolding by_list
      lists-good on ih key lo l (refuses r) q = one-raw
      lists-good on ih key lo l (gives p) q =
          let g = skip s (p.from + p.bytes) key (entries_of s n (p.from + p.bytes) p.from) p.from in
          more (open_to (raw + h.length) (p.from + p.bytes) p.from g) (shut raw) lo lo (own h ∷ [])
          (by_entries s n look on (raw + h.length) (p.from + p.bytes)
          (entries_of s n (p.from + p.bytes) p.from) p.from key)
          (entries-good (raw + h.length) (p.from + p.bytes) on ih
          (entries_of s n (p.from + p.bytes) p.from) p.from key lo refl (inl (omega arith)))
          (raw-opens p g (list-lies s n h inside p q).short (skip-ge s (p.from + p.bytes) key _ p.from))
          (inr (refl, le_refl _))

      gives-good : (key : Option Key) (lo : Spot) → lo.list ≤ raw
          → Good (shut raw) lo (reading (own h ∷ []) (leaves (gives (item n h None))
          (state (raw + h.length) None key)))
      unfolding worth reached
      gives-good key lo l =
          alone (shut raw) lo 1 n h (state (raw + h.length) None key) (le_refl 1) raw-less (inl (omega arith)) 0
          (inr (refl, le_refl _)) (inl (omega arith))

    raws-good : (hs : List (Outcome Attribute)) (raw : ℕ) → hs ≡ walk_from s n raw → (key : Option Key) (lo : Spot)
        → lo.list ≤ raw → Good (shut raw) lo (by_attributes s n look hs raw key)
    unfolding by_attributes
    raws-good [] raw q key lo l = zero-le
    raws-good (refuses r ∷ hs) raw q key lo l = zero-le
    raws-good (gives h ∷ hs) raw q key lo l =
        let k = peel_raw s n raw h hs q in
        both (λ (x : Left). Good (shut raw) lo (reading (own h ∷ []) x)) (eqb h.ty attribute_list) _ _
        (lists-good raw h k.least k.most k.inside (by_attributes s n look hs (raw + h.length))
        (raws-good hs (raw + h.length) k.tail) key lo l (list_in s n h) refl)
        (gives-good raw h k.least k.most k.inside key lo l)

    next-good : (raw : ℕ) (o : Option Rest) (key : Option Key) (lo : Spot) → Before lo (reached_at raw key o)
        → Good (worth_at raw key o) lo (next_by s n look raw o key)
    unfolding next_by
    next-good raw None key lo b = raws-good (walk_from s n raw) raw refl key lo (no-later lo (spot raw 0) b)
    next-good raw (Some l) key lo b =
        entries-good raw l.to (by_attributes s n look (walk_from s n raw) raw)
        (raws-good (walk_from s n raw) raw refl) (entries_of s n l.to l.from) l.from key lo refl b

    -- a call of the walk, from any state
    pub call-good : (w : State) (lo : Spot) → Before lo (reached w) → Good (worth w) lo (next_of s n look w)
    unfolding next_of next_in worth reached
    call-good w lo b = both (Good (worth_at w.raw w.key w.list) lo) (lies_in (length s) w.list) _ _
        (next-good w.raw w.list w.key lo b) zero-le
