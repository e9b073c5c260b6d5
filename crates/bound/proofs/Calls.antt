-- A run of calls is a listing, and what its results report is what a listing counts.
use Rattle.std.proofs.Common.{ℕ, suc, ◌+◌, ◌≤◌, ◌≡◌, List, [], ◌++◌, map, min, length, take, drop}
use Rattle.std.proofs.Common.{sym, ap, subst, ◌∙◌, arith, length-append}
use Rattle.std.specs.Prelude.{Option, Some, None, Result, Ok, Err}
use Rattle.std.proofs.lemmas.List.{length-replicate, length-map}
use Rattle.std.proofs.Math.Seq.{take-append_seam}
use Rattle.fields.specs.Answer.{gives}
use Rattle.fields.specs.Told.{told_step}
use Rattle.fields.specs.declared.RecordNumber.{RecordNumber}
use Rattle.fields.specs.declared.Refusal.{Refusal}
use Rattle.table.specs.Held.{record_of}
use Rattle.record.specs.Header.{first_attribute}
use Rattle.items.specs.Read.{Read, Spot}
use Rattle.items.specs.Items.{Left, next_of}
use Rattle.items.specs.Walked.{Reported, report_of}
use Rattle.items.specs.declared.File.{File}
use Rattle.items.specs.declared.walk.Rest.{Rest}
use Rattle.items.specs.declared.walk.Item.{Item}
use Rattle.items.specs.declared.walk.State.{State}
use Rattle.items.specs.declared.walk.Walked.{Walked}
use Rattle.parts.specs.Parts.{Given, Parts}
use Rattle.parts.specs.OfFile.{parts_of_file}
use Rattle.parts.specs.Filled.{Told, told_parts, filled, most_parts, no_part, blank_parts}
use Rattle.parts.specs.declared.Part.{Part}
use Rattle.parts.specs.declared.Filled.{Filled}
use Rattle.parts.proofs.Puts.{parts_in_front}
use Rattle.parts.proofs.Rooms.{parts_fit, room_suffices}
use Rattle.bound.specs.Replay.{start, onward, Keeps}
use Rattle.bound.specs.Listing.{own_of, called, reported, asked, Listed, fresh, item, Follow, PartBy, Whole}
use Rattle.bound.specs.Calls.{Counts, CountsIn, Ask, lent, by_value, Answers, room_of, told_reads, parts_had}
use Rattle.bound.specs.Calls.{CameBy}
use Rattle.bound.specs.Calls.{Stops, Next, Asked, Run, fresh as begun, item as item_by, Lists, ReadBy, Had}
use Rattle.bound.specs.Calls.{Finished, finished, EveryRun, Ample, EveryWay}
use Rattle.bound.proofs.Runs.{reports, counted}
use Rattle.bound.proofs.Ends.{stopping, same, one, whole}
use Rattle.bound.proofs.Tables.{every_file}

step-gave : (a : Result (Option Item) Refusal) (i : Item) → told_step a ≡ gives i → a ≡ Ok (Some i)
step-gave (Ok (Some x)) i e = let k : x ≡ i = cc in ap (λ (y : Item). Ok (Some y)) k
step-gave (Ok None) i e = absurd (cc)
step-gave (Err r) i e = absurd (cc)

-- a listing that stops counts as any that stops
module _ (s : List ℕ) (n : RecordNumber) (look : RecordNumber → Option (List ℕ)) (room : ℕ → ℕ) where
  pub counts_so : (k c : ℕ) (read : List Read) (w : State) → Listed s n look room k c read w
      → ((i : Item) → (called s n look room w).answer ≡ gives i → ⊥)
      → Counts s n look room (c + reported s n look room w)
  counts_so k c read w l stop v =
      let u = stopping s n look room k c read w l stop in
      let x = same s n look room k v.count c v.read read v.last w
      (subst (λ (y : ℕ). Listed s n look room y v.count v.read v.last) (one s n look room v u) v.listed) l in
      let q = ap (λ (y : State). reported s n look room y) x.states in
      let p : v.count + reported s n look room v.last ≡ c + reported s n look room w = omega (arith, x.counts) in
      record {
        report = p;
        read = length-append v.read (called s n look room v.last).reads
            ∙ (let a = counted s n look room v.listed in let b = reports s n look room v.last in omega arith);
      }

-- what stands in front of a lent list is what was given
in_front : (before after : List Part) (r : Filled) (p : Parts) → filled after r ≡ told_parts before p
    → length p.given ≤ length before → take r.count after ≡ map (λ g. g.part) p.given
unfolding told_parts
in_front before after r p e m =
    let gs : List Part = map (λ (g : Given). g.part) p.given in
    let l : length gs ≡ length p.given = length-map p.given (λ (g : Given). g.part) in
    let c : r.count ≡ length gs = ap (λ (t : Told). t.count) e ∙ sym l in
    let a : after ≡ gs ++ drop (length p.given) before = ap (λ (t : Told). t.list) e ∙ parts_in_front before p m in
    ap (λ (k : ℕ). take k after) c ∙ ap (λ (xs : List Part). take (length gs) xs) a
    ∙ take-append_seam gs (drop (length p.given) before)

blank_size : length blank_parts ≡ 157
unfolding blank_parts
blank_size = length-replicate 157 no_part

module _ (f : File) where
  abbrev s : List ℕ
  s = f.base.bytes.now

  abbrev n : RecordNumber
  n = f.base.number

  abbrev look : RecordNumber → Option (List ℕ)
  look = record_of f.table.bytes.now

  abbrev call : State → Left
  call w = next_of s n look w

  -- what the contract of `next` says
  module _ (w : State) (r : Walked) (e : Next f w r) where
    pub gave : told_step r.answer ≡ (call w).answer
    unfolding report_of
    gave = ap (λ (x : Reported). x.answer) e

    pub left : r.left ≡ (call w).left
    unfolding report_of
    left = ap (λ (x : Reported). x.left) e

    pub count : r.reads ≡ (report_of (call w)).reads
    count = ap (λ (x : Reported). x.reads) e

    pub item_gave : (i : Item) → r.answer ≡ Ok (Some i) → (call w).answer ≡ gives i
    item_gave i q = sym gave ∙ ap told_step q

  -- what the contract of either parts call says of the reads and of the parts
  pub asked_reads : (o : Option Rest) (a : Ask) → Answers f o a
      → told_reads a ≡ length (parts_of_file f (room_of a) o).reads
  unfolding told_parts
  asked_reads o (lent before after r) e = ap (λ (t : Told). t.reads) e
  asked_reads o (by_value k r) e = ap (λ (t : Told). t.reads) e

  fits : (room : ℕ) (o : Option Rest) → length (parts_of_file f room o).given ≤ room
  fits room o = parts_fit s n look room o

  asked_list : (o : Option Rest) (a : Ask) → Answers f o a
      → parts_had a ≡ map (λ g. g.part) (parts_of_file f (room_of a) o).given
  asked_list o (lent before after r) e = in_front before after r (parts_of_file f (length before) o) e
      (fits (length before) o)
  asked_list o (by_value k r) e =
      let m = fits (min k most_parts) o in
      in_front blank_parts r.parts r.filled (parts_of_file f (min k most_parts) o) e (omega (arith, blank_size))

  module _ (room : ℕ → ℕ) where
    abbrev Listing : ℕ → ℕ → List Read → State → Type 0
    Listing k c read w = Listed s n look room k c read w

    -- one item more
    on : (k c : ℕ) (w : State) (r : Walked) (i : Item) (a : Ask) → Lists f room k c w → Next f w r
        → r.answer ≡ Ok (Some i) → Asked f room k i a → Lists f room (suc k) (c + r.reads + told_reads a) r.left
    on k c w r i a l e q m =
        let ps = (asked s n look room k i).reads in
        let all : List Read = l.read ++ (call w).reads ++ ps in
        let o = ap (λ (j : ℕ). length (parts_of_file f j i.rest).reads) m.lends in
        let p : c + (report_of (call w)).reads + length ps ≡ c + r.reads + told_reads a =
        omega (arith, count w r e, asked_reads i.rest a m.answers) in
        record {
          read = all;
          listed = subst (Listing (suc k) (c + r.reads + told_reads a) all) (sym (left w r e))
              (subst (λ (j : ℕ). Listing (suc k) j all (call w).left) p
              (item k c l.read w i l.listed (item_gave w r e i q)));
        }

    pub lists : (k c : ℕ) (w : State) → Run f room k c w → Lists f room k c w
    lists k c w begun = record { read = []; listed = fresh }
    lists k c w (item_by j d v r i a l e q m) = on j d v r i a (lists j d v l) e q m

    read_by : (k c : ℕ) (w : State) (r : Walked) → Run f room k c w → Next f w r → ReadBy f room (c + r.reads) r
    read_by k c w r l e =
        let x = lists k c w l in
        let d = (every_file f room).reads k c x.read w x.listed in
        let all : List Read = x.read ++ (call w).reads in
        let p : c + reported s n look room w ≡ c + r.reads = omega (arith, count w r e) in
        record {
          bound = let b = d.bound in omega arith;
          read = all;
          count = sym p ∙ d.count;
          once = d.once;
          stands = subst (Keeps s n look (onward s n look (start s) all)) (sym (left w r e)) d.stands;
          follow = subst (λ (v : State). Follow s n look room (first_attribute s) (own_of all) v.raw)
              (sym (left w r e)) d.follow;
        }

    had : (k c : ℕ) (w : State) (r : Walked) (i : Item) (a : Ask) → Run f room k c w → Next f w r
        → r.answer ≡ Ok (Some i) → Asked f room k i a → Had f room k w i a
    had k c w r i a l e q m =
        let x = lists k c w l in
        record {
          given = asked_list i.rest a m.answers
              ∙ ap (λ (j : ℕ). map (λ (g : Given). g.part) (parts_of_file f j i.rest).given) m.lends;
          by_entries = (every_file f room).gave k c x.read w i x.listed (item_gave w r e i q);
        }

    stopped : (w : State) (r : Walked) → Next f w r → Stops r → (i : Item) → (call w).answer ≡ gives i → ⊥
    stopped w r e h i q = h i (step-gave r.answer i (gave w r e ∙ q))

    counts : (k c : ℕ) (w : State) (r : Walked) → Run f room k c w → Next f w r → Stops r
        → CountsIn f room (c + r.reads)
    counts k c w r l e h =
        let x = lists k c w l in
        subst (λ (d : ℕ). CountsIn f room (c + d)) (sym (count w r e))
        (counts_so s n look room k c x.read w x.listed (stopped w r e h))

    -- an entry that gave a part of a run gave it of its listing
    listed_by : (k : ℕ) (x : Spot) → CameBy f room k x → PartBy s n look room k x
    listed_by k x p =
        let l = lists k p.count p.from p.run in
        record {
          count = p.count;
          read = l.read;
          from = p.from;
          listed = l.listed;
          item_of = p.item_of;
          given = item_gave p.from p.walked_to p.next p.item_of p.gave;
          list = p.list ∙ ap (λ (v : State). v.raw) (left p.from p.walked_to p.next);
          place = p.place;
        }

    apart : (i j : ℕ) (x : Spot) → CameBy f room i x → CameBy f room j x → i ≡ j
    apart i j x p q = (every_file f room).apart i j x (listed_by i x p) (listed_by j x q)

pub every_run : EveryRun
every_run f room = record {
  lists = lists f room;
  reads = read_by f room;
  parts = had f room;
  apart = apart f room;
  counts = counts f room;
}

-- with room for all parts a listing is the same whatever the rooms
module _ (f : File) (room other : ℕ → ℕ) (a : Ample room) (b : Ample other) where
  alike : (k : ℕ) (i : Item)
      → (asked (s f) (n f) (look f) room k i).reads ≡ (asked (s f) (n f) (look f) other k i).reads
  alike k i = ap (λ (p : Parts). p.reads)
      (room_suffices (s f) (n f) (look f) (room k) i.rest f.base.most (a k)
      ∙ sym (room_suffices (s f) (n f) (look f) (other k) i.rest f.base.most (b k)))

  again : (k c : ℕ) (read : List Read) (w : State) → Listed (s f) (n f) (look f) room k c read w
      → Listed (s f) (n f) (look f) other k c read w
  again k c read w fresh = fresh
  again k c read w (item j d rs v i l e) =
      subst (λ (x : List Read). Listed (s f) (n f) (look f) other (suc j)
      (d + reported (s f) (n f) (look f) other v + length x) (rs ++ (call f v).reads ++ x) (call f v).left)
      (sym (alike j i)) (item j d rs v i (again j d rs v l) e)

  same_whole : Whole (s f) (n f) (look f) room → Whole (s f) (n f) (look f) other
  same_whole w = record {
    items = w.items;
    count = w.count;
    read = w.read;
    last = w.last;
    listed = again w.items w.count w.read w.last w.listed;
    stops = w.stops;
  }

  one_count : (c d : ℕ) → CountsIn f room c → CountsIn f other d → c ≡ d
  unfolding same_whole
  one_count c d x y =
      let w = whole (s f) (n f) (look f) room in
      let p = (x w).report in
      let q = (y (same_whole w)).report in
      sym p ∙ q

finished_counts : (f : File) (room : ℕ → ℕ) (c : ℕ) → Finished f room c → CountsIn f room c
finished_counts f room c (finished k d w r l e h) = (every_run f room).counts k d w r l e h

pub every_way : EveryWay
every_way f room other c d a b x y = one_count f room other a b c d (finished_counts f room c x)
    (finished_counts f other d y)
