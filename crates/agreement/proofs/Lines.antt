-- The listing is the same by both lookups, and a table's is that of its base record.
use Rattle.std.proofs.Common.{ℕ, zero, suc, ◌+◌, ◌≡◌, List, [], ◌∷◌, ◌++◌, map, length, refl, sym, ap, ◌∙◌, subst}
use Rattle.std.specs.Prelude.{flat_map, Option, Some, None}
use Rattle.std.specs.List.{AllByRecursion}
use Rattle.fields.specs.Answer.{Outcome, Answer, gives, ends, refuses}
use Rattle.fields.specs.declared.RecordNumber.{RecordNumber}
use Rattle.table.specs.Held.{record_of}
use Rattle.table.specs.declared.check.TableHeader.{TableHeader}
use Rattle.record.specs.Open.{Lent, lent, open_in}
use Rattle.items.specs.Lookup.{lookup_of}
use Rattle.items.specs.State.{fresh_of}
use Rattle.items.specs.Items.{Left, next_of}
use Rattle.items.specs.declared.walk.Item.{Item}
use Rattle.items.specs.declared.walk.Rest.{Rest}
use Rattle.items.specs.declared.walk.State.{State}
use Rattle.items.proofs.Opened.{opened_in_lent}
use Rattle.parts.specs.Parts.{Given, Parts, parts_of}
use Rattle.parts.specs.declared.Part.{Part}
use Rattle.lines.specs.declared.line.Contents.{Contents}
use Rattle.lines.specs.declared.line.Line.{Line}
use Rattle.lines.specs.declared.line.Line.TheVariants as line
use Rattle.lines.specs.Runs.{run_lines, value_lines}
use Rattle.lines.specs.Listing.{name_in, value_in, parts_contents, given_parts, part_lines, contents_from}
use Rattle.lines.specs.Listing.{item_contents}
use Rattle.lines.specs.Listing.{item_line, item_runs, lines_after, lines_run, walk_lines, opened_lines, base_lines}
use Rattle.lines.specs.Listing.{table_lines, checked_lines}
use Rattle.lines.specs.Numbered.{found_lines, numbered_lines}
use Rattle.agreement.specs.Agree.{Agree}
use Rattle.agreement.specs.Door.{opened_by, listing_by}
use Rattle.agreement.specs.Laws.{PartsAgree, ListingsAgree, TablesList}
use Rattle.agreement.proofs.Names.{Alike}
use Rattle.agreement.proofs.Walks.{looked, Ready, Parted, Known, next_same, fresh_ready}
use Rattle.agreement.proofs.Calls.{item_known}
use Rattle.agreement.proofs.Parts.{parts_same}

module _ (s : List ℕ) (n : RecordNumber) (look peek : RecordNumber → Option (List ℕ)) (room : ℕ) where
  part_same : (p : Part) → Alike s n look peek p.file → part_lines s n look p ≡ part_lines s n peek p
  part_same p h = ap (λ (t : Outcome Lent). line.Part p ∷ run_lines t p.runs) (looked s n look peek p.file 0 h)

  parts_lines : (gs : List Given) → AllByRecursion (λ (g : Given). Alike s n look peek g.part.file) gs
      → flat_map (part_lines s n look) (map (λ g. g.part) gs) ≡ flat_map (part_lines s n peek) (map (λ g. g.part) gs)
  parts_lines [] h = refl
  parts_lines (g ∷ gs) h =
      ap (λ (ls : List Line). ls ++ flat_map (part_lines s n look) (map (λ g. g.part) gs)) (part_same g.part h.0)
      ∙ ap (λ (ls : List Line). part_lines s n peek g.part ++ ls) (parts_lines gs h.1)

  contents_same : (o : Option Rest) → Parted s n look peek o → (v : Contents)
      → contents_from room s n look o v ≡ contents_from room s n peek o v
  contents_same None h v = refl
  contents_same (Some l) h v = ap parts_contents (parts_same s n look peek room (Some l) h).is

  item_same : (i : Item) → Known s n look peek i → item_contents room s n look i ≡ item_contents room s n peek i
  item_same i k =
      contents_same i.rest k.rest (value_in (lookup_of s n look i.file 0) i.attribute.offset)
      ∙ ap (λ (t : Outcome Lent). contents_from room s n peek i.rest (value_in t i.attribute.offset))
      (looked s n look peek i.file 0 k.file)

  abbrev line_by : Item → Outcome Lent → Contents → Line
  line_by i t c = line.Attribute (record {
    file = i.file;
    offset = i.attribute.offset;
    ty = i.attribute.ty;
    length = i.attribute.length;
    instance = i.attribute.instance;
    name = name_in t i.attribute.offset;
    contents = c;
  })

  line_same : (i : Item) → Known s n look peek i → item_line room s n look i ≡ item_line room s n peek i
  unfolding item_line
  line_same i k =
      ap (λ (t : Outcome Lent). line_by i t (item_contents room s n look i)) (looked s n look peek i.file 0 k.file)
      ∙ ap (line_by i (lookup_of s n peek i.file 0)) (item_same i k)

  runs_same : (i : Item) → Known s n look peek i → item_runs room s n look i ≡ item_runs room s n peek i
  unfolding item_runs
  runs_same i k =
      ap (λ (t : Outcome Lent). value_lines t (item_contents room s n look i)) (looked s n look peek i.file 0 k.file)
      ∙ ap (value_lines (lookup_of s n peek i.file 0)) (item_same i k)

  after_same : (on un : ℕ → State → List Line) (k : ℕ) (w : State) (a : Answer Item)
      → ((i : Item) → a ≡ gives i → Known s n look peek i)
      → ((i : Item) → a ≡ gives i → (k : ℕ) → on k w ≡ un k w)
      → lines_after room s n look on k w a ≡ lines_after room s n peek un k w a
  after_same on un k w ends h f = refl
  after_same on un k w (refuses r) h f = refl
  after_same on un k w (gives i) h f =
      let known = h i refl in
      let p = parts_same s n look peek room i.rest known.rest in
      let q = parts_of s n look room i.rest in
      ap (λ (l : Line). l ∷ (item_runs room s n look i ++ (flat_map (part_lines s n look) (given_parts q)
      ++ on (k + length q.reads) w))) (line_same i known)
      ∙ ap (λ (ls : List Line). item_line room s n peek i ∷ (ls ++ (flat_map (part_lines s n look) (given_parts q)
      ++ on (k + length q.reads) w))) (runs_same i known)
      ∙ ap (λ (ls : List Line). item_line room s n peek i ∷ (item_runs room s n peek i
      ++ (ls ++ on (k + length q.reads) w))) (parts_lines q.given p.found)
      ∙ ap (λ (ls : List Line). item_line room s n peek i ∷ (item_runs room s n peek i
      ++ (flat_map (part_lines s n peek) (given_parts q) ++ ls))) (f i refl (k + length q.reads))
      ∙ ap (λ (x : Parts). item_line room s n peek i ∷ (item_runs room s n peek i
      ++ (flat_map (part_lines s n peek) (given_parts x) ++ un (k + length x.reads) w))) p.is

  run_same : (f k : ℕ) (w : State) → Ready s n look peek w
      → lines_run room s n look f k w ≡ lines_run room s n peek f k w
  unfolding lines_run
  run_same zero k w h = refl
  run_same (suc f) k w h =
      let x = next_same s n look peek w h in
      let l = next_of s n look w in
      after_same (lines_run room s n look f) (lines_run room s n peek f) (k + length l.reads) l.left l.answer
      (λ i p. (x.comes i p).known)
      (λ i p j. run_same f j l.left (x.comes i p).ready)
      ∙ ap (λ (l : Left). lines_after room s n peek (lines_run room s n peek f) (k + length l.reads) l.left l.answer)
      x.is

  walk_same : Agree s n look peek
      → walk_lines room s n look 0 (fresh_of s) ≡ walk_lines room s n peek 0 (fresh_of s)
  unfolding walk_lines
  walk_same a = run_same _ 0 (fresh_of s) (fresh_ready s n look peek a)

  -- what was opened is the record that was lent
  opened_same : Agree s n look peek → (o : Outcome Lent) → ((b : Lent) → o ≡ gives b → b ≡ lent s n)
      → opened_by room look o ≡ opened_by room peek o
  unfolding opened_by
  opened_same a (refuses r) h = refl
  opened_same a (gives b) h =
      subst (λ (x : Lent). walk_lines room x.bytes x.number look 0 (fresh_of x.bytes)
      ≡ walk_lines room x.bytes x.number peek 0 (fresh_of x.bytes)) (sym (h b refl)) (walk_same a)

pub parts_agree : PartsAgree
parts_agree s n look peek a i c =
    let k = item_known s n look peek a i c in
    (λ place. looked s n look peek i.file place k.file, λ room. (parts_same s n look peek room i.rest k.rest).is)

pub listings_agree : ListingsAgree
unfolding listing_by
listings_agree s n look peek a room size =
    ap (λ (ls : List Line). line.Record n (length s) ∷ ls)
    (opened_same s n look peek room a (open_in s n size) (λ b e. opened_in_lent s n b size (sym e)))

-- the listing of a table is one by its own lookup
opened_in_table : (room : ℕ) (t : List ℕ) (o : Outcome Lent)
    → opened_lines room t o ≡ opened_by room (record_of t) o
unfolding opened_lines opened_by
opened_in_table room t (gives b) = refl
opened_in_table room t (refuses r) = refl

based : (t s : List ℕ) (n : RecordNumber) (h : TableHeader) (room : ℕ)
    → base_lines room t h (Some (record { number = n; bytes = s })) ≡ listing_by room (record_of t) h.size s n
unfolding base_lines listing_by
based t s n h room =
    ap (λ (ls : List Line). line.Record n (length s) ∷ ls) (opened_in_table room t (open_in s n h.size))

pub tables_list : TablesList
unfolding checked_lines table_lines numbered_lines found_lines
tables_list t s n h peek room e a =
    let same = based t s n h room ∙ listings_agree s n (record_of t) peek a room h.size in (
      λ b. ap (checked_lines room t) e ∙ ap (base_lines room t h) b ∙ same,
      λ b. ap (numbered_lines room t n) e ∙ ap (found_lines room t h n) b ∙ same,
    )
