-- Every report ends: its last line says how.
use Rattle.std.proofs.Common.{ℕ, ◌≡◌, List, [], ◌∷◌, ◌++◌, map, length, refl, sym, ap, subst, ◌∙◌, append-nil}
use Rattle.std.specs.Prelude.{Option, Some, None}
use Rattle.fields.specs.Answer.{Outcome, gives, refuses}
use Rattle.fields.specs.declared.Cause.TheVariants.{BadTable}
use Rattle.fields.specs.declared.RecordNumber.{RecordNumber}
use Rattle.table.specs.Check.{table_of}
use Rattle.table.specs.Rows.{Filed, filed_of}
use Rattle.table.specs.declared.check.TableHeader.{TableHeader}
use Rattle.record.specs.Open.{Lent, open_of}
use Rattle.record.specs.Walk.{attributes_of}
use Rattle.record.specs.declared.layout.Attribute.{Attribute}
use Rattle.parts.specs.declared.Part.{Part}
use Rattle.lines.specs.Ending as listings
use Rattle.lines.specs.Finished as ended
use Rattle.lines.specs.Raw.{raw_line, raw_runs}
use Rattle.lines.specs.Numbered.{table_listing, record_listing}
use Rattle.lines.specs.declared.line.Line as listing
use Rattle.lines.specs.declared.ending.Ending.{Ending}
use Rattle.lines.specs.declared.ending.Ending.TheVariants as ending
use Rattle.lines.proofs.Endings.{table_finishes, record_finishes}
use Rattle.lines.specs.Ending.{said_last}
use Rattle.report.specs.Ending.{says}
use Rattle.report.specs.Finished.{Finished}
use Rattle.report.specs.Rows.{row_of, rows_lines, rows_report}
use Rattle.report.specs.Record.{walk_lines, record_lines, record_report}
use Rattle.report.specs.Listing.{table_report, numbered_report}
use Rattle.report.specs.Rest.{rest}
use Rattle.report.specs.declared.line.Line.{Line}
use Rattle.report.specs.declared.line.Line.TheVariants as line
use Rattle.report.specs.declared.made.Lines.{Lines}

rows_said : (fs : List Filed) (o : Option Ending) (k : ℕ)
    → said_last says o (map row_of fs ++ line.Rows k ∷ []) ≡ Some ending.Whole
unfolding said_last
rows_said [] o k = refl
rows_said (f ∷ fs) o k = rows_said fs (says (row_of f)) k

-- behind lines of a listing the rest ends as it does alone, whatever they say
behind : (ls : List listing.Line) (ms : List Line) (o : Option Ending)
    → said_last says o (map (λ x. line.Listed x) ls ++ ms) ≡ said_last says (said_last listings.says o ls) ms
unfolding said_last
behind [] ms o = refl
behind (l ∷ ls) ms o = behind ls ms (listings.says l)

walk_said : (s : List ℕ) (n : RecordNumber) (hs : List (Outcome Attribute)) (o : Option Ending)
    → (e : Ending) × (said_last says o (walk_lines s n hs) ≡ Some e)
unfolding said_last walk_lines
walk_said s n [] o = (ending.Whole, refl)
walk_said s n (gives h ∷ hs) o =
    let p = walk_said s n hs (said_last listings.says (listings.says (raw_line s n h)) (raw_runs s n h)) in
    (p.0, behind (raw_runs s n h) (walk_lines s n hs) None ∙ p.1)
walk_said s n (refuses r ∷ hs) o = (ending.Stopped r.cause, refl)

rows_finish : (t : List ℕ) (a : Outcome TableHeader) → Finished (rows_lines t a)
unfolding rows_lines said_last
rows_finish t (gives h) = record { ending = ending.Whole; told = rows_said (filed_of t h) None h.count }
rows_finish t (refuses r) = record { ending = ending.Refused BadTable; told = refl }

opened_finishes : (a : Outcome Lent) → Finished (record_lines a)
unfolding record_lines said_last
opened_finishes (gives r) =
    let p = walk_said r.bytes r.number (attributes_of r.bytes r.number) None in
    record { ending = p.0; told = p.1 }
opened_finishes (refuses r) = record { ending = ending.Refused r.cause; told = refl }

as_lines : (ls ms : List Line) → ls ≡ ms → Finished ms → Finished ls
as_lines ls ms e f = subst Finished (sym e) f

-- lines that are still to come of one of these
pub rows_end : (ps : List Part) (l : Lines) (t : List ℕ) → rest ps l ≡ rows_report t → Finished (rest ps l)
rows_end ps l t e = as_lines _ _ e (rows_finish t (table_of t))

pub record_ends : (ps : List Part) (l : Lines) (s : List ℕ) (n : RecordNumber) → rest ps l ≡ record_report s n
    → Finished (rest ps l)
record_ends ps l s n e = as_lines _ _ e (opened_finishes (open_of s n))

-- a listing among reports ends as it does alone
listed_said : (ls : List listing.Line) (o : Option Ending)
    → said_last says o (map (λ x. line.Listed x) ls) ≡ said_last listings.says o ls
unfolding said_last
listed_said ls o =
    ap (said_last says o) (sym (append-nil (map (λ x. line.Listed x) ls))) ∙ behind ls [] o

listed_finishes : (ls : List listing.Line) → ended.Finished ls → Finished (map (λ x. line.Listed x) ls)
listed_finishes ls f = record { ending = f.ending; told = listed_said ls None ∙ f.told }

pub table_ends : (ps : List Part) (l : Lines) (t : List ℕ) → rest ps l ≡ table_report (length ps) t
    → Finished (rest ps l)
table_ends ps l t e = as_lines _ _ e
    (listed_finishes (table_listing (length ps) t) (table_finishes (length ps) t))

pub numbered_ends : (ps : List Part) (l : Lines) (t : List ℕ) (n : RecordNumber)
    → rest ps l ≡ numbered_report (length ps) t n → Finished (rest ps l)
numbered_ends ps l t n e = as_lines _ _ e
    (listed_finishes (record_listing (length ps) t n) (record_finishes (length ps) t n))
