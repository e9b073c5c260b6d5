-- A listing among reports has the text of the listing, and ends as it does.
use Rattle.std.proofs.Common.{ℕ, ◌≡◌, List, [], ◌∷◌, map, refl, sym, subst, ◌∙◌}
use Rattle.std.specs.Prelude.{Option, Some, None, Result, Ok, Err, IfOk, OnOk, OnErr}
use Rattle.std.specs.Io.KnownBytes.{Appends}
use Rattle.std.proofs.lemmas.List.Folds.{flat_map-map}
use Rattle.lines.specs.Line as listing_text
use Rattle.lines.specs.Ending as listings
use Rattle.lines.specs.Ending.{said_last}
use Rattle.lines.specs.Went.{StopsWithin}
use Rattle.lines.specs.declared.line.Line as listing
use Rattle.lines.specs.declared.ending.Ending.{Ending}
use Rattle.report.specs.Form.{form_text, lines_text}
use Rattle.report.specs.Ending.{says, ending_of}
use Rattle.report.specs.declared.line.Line.{Line}
use Rattle.report.specs.declared.line.Line.TheVariants as line
use Rattle.report.specs.declared.form.Form.TheVariants as form

abbrev listed : List listing.Line → List Line
listed ls = map (λ x. line.Listed x) ls

text_same : (ls : List listing.Line) → lines_text form.Text (listed ls) ≡ listing_text.lines_text ls
text_same ls = flat_map-map (form_text form.Text) (λ x. line.Listed x) ls

said_same : (ls : List listing.Line) (o : Option Ending)
    → said_last says o (listed ls) ≡ said_last listings.says o ls
unfolding said_last
said_same [] o = refl
said_same (l ∷ ls) o = said_same ls (listings.says l)

pub ok_alike : {X E : Type 0} (ls : List listing.Line) (old new : Option (List ℕ)) (r : Result X E)
    → OnOk r (Appends old new (listing_text.lines_text ls))
    → OnOk r (Appends old new (lines_text form.Text (map (λ x. line.Listed x) ls)))
ok_alike ls old new r h = subst (λ (x : List ℕ). OnOk r (Appends old new x)) (sym (text_same ls)) h

pub err_alike : {X E : Type 0} (ls : List listing.Line) (old new : Option (List ℕ)) (r : Result X E)
    → OnErr r (StopsWithin old new (listing_text.lines_text ls))
    → OnErr r (StopsWithin old new (lines_text form.Text (map (λ x. line.Listed x) ls)))
err_alike ls old new r h = subst (λ (x : List ℕ). OnErr r (StopsWithin old new x)) (sym (text_same ls)) h

pub ending_alike : {E : Type 0} (ls : List listing.Line) (r : Result Ending E)
    → IfOk r (λ e. listings.ending_of ls ≡ Some e)
    → IfOk r (λ e. ending_of (map (λ x. line.Listed x) ls) ≡ Some e)
ending_alike ls (Ok e) h = said_same ls None ∙ h
ending_alike ls (Err x) h = tt

pub ruleset alike = (ok_alike, err_alike, ending_alike)
