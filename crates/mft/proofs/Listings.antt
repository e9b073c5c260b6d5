-- What a table tells of its base record is what every lookup tells that agrees with it.
use Rattle.std.specs.Prelude.{ℕ, ◌≡◌, List, ◌++◌, map, length, slice_get, eqb, ltb, Bool, true, false}
use Rattle.std.specs.Prelude.{Option, Some, None}
use Rattle.std.specs.Prelude.{Result, IfOk}
use Rattle.std.specs.Io.KnownBytes.{Appends}
use Rattle.std.proofs.Common.{refl, sym, ap, subst, ◌∙◌, inr}
use Rattle.fields.specs.Pick.{pick}
use Rattle.fields.specs.Length.{good_length}
use Rattle.fields.specs.Answer.{Outcome, gives, refuses}
use Rattle.fields.specs.Told.{told_as}
use Rattle.fields.specs.declared.RecordNumber.{RecordNumber}
use Rattle.fields.specs.declared.Refusal.{Refusal}
use Rattle.record.specs.Header.{used_size}
use Rattle.record.specs.Open.{Lent, lent, is_file, check_used, check_file, open_of, open_in}
use Rattle.table.specs.Held.{record_of}
use Rattle.lines.specs.Listing.{most_parts}
use Rattle.lines.specs.Went.{StopsWithin}
use Rattle.lines.specs.declared.ending.Ending.{Ending}
use Rattle.lines.specs.declared.line.Line as listing
use Rattle.report.specs.Ending.{ending_of}
use Rattle.report.specs.Form.{lines_text}
use Rattle.report.specs.declared.line.Line.{Line}
use Rattle.report.specs.declared.line.Line.TheVariants.{Listed}
use Rattle.agreement.specs.Agree.{Agree}
use Rattle.agreement.specs.Laws.{TablesList}
use Rattle.segments.specs.Laws.{HazardsAgree}
use Rattle.filename.specs.Laws.{NamesAgree, FoundAgree}
use Rattle.filename.specs.Names.{found_of}
use Rattle.filename.specs.declared.find.Found.{Found}
use Rattle.items.specs.OfFile.{of_file}
use Rattle.items.specs.Told.{shown_base}
use Rattle.items.specs.declared.File.{File}
use Rattle.naming.specs.Line.{file_line}
use Rattle.command.specs.Asked.{asked_lines}
use Rattle.command.specs.Reason.{ending_reason}
use Rattle.command.specs.declared.asked.Asked.TheVariants as asked
use Rattle.command.specs.declared.reason.Reason.{Reason}
use Rattle.mft.specs.Listing.{lines_by, name_in, name_by, hazards_in, hazards_by, text_by}
use Rattle.mft.specs.Base.{ListsBase, FailsBase}
use Rattle.mft.specs.Made.{IsBase}
use Rattle.mft.specs.Opened.{IsFile}
use Rattle.mft.specs.Seek.{found_in}
use Rattle.mft.specs.declared.listing.Heard.{Heard}
use Rattle.mft.specs.declared.manner.Manner.{Manner}

-- a record that opens is the one that was lent
picked : (c : Bool) (e : Refusal) (o : Outcome Lent) (x r : Lent) → ((q : Lent) → o ≡ gives q → q ≡ x)
    → pick c (refuses e) o ≡ gives r → r ≡ x
picked true e o x r f p = let q : ⊥ = cc in absurd q
picked false e o x r f p = f r p

kept : (c : Bool) (e : Refusal) (o : Outcome Lent) (x r : Lent) → ((q : Lent) → o ≡ gives q → q ≡ x)
    → pick c o (refuses e) ≡ gives r → r ≡ x
kept true e o x r f p = f r p
kept false e o x r f p = let q : ⊥ = cc in absurd q

used : (s : List ℕ) (n : RecordNumber) (r : Lent) → check_used s n ≡ gives r → r ≡ lent s n
unfolding check_used
used s n r p =
    picked (ltb (length s) (used_size s)) _ (gives (lent s n)) (lent s n) r
    (λ q e. let k : lent s n ≡ q = cc in sym k) p

filed : (s : List ℕ) (n : RecordNumber) (r : Lent) → check_file s n ≡ gives r → r ≡ lent s n
unfolding check_file
filed s n r p = kept (is_file s) _ (check_used s n) (lent s n) r (used s n) p

pub opened : (s : List ℕ) (n : RecordNumber) (r : Lent) → open_of s n ≡ gives r → r ≡ lent s n
unfolding open_of
opened s n r p = kept (good_length (length s)) _ (check_file s n) (lent s n) r (filed s n) p

pub opened_in : (s : List ℕ) (n : RecordNumber) (size : ℕ) (r : Lent) → open_in s n size ≡ gives r → r ≡ lent s n
unfolding open_in
opened_in s n size r p = kept (eqb (length s) size) _ (open_of s n) (lent s n) r (opened s n) p

module _ (t : List ℕ) (size : ℕ) (n : RecordNumber) (b : List ℕ) (peek : RecordNumber → Option (List ℕ))
    (base : IsBase t size n b) (agree : Agree b n (record_of t) peek) where
  pub same_lines : TablesList → asked_lines (asked.Listing None) t ≡ lines_by size b n peek
  unfolding asked_lines
  same_lines tables =
      let (h, passes, sized) = base.0 in
      ap (map (λ (k : listing.Line). Listed k))
      ((tables t b n h peek most_parts passes agree).0 base.1)
      ∙ ap (λ (k : ℕ). lines_by k b n peek) sized

  name_opened : NamesAgree → (o : Outcome Lent) → ((r : Lent) → o ≡ gives r → r ≡ lent b n)
      → name_in size b n (record_of t) o ≡ name_in size b n peek o
  name_opened names (refuses e) is = refl
  name_opened names (gives r) is =
      rw (is r refl) (ap (λ (ms : List (List ℕ)). slice_get ms 0) (names b n (record_of t) peek agree))

  pub same_name : NamesAgree → (m : Manner) → name_by size b n (record_of t) m ≡ name_by size b n peek m
  same_name names m =
      ap (λ (o : Option (List ℕ)). pick m.named o None)
      (name_opened names (open_in b n size) (opened_in b n size))

  -- the line in front, and the lines of the table
  pub same_text : TablesList → NamesAgree → (m : Manner) (line : List ℕ) (name : Option (List ℕ))
      → line ≡ file_line m.form n name → name ≡ name_by size b n (record_of t) m
      → line ++ lines_text m.form (asked_lines (asked.Listing None) t) ≡ text_by size b n peek m
  same_text tables names m line name is same =
      ap (λ (k : List ℕ). k ++ lines_text m.form (asked_lines (asked.Listing None) t))
      (is ∙ ap (file_line m.form n) (same ∙ same_name names m))
      ∙ ap (λ (ls : List Line). file_line m.form n (name_by size b n peek m) ++ lines_text m.form ls)
      (same_lines tables)

  -- how the lines of the table end
  pub ends : TablesList → (reason : Option Reason)
      → ((e : Ending) × (ending_of (asked_lines (asked.Listing None) t) ≡ Some e)
      × (reason ≡ ending_reason (asked.Listing None) t e))
      → (u : List ℕ) × ((e : Ending) × (ending_of (lines_by size b n peek) ≡ Some e)
      × (reason ≡ ending_reason (asked.Listing None) u e))
  ends tables reason (e, is, why) = (t, (e, sym (ap ending_of (same_lines tables)) ∙ is, why))

  hazards_opened : HazardsAgree → (o : Outcome Lent) → ((r : Lent) → o ≡ gives r → r ≡ lent b n)
      → hazards_in size b n (record_of t) o ≡ hazards_in size b n peek o
  hazards_opened hazards (refuses e) is = refl
  hazards_opened hazards (gives r) is = rw (is r refl) (hazards b n (record_of t) peek agree)

  pub same_hazards : HazardsAgree → hazards_by size b n (record_of t) ≡ hazards_by size b n peek
  same_hazards hazards = hazards_opened hazards (open_in b n size) (opened_in b n size)

  found_opened : FoundAgree → (name : List ℕ) (o : Outcome Lent) → ((r : Lent) → o ≡ gives r → r ≡ lent b n)
      → found_in (record_of t) name o ≡ found_in peek name o
  found_opened found name (refuses e) is = refl
  found_opened found name (gives r) is = rw (is r refl) (found b n (record_of t) peek agree name)

  pub same_found : FoundAgree → (name : List ℕ)
      → found_in (record_of t) name (open_in b n size) ≡ found_in peek name (open_in b n size)
  same_found found name = found_opened found name (open_in b n size) (opened_in b n size)

  -- what is known of a file that opens
  pub found_as : FoundAgree → (name : List ℕ) (f : File) → gives (shown_base f) ≡ open_in b n size
      → f.table.bytes.now ≡ t → (found : Found) → found ≡ of_file found_of f name
      → found_in peek name (open_in b n size) ≡ found
  found_as agreed name f is table found told =
      sym
      (told ∙ ap (λ (k : List ℕ). found_of f.base.bytes.now f.base.number (record_of k) name) table
      ∙ ap (found_in (record_of t) name) is
      ∙ same_found agreed name)

-- a table's file, as it is opened and named
module _ (t : List ℕ) (n : RecordNumber) (m : Manner) (f : Result File Refusal)
    (opens : (size : ℕ) (k : RecordNumber) (b : List ℕ) → IsBase t size k b → told_as shown_base f ≡ open_in b k size)
    (table : IfOk f (λ g. g.table.bytes.now ≡ t)) (tables : TablesList) (names : NamesAgree) (line : List ℕ)
    (name : Option (List ℕ)) (is : line ≡ file_line m.form n name)
    (named : (size : ℕ) (b : List ℕ) (k : RecordNumber) (u : List ℕ) → IsFile f size b k u
    → name ≡ name_by size b k (record_of u) m) (old new : Option (List ℕ)) where
  pub text_is : (size : ℕ) (b : List ℕ) (peek : RecordNumber → Option (List ℕ)) → IsBase t size n b
      → Agree b n (record_of t) peek
      → line ++ lines_text m.form (asked_lines (asked.Listing None) t) ≡ text_by size b n peek m
  text_is size b peek base agree =
      same_text t size n b peek base agree tables names m line name is
      (named size b n t (opens size n b base, table))

  pub fails_base : StopsWithin old new (line ++ lines_text m.form (asked_lines (asked.Listing None) t))
      → FailsBase m n t old new
  fails_base stops = λ size b peek base agree. subst (StopsWithin old new) (text_is size b peek base agree) stops

  pub lists_base : (heard : Heard) → HazardsAgree
      → ((size : ℕ) (b : List ℕ) (k : RecordNumber) (u : List ℕ) → IsFile f size b k u
      → heard.hazards.items ≡ hazards_by size b k (record_of u))
      → Appends old new (line ++ lines_text m.form (asked_lines (asked.Listing None) t))
      × ((e : Ending) × (ending_of (asked_lines (asked.Listing None) t) ≡ Some e)
      × (heard.reason ≡ ending_reason (asked.Listing None) t e))
      → ListsBase m n t old new heard
  lists_base heard hazards same (wrote, how) =
      inr
      (λ size b peek base agree. (
        subst (Appends old new) (text_is size b peek base agree) wrote,
        same size b n t (opens size n b base, table) ∙ same_hazards t size n b peek base agree hazards,
        ends t size n b peek base agree tables heard.reason how,
      ))
