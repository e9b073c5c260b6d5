-- The calls of a walk from a state: the call there, and those behind it.
use Rattle.std.proofs.Common.{ℕ, zero, suc, ◌-◌, ◌<◌, ◌≡◌, List, [], ◌∷◌, length, refl, sym, ap, ◌∙◌, arith}
use Rattle.std.specs.Prelude.{Option}
use Rattle.fields.specs.Answer.{Answer, gives, ends, refuses}
use Rattle.fields.specs.Told.{told_step}
use Rattle.fields.specs.Trail.{trail}
use Rattle.fields.specs.declared.RecordNumber.{RecordNumber}
use Rattle.fields.specs.declared.Refusal.{Refusal}
use Rattle.list.specs.Entry.{entry_of}
use Rattle.record.proofs.Trails as trails
use Rattle.items.specs.State.{list_at, rest_of, weight}
use Rattle.items.specs.Items.{Left, entries_of, next_of}
use Rattle.items.specs.Walked.{Reported, told_next, report_of}
use Rattle.items.specs.Calls.{onward, calls, calls_from, answered, items_in, items_from}
use Rattle.items.specs.Laws.{Called, given_by, CallsGiveItems, CallsEnd, EntriesEnd}
use Rattle.items.specs.declared.walk.Item.{Item}
use Rattle.items.specs.declared.walk.State.{State}
use Rattle.items.specs.declared.walk.Walked.{Walked}
use Rattle.items.proofs.Steps.{entry_moves}
use Rattle.items.proofs.Falls.{falls}

module _ (s : List ℕ) (n : RecordNumber) (look : RecordNumber → Option (List ℕ)) where
  onward-same : (f g : ℕ) (w : State) (k : ℕ) → ((v : State) → weight (length s) v < k
      → calls s n look f v ≡ calls s n look g v)
      → (a : Answer Item) → ((i : Item) → a ≡ gives i → weight (length s) w < k)
      → onward s n look (calls s n look f) w a ≡ onward s n look (calls s n look g) w a
  unfolding onward
  onward-same f g w k same (gives i) h = same w (h i refl)
  onward-same f g w k same ends h = refl
  onward-same f g w k same (refuses r) h = refl

  -- any two numbers of calls that suffice give the same
  pub enough : (f g : ℕ) (w : State) → weight (length s) w < f → weight (length s) w < g
      → calls s n look f w ≡ calls s n look g w
  unfolding calls
  enough zero g w l k = absurd (omega arith)
  enough (suc f) zero w l k = absurd (omega arith)
  enough (suc f) (suc g) w l k =
      let x = next_of s n look w in
      ap (λ (t : List Left). x ∷ t)
      (onward-same f g x.left (weight (length s) w) (λ v u. enough f g v (omega arith) (omega arith)) x.answer
      (falls s n look w))

  onward-from : (w v : State) (a : Answer Item) → ((i : Item) → a ≡ gives i
      → weight (length s) v < weight (length s) w)
      → onward s n look (calls s n look (weight (length s) w)) v a ≡ onward s n look (calls_from s n look) v a
  unfolding onward calls_from
  onward-from w v (gives i) h = enough _ _ v (h i refl) (omega arith)
  onward-from w v ends h = refl
  onward-from w v (refuses r) h = refl

  -- the first call, and those behind it
  pub called : (w : State) → calls_from s n look w ≡ next_of s n look w ∷ onward s n look (calls_from s n look)
      (next_of s n look w).left (next_of s n look w).answer
  unfolding calls_from calls
  called w = ap (λ (t : List Left). next_of s n look w ∷ t) (onward-from w (next_of s n look w).left
      (next_of s n look w).answer (falls s n look w))

  -- x is what a call reports that gives l
  module _ (x : Reported) where
    then_item : (l : Left) (i : Item) → x ≡ report_of l → gives i ≡ x.answer
        → items_in (l ∷ onward s n look (calls_from s n look) l.left l.answer) ≡ gives i ∷ items_from s n look x.left
    unfolding items_from items_in answered onward report_of
    then_item l i e g =
        let a : l.answer ≡ gives i = sym (g ∙ ap (λ (x : Reported). x.answer) e) in
        let b : l.left ≡ x.left = sym (ap (λ (x : Reported). x.left) e) in
        rw (a, b) refl

    last_end : (l : Left) → x ≡ report_of l → ends ≡ x.answer
        → items_in (l ∷ onward s n look (calls_from s n look) l.left l.answer) ≡ []
    unfolding items_in answered report_of
    last_end l e g = let a : l.answer ≡ ends = sym (g ∙ ap (λ (x : Reported). x.answer) e) in rw a refl

    last_refusal : (l : Left) (r : Refusal) → x ≡ report_of l → refuses r ≡ x.answer
        → items_in (l ∷ onward s n look (calls_from s n look) l.left l.answer) ≡ refuses r ∷ []
    unfolding items_in answered report_of
    last_refusal l r e g = let a : l.answer ≡ refuses r = sym (g ∙ ap (λ (x : Reported). x.answer) e) in rw a refl

    module _ (w : State) (e : x ≡ report_of (next_of s n look w)) where
      pub item_next : (i : Item) → gives i ≡ x.answer → items_from s n look w ≡ gives i ∷ items_from s n look x.left
      unfolding items_from
      item_next i g = ap items_in (called w) ∙ then_item (next_of s n look w) i e g

      pub end_next : ends ≡ x.answer → items_from s n look w ≡ []
      unfolding items_from
      end_next g = ap items_in (called w) ∙ last_end (next_of s n look w) e g

      pub refusal_next : (r : Refusal) → refuses r ≡ x.answer → items_from s n look w ≡ refuses r ∷ []
      unfolding items_from
      refusal_next r g = ap items_in (called w) ∙ last_refusal (next_of s n look w) r e g

-- a run of calls gives what the walk gives, and leaves the rest of it
module _ (s : List ℕ) (n : RecordNumber) (look : RecordNumber → Option (List ℕ)) where
  pub then_rest : (w : State) (x : Reported) → x ≡ report_of (next_of s n look w) → (a : Answer Item) → a ≡ x.answer
      → answered a (items_from s n look x.left) ≡ items_from s n look w
  unfolding answered
  then_rest w x e (gives i) g = sym (item_next s n look x w e i g)
  then_rest w x e ends g = sym (end_next s n look x w e g)
  then_rest w x e (refuses r) g = sym (refusal_next s n look x w e r g)

  given_so : (w : State) (rs : List Walked) → Called s n look w rs → given_by s n look w rs ≡ items_from s n look w
  unfolding given_by
  given_so w [] c = refl
  given_so w (r ∷ rs) c =
      ap (answered (told_step r.answer)) (given_so r.left rs c.1)
      ∙ then_rest w (told_next r) c.0 (told_step r.answer) refl

pub calls_give_items : CallsGiveItems
calls_give_items = given_so

pub calls_end : CallsEnd
unfolding calls_from
calls_end s n look w f l = enough s n look f (suc (weight (length s) w)) w l (omega arith)

pub entries_end : EntriesEnd
unfolding entries_of trail
entries_end s n from to f l =
    trails.enough (λ at. entry_of (rest_of s (list_at at to)) n at) (λ e. e.length) to (entry_moves s n to) f
    (suc (to - from)) from l (omega arith)

pub ruleset turns = (item_next, end_next, refusal_next)
