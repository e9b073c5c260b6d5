-- Calls from a walk that is ready, and their items.
use Rattle.std.proofs.Common.{ℕ, zero, suc, ◌≡◌, List, [], ◌∷◌, length, refl, ap, ◌∙◌}
use Rattle.std.specs.Prelude.{Option, All, Contains}
use Rattle.std.proofs.lemmas.List.Elements.{All-nil, All-cons, All-contains}
use Rattle.fields.specs.Answer.{Outcome, Answer, gives, ends, refuses}
use Rattle.fields.specs.declared.RecordNumber.{RecordNumber}
use Rattle.items.specs.State.{fresh_of, weight}
use Rattle.items.specs.Items.{Left, next_of}
use Rattle.items.specs.Calls.{onward, behind_call, calls, calls_from, answered, items_in, items_from, items_of}
use Rattle.items.specs.First.{first_in, first_of}
use Rattle.items.specs.declared.walk.Item.{Item}
use Rattle.items.specs.declared.walk.State.{State}
use Rattle.agreement.specs.Agree.{Agree}
use Rattle.agreement.specs.Laws.{CallsAgree, FirstsAgree}
use Rattle.agreement.proofs.Walks.{Ready, Known, next_same, fresh_ready}

module _ (s : List ℕ) (n : RecordNumber) (look peek : RecordNumber → Option (List ℕ)) where
  goes_on : (j k : State → List Left) (w : State) (a : Answer Item) → ((i : Item) → a ≡ gives i → j w ≡ k w)
      → onward s n look j w a ≡ onward s n peek k w a
  unfolding onward
  goes_on j k w (gives i) h = h i refl
  goes_on j k w ends h = refl
  goes_on j k w (refuses r) h = refl

  calls_same : (f : ℕ) (w : State) → Ready s n look peek w → calls s n look f w ≡ calls s n peek f w
  unfolding calls
  calls_same zero w h = refl
  calls_same (suc f) w h =
      let x = next_same s n look peek w h in
      let l = next_of s n look w in
      ap (λ (ls : List Left). l ∷ ls)
      (goes_on (calls s n look f) (calls s n peek f) l.left l.answer
      (λ i p. calls_same f l.left (x.comes i p).ready))
      ∙ ap (behind_call s n peek (calls s n peek f)) x.is

  -- an item that a call gives is known
  IsKnown : Outcome Item → Type 0
  IsKnown (gives i) = Known s n look peek i
  IsKnown (refuses r) = Unit {0}

  gave : (a : Answer Item) (xs : List (Outcome Item)) → ((i : Item) → a ≡ gives i → Known s n look peek i)
      → ((i : Item) → a ≡ gives i → All IsKnown xs) → All IsKnown (answered a xs)
  unfolding answered IsKnown
  gave (gives i) xs h k = All-cons IsKnown (gives i) xs (h i refl) (k i refl)
  gave ends xs h k = All-nil IsKnown
  gave (refuses r) xs h k = All-cons IsKnown (refuses r) [] tt (All-nil IsKnown)

  behind : (k : State → List Left) (w : State) (a : Answer Item)
      → ((i : Item) → a ≡ gives i → All IsKnown (items_in (k w)))
      → (i : Item) → a ≡ gives i → All IsKnown (items_in (onward s n look k w a))
  unfolding onward
  behind k w (gives j) h i p = h i p
  behind k w ends h i p = absurd (cc)
  behind k w (refuses r) h i p = absurd (cc)

  items_known : (f : ℕ) (w : State) → Ready s n look peek w → All IsKnown (items_in (calls s n look f w))
  unfolding calls items_in
  items_known zero w h = All-nil IsKnown
  items_known (suc f) w h =
      let x = next_same s n look peek w h in
      let l = next_of s n look w in
      gave l.answer _ (λ i p. (x.comes i p).known)
      (behind (calls s n look f) l.left l.answer (λ i p. items_known f l.left (x.comes i p).ready))

  pub item_known : Agree s n look peek → (i : Item) → Contains (items_of s n look) (gives i) → Known s n look peek i
  unfolding items_of items_from calls_from IsKnown
  item_known a i c =
      All-contains IsKnown (items_of s n look) (gives i)
      (items_known (suc (weight (length s) (fresh_of s))) (fresh_of s) (fresh_ready s n look peek a)) c

pub calls_agree : CallsAgree
unfolding calls_from
calls_agree s n look peek a = calls_same s n look peek _ (fresh_of s) (fresh_ready s n look peek a)

pub firsts_agree : FirstsAgree
unfolding first_of
firsts_agree s n look peek a ty = ap (first_in n ty) (calls_agree s n look peek a)
