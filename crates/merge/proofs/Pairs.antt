-- A pair of tables, and what going over both gave so far.
use Rattle.std.proofs.Common.{◌+◌, ◌≤◌, ◌≡◌, List, ◌++◌, map, length, sym, ap, ap₂, ◌∙◌, subst}
use Rattle.std.proofs.Common.{All, arith}
use Rattle.std.proofs.lemmas.List.{length-map}
use Rattle.std.proofs.lemmas.Simd.{map-map}
use Rattle.itertools.proofs.KMergeLemmas.{All-of-map}
use Rattle.std.specs.Prelude.{Bool}
use Rattle.table.specs.Held.{held_of}
use Rattle.table.specs.Rows.{Filed, filed_of, told_filed}
use Rattle.table.proofs.Sound.{Sound, sound}
use Rattle.table.proofs.Holds.{held-length}
use Rattle.written.specs.Laws.{Rising}
use Rattle.merge.specs.Rows.{merged, clash}
use Rattle.merge.specs.Merge.{place_in}
use Rattle.merge.specs.Pass.{rows_of_pair}
use Rattle.merge.specs.declared.Pair.{Pair}
use Rattle.merge.proofs.Walk.{Item, Step, held, row_of, first_differing, number_of_item}
use Rattle.merge.proofs.Walk.{rows_walked, clash_walked, OfSecond, second_walked, few_steps}
use Rattle.merge.proofs.Sources.{Came}
use Rattle.merge.proofs.Tables.{held_of_filed, filed_held, held_rising, all_placed}

module _ (p : Pair) where
  abbrev pub ours_of : List Filed
  ours_of = filed_of p.first.bytes.now p.first.header

  abbrev pub theirs_of : List Filed
  theirs_of = filed_of p.second.bytes.now p.second.header

  -- these steps came, and more behind them
  abbrev pub CameOf : Bool → List Step → Type 0
  CameOf = Came ours_of theirs_of

  first_sound : Sound p.first.bytes.now p.first.header
  first_sound = sound p.first.bytes.now p.first.header p.first.checked

  second_sound : Sound p.second.bytes.now p.second.header
  second_sound = sound p.second.bytes.now p.second.header p.second.checked

  items_held : (fs : List Filed) (xs : List Item) → map told_filed xs ≡ fs → map held_of_filed fs ≡ map held xs
  items_held fs xs e = ap (map held_of_filed) (sym e) ∙ map-map held_of_filed told_filed xs

  -- a row whose place is where the table has it
  abbrev pub IsPlaced : Item → Type 0
  IsPlaced y = place_in p.second.bytes.now y.0.number ≡ y.0.place

  module _ (whole : Bool) (steps : List Step) (c : CameOf whole steps) where
    ours_held : held_of p.first.bytes.now ≡ map held c.ours
    ours_held = sym (filed_held first_sound) ∙ items_held ours_of c.ours c.first

    theirs_held : held_of p.second.bytes.now ≡ map held c.theirs
    theirs_held = sym (filed_held second_sound) ∙ items_held theirs_of c.theirs c.second

    pub rows_came : rows_of_pair p ≡ map row_of (steps ++ c.more)
    rows_came =
        ap₂ merged ours_held theirs_held
        ∙ rows_walked 0 0 c.ours c.theirs (subst (Rising 0) ours_held (held_rising first_sound))
        (subst (Rising 0) theirs_held (held_rising second_sound))
        ∙ ap (map row_of) c.are

    pub clash_came : clash (held_of p.first.bytes.now) (held_of p.second.bytes.now)
        ≡ number_of_item (first_differing (steps ++ c.more))
    clash_came =
        ap₂ clash ours_held theirs_held
        ∙ clash_walked 0 0 c.ours c.theirs (subst (Rising 0) ours_held (held_rising first_sound))
        (subst (Rising 0) theirs_held (held_rising second_sound))
        ∙ ap (λ (ss : List Step). number_of_item (first_differing ss)) c.are

    pub placed_came : All (OfSecond IsPlaced) (steps ++ c.more)
    placed_came =
        subst (All (OfSecond IsPlaced)) c.are
        (second_walked IsPlaced c.ours c.theirs
        (All-of-map (λ (f : Filed). place_in p.second.bytes.now f.row.number ≡ f.row.place) told_filed c.theirs
        (subst (All (λ (f : Filed). place_in p.second.bytes.now f.row.number ≡ f.row.place)) (sym c.second)
        (all_placed second_sound))))

    -- no more steps than rows of both tables
    pub few_came : length (steps ++ c.more) ≤ p.first.header.count + p.second.header.count
    few_came =
        let a = ap length ours_held in let b = length-map c.ours held in let d = held-length first_sound in
        let e = ap length theirs_held in let f = length-map c.theirs held in let g = held-length second_sound in
        let h = few_steps c.ours c.theirs in let i = ap length c.are in
        omega arith
