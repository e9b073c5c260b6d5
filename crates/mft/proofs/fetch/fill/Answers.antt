-- What one read gives stands behind what the room has.
use Rattle.std.specs.Prelude.{◌≡◌, ℕ, ◌+◌, ◌-◌, ◌≤◌, List, ◌++◌, length, take}
use Rattle.std.proofs.Common.{rules, arith, slice_range, sym, ap, ◌∙◌, subst, le_refl, drop_at, length-take-le}
use Rattle.std.proofs.lemmas.Slice.{take-put_mid_below}
use Rattle.std.specs.Io.KnownBytes.{Consumes}
use Rattle.std.proofs.KnownBytes.{Consumes-trans}
use borrow.Rule.Slice.PartMut.{put_mid, post_of}
use lib.Seq.{take-add, take-append-le}
use Rattle.mft.proofs.fetch.fill.Goals as goal

take_split : (a b : ℕ) (old new : List ℕ) → a ≤ b → take a new ≡ take a old
    → take a old ++ slice_range new a b ≡ take b new
take_split a b old new h front =
    let same : a + (b - a) ≡ b = omega arith in
    ap (λ l. l ++ slice_range new a b) (sym front) ∙ sym (take-add a (b - a) new) ∙ ap (λ n. take n new) same

part_of : (a k n : ℕ) (xs ys : List ℕ) → a ≤ length xs → n ≤ length ys
    → slice_range (put_mid a k xs ys) a (a + n) ≡ take n ys
part_of a k n xs ys within fits =
    let same : (a + n) - a ≡ n = omega arith in
    let after = post_of a k xs in
    ap (take ((a + n) - a)) (drop_at (take a xs) (ys ++ after) a (length-take-le a xs within))
    ∙ ap (λ m. take m (ys ++ after)) same ∙ take-append-le n ys after fits

pub loop-preserved : goal.loop-preserved
loop-preserved g c =
    let from = c.loop.have in
    let room = length c.loop.room - from in
    let within = c.loop.invariant.within in
    let next = put_mid from room c.loop.room c.read_once.new.room in
    let part = part_of from room c.in-Ok.count c.loop.room c.read_once.new.room within c.in-Ok.ensures.within in
    let joined =
    take_split from (from + c.in-Ok.count) c.loop.room next (omega arith)
    (take-put_mid_below _ _ _ _ _ (le_refl _) within) in
    record {
      taken = subst (Consumes _ _) (ap (λ l. take from c.loop.room ++ l) (sym part) ∙ joined)
          (Consumes-trans _ _ _ _ _ c.loop.invariant.taken c.in-Ok.ensures.bytes);
      within = search rules;
    }
