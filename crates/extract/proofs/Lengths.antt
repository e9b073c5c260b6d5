-- A record, and what is written of it where it is sound, are as long as the record size.
use Rattle.std.proofs.Common.{ℕ, ◌+◌, ◌*◌, ◌<◌, ◌≤◌, ◌≡◌, ap, ◌∙◌, arith}
use Rattle.std.proofs.Common.{true, List, length, length-take, length-drop}
use Rattle.std.proofs.Math.Nat.{mul-div-le}
use Rattle.std.proofs.lemmas.Nat.{column_fits}
use Rattle.extract.specs.Fixup.{good_array, fixed_up, sound, verdict_of}
use Rattle.extract.specs.Records.{record_count, record_at, verdict_at}
use Rattle.extract.specs.declared.Extract.{Extract}
use Rattle.extract.proofs.Fixups.{pairs_are_replaced}

-- what is written of a sound record is that record, fixed up
pub record Sound (s b : List ℕ) : Type 0 where
  pub good : good_array s ≡ true
  pub is : b ≡ fixed_up s

pub sound_is : (s b : List ℕ) → verdict_of s ≡ sound b → Sound s b
unfolding verdict_of
sound_is s b e = record { good = grind arith; is = grind arith }

module _ (x : Extract) where
  pub record_ends : (i : ℕ) → i < record_count x → x.size * i + x.size ≤ length x.bytes.now
  record_ends i l =
      let a = column_fits x.size i x.size (record_count x) l (omega arith) in
      let b = mul-div-le (length x.bytes.now) x.size in
      omega arith

  pub record_length : (i : ℕ) → i < record_count x → length (record_at x i) ≡ x.size
  unfolding record_at
  record_length i l = let e = record_ends i l in simp (length-take, length-drop) (omega arith)

  pub sound_length : (i : ℕ) (b : List ℕ) → i < record_count x → verdict_at x i ≡ sound b → length b ≡ x.size
  sound_length i b l e =
      let s = sound_is (record_at x i) b e in
      ap length s.is ∙ (pairs_are_replaced (record_at x i) s.good).0 ∙ record_length i l
