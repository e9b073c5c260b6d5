-- The checker computes what the definition gives of each case.
use Rattle.std.proofs.Common.{refl}
use Rattle.fields.specs.Le.{le}
use Rattle.fields.specs.LeBytes.{le_bytes}
use Rattle.record.specs.Open.{is_file}
use Rattle.extract.specs.Numbers.{rises, fallen_below, numbers_risen}
use Rattle.extract.specs.Size.{good_size, whole_records, sizes_checked, one_number_each, chosen_checked}
use Rattle.extract.specs.Fixup.{pairs_clear, good_array, pairs_agree, fixed_below, verdict_of}
use Rattle.extract.specs.Protect.{pairs_of, checked_below, protected}
use Rattle.extract.specs.Base.{row_of}
use Rattle.extract.specs.Extracted.{late_in}
use Rattle.extract.specs.Cases.{SizeLimits, EndLimits, RiseLimits, OneEachLimits, FirstLimits, BaseLimits}
use Rattle.extract.specs.Cases.{NumberLimits, PlaceLimits, CountLimits, PairLimits}

pub size_limits : SizeLimits
unfolding good_size
size_limits = refl

pub end_limits : EndLimits
unfolding good_size whole_records
end_limits = refl

pub number_limits : NumberLimits
unfolding late_in
number_limits = refl

pub rise_limits : RiseLimits
unfolding rises fallen_below numbers_risen
rise_limits = refl

pub one_each_limits : OneEachLimits
unfolding one_number_each
one_each_limits = refl

pub first_limits : FirstLimits
unfolding good_size whole_records sizes_checked one_number_each rises fallen_below numbers_risen chosen_checked
first_limits = refl

pub base_limits : BaseLimits
unfolding row_of
base_limits = refl

pub place_limits : PlaceLimits
unfolding le le_bytes pairs_clear good_array
place_limits = refl

pub count_limits : CountLimits
unfolding le le_bytes pairs_clear good_array
count_limits = refl

pub pair_limits : PairLimits
unfolding le le_bytes is_file pairs_clear good_array pairs_agree fixed_below verdict_of pairs_of checked_below protected
pair_limits = refl
