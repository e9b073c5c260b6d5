use Rattle.segments.proofs.Sound.{no_hazards}
use Rattle.segments.proofs.laws.no_hazards_where_all_is_sound.Goals as goal

pub returns : goal.returns
returns c = no_hazards
