-- By the size that was told of what was read.
use Rattle.nomutanku.proofs.Extracted.{made_of_any}
use Rattle.nomutanku.proofs.extraction.of_file.Goals as goal

pub returns : goal.returns
returns g c =
    made_of_any c.args.asked c.deref.result.now c.in_ok-size.size _ c.in_ok-size.ensures.size
    c.extract_rest.ensures.unknown
