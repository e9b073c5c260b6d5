use Rattle.parts.proofs.Streams.{parts_are_one_stream}
use Rattle.parts.proofs.laws.parts_are_one_stream.Goals as goal

pub returns : goal.returns
returns c = parts_are_one_stream
