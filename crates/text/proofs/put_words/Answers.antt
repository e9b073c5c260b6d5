use Rattle.text.proofs.Puts.{both}
use Rattle.text.proofs.put_words.Goals as goal

pub returns : goal.returns
returns c = both c.put_text-end.ensures c.put_numbers.ensures
