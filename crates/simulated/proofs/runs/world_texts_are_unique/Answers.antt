use Rattle.simulated.proofs.OneEnd.{text_one}
use Rattle.simulated.proofs.runs.world_texts_are_unique.Goals as goal

pub returns : goal.returns
returns c = λ cl journal number text other none one two. text_one cl journal number none text other one two
