use Rattle.sim_core.proofs.InputAgain.{came_whole, comes}
use Rattle.sim_core.proofs.RefusedAgain.{refused_line, refused_whole, same_fault, same_words_refused}
use Rattle.sim_core.proofs.laws.what_comes_is_the_input.Goals as goal

pub returns-clause-accepted : goal.returns-clause-accepted
returns-clause-accepted c = λ input whole. (λ r. comes input whole r.0 r.1, came_whole input whole)

pub returns-clause-refused : goal.returns-clause-refused
returns-clause-refused c = λ input within. (refused_line input within, refused_whole input within)

pub returns-clause-same_words : goal.returns-clause-same_words
returns-clause-same_words c = same_words_refused

pub returns-clause-same_fault : goal.returns-clause-same_fault
returns-clause-same_fault c = same_fault
