use Rattle.decision_account.proofs.OneAccount.{one_text, some_text}
use Rattle.decision_account.proofs.laws.an_account_exists_and_is_unique.Goals as goal

pub returns-clause-some : goal.returns-clause-some
returns-clause-some c = λ cl es ps. some_text cl es ps

pub returns-clause-no_more : goal.returns-clause-no_more
returns-clause-no_more c = λ cl es ps one other x y is too. one_text cl es ps one other x y is too
