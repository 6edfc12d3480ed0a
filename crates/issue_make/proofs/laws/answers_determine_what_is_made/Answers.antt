use Rattle.issue_make.specs.Made.{calls_of}
use Rattle.issue_make.proofs.Alike.{by-jobs, by-signers}
use Rattle.issue_make.proofs.Determined.{one-edition}
use Rattle.issue_make.proofs.laws.answers_determine_what_is_made.Goals as goal

pub returns-clause-by_jobs : goal.returns-clause-by_jobs
returns-clause-by_jobs c = λ s live signers old new before after made other work one two same.
    one-edition s live signers old new before after made other work one two
    (by-jobs (calls_of s one.trace) (calls_of s two.trace) same)

pub returns-clause-by_signers : goal.returns-clause-by_signers
returns-clause-by_signers c = λ s live signers old new before after made other work one two same.
    one-edition s live signers old new before after made other work one two
    (by-signers (calls_of s one.trace) (calls_of s two.trace) same)
