use Rattle.authority_laws.proofs.LongestRuns.{words_back, words_only}
use Rattle.authority_laws.proofs.choosing.words_are_longest_runs.Goals as goal

pub returns : goal.returns
returns c = record { found = λ text ws. (words_back text ws, words_only text ws) }
