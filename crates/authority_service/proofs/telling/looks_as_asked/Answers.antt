use Rattle.authority_service.proofs.telling.looks_as_asked.Goals as goal

pub returns-then-totals-eq0-clause-lines : goal.returns-then-totals-eq0-clause-lines
returns-then-totals-eq0-clause-lines c = λ is _. c.none_looked.ensures is
