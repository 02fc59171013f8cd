use Rattle.std.proofs.Common.{rules}
use Rattle.dgn_answers.proofs.importing.answer_import.Goals as goal

pub returns-in_err-answered-clause-tail : goal.returns-in_err-answered-clause-tail
returns-in_err-answered-clause-tail c = (c.in_err-answered.ensures _ c.gather-found.ensures.gathered).tail

pub returns-in_err-answered-clause-kept : goal.returns-in_err-answered-clause-kept
returns-in_err-answered-clause-kept c = let done = c.in_err-answered.ensures _ c.gather-found.ensures.gathered in search rules

pub returns-in_err-answered-clause-front : goal.returns-in_err-answered-clause-front
returns-in_err-answered-clause-front c = let done = c.in_err-answered.ensures _ c.gather-found.ensures.gathered in search rules

pub returns-clause-logged : goal.returns-clause-logged
returns-clause-logged c = let done = c.in_ok-answered.ensures _ c.gather-found.ensures.gathered in search rules

pub returns-clause-tail : goal.returns-clause-tail
returns-clause-tail c = (c.in_ok-answered.ensures _ c.gather-found.ensures.gathered).tail
