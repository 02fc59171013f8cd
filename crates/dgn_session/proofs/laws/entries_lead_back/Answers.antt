use Rattle.dgn_session.proofs.EntriesBack.{entries_are_counted, entries_lead_back}
use Rattle.dgn_session.proofs.laws.entries_lead_back.Goals as goal

pub returns-clause-counted : goal.returns-clause-counted
returns-clause-counted c = entries_are_counted

pub returns-clause-back : goal.returns-clause-back
returns-clause-back c = entries_lead_back
