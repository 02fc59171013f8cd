use Rattle.undo_log.proofs.EntriesBack.{commits_restore, commits_fit, commit_pushes}
use Rattle.undo_log.proofs.laws.commits_are_undone_in_turn.Goals as goal

pub returns-clause-restore : goal.returns-clause-restore
returns-clause-restore c = commits_restore

pub returns-clause-fit : goal.returns-clause-fit
returns-clause-fit c = commits_fit

pub returns-clause-stack : goal.returns-clause-stack
returns-clause-stack c = commit_pushes
