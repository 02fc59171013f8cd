use Rattle.patch_bytes.proofs.PutsLaid.{all_restored, olds_are}
use Rattle.patch_bytes.proofs.laws.writing_back_restores.Goals as goal

pub returns-clause-restores : goal.returns-clause-restores
returns-clause-restores c = all_restored

pub returns-clause-first : goal.returns-clause-first
returns-clause-first c = olds_are
