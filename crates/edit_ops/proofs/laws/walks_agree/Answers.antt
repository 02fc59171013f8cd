use Rattle.edit_ops.proofs.WalksAgree.{headers_are_numbered, parts_are_spans, exchanges_are_local}
use Rattle.edit_ops.proofs.laws.walks_agree.Goals as goal

pub returns-clause-headers : goal.returns-clause-headers
returns-clause-headers c = headers_are_numbered

pub returns-clause-parts : goal.returns-clause-parts
returns-clause-parts c = parts_are_spans

pub returns-clause-exchanges : goal.returns-clause-exchanges
returns-clause-exchanges c = exchanges_are_local
