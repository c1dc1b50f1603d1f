use Rattle.purge_pick.proofs.AsManyLemmas.{start-as-many, more_ahead-as-many, departed-as-many, entered-as-many, moved-as-many, first-as-many, last-as-many, purged-as-many, own-token, head-queue}
use Rattle.purge_pick.proofs.law.as_many_tokens_as_objects.Goals as goal

pub returns-clause-start : goal.returns-clause-start
returns-clause-start c = start-as-many

pub returns-clause-entered : goal.returns-clause-entered
returns-clause-entered c = more_ahead-as-many

pub returns-clause-departed : goal.returns-clause-departed
returns-clause-departed c = departed-as-many

pub returns-clause-added : goal.returns-clause-added
returns-clause-added c = entered-as-many

pub returns-clause-moved : goal.returns-clause-moved
returns-clause-moved c = moved-as-many

pub returns-clause-first_gone : goal.returns-clause-first_gone
returns-clause-first_gone c = first-as-many

pub returns-clause-last_gone : goal.returns-clause-last_gone
returns-clause-last_gone c = last-as-many

pub returns-clause-purged : goal.returns-clause-purged
returns-clause-purged c = purged-as-many

pub returns-clause-some : goal.returns-clause-some
returns-clause-some c = own-token

pub returns-clause-picked : goal.returns-clause-picked
returns-clause-picked c = head-queue
