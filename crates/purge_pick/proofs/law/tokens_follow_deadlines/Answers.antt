use Rattle.purge_pick.proofs.FollowLemmas.{departed-follows, added-follows, first-follows, last-follows, ripe-follows, queue-follows, purged-follows, entered-follows, start-follows}
use Rattle.purge_pick.proofs.law.tokens_follow_deadlines.Goals as goal

pub returns-clause-start : goal.returns-clause-start
returns-clause-start c = start-follows

pub returns-clause-entered : goal.returns-clause-entered
returns-clause-entered c = entered-follows

pub returns-clause-departed : goal.returns-clause-departed
returns-clause-departed c = departed-follows

pub returns-clause-added : goal.returns-clause-added
returns-clause-added c = added-follows

pub returns-clause-first_gone : goal.returns-clause-first_gone
returns-clause-first_gone c = first-follows

pub returns-clause-last_gone : goal.returns-clause-last_gone
returns-clause-last_gone c = last-follows

pub returns-clause-ripe : goal.returns-clause-ripe
returns-clause-ripe c = ripe-follows

pub returns-clause-ripe_queue : goal.returns-clause-ripe_queue
returns-clause-ripe_queue c = queue-follows

pub returns-clause-purged : goal.returns-clause-purged
returns-clause-purged c = purged-follows
