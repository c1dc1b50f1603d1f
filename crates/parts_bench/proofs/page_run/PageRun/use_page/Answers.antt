use Rattle.parts_bench.proofs.PageLemmas.{is_page}
use Rattle.parts_bench.proofs.page_run.PageRun.use_page.Goals as goal

pub place-requires : goal.place-requires
place-requires c = record { page = is_page c.args.self.now.queues c.args.obj c.args.page c.args.self.now.sizes c.requires.object c.requires.inside }

pub fault-came-requires-clause-page : goal.fault-came-requires-clause-page
fault-came-requires-clause-page c = is_page c.args.self.now.queues c.args.obj c.args.page c.args.self.now.sizes c.requires.object c.requires.inside

pub touch-requires : goal.touch-requires
touch-requires c = record { page = is_page c.args.self.now.queues c.args.obj c.args.page c.args.self.now.sizes c.requires.object c.requires.inside }
