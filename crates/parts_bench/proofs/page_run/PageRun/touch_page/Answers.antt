use Rattle.parts_bench.proofs.PageLemmas.{is_page}
use Rattle.parts_bench.proofs.page_run.PageRun.touch_page.Goals as goal

pub touch-requires : goal.touch-requires
touch-requires c = record { page = is_page c.args.self.now.queues c.args.obj c.args.page c.args.self.now.sizes c.requires.object c.requires.inside }
