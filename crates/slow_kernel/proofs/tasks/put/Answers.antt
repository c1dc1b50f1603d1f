use Rattle.std.proofs.Common.{◌≡◌, ◌∙◌, sym, ap, insert, reverse}
use Rattle.std.specs.List.{position_or_len}
use Rattle.std.proofs.lemmas.Result.{on_ok_weaker}
use Rattle.kernel_model.specs.Victims.{band_lt}
use Rattle.slow_kernel.proofs.TaskTables.{put_at}
use Rattle.slow_kernel.proofs.tasks.put.Goals as goal

pub returns : goal.returns
returns c =
    let p : c.place_for-at.result ≡ position_or_len (band_lt c.args.boot.now (reverse c.args.entries.now) c.args.t) c.args.due.now.items = c.place_for-at.ensures.place ∙ ap (position_or_len (band_lt c.args.boot.now (reverse c.args.entries.now) c.args.t)) c.deref.ensures.value in
    on_ok_weaker c.insert_at.result
    (λ e. e ∙ ap (λ n. insert c.args.due.now.items n c.args.t) p ∙ sym (put_at (band_lt c.args.boot.now (reverse c.args.entries.now)) c.args.t c.args.due.now.items))
    c.insert_at.ensures
