use Rattle.std.proofs.Common.{◌≡◌, ◌∙◌, sym, ap, insert, nat_lt}
use Rattle.std.specs.List.{position_or_len}
use Rattle.std.proofs.lemmas.Result.{on_ok_weaker}
use Rattle.slow_kernel.proofs.DeadlineLists.{put_insert}
use Rattle.slow_kernel.proofs.deadlines.put.Goals as goal

pub returns : goal.returns
returns c =
    let p : c.place_for-at.result ≡ position_or_len (λ d. nat_lt c.args.deadline d) c.args.list.now.items = c.place_for-at.ensures.place ∙ ap (position_or_len (λ d. nat_lt c.args.deadline d)) c.deref.ensures.value in
    on_ok_weaker c.insert_at.result
    (λ e. e ∙ ap (λ n. insert c.args.list.now.items n c.args.deadline) p ∙ sym (put_insert c.args.deadline c.args.list.now.items))
    c.insert_at.ensures
