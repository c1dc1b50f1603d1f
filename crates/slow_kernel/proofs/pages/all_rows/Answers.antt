use Rattle.std.proofs.Common.{◌≡◌, reverse, sym, ◌∙◌, ap, length, arith}
use Rattle.std.specs.List.{flat_map, range_with_len}
use Rattle.kernel_model.specs.Pages.{pages_in, pages_of_size}
use Rattle.kernel_model.specs.Groups.{objects_of}
use Rattle.slow_kernel.specs.Tables.{object_rows, page_row}
use Rattle.slow_kernel.proofs.Maps.{map_flat_map}
use Rattle.slow_kernel.proofs.pages.all_rows.Goals as goal

pub returns : goal.returns
returns c =
    let l = ap length c.objects-n.ensures.value in
    let n : c.loop-i.i ≡ length c.args.boot.now.objects = omega arith in
    c.loop-i.invariant
    ∙ ap (λ k. flat_map (object_rows c.args.boot.now (reverse c.args.entries.now)) (range_with_len 0 k)) n
    ∙ sym (map_flat_map (page_row c.args.boot.now (reverse c.args.entries.now)) (λ o. pages_of_size o (pages_in c.args.boot.now o)) (objects_of c.args.boot.now))
