use Rattle.std.proofs.Common.{ap, ◌∙◌}
use Rattle.std.proofs.lemmas.List.{length-map}
use Rattle.kernel_model.specs.declared.boot.ObjBoot.{ObjBoot}
use Rattle.kernel_model.specs.Pages.{is_active, is_inactive, is_stored}
use Rattle.page_queues.specs.Pages.{active as active_keys, inactive as inactive_keys, stored as stored_keys}
use Rattle.page_queues.specs.declared.ObjectPlaces.{ObjectPlaces}
use Rattle.kernel_tables.proofs.ObjectCharges.{object-count}
use Rattle.kernel_tables.proofs.StandingLemmas.{object-is}
use Rattle.kernel_tables.proofs.parts.Parts.mapped_object.Goals as goal

pub object_counts-places-requires : goal.object_counts-places-requires
object_counts-places-requires g c = record { object = (let l = c.requires.1.0 in rw (c.requires.0.pages.page_sizes, length-map c.args.self.now.boot.objects (λ (x : ObjBoot). x.pages)) l) }

pub returns : goal.returns
returns g c =
    let s = c.requires.0.pages in
    let boot = c.args.self.now.boot in
    let pages = c.args.self.now.objects.pages in
    let o = c.args.o in
    let l = c.requires.1.0 in
    object-is boot g.past o _ _ _ _ c.state.ensures
    (ap (λ (n : ObjectPlaces). n.active) c.object_counts-places.ensures ∙ object-count boot g.past is_active (active_keys pages) o l s.active_order)
    (ap (λ (n : ObjectPlaces). n.inactive) c.object_counts-places.ensures ∙ object-count boot g.past is_inactive (inactive_keys pages) o l s.inactive_order)
    (ap (λ (n : ObjectPlaces). n.stored) c.object_counts-places.ensures ∙ object-count boot g.past is_stored (stored_keys pages) o l s.stored_order)
