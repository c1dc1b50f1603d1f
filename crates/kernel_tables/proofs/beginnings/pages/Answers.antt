use Rattle.std.proofs.Common.{◌≡◌, ◌≤◌, ℕ, length, map, All, sym, ◌∙◌, subst}
use Rattle.std.proofs.lemmas.List.Elements.{All-map}
use Rattle.kernel_model.specs.declared.boot.ObjBoot.{ObjBoot}
use Rattle.kernel_model.specs.Valid.{IsValidObject}
use Rattle.kernel_model.proofs.Grows.{All-map as all_weaker}
use Rattle.kernel_tables.proofs.beginnings.pages.Goals as goal

pub new-requires-clause-pages : goal.new-requires-clause-pages
new-requires-clause-pages c =
    let objects = c.args.boot.now.objects in
    let sizes : c.deref.result.now ≡ map (λ (o : ObjBoot). o.pages) objects = c.deref.ensures.value ∙ c.in_ok-sizes.ensures in
    subst (All (λ (size : ℕ). size ≤ 256)) (sym sizes)
    (All-map (λ (size : ℕ). size ≤ 256) (λ (o : ObjBoot). o.pages) objects
    (all_weaker (IsValidObject (length c.args.boot.now.tasks)) (λ o. o.pages ≤ 256) objects (λ o v. v.pages) c.valid.ensures.objects))
