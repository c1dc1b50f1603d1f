use Rattle.std.proofs.Common.{◌≡◌, ℕ, List, [], ◌∷◌, ◌++◌, length, ap, sym, ◌∙◌, arith}
use Rattle.std.specs.Prelude.{map}
use Rattle.std.specs.List.{range_with_len}
use Rattle.std.proofs.lemmas.List.FromFn.{length-map-range_with_len, map-range_with_len_more}
use Rattle.kernel_model.specs.declared.boot.ObjBoot.{ObjBoot}
use Rattle.kernel_model.specs.Scenario.{Plan}
use Rattle.scenario_maker.specs.Head.{object_boot, head_objects}
use Rattle.scenario_maker.proofs.head.add_objects.Goals as goal

-- the objects of a scenario with these in place of its own
abbrev with_objects : Plan → List ObjBoot → Plan
with_objects s os = record s { boot = record s.boot { objects = os } }

pub add_object-requires-clause-room : goal.add_object-requires-clause-room
add_object-requires-clause-room c =
    omega (arith, ap (λ (s : Plan). length s.boot.objects) c.loop-o.invariant, length-map-range_with_len object_boot 0 c.loop-o.o)

pub loop-o-preserved : goal.loop-o-preserved
loop-o-preserved c =
    c.in_ok-add_object.ensures.ok ∙ ap (λ (s : Plan). with_objects s (s.boot.objects ++ c.object_boot.result ∷ [])) c.loop-o.invariant
    ∙ ap (with_objects c.args.scenario.now) (ap (λ (o : ObjBoot). map object_boot (range_with_len 0 c.loop-o.o) ++ o ∷ []) c.object_boot.ensures ∙ sym (map-range_with_len_more object_boot 0 c.loop-o.o c.loop-o.o (omega arith)))

pub returns : goal.returns
unfolding head_objects
returns c =
    let all : c.loop-o.o ≡ 40 = omega arith in
    c.loop-o.invariant ∙ ap (λ (n : ℕ). with_objects c.args.scenario.now (map object_boot (range_with_len 0 n))) all
