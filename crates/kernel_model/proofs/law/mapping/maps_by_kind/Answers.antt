use Rattle.kernel_model.proofs.Laws.Kinds.{maps-map, maps-attach, maps-unmap, maps-exit, maps-killed}
use Rattle.kernel_model.proofs.law.mapping.maps_by_kind.Goals as goal

pub returns : goal.returns
returns c = record {
  map = maps-map;
  attach = maps-attach;
  unmap = maps-unmap;
  exit = maps-exit;
  killed = maps-killed;
}
