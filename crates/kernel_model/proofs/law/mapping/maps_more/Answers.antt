use Rattle.kernel_model.proofs.Laws.Kept.{maps-kept, owner-kept, mapped-kept}
use Rattle.kernel_model.proofs.Laws.Mapping.{said_maps-none, said_maps-more, maps-more, owner-is, mapped-is}
use Rattle.kernel_model.proofs.law.mapping.maps_more.Goals as goal

pub returns : goal.returns
returns c = record {
  none = said_maps-none;
  said = said_maps-more;
  one_more = maps-more;
  owner = owner-is;
  mapped = mapped-is;
  kept = maps-kept;
  owner_kept = owner-kept;
  mapped_kept = mapped-kept;
}
