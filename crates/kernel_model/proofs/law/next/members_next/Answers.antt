use Rattle.kernel_model.proofs.Laws.Group.{members-first, members-enter, members-leave, ending-members}
use Rattle.kernel_model.proofs.law.next.members_next.Goals as goal

pub returns : goal.returns
returns g c = record {
  first = members-first g.s.boot g.s.before;
  enter = members-enter g.s;
  leave = members-leave g.s;
  ending = ending-members g.s;
}
