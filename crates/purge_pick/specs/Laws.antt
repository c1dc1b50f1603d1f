-- What holds of the tokens beside the deadlines of the definition, and beside the objects of the groups.
use Rattle.std.specs.Prelude.{◌≡◌, ◌≤◌, ◌<◌, ◌+◌, ◌-◌, ◌∷◌, ◌++◌, [], ℕ, List, length, drop, map, replicate, Some, true}
use Rattle.kern_ids.specs.declared.calls.Queue.{Queue}
use Rattle.kern_ids.specs.declared.entries.Entry.{Entry}
use Rattle.kernel_model.specs.Deadlines.{Deadlines, of_queue, with_new, without_first, without_last, begins_ripe as deadline_ripe, ripe_of, after_ripe as deadlines_after_ripe}
use Rattle.kernel_model.specs.Pages.{entered}
use Rattle.token_list.specs.Dues.{lowered_by, begins_ripe}
use Rattle.ripen_advance.specs.Queues.{QueueDues, dues_in, with_dues, new_due, all_but_last, after_ripe}
use Rattle.link_list.specs.KeyLists.{without}
use Rattle.volatile_groups.specs.Grouped.{entered as with_object, queue_of, AreGroups}
use Rattle.purge_pick.specs.Picks.{ripe_queue, HasTokens, HeadsGroup}
use Rattle.purge_pick.specs.Follows.{Follows}

-- no tokens, and no page ahead
abbrev pub no_tokens : QueueDues
no_tokens = record { obsolete = []; lifo = []; fifo = []; ahead = 0 }

-- no token follows from no deadline
abbrev pub FollowAtStart : Type 0
FollowAtStart = Follows (record { obsolete = []; lifo = []; fifo = [] }) 0 0 no_tokens

-- dues follow once more pages have entered
abbrev pub FollowOnEntry : Type 0
FollowOnEntry = (d : Deadlines) (e l k : ℕ) (v : QueueDues) → l ≤ e → Follows d e l v → Follows d (e + k) l (record v { ahead = v.ahead + k })

-- dues follow once more pages have left, and each due is lower by them
abbrev pub FollowOnDeparture : Type 0
FollowOnDeparture = (d : Deadlines) (e l k : ℕ) (v w : QueueDues) → Follows d e l v → ((q : Queue) → dues_in w q ≡ lowered_by k (dues_in v q)) → w.ahead ≡ v.ahead - k → Follows d e (l + k) w

-- dues follow with a new token, as deadlines with a new one
abbrev pub FollowOnAddition : Type 0
FollowOnAddition = (before : List Entry) (d : Deadlines) (l : ℕ) (v : QueueDues) (q : Queue) → Follows d (entered before) l v → Follows (with_new before q d) (entered before) l (with_dues v q (dues_in v q ++ new_due v q ∷ []))

-- dues without the first of a queue follow deadlines without it
abbrev pub FollowWithoutFirst : Type 0
FollowWithoutFirst = (d : Deadlines) (e l : ℕ) (v : QueueDues) (q : Queue) → Follows d e l v → Follows (without_first q d) e l (with_dues v q (drop 1 (dues_in v q)))

-- dues without the last of a queue follow deadlines without it
abbrev pub FollowWithoutLast : Type 0
FollowWithoutLast = (d : Deadlines) (e l : ℕ) (v : QueueDues) (q : Queue) → Follows d e l v → Follows (without_last q d) e l (with_dues v q (all_but_last (dues_in v q)))

-- where dues follow deadlines, the first of a queue is ripe in both or in neither
abbrev pub RipeAlike : Type 0
RipeAlike = (d : Deadlines) (e l : ℕ) (v : QueueDues) (q : Queue) → Follows d e l v → deadline_ripe l (of_queue d q) ≡ begins_ripe (dues_in v q)

-- where dues follow deadlines, the ripe queue of both is one
abbrev pub RipeQueueAlike : Type 0
RipeQueueAlike = (d : Deadlines) (e l : ℕ) (v : QueueDues) → Follows d e l v → ripe_of l d ≡ ripe_queue v

-- dues follow after a purge for a ripe token
abbrev pub FollowOnRipePurge : Type 0
FollowOnRipePurge = (d : Deadlines) (e l : ℕ) (v : QueueDues) (t q : Queue) → Follows d e l v → begins_ripe (dues_in v t) ≡ true → Follows (deadlines_after_ripe l t q d) e l (after_ripe t q v)

-- no tokens and no objects are as many
abbrev pub TokensAtStart : Type 0
TokensAtStart = HasTokens no_tokens (replicate 24 [])

-- as many tokens as objects, once more pages have entered
abbrev pub TokensOnEntry : Type 0
TokensOnEntry = (v : QueueDues) (groups : List (List ℕ)) (k : ℕ) → HasTokens v groups → HasTokens (record v { ahead = v.ahead + k }) groups

-- as many tokens as objects, once more pages have left
abbrev pub TokensOnDeparture : Type 0
TokensOnDeparture = (v w : QueueDues) (groups : List (List ℕ)) (k : ℕ) → ((q : Queue) → dues_in w q ≡ lowered_by k (dues_in v q)) → HasTokens v groups → HasTokens w groups

-- as many with a new token and a new object of the queue
abbrev pub TokensOnAddition : Type 0
TokensOnAddition = (v : QueueDues) (groups : List (List ℕ)) (q : Queue) (group o : ℕ) → AreGroups groups → group < 8 → HasTokens v groups → HasTokens (with_dues v q (dues_in v q ++ new_due v q ∷ [])) (with_object groups q group o)

-- as many where an object of the queue is put into a group of it anew
abbrev pub TokensOnMove : Type 0
TokensOnMove = (v : QueueDues) (groups : List (List ℕ)) (q : Queue) (group o : ℕ) → AreGroups groups → AreGroups (map (without o) groups) → group < 8 → queue_of o groups ≡ Some q → HasTokens v groups → HasTokens v (with_object (map (without o) groups) q group o)

-- as many without the first token of a queue and without an object of it
abbrev pub TokensWithoutFirst : Type 0
TokensWithoutFirst = (v : QueueDues) (groups : List (List ℕ)) (q : Queue) (o : ℕ) → AreGroups groups → queue_of o groups ≡ Some q → HasTokens v groups → HasTokens (with_dues v q (drop 1 (dues_in v q))) (map (without o) groups)

-- as many without the last token of a queue and without an object of it
abbrev pub TokensWithoutLast : Type 0
TokensWithoutLast = (v : QueueDues) (groups : List (List ℕ)) (q : Queue) (o : ℕ) → AreGroups groups → queue_of o groups ≡ Some q → HasTokens v groups → HasTokens (with_dues v q (all_but_last (dues_in v q))) (map (without o) groups)

-- as many after a purge for a ripe token
abbrev pub TokensOnRipePurge : Type 0
TokensOnRipePurge = (v : QueueDues) (groups : List (List ℕ)) (t q : Queue) (o : ℕ) → AreGroups groups → queue_of o groups ≡ Some q → begins_ripe (dues_in v t) ≡ true → HasTokens v groups → HasTokens (after_ripe t q v) (map (without o) groups)

-- a queue that has an object has a token
abbrev pub HasOneToken : Type 0
HasOneToken = (v : QueueDues) (groups : List (List ℕ)) (q : Queue) (o : ℕ) → AreGroups groups → queue_of o groups ≡ Some q → HasTokens v groups → 0 < length (dues_in v q)

-- the first object of a group stands in the queue of the group
abbrev pub HeadHasQueue : Type 0
HeadHasQueue = (groups : List (List ℕ)) (q : Queue) (o : ℕ) → AreGroups groups → HeadsGroup groups q o → queue_of o groups ≡ Some q
