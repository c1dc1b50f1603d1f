-- Whether two calls, and two replies, are equal.
use Rattle.std.specs.Prelude.{Bool}
use Rattle.kern_ids.specs.declared.calls.Call.{Call}
use Rattle.kern_ids.specs.declared.replies.Reply.{Reply}
use Rattle.kern_ids.specs.contracts.calls.CallPartialEq.TheImpl as call_eq
use Rattle.kern_ids.specs.contracts.replies.ReplyPartialEq.TheImpl as reply_eq

-- what `==` says of two calls: true exactly where they are equal, by `law::same_are_equal`
unfoldable pub same_call : Call → Call → Bool
same_call a b = (call_eq.ghosts).eq a b

-- what `==` says of two replies: true exactly where they are equal
unfoldable pub same_reply : Reply → Reply → Bool
same_reply a b = (reply_eq.ghosts).eq a b
