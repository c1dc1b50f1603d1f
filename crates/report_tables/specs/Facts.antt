-- The state after a history.
use Rattle.std.specs.Prelude.{ℕ, List, length, map, slice_get, slice_index_or}
use Rattle.std.specs.Option.{option_map_or}
use Rattle.kern_ids.specs.declared.entries.Entry.{Entry}
use Rattle.kern_ids.specs.declared.replies.Reply.{Reply}
use Rattle.kern_ids.specs.declared.replies.Reply.TheVariants.{Frames, Tokens}
use Rattle.kern_ids.specs.declared.replies.FrameCounts.{FrameCounts}
use Rattle.kern_ids.specs.declared.replies.QueueCounts.{QueueCounts}
use Rattle.kern_ids.specs.declared.replies.TokenCounts.{TokenCounts}
use Rattle.kernel_model.specs.System.{System}
use Rattle.kernel_model.specs.Lists.{some_if}
use Rattle.kernel_model.specs.Mapping.{live, mapped, tasks_of}
use Rattle.kernel_model.specs.Groups.{objects_of}
use Rattle.kernel_model.specs.Answers.{frames_reply, tokens_reply}
use Rattle.report_tables.specs.Summary.{replies, is_purging, is_killing}
use Rattle.kernel_tables.specs.Standing.{live_task, mapped_object}
use Rattle.kernel_tables.specs.Stands.{Stands}
use Rattle.kernel_tables.specs.Values.{TableValues}
use Rattle.report_tables.specs.declared.rows.TaskFacts.{TaskFacts}
use Rattle.report_tables.specs.declared.rows.ObjectFacts.{ObjectFacts}

-- the number of entries, of purges and of kills, the tasks and the objects by their numbers, and what Info and Purgeables answer
pub record Report : Type 0 where
  pub entries : ℕ
  pub purged : ℕ
  pub killed : ℕ
  pub tasks : List TaskFacts
  pub objects : List ObjectFacts
  pub frames : FrameCounts
  pub tokens : TokenCounts

abbrev pub task_facts : System → List Entry → ℕ → TaskFacts
task_facts boot past t = record { task = t; life = some_if (live boot past t) (live_task boot past t) }

-- the first task that is declared for an object
abbrev pub first_task : System → ℕ → ℕ
first_task boot o = option_map_or (λ object. slice_index_or object.tasks 0 0) (slice_get boot.objects o) 0

abbrev pub object_facts : System → List Entry → ℕ → ObjectFacts
object_facts boot past o = record { object = o; first = first_task boot o; held = some_if (mapped boot past o) (mapped_object boot past o) }

-- the numbers of a reply to Info, and of one to Purgeables; of another reply none
abbrev pub frames_in : Reply → FrameCounts
frames_in (Frames f) = f
frames_in _ = record { free = 0; active = 0; inactive = 0; stored = 0; entered = 0; left = 0 }

abbrev pub no_tokens : QueueCounts
no_tokens = record { tokens = 0; ripe = 0; next = 0; last = 0 }

abbrev pub tokens_in : Reply → TokenCounts
tokens_in (Tokens t) = t
tokens_in _ = record { obsolete = no_tokens; lifo = no_tokens; fifo = no_tokens }

-- the tables stand for these entries, newest first
unfoldable pub Tell : TableValues → List Entry → Type 0
Tell tables past = Stands tables past

-- the state after these entries, newest first
unfoldable pub facts_of : System → List Entry → Report
facts_of boot past = record {
  entries = length past;
  purged = replies is_purging past;
  killed = replies is_killing past;
  tasks = map (task_facts boot past) (tasks_of boot);
  objects = map (object_facts boot past) (objects_of boot);
  frames = frames_in (frames_reply boot past);
  tokens = tokens_in (tokens_reply boot past);
}
