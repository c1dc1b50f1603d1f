-- The state after a history, as a JSON value.
use Rattle.std.specs.Prelude.{ℕ, List, [], ◌∷◌, map, codes, Option, Some, None}
use Rattle.kern_ids.specs.declared.replies.FrameCounts.{FrameCounts}
use Rattle.kern_ids.specs.declared.replies.TokenCounts.{TokenCounts}
use Rattle.serde_json.specs.Data.{Data, number, unsigned, string, array, object, member, no_members}
use Rattle.serde_json.specs.View.{items_of}
use Rattle.history_text.specs.Entries.{state_word}
use Rattle.report_tables.specs.Facts.{Report}
use Rattle.report_tables.specs.Table.{activity_word}
use Rattle.kernel_tables.specs.declared.standing.LiveTask.{LiveTask}
use Rattle.report_tables.specs.declared.rows.TaskFacts.{TaskFacts}
use Rattle.kernel_tables.specs.declared.standing.MappedObject.{MappedObject}
use Rattle.report_tables.specs.declared.rows.ObjectFacts.{ObjectFacts}

-- a number, and a list
abbrev pub number_data : ℕ → Data
number_data n = number (unsigned n)

abbrev pub list_data : List Data → Data
list_data ds = array (items_of ds)

-- a task: dead, or its band, whether it is idle or active, and its pages
abbrev pub life_data : Option LiveTask → Data
life_data None = list_data (string (codes "dead") ∷ [])
life_data (Some t) =
    list_data (number_data t.band ∷ string (activity_word t.active) ∷ number_data t.counts.res_non ∷ number_data t.counts.res_vol ∷ number_data t.counts.com_non ∷ number_data t.counts.com_vol ∷ number_data t.counts.footprint ∷ [])

unfoldable pub task_data : TaskFacts → Data
task_data t = life_data t.life

-- an object: unmapped, or its state and its Active, Inactive and Stored pages
abbrev pub held_data : Option MappedObject → Data
held_data None = list_data (string (codes "unmapped") ∷ [])
held_data (Some m) = list_data (string (state_word m.state) ∷ number_data m.active ∷ number_data m.inactive ∷ number_data m.stored ∷ [])

unfoldable pub object_data : ObjectFacts → Data
object_data o = held_data o.held

-- what Info answers
unfoldable pub frames_data : FrameCounts → Data
frames_data f = list_data (number_data f.free ∷ number_data f.active ∷ number_data f.inactive ∷ number_data f.stored ∷ number_data f.entered ∷ number_data f.left ∷ [])

-- what Purgeables answers
unfoldable pub tokens_data : TokenCounts → Data
tokens_data t =
    list_data
    (number_data t.obsolete.tokens ∷ number_data t.obsolete.ripe ∷ number_data t.obsolete.next ∷ number_data t.obsolete.last
    ∷ number_data t.lifo.tokens ∷ number_data t.lifo.ripe ∷ number_data t.lifo.next ∷ number_data t.lifo.last
    ∷ number_data t.fifo.tokens ∷ number_data t.fifo.ripe ∷ number_data t.fifo.next ∷ number_data t.fifo.last ∷ [])

-- the keys in rising order
unfoldable pub facts_data : Report → Data
facts_data f = object
    (member (codes "entries") (number_data f.entries)
    (member (codes "frames") (frames_data f.frames)
    (member (codes "killed") (number_data f.killed)
    (member (codes "objects") (list_data (map object_data f.objects))
    (member (codes "purged") (number_data f.purged)
    (member (codes "tasks") (list_data (map task_data f.tasks))
    (member (codes "tokens") (tokens_data f.tokens)
    no_members)))))))
