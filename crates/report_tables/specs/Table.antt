-- The table of the state after a history, and its lines.
use Rattle.std.specs.Prelude.{ℕ, List, [], ◌∷◌, ◌++◌, map, codes, Bool, Option, Some, None, if◌then◌else◌}
use Rattle.std.specs.Fmt.{decimal}
use Rattle.kern_ids.specs.declared.replies.Reply.TheVariants.{Pages, Frames, Tokens}
use Rattle.line_text.specs.Cut.{Word, line_of, text_of}
use Rattle.history_text.specs.Entries.{state_word, reply_words}
use Rattle.report_tables.specs.Facts.{Report}
use Rattle.kernel_tables.specs.declared.standing.LiveTask.{LiveTask}
use Rattle.report_tables.specs.declared.rows.TaskFacts.{TaskFacts}
use Rattle.kernel_tables.specs.declared.standing.MappedObject.{MappedObject}
use Rattle.report_tables.specs.declared.rows.ObjectFacts.{ObjectFacts}

-- a line of these words, with its end
abbrev pub line_text : List Word → List ℕ
line_text words = line_of words ++ 10 ∷ []

-- how many entries, purges and kills
abbrev pub head_words : ℕ → ℕ → ℕ → List Word
head_words entries purged killed = codes "entries" ∷ decimal entries ∷ codes "purged" ∷ decimal purged ∷ codes "killed" ∷ decimal killed ∷ []

abbrev pub activity_word : Bool → Word
activity_word active = if active then codes "active" else codes "idle"

-- a task is dead, or stands in a band, idle or active, with its pages
abbrev pub life_words : Option LiveTask → List Word
life_words None = codes "dead" ∷ []
life_words (Some t) = codes "band" ∷ decimal t.band ∷ activity_word t.active ∷ reply_words (Pages t.counts)

unfoldable pub task_words : TaskFacts → List Word
task_words t = codes "task" ∷ decimal t.task ∷ life_words t.life

-- an object is unmapped, or has a state and so many Active, Inactive and Stored pages
abbrev pub held_words : Option MappedObject → List Word
held_words None = codes "unmapped" ∷ []
held_words (Some m) = state_word m.state ∷ decimal m.active ∷ decimal m.inactive ∷ decimal m.stored ∷ []

unfoldable pub object_words : ObjectFacts → List Word
object_words o = codes "object" ∷ decimal o.object ∷ codes "task" ∷ decimal o.first ∷ held_words o.held

-- all lines: the counts, the tasks, the objects, and what Info and Purgeables answer
unfoldable pub table_text : Report → List ℕ
table_text f =
    line_text (head_words f.entries f.purged f.killed) ++ text_of (map task_words f.tasks) ++ text_of (map object_words f.objects)
    ++ line_text (reply_words (Frames f.frames)) ++ line_text (reply_words (Tokens f.tokens))
