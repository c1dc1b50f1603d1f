-- The line of a trial: how many entries a history has, and how many replies of some kinds.
use Rattle.std.specs.Prelude.{ℕ, List, [], ◌∷◌, ◌++◌, length, codes, count_by, Bool, true, false, not, is_some}
use Rattle.std.specs.Fmt.{decimal}
use Rattle.kern_ids.specs.declared.entries.Entry.{Entry}
use Rattle.kern_ids.specs.declared.replies.Reply.{Reply}
use Rattle.kern_ids.specs.declared.replies.Reply.TheVariants.{Moved}
use Rattle.kern_ids.specs.declared.replies.Move.{Move}
use Rattle.kern_ids.specs.declared.replies.Move.TheVariants.{Freed, Compressed}
use Rattle.kernel_model.specs.Events.{is_reply, purged_by, killed_by}
use Rattle.line_text.specs.Cut.{Word, line_of}
use Rattle.report_tables.specs.declared.tally.Tally.{Tally}

-- a refusal, a purge, a kill
abbrev pub is_refusal : Reply → Bool
is_refusal reply = not (is_reply reply)

abbrev pub is_purging : Reply → Bool
is_purging reply = is_some (purged_by reply)

abbrev pub is_killing : Reply → Bool
is_killing reply = is_some (killed_by reply)

abbrev pub is_freed : Move → Bool
is_freed Freed = true
is_freed _ = false

abbrev pub is_compressed : Move → Bool
is_compressed Compressed = true
is_compressed _ = false

-- the scan frees a page, or compresses one
abbrev pub is_freeing : Reply → Bool
is_freeing (Moved move page) = is_freed move
is_freeing _ = false

abbrev pub is_compressing : Reply → Bool
is_compressing (Moved move page) = is_compressed move
is_compressing _ = false

-- how many replies are of such a kind
abbrev pub replies : (Reply → Bool) → List Entry → ℕ
replies kind h = count_by (λ e. kind e.reply) h

-- how many entries there are, and how many replies of each kind that is counted
abbrev pub tally : List Entry → Tally
tally h = record {
  entries = length h;
  refused = replies is_refusal h;
  purged = replies is_purging h;
  killed = replies is_killing h;
  freed = replies is_freeing h;
  compressed = replies is_compressing h;
}

abbrev pub tally_words : Tally → List Word
tally_words t =
    codes "entries" ∷ decimal t.entries ∷ codes "refused" ∷ decimal t.refused ∷ codes "purged" ∷ decimal t.purged
    ∷ codes "killed" ∷ decimal t.killed ∷ codes "freed" ∷ decimal t.freed ∷ codes "compressed" ∷ decimal t.compressed ∷ []

-- the line, with its end
abbrev pub summary_text : List Entry → List ℕ
summary_text h = line_of (tally_words (tally h)) ++ 10 ∷ []
