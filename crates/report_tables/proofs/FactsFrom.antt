-- What stands after a history, from its parts. Counts don't depend on the order of what is counted.
use Rattle.std.proofs.Common.{◌≡◌, ℕ, List, [], ◌∷◌, length, map, reverse, Bool, count_by, cond, refl, sym, ap, ◌∙◌, arith}
use Rattle.std.proofs.lemmas.List.{reverse-append, length-reverse}
use Rattle.std.proofs.lemmas.List.Sums.{sum_by-cons, sum_by-append}
use Rattle.kern_ids.specs.declared.entries.Entry.{Entry}
use Rattle.kern_ids.specs.declared.replies.Reply.{Reply}
use Rattle.kern_ids.specs.declared.replies.FrameCounts.{FrameCounts}
use Rattle.kern_ids.specs.declared.replies.TokenCounts.{TokenCounts}
use Rattle.kernel_model.specs.System.{System}
use Rattle.kernel_model.specs.Mapping.{tasks_of}
use Rattle.kernel_model.specs.Groups.{objects_of}
use Rattle.kernel_model.specs.Answers.{frames_reply, tokens_reply}
use Rattle.report_tables.specs.Summary.{replies, is_purging, is_killing}
use Rattle.report_tables.specs.Facts.{Report, task_facts, object_facts, frames_in, tokens_in, facts_of}
use Rattle.report_tables.specs.declared.rows.TaskFacts.{TaskFacts}
use Rattle.report_tables.specs.declared.rows.ObjectFacts.{ObjectFacts}

count_by_reverse : {A : Type 0} (p : A → Bool) (xs : List A) → count_by p (reverse xs) ≡ count_by p xs
count_by_reverse p [] = refl
count_by_reverse p (x ∷ xs) =
    let push = ap (count_by p) (reverse-append (x ∷ []) xs) in
    let apart = sum_by-append (λ y. cond (p y) 1 0) (reverse xs) (x ∷ []) in
    let one = sum_by-cons (λ y. cond (p y) 1 0) x [] in
    let more = sum_by-cons (λ y. cond (p y) 1 0) x xs in
    let rest = count_by_reverse p xs in
    omega arith

replies_reverse : (kind : Reply → Bool) (h : List Entry) → replies kind (reverse h) ≡ replies kind h
replies_reverse kind h = count_by_reverse (λ e. kind e.reply) h

same_report : (a b : Report) → a.entries ≡ b.entries → a.purged ≡ b.purged → a.killed ≡ b.killed → a.tasks ≡ b.tasks → a.objects ≡ b.objects → a.frames ≡ b.frames → a.tokens ≡ b.tokens → a ≡ b
same_report a b e p k t o f s =
    ap (λ (x : ℕ). record { entries = x; purged = a.purged; killed = a.killed; tasks = a.tasks; objects = a.objects; frames = a.frames; tokens = a.tokens }) e
    ∙ ap (λ (x : ℕ). record { entries = b.entries; purged = x; killed = a.killed; tasks = a.tasks; objects = a.objects; frames = a.frames; tokens = a.tokens }) p
    ∙ ap (λ (x : ℕ). record { entries = b.entries; purged = b.purged; killed = x; tasks = a.tasks; objects = a.objects; frames = a.frames; tokens = a.tokens }) k
    ∙ ap (λ (x : List TaskFacts). record { entries = b.entries; purged = b.purged; killed = b.killed; tasks = x; objects = a.objects; frames = a.frames; tokens = a.tokens }) t
    ∙ ap (λ (x : List ObjectFacts). record { entries = b.entries; purged = b.purged; killed = b.killed; tasks = b.tasks; objects = x; frames = a.frames; tokens = a.tokens }) o
    ∙ ap (λ (x : FrameCounts). record { entries = b.entries; purged = b.purged; killed = b.killed; tasks = b.tasks; objects = b.objects; frames = x; tokens = a.tokens }) f
    ∙ ap (λ (x : TokenCounts). record { entries = b.entries; purged = b.purged; killed = b.killed; tasks = b.tasks; objects = b.objects; frames = b.frames; tokens = x }) s

pub facts_from : (boot : System) (h : List Entry) (purged killed : ℕ) (tasks : List TaskFacts) (objects : List ObjectFacts) (frames : FrameCounts) (tokens : TokenCounts)
    → purged ≡ replies is_purging h → killed ≡ replies is_killing h
    → tasks ≡ map (task_facts boot (reverse h)) (tasks_of boot) → objects ≡ map (object_facts boot (reverse h)) (objects_of boot)
    → frames ≡ frames_in (frames_reply boot (reverse h)) → tokens ≡ tokens_in (tokens_reply boot (reverse h))
    → record { entries = length h; purged = purged; killed = killed; tasks = tasks; objects = objects; frames = frames; tokens = tokens } ≡ facts_of boot (reverse h)
unfolding facts_of
facts_from boot h purged killed tasks objects frames tokens p k t o f s =
    same_report (record { entries = length h; purged = purged; killed = killed; tasks = tasks; objects = objects; frames = frames; tokens = tokens }) (facts_of boot (reverse h))
    (sym (length-reverse h)) (p ∙ sym (replies_reverse is_purging h)) (k ∙ sym (replies_reverse is_killing h)) t o f s
