-- The table of the objects.
use Rattle.std.proofs.Common.{◌≡◌, ℕ, ◌+◌, ◌<◌, List, [], ◌∷◌, ◌++◌, find, length, get_or, reverse, take, ◌&&◌, not, Option, option_map, refl, sym, ap, ◌∙◌}
use Rattle.std.specs.List.{list_any}
use Rattle.kern_ids.specs.declared.entries.Entry.{Entry}
use Rattle.kern_ids.specs.declared.calls.Queue.{Queue}
use Rattle.kern_ids.specs.declared.calls.Queue.TheVariants.{Obsolete, Lifo, Fifo}
use Rattle.kernel_model.specs.System.{System}
use Rattle.kernel_model.specs.Newest.{newest}
use Rattle.kernel_model.specs.Groups.{standing, next_standing, first, objects_of}
use Rattle.kernel_model.proofs.Laws.Groups.{standing-more}
use Rattle.slow_kernel.specs.declared.groups.ObjectRow.{ObjectRow}
use Rattle.slow_kernel.specs.ObjectTables.{object_row, object_rows, row_stands_in, row_before, row_first, or_else, aged_at, aged_to, queued_to, ripe_first}
use Rattle.slow_kernel.proofs.Loops.{past_loop, past_length}
use Rattle.slow_kernel.proofs.Maps.{least_filter_map}
use Rattle.kernel_model.specs.Choice.{forced, pick, first_of, groups_of}
use Rattle.kernel_model.specs.Deadlines.{ripe_queue}
use Rattle.slow_kernel.proofs.Firsts.{or_else_assoc, first_some_append, first_some_more, first_some_map, first_some_flat_map}
use Rattle.std.proofs.Common.{ap₂, Some, None, option_and_then}
use Rattle.std.specs.List.{range_with_len, flat_map}
use Rattle.kernel_model.specs.Lists.{first_some}

pub standing_none : (o : ℕ) → standing [] o ≡ record { queue = Obsolete; group = 0; vstamp = 0 }
unfolding standing newest
standing_none o = refl

pub standing_loop : (h : List Entry) (i : ℕ) (e : Entry) (o : ℕ) → i < length h → e ≡ get_or h i e → standing (reverse (take (i + 1) h)) o ≡ next_standing o i (standing (reverse (take i h)) o) e
unfolding next_standing
standing_loop h i e o l r = rw (past_loop h i e l r) (rw (past_length h i l) at (standing-more e (reverse (take i h)) o))

pub first_rows : (boot : System) (past : List Entry) (q : Queue) (g : ℕ) (rows : List ObjectRow) → rows ≡ object_rows boot past → option_map (λ row. row.object) (find (row_first rows q g) rows) ≡ first boot past q g
unfolding first row_first
first_rows boot past q g rows e =
    ap (λ rs. option_map (λ row. row.object) (find (λ row. row_stands_in q g row && not (list_any (λ other. row_stands_in q g other && row_before q other row) rs)) rs)) e
    ∙ least_filter_map (row_before q) (row_stands_in q g) (object_row boot past) (λ row. row.object) (λ o. refl) (objects_of boot)

-- the groups of a queue, one more
pub queued_none : (boot : System) (past : List Entry) (q : Queue) → queued_to boot past q 0 ≡ None
unfolding queued_to
queued_none boot past q = refl

pub queued_more : (boot : System) (past : List Entry) (q : Queue) (g : ℕ) → queued_to boot past q (g + 1) ≡ or_else (queued_to boot past q g) (first boot past q g)
unfolding queued_to
queued_more boot past q g = first_some_more (first boot past q) g

queued-all : (boot : System) (past : List Entry) (q : Queue) → first_of boot past (groups_of q) ≡ queued_to boot past q 8
unfolding queued_to
queued-all boot past q = first_some_map (λ (q, g). first boot past q g) (λ g. (q, g)) (range_with_len 0 8)

pub forced_rows : (boot : System) (past : List Entry) → forced boot past ≡ or_else (queued_to boot past Fifo 8) (or_else (queued_to boot past Lifo 8) (queued_to boot past Obsolete 8))
unfolding forced
forced_rows boot past =
    first_some_append (λ (q, g). first boot past q g) (groups_of Fifo ++ groups_of Lifo) (groups_of Obsolete)
    ∙ ap (λ o. or_else o (first_of boot past (groups_of Obsolete))) (first_some_append (λ (q, g). first boot past q g) (groups_of Fifo) (groups_of Lifo))
    ∙ or_else_assoc (first_of boot past (groups_of Fifo)) (first_of boot past (groups_of Lifo)) (first_of boot past (groups_of Obsolete))
    ∙ ap₂ or_else (queued-all boot past Fifo) (ap₂ or_else (queued-all boot past Lifo) (queued-all boot past Obsolete))

-- the groups of two queues, one more
pub aged_none : (boot : System) (past : List Entry) (own other : Queue) → aged_to boot past own other 0 ≡ None
unfolding aged_to
aged_none boot past own other = refl

pub aged_more : (boot : System) (past : List Entry) (own other : Queue) (g : ℕ) → aged_to boot past own other (g + 1) ≡ or_else (or_else (aged_to boot past own other g) (first boot past own g)) (first boot past other g)
unfolding aged_to aged_at
aged_more boot past own other g =
    first_some_more (aged_at boot past own other) g
    ∙ sym (or_else_assoc (first_some (aged_at boot past own other) (range_with_len 0 g)) (first boot past own g) (first boot past other g))

or-last : (a b : Option ℕ) → first_some (λ o. o) (a ∷ b ∷ []) ≡ or_else a b
or-last (Some x) b = refl
or-last None (Some x) = refl
or-last None None = refl

pair-at : (boot : System) (past : List Entry) (own other : Queue) (g : ℕ) → first_of boot past ((own, g) ∷ (other, g) ∷ []) ≡ aged_at boot past own other g
unfolding aged_at
pair-at boot past own other g = or-last (first boot past own g) (first boot past other g)

first_some_same : (f g : ℕ → Option ℕ) → ((x : ℕ) → f x ≡ g x) → (xs : List ℕ) → first_some f xs ≡ first_some g xs
first_some_same f g h [] = refl
first_some_same f g h (x ∷ xs) = ap₂ (λ a b. elim a [ Some y ↦ Some y | None ↦ b ]) (h x) (first_some_same f g h xs)

aged-all : (boot : System) (past : List Entry) (own other : Queue) → first_of boot past (flat_map (λ g. (own, g) ∷ (other, g) ∷ []) (range_with_len 0 8)) ≡ aged_to boot past own other 8
unfolding aged_to
aged-all boot past own other =
    first_some_flat_map (λ (q, g). first boot past q g) (λ g. (own, g) ∷ (other, g) ∷ []) (range_with_len 0 8)
    ∙ first_some_same (λ g. first_of boot past ((own, g) ∷ (other, g) ∷ [])) (aged_at boot past own other) (pair-at boot past own other) (range_with_len 0 8)

pub ripe_lifo : (boot : System) (past : List Entry) → ripe_first boot past Lifo ≡ aged_to boot past Lifo Fifo 8
unfolding ripe_first
ripe_lifo boot past = aged-all boot past Lifo Fifo

pub ripe_fifo : (boot : System) (past : List Entry) → ripe_first boot past Fifo ≡ aged_to boot past Fifo Lifo 8
unfolding ripe_first
ripe_fifo boot past = aged-all boot past Fifo Lifo

alone : (o : Option ℕ) → first_some (λ x. x) (o ∷ []) ≡ o
alone None = refl
alone (Some x) = refl

pub ripe_obsolete : (boot : System) (past : List Entry) → ripe_first boot past Obsolete ≡ first boot past Obsolete 0
unfolding ripe_first
ripe_obsolete boot past = alone (first boot past Obsolete 0)

-- the choice, from the ripe queue
pub pick_from : (boot : System) (past : List Entry) → pick boot past ≡ option_and_then (ripe_first boot past) (ripe_queue boot past)
unfolding pick ripe_first
pick_from boot past = refl
