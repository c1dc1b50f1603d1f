-- Which object is purged.
use Rattle.std.specs.Prelude.{ℕ, List, [], ◌∷◌, ◌++◌, Option, map, flat_map, option_and_then}
use Rattle.std.specs.List.{range_with_len}
use Rattle.kern_ids.specs.declared.entries.Entry.{Entry}
use Rattle.kern_ids.specs.declared.calls.Queue.{Queue}
use Rattle.kern_ids.specs.declared.calls.Queue.TheVariants.{Obsolete, Lifo, Fifo}
use Rattle.kernel_model.specs.System.{System}
use Rattle.kernel_model.specs.Groups.{first}
use Rattle.kernel_model.specs.Deadlines.{ripe_queue}
use Rattle.kernel_model.specs.Lists.{first_some}

-- the groups in which a ripe purge looks, for a ripe queue
abbrev pub places_for : Queue → List (Queue × ℕ)
places_for Obsolete = (Obsolete, 0) ∷ []
places_for Lifo = flat_map (λ g. (Lifo, g) ∷ (Fifo, g) ∷ []) (range_with_len 0 8)
places_for Fifo = flat_map (λ g. (Fifo, g) ∷ (Lifo, g) ∷ []) (range_with_len 0 8)

abbrev pub first_of : System → List Entry → List (Queue × ℕ) → Option ℕ
first_of boot past places = first_some (λ (q, g). first boot past q g) places

-- the object of a ripe purge: none where no queue is ripe
unfoldable pub pick : System → List Entry → Option ℕ
pick boot past = option_and_then (λ q. first_of boot past (places_for q)) (ripe_queue boot past)

abbrev pub groups_of : Queue → List (Queue × ℕ)
groups_of q = map (λ g. (q, g)) (range_with_len 0 8)

-- the object of a forced purge
unfoldable pub forced : System → List Entry → Option ℕ
forced boot past = first_of boot past (groups_of Fifo ++ groups_of Lifo ++ groups_of Obsolete)
