-- The ends of mappings and of tasks.
use Rattle.std.specs.Prelude.{◌≡◌, ℕ, zero, suc, List, ◌∷◌, length, drop, false, not, ◌&&◌, Option, Some, None, nat_eq, if◌then◌else◌, find}
use Rattle.std.specs.Option.{unwrap_or}
use Rattle.std.specs.List.{range_with_len}
use Rattle.kern_ids.specs.declared.entries.Entry.{Entry}
use Rattle.kern_ids.specs.declared.ids.PageId.{PageId}
use Rattle.kern_ids.specs.declared.calls.Queue.{Queue}
use Rattle.kernel_model.specs.System.{System}
use Rattle.kernel_model.specs.Mapping.{live, maps, unmaps}
use Rattle.kernel_model.specs.State.{state}
use Rattle.kernel_model.specs.Groups.{standing}
use Rattle.kernel_model.specs.Pages.{placed, touched_since, written, entered}
use Rattle.kernel_model.specs.Deadlines.{deadlines, after_unmappings}
use Rattle.kernel_model.specs.Bands.{wish, active, limits, placing, ticks}
use Rattle.kernel_model.specs.Laws.Kinds.{runs_for, unmap_entry}
use Rattle.purge_pick.specs.Picks.{HasTokens}
use Rattle.ripen_advance.specs.Queues.{QueueDues, dues_in, with_dues}
use Rattle.kernel_tables.specs.Values.{TableValues}
use Rattle.kernel_tables.specs.Stands.{PagesStand, QueuesStand, ObjectsStand, AccountsStand}

-- the objects' parts and the accounts stand for a history, whether a kernel can have it or not, and each queue has as many tokens as objects
pub record StandsOver (tables : TableValues) (past : List Entry) : Type 0 where
  pub pages : PagesStand tables.boot past tables.pages tables.entered
  pub queues : QueuesStand tables.boot past tables.groups tables.tokens
  pub objects : ObjectsStand tables.boot past tables.objects
  pub accounts : AccountsStand tables.boot past tables.accounts
  pub tokens : HasTokens tables.tokens tables.groups

-- the tokens after the first one of a queue went, if there is a queue
abbrev pub first_taken : Option Queue → QueueDues → QueueDues
first_taken None d = d
first_taken (Some q) d = with_dues d q (drop 1 (dues_in d q))

-- the first thread of a task, or 0 where it has none
unfoldable pub thread_of : System → ℕ → ℕ
thread_of boot t = unwrap_or (find (runs_for boot t) (range_with_len 0 (length boot.sides))) 0

-- the history as if the task had unmapped each of the first n objects that it maps
unfoldable pub parted : System → List Entry → ℕ → ℕ → List Entry
parted boot past t zero = past
parted boot past t (suc n) = if maps boot (parted boot past t n) n t then unmap_entry (thread_of boot t) n ∷ parted boot past t n else parted boot past t n

-- An entry that ends one task: it is dead after it and maps no object, and the others live and map as before. No state, wish, limit or
-- activity changes, no task is placed or ticks, nothing is written and no page is deactivated; a page stays where it is unless its object is
-- unmapped, and each volatile object that is takes the first deadline of its queue with it.
pub record IsEnding (boot : System) (e : Entry) (before : List Entry) (t : ℕ) : Type 0 where
  pub lives : (u : ℕ) → live boot (e ∷ before) u ≡ (not (nat_eq u t) && live boot before u)
  pub mappers : (o u : ℕ) → maps boot (e ∷ before) o u ≡ (not (nat_eq u t) && maps boot before o u)
  pub states_kept : (o : ℕ) → state (e ∷ before) o ≡ state before o
  pub standing_kept : (o : ℕ) → standing (e ∷ before) o ≡ standing before o
  pub placed_kept : (p : PageId) → unmaps boot before e p.obj ≡ false → placed boot (e ∷ before) p ≡ placed boot before p
  pub marks_kept : (p : PageId) → unmaps boot before e p.obj ≡ false → touched_since boot (e ∷ before) p ≡ touched_since boot before p
  pub written_kept : (p : PageId) → written (e ∷ before) p ≡ written before p
  pub none_entered : entered (e ∷ before) ≡ entered before
  pub deadlines_gone : deadlines boot (e ∷ before) ≡ after_unmappings boot before e (deadlines boot before)
  pub wishes_kept : (u : ℕ) → wish boot (e ∷ before) u ≡ wish boot before u
  pub activity_kept : (u : ℕ) → active boot (e ∷ before) u ≡ active boot before u
  pub limits_kept : (u : ℕ) → limits boot (e ∷ before) u ≡ limits boot before u
  pub placing_kept : (u : ℕ) → placing boot (e ∷ before) u ≡ placing boot before u
  pub ticks_kept : (u : ℕ) → ticks boot (e ∷ before) u ≡ ticks boot before u
