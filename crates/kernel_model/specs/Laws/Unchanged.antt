-- An entry leaves every answer as it was.
use Rattle.std.specs.Prelude.{◌≡◌, ℕ, List, ◌∷◌, false}
use Rattle.kern_ids.specs.declared.entries.Entry.{Entry}
use Rattle.kern_ids.specs.declared.ids.PageId.{PageId}
use Rattle.kern_ids.specs.declared.calls.Queue.{Queue}
use Rattle.kernel_model.specs.System.{System}
use Rattle.kernel_model.specs.Mapping.{live, maps, said_maps, owner, mapped, unmaps}
use Rattle.kernel_model.specs.State.{state}
use Rattle.kernel_model.specs.Contents.{byte}
use Rattle.kernel_model.specs.Pages.{placed, active_pages, inactive_pages, stored_pages, free, entered, left, touched_since, written}
use Rattle.kernel_model.specs.Groups.{standing, volatile, stands_in, first}
use Rattle.kernel_model.specs.Deadlines.{deadlines}
use Rattle.kernel_model.specs.Counted.{counts}
use Rattle.kernel_model.specs.Bands.{wish, active, limits, placing, band, ticks, counts_for_ageing}

pub record Unchanged (boot : System) (e : Entry) (before : List Entry) : Type 0 where
  pub live : (t : ℕ) → live boot (e ∷ before) t ≡ live boot before t
  pub said_maps : (o t : ℕ) → said_maps boot (e ∷ before) o t ≡ said_maps boot before o t
  pub maps : (o t : ℕ) → maps boot (e ∷ before) o t ≡ maps boot before o t
  pub owner : (o : ℕ) → owner boot (e ∷ before) o ≡ owner boot before o
  pub mapped : (o : ℕ) → mapped boot (e ∷ before) o ≡ mapped boot before o
  pub unmaps : (o : ℕ) → unmaps boot before e o ≡ false
  pub state : (o : ℕ) → state (e ∷ before) o ≡ state before o
  pub byte : (o b : ℕ) → byte (e ∷ before) o b ≡ byte before o b
  pub placed : (p : PageId) → placed boot (e ∷ before) p ≡ placed boot before p
  pub active_pages : active_pages boot (e ∷ before) ≡ active_pages boot before
  pub inactive_pages : inactive_pages boot (e ∷ before) ≡ inactive_pages boot before
  pub stored_pages : stored_pages boot (e ∷ before) ≡ stored_pages boot before
  pub free : free boot (e ∷ before) ≡ free boot before
  pub entered : entered (e ∷ before) ≡ entered before
  pub left : left boot (e ∷ before) ≡ left boot before
  pub touched_since : (p : PageId) → touched_since boot (e ∷ before) p ≡ touched_since boot before p
  pub written : (p : PageId) → written (e ∷ before) p ≡ written before p
  pub standing : (o : ℕ) → standing (e ∷ before) o ≡ standing before o
  pub volatile : (o : ℕ) → volatile boot (e ∷ before) o ≡ volatile boot before o
  pub stands_in : (q : Queue) (g o : ℕ) → stands_in boot (e ∷ before) q g o ≡ stands_in boot before q g o
  pub first : (q : Queue) (g : ℕ) → first boot (e ∷ before) q g ≡ first boot before q g
  pub deadlines : deadlines boot (e ∷ before) ≡ deadlines boot before
  pub counts : (t : ℕ) → counts boot (e ∷ before) t ≡ counts boot before t
  pub wish : (t : ℕ) → wish boot (e ∷ before) t ≡ wish boot before t
  pub active : (t : ℕ) → active boot (e ∷ before) t ≡ active boot before t
  pub limits : (t : ℕ) → limits boot (e ∷ before) t ≡ limits boot before t
  pub placing : (t : ℕ) → placing boot (e ∷ before) t ≡ placing boot before t
  pub band : (t : ℕ) → band boot (e ∷ before) t ≡ band boot before t
  pub ticks : (t : ℕ) → ticks boot (e ∷ before) t ≡ ticks boot before t
  pub counts_for_ageing : (t : ℕ) → counts_for_ageing boot (e ∷ before) t ≡ counts_for_ageing boot before t
