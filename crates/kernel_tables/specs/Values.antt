-- What the tables of a kernel are seen as.
use Rattle.std.specs.Prelude.{ℕ, List}
use Rattle.kern_ids.specs.declared.calls.Call.{Call}
use Rattle.kern_ids.specs.declared.entries.Entry.{Entry}
use Rattle.kern_ids.specs.declared.replies.Reply.{Reply}
use Rattle.kernel_model.specs.System.{System}
use Rattle.page_queues.specs.Pages.{Pages}
use Rattle.ripen_advance.specs.Queues.{QueueDues}
use Rattle.vm_object.specs.Objects.{Object}
use Rattle.task_ledger.specs.declared.account.Account.{Account}
use Rattle.idle_ageing.specs.Ageing.{Ageing}
use Rattle.kernel_tables.specs.declared.parts.Parts.{Parts}

-- what the kernel began with, the values of its parts, the band that each task wishes, and how many pages were ever deactivated
pub record TableValues : Type 0 where
  pub boot : System
  pub pages : Pages
  pub groups : List (List ℕ)
  pub tokens : QueueDues
  pub objects : List Object
  pub accounts : List Account
  pub bands : List (List ℕ)
  pub ages : Ageing
  pub wishes : List ℕ
  pub entered : ℕ

-- the values of the parts
abbrev pub values : Parts → TableValues
values parts = record {
  boot = parts.boot;
  pages = parts.objects.pages;
  groups = parts.objects.groups;
  tokens = parts.objects.tokens;
  objects = parts.objects.table;
  accounts = parts.tasks.ledgers;
  bands = parts.tasks.bands;
  ages = parts.tasks.ages;
  wishes = parts.tasks.wishes.items;
  entered = parts.entered;
}

-- the entry of a call
abbrev pub entry_of : ℕ → Call → Reply → Entry
entry_of who call reply = record { who = who; call = call; reply = reply }
