-- What a reader of histories answers.
use Rattle.std.proofs.Common.{◌≡◌, ℕ, ◌≤◌, List, length, Result, Ok, Err, ap, ◌∙◌, subst, All}
use Rattle.std.specs.Result.{IfOk}
use Rattle.std.proofs.lemmas.List.Elements.{recursion_from_All, All-from_recursion, All-weaker}
use Rattle.kern_ids.specs.declared.faults.ReadFault.{ReadFault}
use Rattle.kern_ids.specs.declared.entries.Entry.{Entry}
use Rattle.kern_ids.specs.Entries.{Entries, IsSound}
use Rattle.history_text.specs.History.{history_text}
use Rattle.history_text.specs.EntryReading.{HasText}
use Rattle.history_text.specs.HistoryReading.{history_of, ReadGives}
use Rattle.history_text.proofs.Sound.{text_sound}
use Rattle.history_text.proofs.HistoryLaws.{history_takes, history_again}

pub read_written : (n : ℕ) (r : Result Entries ReadFault) (bytes : List ℕ) → ReadGives r (history_of n bytes) → IfOk r (λ h. bytes ≡ history_text h.list)
read_written n (Ok h) bytes g = let t = history_takes n bytes h.list g in t.0
read_written n (Err e) bytes g = tt

pub read_texts : (n : ℕ) (r : Result Entries ReadFault) (bytes : List ℕ) → ReadGives r (history_of n bytes) → IfOk r (λ h. All HasText h.list)
read_texts n (Ok h) bytes g = let t = history_takes n bytes h.list g in All-from_recursion HasText h.list t.1
read_texts n (Err e) bytes g = tt

pub read_sound : (n : ℕ) (r : Result Entries ReadFault) (bytes : List ℕ) → ReadGives r (history_of n bytes) → IfOk r (λ h. All IsSound h.list)
read_sound n (Ok h) bytes g = All-weaker HasText IsSound text_sound h.list (read_texts n (Ok h) bytes g)
read_sound n (Err e) bytes g = tt

pub read_few : (n : ℕ) (r : Result Entries ReadFault) (bytes : List ℕ) → ReadGives r (history_of n bytes) → IfOk r (λ h. length h.list ≤ 200000)
read_few n (Ok h) bytes g = let t = history_takes n bytes h.list g in t.2
read_few n (Err e) bytes g = tt

pub read_again : (n : ℕ) (r : Result Entries ReadFault) (bytes : List ℕ) (h : List Entry) → ReadGives r (history_of n bytes) → All HasText h → length h ≤ 200000 → bytes ≡ history_text h → ReadGives r (Ok h)
read_again n r bytes h g all few e = subst (ReadGives r) (ap (history_of n) e ∙ history_again n h (recursion_from_All HasText h all) few) g
