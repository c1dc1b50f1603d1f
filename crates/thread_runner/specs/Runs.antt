-- What a run of a script and of a scenario comes to.
use Rattle.std.specs.Prelude.{◌≡◌, ℕ, List, ◌++◌, IsTrue}
use Rattle.kern_ids.specs.declared.entries.Entry.{Entry}
use Rattle.kern_ids.specs.declared.calls.Call.{Call}
use Rattle.kernel_model.specs.System.{System}
use Rattle.kernel_model.specs.Histories.{fits}
use Rattle.kernel_model.specs.Whole.{calls_of}
use Rattle.kernel_shared.specs.Calls.{KernelPass}

-- the call is one that the thread may make
abbrev pub FitsBy : System → ℕ → Call → Type 0
FitsBy boot n call = IsTrue (fits boot n call)

-- the pass has made these calls since, each once and in this order
abbrev pub HasRun : KernelPass → KernelPass → List Call → Type 0
HasRun old new calls = (es : List Entry) × (new.mine ≡ old.mine ++ es) × (calls_of es ≡ calls)

-- the pass has made the first of these calls
abbrev pub HasRunSome : KernelPass → KernelPass → List Call → Type 0
HasRunSome old new calls = (done : List Call) × (rest : List Call) × (calls ≡ done ++ rest) × HasRun old new done
