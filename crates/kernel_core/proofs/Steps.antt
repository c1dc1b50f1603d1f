-- What a kernel keeps at the start.
use Rattle.std.proofs.Common.{◌≡◌, ℕ, List, [], sym, subst, zero-le, arith}
use Rattle.kern_ids.specs.declared.entries.Entry.{Entry}
use Rattle.kernel_tables.specs.Values.{TableValues}
use Rattle.kernel_tables.specs.Stands.{Stands}
use Rattle.kernel_core.specs.Kernels.{KeepsHistory}

pub begins : (tables : TableValues) (list : List Entry) (spare : ℕ) → list ≡ [] → Stands tables [] → KeepsHistory tables list spare 0
begins tables list spare none s = subst (λ (h : List Entry). KeepsHistory tables h spare 0) (sym none) (record { stands = s; reserved = zero-le; most = omega arith })
