use Rattle.std.proofs.Common.{◌<◌, ℕ, List, All, subst, sym}
use Rattle.kernel_model.specs.Valid.{IsValidCall}
use Rattle.kernel_model.proofs.call_ranges.valid_call.Goals as goal

pub returns-in-Write : goal.returns-in-Write
returns-in-Write c =
    let said = c.as_slice.ensures in
    subst IsValidCall (sym c.in-Write.is) (c.number_bound.ensures, rw said.value at said.bound, subst (λ (bs : List ℕ). All (λ b. b < 256) bs) said.value c.byte_bounds.ensures)

pub returns-in-Read : goal.returns-in-Read
returns-in-Read c =
    subst IsValidCall (sym c.in-Read.is) (c.number_bound-in-Read.ensures, c.number_bound-in-Read-2.ensures)
