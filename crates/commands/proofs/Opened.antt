-- What an input begins with, from what was said of the bytes that were read.
use Rattle.std.proofs.Common.{◌≡◌, ◌≢◌, ◌≤◌, ◌+◌, ◌++◌, ℕ, List, [], length, take, Option, Err, refl, sym, ap, ◌∙◌, subst, arith, length-append, append-nil}
use Rattle.std.specs.Io.KnownBytes.{Consumes, IsAtEnd}
use Rattle.std.proofs.KnownBytes.{Consumes-trans}
use Rattle.scenario_text.proofs.FaultStays.{fault-stays}
use Rattle.commands.specs.declared.opening.Opening.{Opening}
use Rattle.commands.specs.declared.opening.Opening.TheVariants as opening
use Rattle.commands.specs.Openings.{IsOpened, IsGathered, IsBad, IsSkipped, ReadsPast, Says, Stays}

-- a read of no bytes takes none
pub took-none : (old mid new : Option (List ℕ)) (bytes piece : List ℕ) (n : ℕ) → Consumes old mid bytes → Consumes mid new (take n piece) → n ≡ 0 → Consumes old new bytes
took-none old mid new bytes piece n took none zero =
    let nothing : bytes ++ take n piece ≡ bytes = ap (λ (k : ℕ). bytes ++ take k piece) zero ∙ append-nil bytes in
    subst (Consumes old new) nothing (Consumes-trans old mid new bytes (take n piece) took none)

-- the input was read whole
pub opened-whole : (o : Opening) (bytes : List ℕ) (old new : Option (List ℕ)) (limit : ℕ) → Says o bytes → Consumes old new bytes → length bytes ≤ limit → IsAtEnd new → IsOpened o bytes old new limit
opened-whole (opening.Scenario plan taken lines) bytes old new limit says took few whole = record { front = says; took = took; few = few }
opened-whole (opening.Bad line why) bytes old new limit says took few whole = record { bytes = bytes; took = took; few = few; whole = whole; fault = says }

-- more was left; behind a fault it was read
pub opened-past : (o : Opening) (bytes : List ℕ) (old mid new : Option (List ℕ)) (room limit : ℕ) → Says o bytes → Stays o → Consumes old mid bytes → length bytes + room ≡ limit
    → ReadsPast o mid new room → IsOpened o bytes old new limit
opened-past (opening.Scenario plan taken lines) bytes old mid new room limit says stays took count past =
    record { front = says; took = subst (λ (left : Option (List ℕ)). Consumes old left bytes) past took; few = omega (arith, count) }
opened-past (opening.Bad line why) bytes old mid new room limit says stays took count past =
    let few = past.few in
    record {
      bytes = bytes ++ past.rest;
      took = Consumes-trans old mid new bytes past.rest took past.took;
      few = omega (arith, few, count, length-append bytes past.rest);
      whole = past.whole;
      fault = fault-stays bytes past.rest line why stays says;
    }

-- the same of what was read past
pub opened-read : (o first : Opening) (bytes : List ℕ) (old mid new : Option (List ℕ)) (room limit : ℕ) → Says first bytes × Stays first → Consumes old mid bytes → length bytes + room ≡ limit
    → (o ≡ first) × ReadsPast o mid new room → IsOpened o bytes old new limit
opened-read o first bytes old mid new room limit said took count past =
    opened-past o bytes old mid new room limit (subst (λ (x : Opening). Says x bytes) (sym past.0) said.0) (subst Stays (sym past.0) said.1) took count past.1
