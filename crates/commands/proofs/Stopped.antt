-- Why an input is not read on, from how it was read before.
use Rattle.std.proofs.Common.{◌≡◌, ◌≤◌, ◌+◌, ◌-◌, ◌++◌, ℕ, List, [], length, take, Option, refl, arith, length-append}
use Rattle.std.specs.Io.KnownBytes.{Consumes, Keeps}
use Rattle.std.proofs.KnownBytes.{Consumes-nil, Consumes-kept, Consumes-trans}
use Rattle.std.proofs.lemmas.List.{length-take}
use Rattle.edge.specs.Ends.{Rose, TakesFront}
use Rattle.edge.specs.declared.reading.InputFault.{InputFault}
use Rattle.edge.specs.declared.reading.InputFault.TheVariants as fault
use Rattle.commands.specs.Stops.{Stops}

front_behind : (old mid new : Option (List ℕ)) (bytes : List ℕ) (room most : ℕ) → Consumes old mid bytes → length bytes + room ≡ most → TakesFront mid new room → TakesFront old new most
front_behind old mid new bytes room most took count t =
    let few = t.1 in
    (bytes ++ t.0, omega (arith, few, count, length-append bytes t.0), Consumes-trans old mid new bytes t.0 took t.2)

-- bytes were read before
pub stops-behind : (e : InputFault) (old mid new : Option (List ℕ)) (before between now room most : ℕ) (bytes : List ℕ) → Consumes old mid bytes → length bytes + room ≡ most → before ≤ between
    → Stops e mid new between now room → Stops e old new before now most
stops-behind fault.Over old mid new before between now room most bytes took count grows s =
    let one = s.2 in
    (bytes ++ s.0, Consumes-trans old mid new bytes s.0 took s.1, omega (arith, one, count, length-append bytes s.0))
stops-behind fault.Failed old mid new before between now room most bytes took count grows s =
    let rose = s.0 in
    (omega (arith, rose, grows), front_behind old mid new bytes room most took count s.1)
stops-behind fault.NoMemory old mid new before between now room most bytes took count grows s = front_behind old mid new bytes room most took count s

-- one byte more than might be was read
pub stops-over : (old new : Option (List ℕ)) (before now n room : ℕ) (piece : List ℕ) → Consumes old new (take n piece) → n ≤ length piece → n ≡ room + 1 → Stops fault.Over old new before now room
stops-over old new before now n room piece took within count = (take n piece, took, omega (arith, within, count, length-take n piece))

-- a read failed
pub stops-failed : (old new : Option (List ℕ)) (before now room : ℕ) → Keeps old new → Rose before now → Stops fault.Failed old new before now room
stops-failed old new before now room kept rose = (rose, ([], omega arith, Consumes-kept old old new [] (Consumes-nil old) kept))

-- memory was wanted behind bytes that were read
pub stops-memory : (old new : Option (List ℕ)) (before now most : ℕ) (bytes : List ℕ) → Consumes old new bytes → length bytes ≤ most → Stops fault.NoMemory old new before now most
stops-memory old new before now most bytes took few = (bytes, few, took)

-- ---- pieces that are read and not kept

-- bytes were taken, and so many more may come
pub record IsTaken (old new : Option (List ℕ)) (most room : ℕ) : Type 0 where
  pub bytes : List ℕ
  pub took : Consumes old new bytes
  pub count : length bytes + room ≡ most

pub taken-none : (old : Option (List ℕ)) (most : ℕ) → IsTaken old old most most
taken-none old most = record { bytes = []; took = Consumes-nil old; count = omega arith }

pub taken-more : (old mid new : Option (List ℕ)) (most room n : ℕ) (piece : List ℕ) → IsTaken old mid most room → Consumes mid new (take n piece) → n ≤ length piece → n ≤ room → IsTaken old new most (room - n)
taken-more old mid new most room n piece t took within few =
    let count = t.count in
    record {
      bytes = t.bytes ++ take n piece;
      took = Consumes-trans old mid new t.bytes (take n piece) t.took took;
      count = omega (arith, count, within, few, length-take n piece, length-append t.bytes (take n piece));
    }

pub taken-stops : (e : InputFault) (old mid new : Option (List ℕ)) (before between now most room : ℕ) → IsTaken old mid most room → before ≤ between → Stops e mid new between now room → Stops e old new before now most
taken-stops e old mid new before between now most room t grows stops = stops-behind e old mid new before between now room most t.bytes t.took t.count grows stops

-- want of memory behind one more piece
pub taken-memory : (old mid new : Option (List ℕ)) (before now most room n : ℕ) (piece : List ℕ) → IsTaken old mid most room → Consumes mid new (take n piece) → n ≤ room → Stops fault.NoMemory old new before now most
taken-memory old mid new before now most room n piece t took few =
    let count = t.count in
    stops-memory old new before now most (t.bytes ++ take n piece) (Consumes-trans old mid new t.bytes (take n piece) t.took took)
    (omega (arith, count, few, length-take n piece, length-append t.bytes (take n piece)))

-- bytes that are gathered
pub gathered : (old new : Option (List ℕ)) (bytes : List ℕ) (limit room : ℕ) → Consumes old new bytes → length bytes + room ≡ limit → IsTaken old new limit room
gathered old new bytes limit room took count = record { bytes = bytes; took = took; count = count }
