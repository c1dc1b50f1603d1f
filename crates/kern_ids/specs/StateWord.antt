-- The word that sets the state of an object.
use Rattle.std.specs.Prelude.{ℕ, ◌/◌, Option, Some, None, bit_and, nat_eq, if◌then◌else◌, not}
use Rattle.kern_ids.specs.declared.calls.Queue.{Queue}
use Rattle.kern_ids.specs.declared.calls.Queue.TheVariants.{Obsolete, Lifo, Fifo}
use Rattle.kern_ids.specs.declared.calls.Wish.{Wish}
use Rattle.kern_ids.specs.declared.calls.Wish.TheVariants.{Nonvolatile, Empty, Volatile}

-- bits 8 to 10
abbrev group_bits : ℕ → ℕ
group_bits word = bit_and (word / 256) 7

-- the queue by bits 5 and 6
abbrev queue_bits : ℕ → Queue
queue_bits word =
    if not (nat_eq (bit_and word 0x20) 0) then Obsolete else if not (nat_eq (bit_and word 0x40) 0) then Lifo else Fifo

-- what a word asks for: nothing where a bit outside 0x773 is set or bits 0 and 1 are both set
abbrev pub decoded : ℕ → Option Wish
decoded word =
    if not (nat_eq (bit_and word 0x773) word) then None
    else if nat_eq (bit_and word 3) 0 then Some Nonvolatile
    else if nat_eq (bit_and word 3) 2 then Some Empty
    else if nat_eq (bit_and word 3) 1 then
    Some (Volatile (queue_bits word) (if not (nat_eq (bit_and word 0x20) 0) then 0 else group_bits word))
    else None
