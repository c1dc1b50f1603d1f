-- The objects of a group in their order, and what an entry makes of them.
use Rattle.std.specs.Prelude.{◌≡◌, ℕ, ◌<◌, List, [], ◌∷◌, ◌++◌, length, Bool, true, false, not, ◌&&◌, Option, filter, if◌then◌else◌, nat_eq, slice_get}
use Rattle.kern_ids.specs.declared.entries.Entry.{Entry}
use Rattle.kern_ids.specs.declared.calls.Queue.{Queue}
use Rattle.kernel_model.specs.System.{System}
use Rattle.kernel_model.specs.Lists.{in_order}
use Rattle.kernel_model.specs.Groups.{standing, stands_in, is_lifo, objects_of}
use Rattle.kernel_model.specs.Laws.Queues.{nearer}
use Rattle.kernel_model.specs.Laws.Next.{Step, after, unmapped_in}

-- the volatile objects of a queue and group, from the head on
abbrev pub members_of : System → List Entry → Queue → ℕ → List ℕ
members_of boot past q g = in_order (nearer past q) (filter (stands_in boot past q g) (objects_of boot))

abbrev pub members_before : Step → Queue → ℕ → List ℕ
members_before s q g = members_of s.boot s.before q g

abbrev pub head_before : Step → Queue → ℕ → Option ℕ
head_before s q g = slice_get (members_before s q g) 0

abbrev pub members_after : Step → Queue → ℕ → List ℕ
members_after s q g = members_of s.boot (after s) q g

abbrev pub other_than : ℕ → List ℕ → List ℕ
other_than o os = filter (λ x. not (nat_eq o x)) os

-- the entry puts o in the group, and no other object in or out of it
pub record Enters (s : Step) (q : Queue) (g o : ℕ) : Type 0 where
  pub declared : o < length s.boot.objects
  pub stands : stands_in s.boot (after s) q g o ≡ true
  pub stamp : (standing (after s) o).vstamp ≡ length s.before
  pub others : (x : ℕ) → nat_eq o x ≡ false → stands_in s.boot (after s) q g x ≡ stands_in s.boot s.before q g x
  pub standing_kept : (x : ℕ) → nat_eq o x ≡ false → standing (after s) x ≡ standing s.before x

-- of the group only the objects with a test stay, and none comes
pub record Leaves (s : Step) (q : Queue) (g : ℕ) (stays : ℕ → Bool) : Type 0 where
  pub stand : (x : ℕ) → stands_in s.boot (after s) q g x ≡ (stays x && stands_in s.boot s.before q g x)
  pub standing_kept : (x : ℕ) → stands_in s.boot (after s) q g x ≡ true → standing (after s) x ≡ standing s.before x

-- the objects that the entry doesn't unmap
abbrev pub still_mapped : Step → ℕ → Bool
still_mapped s o = not (unmapped_in s o)

-- what the group is then
abbrev pub AddsMember : Step → Queue → ℕ → ℕ → Type 0
AddsMember s q g o = members_after s q g ≡ (if is_lifo q then o ∷ other_than o (members_before s q g) else other_than o (members_before s q g) ++ o ∷ [])

abbrev pub KeepsMembers : Step → Queue → ℕ → (ℕ → Bool) → Type 0
KeepsMembers s q g stays = members_after s q g ≡ filter stays (members_before s q g)
