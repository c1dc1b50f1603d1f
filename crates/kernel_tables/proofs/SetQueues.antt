-- The groups and the tokens after an object left its group and entered another one.
use Rattle.std.proofs.Common.{◌≡◌, ℕ, ◌+◌, ◌-◌, ◌<◌, ◌≤◌, List, [], ◌∷◌, ◌++◌, length, map, Option, Some, None, refl, sym, ap, ◌∙◌, subst, Bool, true, false, not, ◌&&◌, if◌then◌else◌, inl, inr, nat_eq, arith}
use Rattle.std.specs.Option.{option_map_or}
use Rattle.std.proofs.lemmas.Bool.{cases_Bool, false≢true, true≢false}
use Rattle.std.proofs.lemmas.Bool.Decides.{eqb_tells, nat_tests}
use Rattle.std.proofs.lemmas.List.{length-map, length-append, get_or-set_same, get_or-set_other}
use Rattle.kern_ids.specs.declared.entries.Entry.{Entry}
use Rattle.kern_ids.specs.declared.calls.Queue.{Queue}
use Rattle.kern_ids.specs.declared.calls.Queue.TheVariants.{Obsolete, Lifo, Fifo}
use Rattle.kernel_model.specs.System.{System}
use Rattle.kernel_model.specs.Groups.{standing, stands_in, same_queue}
use Rattle.kernel_model.specs.Deadlines.{Deadlines, of_queue, with_new, new_deadline, without_first, without_last}
use Rattle.kernel_model.specs.Pages.{entered}
use Rattle.kernel_model.specs.Laws.Queues.{KeepsGroup}
use Rattle.kernel_model.proofs.Laws.Lists.{same_queue-is, with_queue-of}
use Rattle.kernel_model.proofs.Laws.Queues.{group-enter, group-enter_lifo, group-filter}
use Rattle.link_list.specs.KeyLists.{without, place_of}
use Rattle.link_list.proofs.Places.{without_nowhere}
use Rattle.volatile_groups.specs.Grouped.{first_list, members, joined, entered as with_object}
use Rattle.ripen_advance.specs.Queues.{QueueDues, dues_in}
use Rattle.purge_pick.specs.Follows.{Follows}
use Rattle.purge_pick.proofs.FollowLemmas.{first-follows, last-follows, added-follows}
use Rattle.kernel_tables.specs.Settings.{entered_at, token_taken, token_added}
use Rattle.kernel_tables.specs.Stands.{HasGroups}
use Rattle.kernel_tables.proofs.Lists.{removed-at}

-- the number of a queue's list
list_below : (q : Queue) (g : ℕ) → g < 8 → first_list q + g < 24
list_below Obsolete g l = omega arith
list_below Lifo g l = omega arith
list_below Fifo g l = omega arith

number_differs : (a b : ℕ) → nat_eq a b ≡ false → a ≡ b → ⊥
number_differs a b h e = elim (eqb_tells a b) [ inl same ↦ absurd (true≢false (sym same.0 ∙ h)) | inr other ↦ other.1 e ]

lists_differ : (p q : Queue) (a b : ℕ) → a < 8 → b < 8 → (same_queue p q && nat_eq a b) ≡ false → first_list q + b ≡ first_list p + a → ⊥
lists_differ Obsolete Obsolete a b l m h e = number_differs a b h (omega arith)
lists_differ Obsolete Lifo a b l m h e = absurd (omega arith)
lists_differ Obsolete Fifo a b l m h e = absurd (omega arith)
lists_differ Lifo Obsolete a b l m h e = absurd (omega arith)
lists_differ Lifo Lifo a b l m h e = number_differs a b h (omega arith)
lists_differ Lifo Fifo a b l m h e = absurd (omega arith)
lists_differ Fifo Obsolete a b l m h e = absurd (omega arith)
lists_differ Fifo Lifo a b l m h e = absurd (omega arith)
lists_differ Fifo Fifo a b l m h e = number_differs a b h (omega arith)

-- whether an object enters a queue and group
abbrev pub enters : Option (Queue × ℕ) → Queue → ℕ → Bool
enters None q g = false
enters (Some place) q g = same_queue place.0 q && nat_eq place.1 g

both_true : (a b : Bool) → (a && b) ≡ true → (a ≡ true) × (b ≡ true)
both_true true b h = (refl, h)
both_true false b h = absurd (false≢true h)

-- an object that left its group, or stood in none
pub left-group : (leaves : Bool) (o : ℕ) (groups : List (List ℕ)) → (leaves ≡ false → place_of o groups ≡ None) → (if leaves then map (without o) groups else groups) ≡ map (without o) groups
left-group true o groups h = refl
left-group false o groups h = sym (without_nowhere o groups (h refl))

module _ (boot : System) (e : Entry) (before : List Entry) (o : ℕ) (inside : o < length boot.objects) (groups : List (List ℕ)) (count : length groups ≡ 24) (s : HasGroups boot before groups) (others : (q : Queue) (g x : ℕ) → nat_eq o x ≡ false → stands_in boot (e ∷ before) q g x ≡ stands_in boot before q g x) (stays : (x : ℕ) → nat_eq o x ≡ false → standing (e ∷ before) x ≡ standing before x) where
  abbrev gone : List (List ℕ)
  gone = map (without o) groups

  -- a group that the object doesn't enter
  group_left : (q : Queue) (g : ℕ) → g < 8 → stands_in boot (e ∷ before) q g o ≡ false → KeepsGroup boot (e ∷ before) q g (members gone q g)
  group_left q g l out =
      let leaves : (x : ℕ) → stands_in boot (e ∷ before) q g x ≡ (not (nat_eq o x) && stands_in boot before q g x) =
      λ x. elim (eqb_tells o x) [
        | inl same ↦ subst (λ (y : ℕ). stands_in boot (e ∷ before) q g y ≡ false) same.1 out ∙ sym (ap (λ b. not b && stands_in boot before q g x) same.0)
        | inr other ↦ others q g x other.0 ∙ sym (ap (λ b. not b && stands_in boot before q g x) other.0)
      ] in
      let kept : (x : ℕ) → stands_in boot (e ∷ before) q g x ≡ true → standing (e ∷ before) x ≡ standing before x =
      λ x h. elim (eqb_tells o x) [
        | inl same ↦ absurd (false≢true (sym out ∙ ap (stands_in boot (e ∷ before) q g) same.1 ∙ h))
        | inr other ↦ stays x other.0
      ] in
      subst (KeepsGroup boot (e ∷ before) q g) (sym (removed-at groups o (first_list q + g))) (group-filter boot e before q g (λ x. not (nat_eq o x)) (members groups q g) leaves kept (s q g l))

  -- the group that it enters
  joins : (q : Queue) (g : ℕ) → g < 8 → stands_in boot (e ∷ before) q g o ≡ true → (standing (e ∷ before) o).vstamp ≡ length before → KeepsGroup boot (e ∷ before) q g (joined q o (without o (members groups q g)))
  joins Obsolete g l into stamp = group-enter boot e before Obsolete g o (members groups Obsolete g) refl (others Obsolete g) stays inside into stamp (s Obsolete g l)
  joins Lifo g l into stamp = group-enter_lifo boot e before Lifo g o (members groups Lifo g) refl (others Lifo g) stays inside into stamp (s Lifo g l)
  joins Fifo g l into stamp = group-enter boot e before Fifo g o (members groups Fifo g) refl (others Fifo g) stays inside into stamp (s Fifo g l)

  group_entered : (p : Queue) (a : ℕ) → a < 8 → stands_in boot (e ∷ before) p a o ≡ true → (standing (e ∷ before) o).vstamp ≡ length before → KeepsGroup boot (e ∷ before) p a (members (with_object gone p a o) p a)
  group_entered p a l into stamp =
      let below = list_below p a l in
      let within : first_list p + a < length gone = (let n = length-map groups (without o) in omega (arith, below, n, count)) in
      subst (KeepsGroup boot (e ∷ before) p a)
      (sym (get_or-set_same gone (first_list p + a) (joined p o (members gone p a)) [] within ∙ ap (joined p o) (removed-at groups o (first_list p + a))))
      (joins p a l into stamp)

  pub groups-set : (enter : Option (Queue × ℕ)) → ((place : Queue × ℕ) → enter ≡ Some place → place.1 < 8) → ((q : Queue) (g : ℕ) → stands_in boot (e ∷ before) q g o ≡ enters enter q g) → ((place : Queue × ℕ) → enter ≡ Some place → (standing (e ∷ before) o).vstamp ≡ length before) → HasGroups boot (e ∷ before) (entered_at enter o gone)
  groups-set None few stands stamp q g l = group_left q g l (stands q g)
  groups-set (Some place) few stands stamp q g l = elim (cases_Bool (same_queue place.0 q && nat_eq place.1 g)) [
    | inl here ↦
        let both = both_true (same_queue place.0 q) (nat_eq place.1 g) here in
        let queue : place.0 ≡ q = same_queue-is place.0 q both.0 in
        let group : place.1 ≡ g = (let t = both.1 in grind (arith, nat_tests)) in
        let into : stands_in boot (e ∷ before) q g o ≡ true = stands q g ∙ here in
        subst (λ (r : Queue). KeepsGroup boot (e ∷ before) q g (members (with_object gone r place.1 o) q g)) (sym queue)
        (subst (λ (b : ℕ). KeepsGroup boot (e ∷ before) q g (members (with_object gone q b o) q g)) (sym group)
        (group_entered q g l into (stamp place refl)))
    | inr away ↦
        let apart : first_list q + g ≡ first_list place.0 + place.1 → ⊥ = lists_differ place.0 q place.1 g (few place refl) l away in
        subst (KeepsGroup boot (e ∷ before) q g) (sym (get_or-set_other gone (first_list place.0 + place.1) (first_list q + g) (joined place.0 o (members gone place.0 place.1)) [] apart))
        (group_left q g l (stands q g ∙ away))
  ]

-- the tokens follow the deadlines
pub taken-follows : (first last : Bool) (from : Option Queue) (d : Deadlines) (e l : ℕ) (v : QueueDues) → Follows d e l v → Follows (if first then option_map_or (λ q. without_first q d) from d else if last then option_map_or (λ q. without_last q d) from d else d) e l (token_taken first last from v)
taken-follows true last None d e l v f = f
taken-follows false true None d e l v f = f
taken-follows false false None d e l v f = f
taken-follows true last (Some q) d e l v f = first-follows d e l v q f
taken-follows false true (Some q) d e l v f = last-follows d e l v q f
taken-follows false false (Some q) d e l v f = f

pub token-added_follows : (before : List Entry) (new : Bool) (enter : Option (Queue × ℕ)) (d : Deadlines) (l : ℕ) (v : QueueDues) → Follows d (entered before) l v → Follows (if new then option_map_or (λ place. with_new before place.0 d) enter d else d) (entered before) l (token_added new enter v)
token-added_follows before true None d l v f = f
token-added_follows before false None d l v f = f
token-added_follows before true (Some place) d l v f = added-follows before d l v place.0 f
token-added_follows before false (Some place) d l v f = f

-- a token more has room where the deadlines after it are few
same_queue-itself : (q : Queue) → same_queue q q ≡ true
same_queue-itself Obsolete = refl
same_queue-itself Lifo = refl
same_queue-itself Fifo = refl

with_new-length : (before : List Entry) (q : Queue) (d : Deadlines) → length (of_queue (with_new before q d) q) ≡ length (of_queue d q) + 1
with_new-length before q d =
    ap length (with_queue-of d q q (of_queue d q ++ new_deadline before q ∷ []) ∙ ap (λ b. if b then of_queue d q ++ new_deadline before q ∷ [] else of_queue d q) (same_queue-itself q))
    ∙ length-append (of_queue d q) (new_deadline before q ∷ [])

pub token-room : (before : List Entry) (new : Bool) (enter : Option (Queue × ℕ)) (d : Deadlines) (e l : ℕ) (v : QueueDues) → Follows d e l v → ((q : Queue) → length (of_queue (if new then option_map_or (λ place. with_new before place.0 d) enter d else d) q) ≤ 256) → (place : Queue × ℕ) → enter ≡ Some place → new ≡ true → length (dues_in v place.0) < 256
token-room before new enter d e l v f few place is on =
    let some : length (of_queue (with_new before place.0 d) place.0) ≤ 256 =
    subst (λ (x : Option (Queue × ℕ)). length (of_queue (option_map_or (λ place. with_new before place.0 d) x d) place.0) ≤ 256) is
    (subst (λ (b : Bool). length (of_queue (if b then option_map_or (λ place. with_new before place.0 d) enter d else d) place.0) ≤ 256) on (few place.0)) in
    let more = with_new-length before place.0 d in
    let same : length (dues_in v place.0) ≡ length (of_queue d place.0) = ap length (f.dues place.0) ∙ length-map (of_queue d place.0) (λ x. x - l) in
    omega (arith, some, more, same)
