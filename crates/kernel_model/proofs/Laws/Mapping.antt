use Rattle.std.proofs.Common.{◌≡◌, ℕ, List, [], ◌∷◌, Option, Some, None, refl, Bool, true, false, not, ◌&&◌, ◌||◌, find, ◌⊎◌, inl, inr, if◌then◌else◌}
use Rattle.std.specs.Option.{unwrap_or}
use Rattle.std.specs.List.{list_any}
use Rattle.kern_ids.specs.declared.entries.Entry.{Entry}
use Rattle.kernel_model.specs.System.{System}
use Rattle.kernel_model.specs.Mapping.{live, next_live, maps, said_maps, next_said, says_maps, owner, mapped, tasks_of, unmaps}
use Rattle.kernel_model.specs.Events.{is_end, is_map, is_attach, is_unmap, is_by}
use Rattle.kernel_model.specs.Newest.{newest}

cases_bool : (b : Bool) → (b ≡ true) ⊎ (b ≡ false)
cases_bool true = inl refl
cases_bool false = inr refl

or-true : (b : Bool) → (b || true) ≡ true
or-true true = refl
or-true false = refl

and-false : (b : Bool) → (b && false) ≡ false
and-false true = refl
and-false false = refl

and-left : (a b : Bool) → (a && b) ≡ true → a ≡ true
and-left true b h = refl
and-left false b h = h

still : (b : Bool) → unwrap_or (if b then Some true else None) true ≡ true
still true = refl
still false = refl

pub not-or : (a b : Bool) → not (a || b) ≡ (not a && not b)
not-or true b = refl
not-or false b = refl

pub live-none : (boot : System) (t : ℕ) → live boot [] t ≡ true
unfolding live
live-none boot t = refl

pub live-more : (boot : System) (e : Entry) (before : List Entry) (t : ℕ) → live boot (e ∷ before) t ≡ next_live boot t (live boot before t) e
unfolding live next_live
live-more boot e before t = not-or (is_end boot t e) (list_any (is_end boot t) before)

-- who is dead before stays so, and then what was said doesn't count
while_live : (end alive : Bool) (said : Option Bool) (was : Bool) → ((not end && alive) && unwrap_or said was) ≡ ((not end && alive) && unwrap_or said (alive && was))
while_live true alive said was = refl
while_live false true said was = refl
while_live false false said was = refl

pub maps-more : (boot : System) (e : Entry) (before : List Entry) (o t : ℕ) → maps boot (e ∷ before) o t ≡ (live boot (e ∷ before) t && next_said boot o t (maps boot before o t) e)
unfolding maps said_maps newest next_live next_said
maps-more boot e before o t =
    rw (live-more boot e before t) (while_live (is_end boot t e) (live boot before t) (says_maps boot o t before true e) (said_maps boot before o t))

pub said_maps-more : (boot : System) (e : Entry) (before : List Entry) (o t : ℕ) → said_maps boot (e ∷ before) o t ≡ next_said boot o t (said_maps boot before o t) e
unfolding said_maps newest next_said
said_maps-more boot e before o t = refl

pub owner-is : (boot : System) (past : List Entry) (o : ℕ) → owner boot past o ≡ find (maps boot past o) (tasks_of boot)
unfolding owner
owner-is boot past o = refl

pub mapped-is : (boot : System) (past : List Entry) (o : ℕ) → mapped boot past o ≡ list_any (maps boot past o) (tasks_of boot)
unfolding mapped
mapped-is boot past o = refl

pub unmaps-is : (boot : System) (e : Entry) (before : List Entry) (o : ℕ) → unmaps boot before e o ≡ (mapped boot before o && not (mapped boot (e ∷ before) o))
unfolding unmaps
unmaps-is boot e before o = refl

pub said_maps-none : (boot : System) (o t : ℕ) → said_maps boot [] o t ≡ false
unfolding said_maps newest
said_maps-none boot o t = refl

pub some-more : (p q : ℕ → Bool) → ((t : ℕ) → p t ≡ true → q t ≡ true) → (ts : List ℕ) → list_any p ts ≡ true → list_any q ts ≡ true
some-more p q h [] s = s
some-more p q h (t ∷ ts) s = elim (cases_bool (p t)) [
  | inl holds ↦ rw (h t holds) refl
  | inr fails ↦
      let rest : list_any p ts ≡ true = rw fails at s in
      rw (some-more p q h ts rest) (or-true (q t))
]

maps-live : (boot : System) (past : List Entry) (o t : ℕ) → maps boot past o t ≡ true → live boot past t ≡ true
unfolding maps
maps-live boot past o t m = and-left (live boot past t) (said_maps boot past o t) m

-- what a task maps it goes on to map, if the entry ends no task and unmaps no object
maps-kept : (boot : System) (e : Entry) (before : List Entry) (o t : ℕ) → is_end boot t e ≡ false → is_unmap o e ≡ false → maps boot before o t ≡ true → maps boot (e ∷ before) o t ≡ true
unfolding next_live next_said
maps-kept boot e before o t n u m =
    let l : live boot before t ≡ true = maps-live boot before o t m in
    rw (maps-more boot e before o t, live-more boot e before t, n, l, u, m) (still ((is_map o e || is_attach o e) && is_by boot t e))

-- an entry that ends no task and unmaps no object leaves each object mapped
pub unmaps-no : (boot : System) (e : Entry) (before : List Entry) (o : ℕ) → ((t : ℕ) → is_end boot t e ≡ false) → is_unmap o e ≡ false → unmaps boot before e o ≡ false
unfolding unmaps mapped
unmaps-no boot e before o n u = elim (cases_bool (mapped boot before o)) [
  | inl holds ↦ rw (some-more (maps boot before o) (maps boot (e ∷ before) o) (λ t. maps-kept boot e before o t (n t) u) (tasks_of boot) holds) (and-false (mapped boot before o))
  | inr fails ↦ rw fails refl
]
